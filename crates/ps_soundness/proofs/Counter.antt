-- The proof of the counter.
use Rattle.std.proofs.Common.{◌≡◌, ◌≢◌, ℕ, ◌<◌, [], ◌∷◌, pos, negsuc, refl, sym, ap, ◌∙◌, subst, inl, inr, Contains, arith}
use Rattle.std.proofs.lemmas.List.Elements.{All-from_recursion}
use Rattle.ps_atom.specs.Numbers.{false_predicate}
use Rattle.ps_atom.specs.Range.{IsDeclared, IsInRange}
use Rattle.ps_atom.specs.declared.atom.Atom.{Atom}
use Rattle.ps_atom.specs.declared.predicate.Predicate.{Predicate}
use Rattle.ps_command.specs.declared.setting.Setting.{Setting}
use Rattle.ps_config.specs.Configurations.{Configuration, IsAt}
use Rattle.ps_farkas.specs.Examples.{row_on_x}
use Rattle.ps_graph.specs.declared.graph.Graph.{Graph}
use Rattle.ps_list.proofs.Members.{cons_cases, here, there}
use Rattle.ps_soundness.specs.Examples.{CounterIsAccepted, IsWholeCounter, LessIsNotAccepted, counter_listed}
use Rattle.ps_step.proofs.Counter.{only}
use Rattle.ps_step.proofs.CounterSteps.{counter_is_closed, which_accept}
use Rattle.ps_step.specs.Closed.{IsAccepted, IsNamed}
use Rattle.ps_step.specs.Examples.{asserting, entering, placed}
use Rattle.ps_triple.proofs.Examples.{counter_entries_hold}
use Rattle.ps_triple.specs.Examples.{bare, counter_entries, counter_setting}
use Rattle.ps_triple.specs.Faults.{EntryHolds}
use Rattle.ps_triple.specs.Tests.{HasThreadsOnce, IsAtomOf}
use Rattle.ps_triple.specs.declared.entry.Entry.{Entry}

one_in_range : IsInRange 1 0 (record { arity = 0; row = row_on_x (negsuc 0) (pos 1) })
one_in_range = (omega arith, All-from_recursion (λ p. IsDeclared 1 0 0 p.0) (row_on_x (negsuc 0) (pos 1)).term.pairs (omega arith, tt))

zero_in_range : IsInRange 1 0 (record { arity = 0; row = row_on_x (negsuc 0) (pos 0) })
zero_in_range = (omega arith, All-from_recursion (λ p. IsDeclared 1 0 0 p.0) (row_on_x (negsuc 0) (pos 0)).term.pairs (omega arith, tt))

listed_in_range : (p : Predicate) → Contains counter_listed p → IsInRange 1 0 p
listed_in_range p i = elim (cons_cases (record { arity = 0; row = row_on_x (negsuc 0) (pos 1) }) (record { arity = 0; row = row_on_x (negsuc 0) (pos 0) } ∷ []) p i) [
  | inl is ↦ subst (IsInRange 1 0) is one_in_range
  | inr later ↦ subst (IsInRange 1 0) (only (record { arity = 0; row = row_on_x (negsuc 0) (pos 0) }) p later) zero_in_range
]

bare_once : (n : ℕ) → HasThreadsOnce (bare n)
bare_once n i j d lt within = absurd (let none_such : ⊥ = omega (arith, within) in none_such)

one_is_atom : IsAtomOf counter_setting (false_predicate ∷ counter_listed) (bare 1)
one_is_atom = ((omega arith, one_in_range), refl)

two_is_atom : IsAtomOf counter_setting (false_predicate ∷ counter_listed) (bare 2)
two_is_atom = ((omega arith, zero_in_range), refl)

-- a configuration of thread 0 at a location, and of one atom, names things
named : (graph : Graph) → IsWholeCounter graph → (location n : ℕ) → location < 4 → location ≢ 1 → IsAtomOf counter_setting (false_predicate ∷ counter_listed) (bare n) →
    IsNamed graph (false_predicate ∷ counter_listed) (placed ((0, location) ∷ []) (bare n ∷ []))
named graph is location n below off atom = record {
  locations = λ t l i.
      let at : l ≡ location = ap (λ (p : ℕ × ℕ). p.1) (sym (only (0, location) (t, l) i)) in
      (subst (λ (m : ℕ). l < m) (sym is.locations) (subst (λ (m : ℕ). m < 4) (sym at) below), λ e. off (sym at ∙ e));
  atoms = λ q i. subst (λ (s : Setting). IsAtomOf s (false_predicate ∷ counter_listed) q) (sym is.setting)
      (subst (IsAtomOf counter_setting (false_predicate ∷ counter_listed)) (only (bare n) q i) atom);
  apart = λ q i. subst HasThreadsOnce (only (bare n) q i) (bare_once n);
}

pub counter_is_accepted : CounterIsAccepted
counter_is_accepted graph is = record {
  in_range = λ p i. subst (λ (s : Setting). IsInRange s.globals s.locals p) (sym is.setting) (listed_in_range p i);
  hold = λ entry i. subst (λ (s : Setting). EntryHolds s (false_predicate ∷ counter_listed) entry) (sym is.setting) (counter_entries_hold entry i);
  named = λ c i. elim (cons_cases asserting (entering ∷ []) c i) [
    | inl same ↦ subst (IsNamed graph (false_predicate ∷ counter_listed)) same (named graph is 3 1 (omega arith) (λ e. omega (arith, e)) one_is_atom)
    | inr later ↦ subst (IsNamed graph (false_predicate ∷ counter_listed)) (only entering c later) (named graph is 0 2 (omega arith) (λ e. omega (arith, e)) two_is_atom)
  ];
  closed = (counter_is_closed graph is.edges).0;
}

pub less_is_not : LessIsNotAccepted
less_is_not graph is = (
  λ a. (counter_is_closed graph is.edges).1 a.closed,
  λ a. a.closed.never entering (there_second) ((which_accept graph is.edges).3),
)
  where
    there_second : Contains (asserting ∷ entering ∷ []) entering
    there_second = there asserting (entering ∷ []) entering (here entering [])
