-- A proved trace doesn't run, where the entries hold.
use Rattle.std.proofs.Common.{◌≡◌, refl, sym, ap, ◌∙◌, subst, ℕ, ℤ, ◌<◌, List, [], ◌∷◌, length, All, Contains, length-set, arith}
use Rattle.std.specs.Prelude.{slice_get, slice_index_or, Option, Some, None, option_map}
use Rattle.std.specs.Option.{option_and_then}
use mathlib.Core.List.{reverse_aux}
use Rattle.std.proofs.lemmas.Int.{ints}
use Rattle.std.proofs.lemmas.Option.{same_Some}
use Rattle.std.proofs.lemmas.List.Elements.{All-weaker, All-head, All-tail}
use Rattle.ps_command.specs.Commands.{ops_of}
use Rattle.ps_command.specs.Fitting.{IsSized}
use Rattle.ps_command.specs.Run.{run, run_by, havocs_in}
use Rattle.ps_command.specs.Values.{Values, values_of, with_values}
use Rattle.ps_command.specs.declared.op.Op.{Op}
use Rattle.ps_command.specs.declared.setting.Setting.{Setting}
use Rattle.ps_command.specs.declared.state.State.{State}
use Rattle.ps_command.proofs.Sizes.{step_sizes}
use Rattle.ps_atom.specs.Atoms.{HoldsAt}
use Rattle.ps_atom.specs.Numbers.{false_predicate}
use Rattle.ps_atom.specs.declared.atom.Atom.{Atom}
use Rattle.ps_atom.specs.declared.predicate.Predicate.{Predicate}
use Rattle.ps_triple.specs.Entries.{HasInitial, false_atom}
use Rattle.ps_triple.specs.Faults.{EntryHolds}
use Rattle.ps_triple.specs.Rows.{predicate_of}
use Rattle.ps_triple.specs.Validity.{worth, IsTrueIn, IsValid}
use Rattle.ps_triple.specs.declared.entry.Entry.{Entry}
use Rattle.ps_triple.specs.declared.entry.Entry.TheVariants.{Triple as OfTriple, Initial as OfInitial}
use Rattle.ps_triple.proofs.Worth.{valid, initially}
use Rattle.ps_basis.specs.Demands.{IsGiven}
use Rattle.ps_basis.specs.Feasible.{after_trace, TraceHavocsFit, Runs}
use Rattle.ps_basis.specs.Space.{IsProved}
use Rattle.ps_basis.proofs.Rules.{rules_are_demands}

-- what is given is true
abbrev AreTrueAfter : List Predicate → List Entry → List ℤ → List (ℕ × ℕ) → State → Type 0
AreTrueAfter predicates entries guest done s = (q : Atom) → IsGiven entries done q → IsTrueIn predicates s guest q

-- a run leaves as many threads
threads_stay : (k : ℕ) (ops : List Op) (s r : State) (hs : List ℤ) → run_by k ops s hs ≡ Some r → length r.locals ≡ length s.locals
threads_stay k ops s r hs e = on (run ops (values_of k s) hs) e
  where
    on : (o : Option Values) → option_map (with_values k s) o ≡ Some r → length r.locals ≡ length s.locals
    on None i = cc
    on (Some w) i = ap (λ (x : State). length x.locals) (sym (same_Some (with_values k s w) r i)) ∙ length-set s.locals k w.locals

module _ (setting : Setting) (predicates : List Predicate) (entries : List Entry) (hold : (entry : Entry) → Contains entries entry → EntryHolds setting predicates entry) (guest : List ℤ) where
  true_next : (l : ℕ × ℕ) (done : List (ℕ × ℕ)) (s r : State) (hs : List ℤ) → AreTrueAfter predicates entries guest done s → IsSized setting s →
      l.0 < length s.locals → length hs ≡ havocs_in (ops_of setting.commands l.1) → run_by l.0 (ops_of setting.commands l.1) s hs ≡ Some r →
      AreTrueAfter predicates entries guest (l ∷ done) r
  true_next l done s r hs before sized within fit runs q (a, g, all) = is_valid s r guest hs sized within fit runs
      (All-weaker (IsGiven entries done) (IsTrueIn predicates s guest) before a all)
    where
      is_valid : IsValid setting predicates l.0 l.1 a q
      is_valid = subst (λ (c : ℕ). IsValid setting predicates l.0 c a q) g.same
          (valid setting predicates g.triple (hold (OfTriple g.triple) g.listed) l.0 a q g.by)

  true_all : (ls : List (ℕ × ℕ)) (hss : List (List ℤ)) (done : List (ℕ × ℕ)) (s r : State) → AreTrueAfter predicates entries guest done s →
      IsSized setting s → All (λ (l : ℕ × ℕ). l.0 < length s.locals) ls → TraceHavocsFit setting.commands ls hss → after_trace setting.commands ls hss s ≡ Some r →
      AreTrueAfter predicates entries guest (reverse_aux ls done) r
  true_all [] hss done s r before sized within fit runs = subst (λ (x : State). AreTrueAfter predicates entries guest done x) (same_Some s r runs) before
  true_all (l ∷ ls) [] done s r before sized within fit runs = absurd fit
  true_all (l ∷ ls) (hs ∷ hss) done s r before sized within fit runs =
      on (run_by l.0 (ops_of setting.commands l.1) s hs) refl runs (λ t b z w h. true_all ls hss (l ∷ done) t r b z w fit.1 h)
    where
      Goal : Type 0
      Goal = AreTrueAfter predicates entries guest (reverse_aux ls (l ∷ done)) r

      first : l.0 < length s.locals
      first = All-head (λ (l : ℕ × ℕ). l.0 < length s.locals) l ls within

      on : (o : Option State) → run_by l.0 (ops_of setting.commands l.1) s hs ≡ o →
          option_and_then (after_trace setting.commands ls hss) o ≡ Some r →
          ((t : State) → AreTrueAfter predicates entries guest (l ∷ done) t → IsSized setting t →
          All (λ (l : ℕ × ℕ). l.0 < length t.locals) ls → after_trace setting.commands ls hss t ≡ Some r → Goal) → Goal
      on None i h go = cc
      on (Some t) i h go = go t
          (true_next l done s t hs before sized first fit.0 i)
          (step_sizes setting (ops_of setting.commands l.1) s t l.0 hs sized first i)
          (subst (λ (n : ℕ). All (λ (l : ℕ × ℕ). l.0 < n) ls) (sym (threads_stay l.0 (ops_of setting.commands l.1) s t hs i)) (All-tail (λ (l : ℕ × ℕ). l.0 < length s.locals) l ls within))
          h

-- the first predicate is `1 <= 0`
at_first : (predicates : List Predicate) → slice_get predicates 0 ≡ Some false_predicate → predicate_of predicates 0 ≡ false_predicate
at_first [] e = refl
at_first (p ∷ predicates) e = same_Some p false_predicate e

-- the atom false is true in no state
no_false : (predicates : List Predicate) (s : State) (guest : List ℤ) → slice_get predicates 0 ≡ Some false_predicate → IsTrueIn predicates s guest false_atom → ⊥
no_false predicates s guest is h =
    let none_such : HoldsAt (worth s guest) [] false_predicate.row = subst (λ (p : Predicate). HoldsAt (worth s guest) [] p.row) (at_first predicates is) h in
    omega (arith, ints, none_such)

pub proved_is_infeasible : (setting : Setting) (predicates : List Predicate) (entries : List Entry) (trace : List (ℕ × ℕ)) → slice_get predicates 0 ≡ Some false_predicate →
    ((entry : Entry) → Contains entries entry → EntryHolds setting predicates entry) → IsProved entries trace → ¬ Runs setting trace
proved_is_infeasible setting predicates entries trace is hold proved f =
    no_false predicates f.after (slice_index_or f.state.locals 0 []) is
    (true_all setting predicates entries hold (slice_index_or f.state.locals 0 []) trace f.havocs [] f.state f.after
    given
    (record { globals = f.initial.globals; locals = f.initial.locals })
    f.threads f.fit f.runs false_atom ((rules_are_demands entries trace).0 proved).1)
  where
    given : (q : Atom) → HasInitial entries q.predicate → IsTrueIn predicates f.state (slice_index_or f.state.locals 0 []) q
    given q (i, listed, same) = initially setting predicates i (hold (OfInitial i) listed) f.state q f.initial (sym same)
