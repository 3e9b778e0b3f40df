-- The tests of a configuration's numbers.
use Rattle.std.proofs.Common.{◌≡◌, ◌≢◌, ◌<◌, ◌≤◌, ◌==◌, ℕ, Bool, true, false, List, length, get_or, refl, sym, ap, subst, ◌∙◌, inl, inr, Contains, Some, arith}
use Rattle.std.specs.Prelude.{slice_get}
use Rattle.std.proofs.lemmas.Bool.{both_ways, eq-eqb, eqb-true, false≢true}
use Rattle.std.proofs.lemmas.Option.{get_or_from_slice_get, slice_get_read}
use Rattle.ps_atom.specs.Numbers.{false_predicate}
use Rattle.ps_atom.specs.Range.{IsInRange}
use Rattle.ps_atom.specs.declared.atom.Atom.{Atom}
use Rattle.ps_atom.specs.declared.predicate.Predicate.{Predicate}
use Rattle.ps_check.specs.Faults.{HasNumbers, HasThreadsApart, table_of}
use Rattle.ps_check.specs.inner.Stages.{AreInRange}
use Rattle.ps_check.proofs.Before.{at_place_in}
use Rattle.ps_check.proofs.Firsts.{false_in_range}
use Rattle.ps_command.specs.declared.setting.Setting.{Setting}
use Rattle.ps_config.specs.Configurations.{Configuration}
use Rattle.ps_file.specs.declared.proof.Proof.{Proof}
use Rattle.ps_graph.specs.declared.graph.Graph.{Graph}
use Rattle.ps_list.proofs.Members.{cons_cases}
use Rattle.ps_step.specs.Closed.{IsNamed}
use Rattle.ps_triple.specs.Rows.{predicate_of}
use Rattle.ps_triple.specs.Tests.{HasThreadsOnce, IsAtomOf}

-- every predicate of the table is in range
pub table_in_range : (graph : Graph) (proof : Proof) (table : List Predicate) → AreInRange graph proof → table ≡ table_of proof → (p : Predicate) → Contains table p → IsInRange graph.setting.globals graph.setting.locals p
table_in_range graph proof table in_range is p h = elim (cons_cases false_predicate proof.predicates p (subst (λ (ps : List Predicate). Contains ps p) is h)) [
  | inl same ↦ subst (IsInRange graph.setting.globals graph.setting.locals) same (false_in_range graph.setting.globals graph.setting.locals)
  | inr listed ↦ in_range p listed
]

module _ (setting : Setting) (table : List Predicate) (in_range : (p : Predicate) → Contains table p → IsInRange setting.globals setting.locals p) (q : Atom) where
  pub not_there : (number : ℕ) → number ≡ q.predicate → length table ≤ number → (false ≡ true → IsAtomOf setting table q) × (IsAtomOf setting table q → false ≡ true)
  not_there number is past = (
    (λ h. absurd (false≢true h)),
    (λ named. absurd (let inside : q.predicate < length table = named.0.0 in let f : ⊥ = omega (arith, inside, past, is) in f)),
  )

  pub filled_is : (number : ℕ) (p : Predicate) (threads : List ℕ) (r : Bool) → number ≡ q.predicate → number < length table → p ≡ get_or table number p → threads ≡ q.threads → r ≡ (p.arity == length threads)
      → (r ≡ true → IsAtomOf setting table q) × (IsAtomOf setting table q → r ≡ true)
  filled_is number p threads r is inside read viewed told =
      let at : slice_get table number ≡ Some p = slice_get_read table (length table) number p refl inside read in
      let same : predicate_of table number ≡ p = get_or_from_slice_get table number p false_predicate at in
      let same_q : predicate_of table q.predicate ≡ p = subst (λ (n : ℕ). predicate_of table n ≡ p) is same in
      let as_long : length threads ≡ length q.threads = ap (λ (ts : List ℕ). length ts) viewed in (
        (λ h. (
          (subst (λ (n : ℕ). n < length table) is inside, subst (IsInRange setting.globals setting.locals) (sym same_q) (in_range p (at_place_in table number p at))),
          (let arity : p.arity ≡ length threads = eqb-true p.arity (length threads) (sym told ∙ h) in sym (ap (λ (x : Predicate). x.arity) same_q ∙ (arity ∙ as_long))),
        )),
        (λ named. told ∙ eq-eqb p.arity (length threads) (sym (ap (λ (x : Predicate). x.arity) same_q) ∙ (sym named.1 ∙ sym as_long))),
      )

module _ (graph : Graph) (table : List Predicate) (c : Configuration) (at : List (ℕ × ℕ)) (a : Bool) (is_at : at ≡ c.at)
    (told : (a ≡ true → (thread location : ℕ) → Contains at (thread, location) → (location < graph.locations) × (location ≢ 1))
    × (((thread location : ℕ) → Contains at (thread, location) → (location < graph.locations) × (location ≢ 1)) → a ≡ true)) where
  pub numbers_not : a ≡ false → (false ≡ true → HasNumbers graph table c) × (HasNumbers graph table c → false ≡ true)
  numbers_not not_so = (
    (λ h. absurd (false≢true h)),
    (λ named. absurd (both_ways a not_so (told.1 (λ thread location h. named.0 thread location (subst (λ (ps : List (ℕ × ℕ)). Contains ps (thread, location)) is_at h))))),
  )

  pub numbers_are : (atoms : List Atom) (b : Bool) → atoms ≡ c.atoms → a ≡ true → (b ≡ true → (q : Atom) → Contains atoms q → IsAtomOf graph.setting table q) × (((q : Atom) → Contains atoms q → IsAtomOf graph.setting table q) → b ≡ true)
      → (b ≡ true → HasNumbers graph table c) × (HasNumbers graph table c → b ≡ true)
  numbers_are atoms b is first says = (
    (λ h. (
      (λ thread location i. told.0 first thread location (subst (λ (ps : List (ℕ × ℕ)). Contains ps (thread, location)) (sym is_at) i)),
      (λ q i. says.0 h q (subst (λ (qs : List Atom). Contains qs q) (sym is) i)),
    )),
    (λ named. says.1 (λ q i. named.1 q (subst (λ (qs : List Atom). Contains qs q) is i))),
  )

pub apart_is : (c : Configuration) (atoms : List Atom) (b : Bool) → atoms ≡ c.atoms → (b ≡ true → (q : Atom) → Contains atoms q → HasThreadsOnce q) × (((q : Atom) → Contains atoms q → HasThreadsOnce q) → b ≡ true)
    → (b ≡ true → HasThreadsApart c) × (HasThreadsApart c → b ≡ true)
apart_is c atoms b is says = (
  (λ h q i. says.0 h q (subst (λ (qs : List Atom). Contains qs q) (sym is) i)),
  (λ apart. says.1 (λ q i. apart q (subst (λ (qs : List Atom). Contains qs q) is i))),
)

-- ---- the table that is made

module _ (graph : Graph) (proof : Proof) (table : List Predicate) (c : Configuration) (is : table ≡ table_of proof) where
  pub to_table : HasNumbers graph table c → HasNumbers graph (table_of proof) c
  to_table h = subst (λ (ps : List Predicate). HasNumbers graph ps c) is h

  pub from_table : HasNumbers graph (table_of proof) c → HasNumbers graph table c
  from_table h = subst (λ (ps : List Predicate). HasNumbers graph ps c) (sym is) h

  pub named_of : HasNumbers graph table c → HasThreadsApart c → IsNamed graph (table_of proof) c
  named_of h apart = (let w = to_table h in record { locations = w.0; atoms = w.1; apart = apart })
