-- Where the threads are after a step back.
use Rattle.std.proofs.Common.{◌≡◌, ◌≢◌, ℕ, Bool, true, false, not, ◌==◌, List, ◌∷◌, refl, sym, ap, ap₂, subst, inl, inr, Contains}
use Rattle.std.specs.List.{filter}
use Rattle.std.proofs.lemmas.Bool.{both_ways, eqb-true, eq-eqb}
use Rattle.ps_atom.specs.declared.atom.Atom.{Atom}
use Rattle.ps_list.proofs.Members.{cons_cases, here, there}
use Rattle.ps_config.specs.Configurations.{Configuration, IsAt}
use Rattle.ps_list.proofs.Mapped.{kept, from_kept}
use Rattle.ps_graph.specs.declared.edge.Edge.{Edge}
use Rattle.ps_graph.specs.declared.graph.Graph.{Graph}
use Rattle.ps_step.specs.Steps.{IsMovedTo, GoesBack}
use Rattle.ps_step.specs.inner.Back.{moved_at}

not_same : (s t : ℕ) → s ≢ t → not (s == t) ≡ true
not_same s t n = at (s == t) refl
  where
    at : (b : Bool) → (s == t) ≡ b → not b ≡ true
    at true e = absurd (n (eqb-true s t e))
    at false e = refl

of_not_same : (s t : ℕ) → not (s == t) ≡ true → s ≢ t
of_not_same s t h e = both_ways (not (s == t)) (ap not (eq-eqb s t e)) h

pub pair_is : (a b c d : ℕ) → a ≡ c → b ≡ d → (let p : ℕ × ℕ = (a, b) in let q : ℕ × ℕ = (c, d) in p ≡ q)
pair_is a b c d e f = ap₂ (λ (x y : ℕ). let p : ℕ × ℕ = (x, y) in p) e f

pub moved_at_is : (from : Configuration) (mover source : ℕ) (atoms : List Atom) → IsMovedTo from mover source (record { at = moved_at from.at mover source; atoms = atoms })
moved_at_is from mover source atoms t l =
    let p : ℕ × ℕ = (t, l) in
    let first : ℕ × ℕ = (mover, source) in
    let rest : List (ℕ × ℕ) = filter (λ (p : ℕ × ℕ). not (p.0 == mover)) from.at in (
      (λ h. elim (cons_cases first rest p h) [
        | inl is ↦ inl (ap (λ (q : ℕ × ℕ). q.0) (sym is), ap (λ (q : ℕ × ℕ). q.1) (sym is))
        | inr later ↦ (let w = from_kept (λ (p : ℕ × ℕ). not (p.0 == mover)) from.at p later in inr (of_not_same t mover w.1, w.0))
      ]),
      (λ h. elim h [
        | inl is ↦ subst (λ (q : ℕ × ℕ). Contains (first ∷ rest) q) (pair_is mover source t l (sym is.0) (sym is.1)) (here first rest)
        | inr other ↦ there first rest p (kept (λ (p : ℕ × ℕ). not (p.0 == mover)) from.at p other.1 (not_same t mover other.0))
      ]),
    )

-- with the same locations the step is the same
pub goes_same : (graph : Graph) (from a b : Configuration) (edge : Edge) (thread : ℕ) → ((t l : ℕ) → IsAt a t l → IsAt b t l) → ((t l : ℕ) → IsAt b t l → IsAt a t l)
    → GoesBack graph from edge thread a → GoesBack graph from edge thread b
goes_same graph from a b edge thread to back g = record {
  due = g.due;
  was = g.was;
  is = λ t l. ((λ h. (g.is t l).0 (back t l h)), (λ h. to t l ((g.is t l).1 h)));
  once = λ s t m n hs ht om on. g.once s t m n (back s m hs) (back t n ht) om on;
}
