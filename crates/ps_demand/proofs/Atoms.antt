-- The order of atoms is total, and atoms that tie are one.
use Rattle.std.proofs.Common.{◌≡◌, ◌≢◌, ℕ, Bool, List, refl, sym, ap₂, ◌∙◌, subst, inl, inr, ◌⊎◌}
use Rattle.std.specs.Cmp.{IsTotalOrder}
use Rattle.std.specs.Cmp.Lexicographic.{slice_cmp}
use Rattle.std.specs.Ordering.{nat_cmp, ordering_then, is_eq}
use Rattle.std.specs.declared.cmp.Ordering.{Ordering}
use Rattle.std.specs.declared.cmp.Ordering.TheVariants.{Less, Equal, Greater}
use Rattle.std.proofs.lemmas.Cmp.{ranked, nat_cmp_total, nat_list_cmp_total, then_total, on_total, tied_itself}
use Rattle.std.proofs.lemmas.Map.Lookups.{exact_bytes}
use Rattle.ps_atom.specs.Atoms.{atom_cmp}
use Rattle.ps_atom.specs.declared.atom.Atom.{Atom}

pub atoms_total : IsTotalOrder atom_cmp
atoms_total = then_total (on_total (λ (q : Atom). q.predicate) nat_cmp_total) (on_total (λ (q : Atom). q.threads) nat_list_cmp_total)

then_Equal : (a b : Ordering) → ordering_then a b ≡ Equal → (a ≡ Equal) × (b ≡ Equal)
then_Equal Less b e = absurd (let f : ⊥ = cc in f)
then_Equal Equal b e = (refl, e)
then_Equal Greater b e = absurd (let f : ⊥ = cc in f)

nat_Equal : (m n : ℕ) → nat_cmp m n ≡ Equal → m ≡ n
nat_Equal m n e = ranked m n Equal (sym e)

-- atoms that tie are one
pub atoms_exact : (a b : Atom) → atom_cmp a b ≡ Equal → a ≡ b
atoms_exact a b e =
    let both = then_Equal (nat_cmp a.predicate b.predicate) (slice_cmp nat_cmp a.threads b.threads) e in
    ap₂ (λ (p : ℕ) (ts : List ℕ). let q : Atom = record { predicate = p; threads = ts } in q) (nat_Equal a.predicate b.predicate both.0) (exact_bytes a.threads b.threads both.1)

pub same_atom : Atom → Atom → Bool
same_atom a b = is_eq (atom_cmp a b)

pub atoms_or_not : (a b : Atom) → (a ≡ b) ⊎ (a ≢ b)
atoms_or_not a b = at (atom_cmp a b) refl
  where
    at : (o : Ordering) → atom_cmp a b ≡ o → (a ≡ b) ⊎ (a ≢ b)
    at Less e = inr (λ same. not_Less (subst (λ (q : Atom). atom_cmp a q ≡ Less) (sym same) e))
      where
        not_Less : atom_cmp a a ≡ Less → ⊥
        not_Less h = absurd (let i : Less ≡ Equal = sym h ∙ tied_itself atoms_total a in let f : ⊥ = cc in f)
    at Equal e = inl (atoms_exact a b e)
    at Greater e = inr (λ same. not_Greater (subst (λ (q : Atom). atom_cmp a q ≡ Greater) (sym same) e))
      where
        not_Greater : atom_cmp a a ≡ Greater → ⊥
        not_Greater h = absurd (let i : Greater ≡ Equal = sym h ∙ tied_itself atoms_total a in let f : ⊥ = cc in f)
