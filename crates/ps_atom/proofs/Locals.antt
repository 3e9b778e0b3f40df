-- The list of pairs of a thread is told by the coefficients of its locals.
use Rattle.std.proofs.Common.{◌≡◌, ◌==◌, ℕ, ℤ, pos, ◌+ℤ◌, Bool, true, false, List, [], ◌∷◌, Some, None, map, if◌then◌else◌, refl, sym, ap, ◌∙◌, subst, arith}
use Rattle.std.specs.List.{cons_option}
use Rattle.std.proofs.lemmas.Bool.Decides.{nat_tests}
use Rattle.std.proofs.lemmas.Int.{ints}
use Rattle.ps_term.specs.declared.var.Var.{Var}
use Rattle.ps_term.specs.declared.var.Var.TheVariants.{Global, Local, Havoc}
use Rattle.ps_term.specs.Pairs.{IsCanonical, coefficient}
use Rattle.ps_term.proofs.Uniqueness.{same_coefficients}
use Rattle.ps_atom.specs.inner.Slots.{in_slot}
use Rattle.ps_atom.specs.Threads.{local_pairs}
use Rattle.ps_atom.proofs.Parts.{IsCanonical-slot}

zero_more : (n : ℤ) → n ≡ (pos 0 +ℤ n)
zero_more n = omega (arith, ints)

-- a coefficient can be read off the thread's list
pub coefficient-slot : (k t n : ℕ) (ps : List (Var × ℤ)) → coefficient (Local k n) (in_slot k (local_pairs t ps)) ≡ coefficient (Local t n) ps
coefficient-slot k t n [] = refl
coefficient-slot k t n ((Global m, c) ∷ ps) = coefficient-slot k t n ps ∙ zero_more (coefficient (Local t n) ps)
coefficient-slot k t n ((Havoc m, c) ∷ ps) = coefficient-slot k t n ps ∙ zero_more (coefficient (Local t n) ps)
coefficient-slot k t n ((Local s m, c) ∷ ps) = by_test (coefficient-slot k t n ps) (s == t) refl
  where
    flip_test : (b : Bool) → (s == t) ≡ b → (t == s) ≡ b
    flip_test true e = grind (arith, nat_tests)
    flip_test false e = grind (arith, nat_tests)

    by_test : coefficient (Local k n) (in_slot k (local_pairs t ps)) ≡ coefficient (Local t n) ps → (b : Bool) → (s == t) ≡ b → coefficient (Local k n) (in_slot k (cons_option (if b then Some (m, c) else None) (local_pairs t ps))) ≡ coefficient (Local t n) ((Local s m, c) ∷ ps)
    by_test rest true e = (let back : (t == s) ≡ true = flip_test true e in let self : (k == k) ≡ true = grind (arith, nat_tests) in rw (back, self) (ap (λ (z : ℤ). (if n == m then c else pos 0) +ℤ z) rest))
    by_test rest false e = (let back : (t == s) ≡ false = flip_test false e in rw back (rest ∙ zero_more (coefficient (Local t n) ps)))

other_slot : (k j n : ℕ) (own : List (ℕ × ℤ)) → (j == k) ≡ false → let zero_z : ℤ = pos 0 in coefficient (Local j n) (in_slot k own) ≡ zero_z
other_slot k j n [] e = refl
other_slot k j n (o ∷ own) e = rw e (sym (zero_more (coefficient (Local j n) (in_slot k own))) ∙ other_slot k j n own e)

no_global : (k n : ℕ) (own : List (ℕ × ℤ)) → let zero_z : ℤ = pos 0 in coefficient (Global n) (in_slot k own) ≡ zero_z
no_global k n [] = refl
no_global k n (o ∷ own) = sym (zero_more (coefficient (Global n) (in_slot k own))) ∙ no_global k n own

no_havoc : (k n : ℕ) (own : List (ℕ × ℤ)) → let zero_z : ℤ = pos 0 in coefficient (Havoc n) (in_slot k own) ≡ zero_z
no_havoc k n [] = refl
no_havoc k n (o ∷ own) = sym (zero_more (coefficient (Havoc n) (in_slot k own))) ∙ no_havoc k n own

abbrev number_of_var : Var → ℕ
number_of_var (Global n) = n
number_of_var (Local s n) = n
number_of_var (Havoc n) = n

unslotted : (k : ℕ) (own : List (ℕ × ℤ)) → map (λ (p : Var × ℤ). (number_of_var p.0, p.1)) (in_slot k own) ≡ own
unslotted k [] = refl
unslotted k (o ∷ own) = ap (λ (xs : List (ℕ × ℤ)). o ∷ xs) (unslotted k own)

pub locals_by_coefficients : (ps qs : List (Var × ℤ)) (s t : ℕ) → IsCanonical ps → IsCanonical qs → ((n : ℕ) → coefficient (Local s n) ps ≡ coefficient (Local t n) qs) → local_pairs s ps ≡ local_pairs t qs
locals_by_coefficients ps qs s t c d h =
    sym (unslotted 0 (local_pairs s ps)) ∙ (ap (λ (xs : List (Var × ℤ)). map (λ (p : Var × ℤ). (number_of_var p.0, p.1)) xs) (same_coefficients (in_slot 0 (local_pairs s ps)) (in_slot 0 (local_pairs t qs)) (IsCanonical-slot 0 s ps c) (IsCanonical-slot 0 t qs d) same) ∙ unslotted 0 (local_pairs t qs))
  where
    same_local : (k n : ℕ) (b : Bool) → (k == 0) ≡ b → coefficient (Local k n) (in_slot 0 (local_pairs s ps)) ≡ coefficient (Local k n) (in_slot 0 (local_pairs t qs))
    same_local k n true e = (let is : 0 ≡ k = grind (arith, nat_tests) in subst (λ (j : ℕ). coefficient (Local j n) (in_slot 0 (local_pairs s ps)) ≡ coefficient (Local j n) (in_slot 0 (local_pairs t qs))) is (coefficient-slot 0 s n ps ∙ (h n ∙ sym (coefficient-slot 0 t n qs))))
    same_local k n false e = other_slot 0 k n (local_pairs s ps) e ∙ sym (other_slot 0 k n (local_pairs t qs) e)

    same : (x : Var) → coefficient x (in_slot 0 (local_pairs s ps)) ≡ coefficient x (in_slot 0 (local_pairs t qs))
    same (Global n) = no_global 0 n (local_pairs s ps) ∙ sym (no_global 0 n (local_pairs t qs))
    same (Havoc n) = no_havoc 0 n (local_pairs s ps) ∙ sym (no_havoc 0 n (local_pairs t qs))
    same (Local k n) = same_local k n (k == 0) refl
