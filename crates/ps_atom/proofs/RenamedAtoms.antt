-- Atoms with their threads renamed.
use Rattle.std.proofs.Common.{◌≡◌, ◌≢◌, ℕ, ℤ, pos, ◌+ℤ◌, ◌≤ℤ◌, List, [], ◌∷◌, length, AllPairs, All, Contains, map, refl, sym, ap, subst}
use Rattle.std.specs.List.{AllByRecursion}
use Rattle.std.proofs.lemmas.List.{get_or-map}
use Rattle.std.proofs.lemmas.List.Elements.{recursion_from_All}
use Rattle.ps_term.specs.declared.row.Row.{Row}
use Rattle.ps_term.specs.declared.var.Var.{Var}
use Rattle.ps_term.specs.declared.var.Var.TheVariants.{Global, Local, Havoc}
use Rattle.ps_term.specs.Pairs.{pairs_value}
use Rattle.ps_atom.specs.Atoms.{at_threads, HoldsAt, IsInjectiveOn, IsOfSlots, renamed_variable}
use Rattle.ps_atom.proofs.Chains.{chain_from_pairs, pairs_from_chain}
use Rattle.ps_atom.proofs.Renamings.{all_contained, chain_mapped}
use Rattle.ps_atom.proofs.Slotting.{same_worth}

renamed_at : (new : ℕ → ℕ) (ts : List ℕ) (x : Var) → IsOfSlots (length ts) x → at_threads (map new ts) x ≡ renamed_variable new (at_threads ts x)
renamed_at new ts (Global n) h = refl
renamed_at new ts (Local slot n) h = ap (λ (t : ℕ). Local t n) (get_or-map new ts slot 0 0 h)
renamed_at new ts (Havoc n) h = refl

each_renamed : (new : ℕ → ℕ) (values : Var → ℤ) (ts : List ℕ) (ps : List (Var × ℤ)) → AllByRecursion (λ p. IsOfSlots (length ts) p.0) ps → AllByRecursion (λ p. values (at_threads (map new ts) p.0) ≡ values (renamed_variable new (at_threads ts p.0))) ps
each_renamed new values ts [] h = tt
each_renamed new values ts (p ∷ ps) h = (ap values (renamed_at new ts p.0 h.0), each_renamed new values ts ps h.1)

pub renamed_says : (new : ℕ → ℕ) (values : Var → ℤ) (ts : List ℕ) (row : Row) → All (λ p. IsOfSlots (length ts) p.0) row.term.pairs → (HoldsAt values (map new ts) row → HoldsAt (λ x. values (renamed_variable new x)) ts row) × (HoldsAt (λ x. values (renamed_variable new x)) ts row → HoldsAt values (map new ts) row)
renamed_says new values ts row h =
    let ps = row.term.pairs in
    let e : pairs_value (λ x. values (at_threads (map new ts) x)) ps ≡ pairs_value (λ x. values (renamed_variable new (at_threads ts x))) ps = same_worth (λ x. values (at_threads (map new ts) x)) (λ x. values (renamed_variable new (at_threads ts x))) ps (each_renamed new values ts ps (recursion_from_All (λ p. IsOfSlots (length ts) p.0) ps h)) in
    ((λ g. subst (λ (n : ℤ). (n +ℤ row.term.constant) ≤ℤ pos 0) e g), (λ g. subst (λ (n : ℤ). (n +ℤ row.term.constant) ≤ℤ pos 0) (sym e) g))

pub renamed_apart : (new : ℕ → ℕ) (ts : List ℕ) → IsInjectiveOn new ts → AllPairs (λ s t. s ≢ t) ts → AllPairs (λ s t. s ≢ t) (map new ts)
renamed_apart new ts injective apart =
    pairs_from_chain (λ s t. s ≢ t) (map new ts) (chain_mapped new (λ t. Contains ts t) (λ s t. s ≢ t) (λ s t. s ≢ t) (λ s t m n d e. d (injective s t m n e)) ts (all_contained ts (λ t. Contains ts t) (λ t m. m)) (chain_from_pairs (λ s t. s ≢ t) ts apart))
