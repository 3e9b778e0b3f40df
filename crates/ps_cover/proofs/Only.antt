-- The first injection is the only one.
use Rattle.std.proofs.Common.{◌≡◌, ◌≢◌, ℕ, List, sym, ap, ◌∙◌, subst, refl}
use Rattle.std.specs.Cmp.Lexicographic.{slice_cmp}
use Rattle.std.specs.Ordering.{nat_cmp, ordering_reverse}
use Rattle.std.specs.declared.cmp.Ordering.{Ordering}
use Rattle.std.specs.declared.cmp.Ordering.TheVariants.{Less, Equal, Greater}
use Rattle.std.proofs.lemmas.Cmp.{nat_list_cmp_total}
use Rattle.std.proofs.lemmas.Map.Lookups.{exact_bytes}
use Rattle.ps_list.proofs.Numbers.{same_ascending}
use Rattle.ps_config.specs.Configurations.{Configuration}
use Rattle.ps_config.specs.Forms.{AreThreads}
use Rattle.ps_cover.specs.Coverings.{IsCovering, IsFirstInjection}

same_threads : (c : Configuration) (ss ts : List ℕ) → AreThreads c ss → AreThreads c ts → ss ≡ ts
same_threads c ss ts one other = same_ascending ss ts one.ascend other.ascend
    (λ t h. (other.occurring t).1 ((one.occurring t).0 h)) (λ t h. (one.occurring t).1 ((other.occurring t).0 h))

-- lists of which neither comes after the other are one
neither_after : (xs ys : List ℕ) → slice_cmp nat_cmp xs ys ≢ Greater → slice_cmp nat_cmp ys xs ≢ Greater → xs ≡ ys
neither_after xs ys n m = at (slice_cmp nat_cmp xs ys) refl
  where
    at : (o : Ordering) → slice_cmp nat_cmp xs ys ≡ o → xs ≡ ys
    at Less e = absurd (m (nat_list_cmp_total.antisymm ys xs ∙ ap ordering_reverse e))
    at Equal e = exact_bytes xs ys e
    at Greater e = absurd (n e)

pub only_first : (small large : Configuration) (one other : List ℕ) → IsFirstInjection small large one → IsFirstInjection small large other → one ≡ other
only_first small large one other (ss, are, is) (ts, are_too, is_too) =
    let same : ss ≡ ts = same_threads small ss ts are are_too in
    neither_after one other
    (is.first other (subst (λ (xs : List ℕ). IsCovering small large xs other) (sym same) is_too.covering))
    (is_too.first one (subst (λ (xs : List ℕ). IsCovering small large xs one) same is.covering))
