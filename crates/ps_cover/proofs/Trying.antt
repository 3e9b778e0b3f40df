-- The images of one thread, tried from the least on.
use Rattle.std.proofs.Common.{◌≡◌, ◌<◌, ◌≤◌, ◌+◌, ℕ, Bool, true, false, List, [], ◌∷◌, ◌++◌, length, refl, sym, ◌∙◌, subst, inl, inr, ◌⊎◌, Contains, Some, None, arith}
use Rattle.std.specs.List.{list_any}
use Rattle.std.proofs.lemmas.Bool.{both_ways, cases_lt}
use Rattle.std.proofs.lemmas.List.Elements.{Contains-push_cases}
use Rattle.ps_list.proofs.Members.{nothing}
use Rattle.ps_list.proofs.Numbers.{has_to}
use Rattle.ps_config.specs.Configurations.{Configuration, threads_at}
use Rattle.ps_config.specs.Next.{IsNextThread}
use Rattle.ps_config.specs.declared.config.TheConstants.{MOST_THREADS}
use Rattle.ps_config.proofs.Covering.{image_occurs}
use Rattle.ps_cover.specs.declared.partial.Partial.{Partial}
use Rattle.ps_cover.specs.inner.Rests.{NoWay, Ends, HaveFailed, AllOccur, Waits}
use Rattle.ps_cover.specs.inner.Swaps.{swap_keeps}
use Rattle.ps_cover.specs.inner.Tests.{can_go, is_listed}
use Rattle.ps_cover.proofs.Swapping.{no_way_swapped}
use Rattle.ps_config.proofs.Tested.{any_from}
use Rattle.ps_cover.proofs.Testing.{fitting_from}
use Rattle.ps_cover.proofs.Ways.{goes_not, goes_absent, map_push}

-- a thread that waits, where the threads so far have images
pub record IsTried (small : Configuration) (p : Partial) (t : ℕ) : Type 0 where
  pub long : length p.to ≡ length p.threads
  pub before : AllOccur small p.threads
  pub waits : Waits small p.threads t

-- the images below this one have no way
abbrev pub NoneBelow : Configuration → Configuration → Partial → ℕ → ℕ → Type 0
NoneBelow small large p t from = (v : ℕ) → v < from → Ends small large p t v

pub below_next : (small large : Configuration) (p : Partial) (t : ℕ) → IsTried small p t → (from image : ℕ) → NoneBelow small large p t from → IsNextThread (threads_at large) from (Some image) → NoneBelow small large p t image
below_next small large p t is from image none next v h = elim (cases_lt v from) [
  | inl lower ↦ none v lower
  | inr higher ↦ goes_absent small large p.threads p.to t v is.long is.waits.occurs (λ c. (let l : image ≤ v = next.2 v c higher in let f : ⊥ = omega (arith, l, h) in f))
]

pub below_more : (small large : Configuration) (p : Partial) (t image : ℕ) → NoneBelow small large p t image → Ends small large p t image → NoneBelow small large p t (image + 1)
below_more small large p t image none ends v h = elim (cases_lt v image) [
  | inl lower ↦ none v lower
  | inr higher ↦ (let same : image ≡ v = omega (arith, h, higher) in subst (λ (w : ℕ). Ends small large p t w) same ends)
]

-- none of the images has a way
pub none_goes : (small large : Configuration) (p : Partial) (t : ℕ) → IsTried small p t → (from : ℕ) → NoneBelow small large p t from → IsNextThread (threads_at large) from None → NoWay small large p.threads p.to
none_goes small large p t is from none next f e same =
    none (f t) (next (f t) (image_occurs small large f e t is.waits.occurs)) f e (map_push f p.threads p.to t (f t) same refl)

pub unfit_ends : (small large : Configuration) (p : Partial) (t : ℕ) → IsTried small p t → (image : ℕ) → can_go small.at small.atoms large.at large.atoms p.threads p.to t image ≡ false → Ends small large p t image
unfit_ends small large p t is image no_go = goes_not small large p.threads p.to t image is.long is.before is.waits.occurs is.waits.new no_go

pub unused : (small large : Configuration) (p : Partial) (t : ℕ) → IsTried small p t → (image : ℕ) → can_go small.at small.atoms large.at large.atoms p.threads p.to t image ≡ true → ¬ Contains p.to image
unused small large p t is image goes = (fitting_from small large p.threads p.to t image is.long goes).unused

pub alike_ends : (small large : Configuration) (p : Partial) (t : ℕ) → IsTried small p t → (failed : List ℕ) (image : ℕ) → can_go small.at small.atoms large.at large.atoms p.threads p.to t image ≡ true
    → HaveFailed small large p t failed → list_any (λ other. swap_keeps large.at large.atoms other image) failed ≡ true → Ends small large p t image
alike_ends small large p t is failed image goes have h =
    let w = any_from (λ other. swap_keeps large.at large.atoms other image) failed h in
    let none = have w.0 w.1 in
    no_way_swapped small large p.threads p.to t w.0 image is.long w.2 none.1 (unused small large p t is image goes) none.0

-- ---- the images that failed

pub none_failed : (small large : Configuration) (p : Partial) (t : ℕ) (failed : List ℕ) → failed ≡ [] → HaveFailed small large p t failed
none_failed small large p t failed e w h = absurd (nothing w (subst (λ (xs : List ℕ). Contains xs w) e h))

noted_one : (small large : Configuration) (p : Partial) (t : ℕ) (failed noted : List ℕ) (image : ℕ) → HaveFailed small large p t failed → Ends small large p t image × (¬ Contains p.to image)
    → (noted ≡ failed ++ image ∷ []) ⊎ (noted ≡ failed) → HaveFailed small large p t noted
noted_one small large p t failed noted image have more (inl is) w h = elim (Contains-push_cases failed image w (subst (λ (xs : List ℕ). Contains xs w) is h)) [
  | inl old ↦ have w old
  | inr same ↦ subst (λ (v : ℕ). Ends small large p t v × (¬ Contains p.to v)) same more
]
noted_one small large p t failed noted image have more (inr is) w h = have w (subst (λ (xs : List ℕ). Contains xs w) is h)

-- it is noted where there is room
pub one_failed : (small large : Configuration) (p : Partial) (t : ℕ) (failed noted : List ℕ) (image : ℕ) → HaveFailed small large p t failed → Ends small large p t image × (¬ Contains p.to image)
    → (length failed < MOST_THREADS → noted ≡ failed ++ image ∷ []) → (MOST_THREADS ≤ length failed → noted ≡ failed) → HaveFailed small large p t noted
one_failed small large p t failed noted image have more room full =
    noted_one small large p t failed noted image have more (elim (cases_lt (length failed) MOST_THREADS) [ inl below ↦ inl (room below) | inr above ↦ inr (full above) ])

-- ---- one thread more

-- the threads so far and one more occur
pub more_occur : (small : Configuration) (threads more : List ℕ) (t : ℕ) → AllOccur small threads → Contains (threads_at small) t → more ≡ threads ++ t ∷ [] → AllOccur small more
more_occur small threads more t before occurs e s h = elim (Contains-push_cases threads t s (subst (λ (xs : List ℕ). Contains xs s) e h)) [
  | inl old ↦ before s old
  | inr same ↦ subst (λ (r : ℕ). Contains (threads_at small) r) same occurs
]

-- a thread that the test doesn't find among those with images waits
pub waits_from : (small : Configuration) (threads : List ℕ) (t : ℕ) (r : Bool) → Contains (threads_at small) t → r ≡ is_listed threads t → r ≡ false → Waits small threads t
waits_from small threads t r occurs e lacks = record { occurs = occurs; new = λ h. both_ways (is_listed threads t) (sym e ∙ lacks) (has_to threads t h) }
