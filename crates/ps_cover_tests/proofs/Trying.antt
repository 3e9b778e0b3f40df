-- All lists of images, tried in lexicographic order.
use Rattle.std.proofs.Common.{◌≡◌, ◌≢◌, ◌<◌, ◌≤◌, ◌+◌, ◌-◌, ℕ, Bool, true, false, List, [], ◌∷◌, ◌++◌, length, map, refl, sym, ap, ◌∙◌, subst, inl, inr, Contains, Option, Some, None, IfSome, IfNone, arith}
use Rattle.std.specs.Cmp.Lexicographic.{slice_cmp}
use Rattle.std.specs.Ordering.{nat_cmp, ordering_then}
use Rattle.std.specs.declared.cmp.Ordering.{Ordering}
use Rattle.std.specs.declared.vec.Vec.{Vec}
use Rattle.std.specs.declared.cmp.Ordering.TheVariants.{Less, Equal, Greater}
use Rattle.std.proofs.lemmas.Bool.{both_ways, cases_lt}
use Rattle.std.proofs.lemmas.Cmp.{ranked}
use Rattle.std.proofs.lemmas.List.{append_assoc, append-nil}
use Rattle.std.proofs.lemmas.List.Elements.{Contains-append_right}
use Rattle.ps_list.proofs.Mapped.{from_mapped}
use Rattle.ps_list.proofs.Members.{here}
use Rattle.ps_config.specs.Configurations.{Configuration, Covers, threads_at}
use Rattle.ps_config.specs.Forms.{AreThreads}
use Rattle.ps_config.specs.Next.{IsNextThread}
use Rattle.ps_config.specs.Sent.{sent}
use Rattle.ps_config.proofs.Covering.{image_occurs}
use Rattle.ps_config.proofs.Bounded.{once_ascending}
use Rattle.ps_cover.specs.Coverings.{IsCovering, IsFirstInjection}
use Rattle.ps_cover.proofs.Fitting.{images_of}
use Rattle.ps_cover.proofs.Ways.{map_sent}
use Rattle.ps_cover_tests.specs.Embedding.{takes_into}
use Rattle.ps_cover_tests.specs.Trials.{HasNone, IsLeast}
use Rattle.ps_cover_tests.proofs.Embedding.{covering_from, covering_to}

empty_from : (xs : List ℕ) → length xs ≡ 0 → xs ≡ []
empty_from [] h = refl
empty_from (x ∷ xs) h = absurd (omega (arith, h))

-- ---- where each thread has an image

pub none_at_end : (small large : Configuration) (threads to : List ℕ) → AreThreads small threads → takes_into small large threads to ≡ false → HasNone small large threads to 0
none_at_end small large threads to are fails rest short covering =
    let same : to ++ rest ≡ to = ap (λ (xs : List ℕ). to ++ xs) (empty_from rest short) ∙ append-nil to in
    both_ways (takes_into small large threads to) fails (covering_to small large threads to are (subst (λ (xs : List ℕ). IsCovering small large threads xs) same covering))

pub least_at_end : (small large : Configuration) (threads to all : List ℕ) → AreThreads small threads → length to ≡ length threads → takes_into small large threads to ≡ true → all ≡ to → IsLeast small large threads to 0 all
least_at_end small large threads to all are long holds is = record {
  rest = [];
  is = is ∙ sym (append-nil to);
  covering = subst (λ (xs : List ℕ). IsCovering small large threads xs) (sym (append-nil to)) (covering_from small large threads to are long holds);
  least = λ other short c. subst (λ (xs : List ℕ). slice_cmp nat_cmp [] xs ≢ Greater) (sym (empty_from other short)) (λ h. (let e : Equal ≡ Greater = h in let f : ⊥ = cc in f));
}

-- ---- one image more

-- no covering begins with the images and one that is below this one
abbrev pub NoneBelow : Configuration → Configuration → List ℕ → List ℕ → ℕ → ℕ → Type 0
NoneBelow small large threads to left from = (v : ℕ) → v < from → HasNone small large threads (to ++ v ∷ []) (left - 1)

-- an image of a covering occurs
absent_ends : (small large : Configuration) (threads to : List ℕ) (v left : ℕ) → AreThreads small threads → (¬ Contains (threads_at large) v) → HasNone small large threads (to ++ v ∷ []) left
absent_ends small large threads to v left are absent rest long covering =
    let all : List ℕ = (to ++ v ∷ []) ++ rest in
    let f : ℕ → ℕ = sent threads all in
    let is : all ≡ to ++ v ∷ rest = append_assoc to (v ∷ []) rest in
    let among : Contains all v = subst (λ (xs : List ℕ). Contains xs v) (sym is) (Contains-append_right to (v ∷ rest) v (here v rest)) in
    let mapped : map f threads ≡ all = map_sent threads all (once_ascending threads are.ascend) covering.long in
    let w = from_mapped f threads v (subst (λ (xs : List ℕ). Contains xs v) (sym mapped) among) in
    absent (subst (λ (u : ℕ). Contains (threads_at large) u) w.2 (image_occurs small large f covering.embeds w.0 ((are.occurring w.0).0 w.1)))

pub below_next : (small large : Configuration) (threads to : List ℕ) (left from image : ℕ) → AreThreads small threads → NoneBelow small large threads to left from → IsNextThread (threads_at large) from (Some image) → NoneBelow small large threads to left image
below_next small large threads to left from image are none next v h = elim (cases_lt v from) [
  | inl lower ↦ none v lower
  | inr higher ↦ absent_ends small large threads to v (left - 1) are (λ c. (let l : image ≤ v = next.2 v c higher in let f : ⊥ = omega (arith, l, h) in f))
]

pub below_more : (small large : Configuration) (threads to : List ℕ) (left image : ℕ) → NoneBelow small large threads to left image → HasNone small large threads (to ++ image ∷ []) (left - 1) → NoneBelow small large threads to left (image + 1)
below_more small large threads to left image none ends v h = elim (cases_lt v image) [
  | inl lower ↦ none v lower
  | inr higher ↦ (let same : image ≡ v = omega (arith, h, higher) in subst (λ (w : ℕ). HasNone small large threads (to ++ w ∷ []) (left - 1)) same ends)
]

moved : (small large : Configuration) (threads to rest : List ℕ) (v : ℕ) → IsCovering small large threads (to ++ v ∷ rest) → IsCovering small large threads ((to ++ v ∷ []) ++ rest)
moved small large threads to rest v = subst (λ (xs : List ℕ). IsCovering small large threads xs) (sym (append_assoc to (v ∷ []) rest))

-- where no image has a covering there is none
pub none_from : (small large : Configuration) (threads to : List ℕ) (left from : ℕ) → AreThreads small threads → left ≢ 0 → NoneBelow small large threads to left from → IsNextThread (threads_at large) from None → HasNone small large threads to left
none_from small large threads to left from are some none next [] short covering = absurd (some (sym short))
none_from small large threads to left from are some none next (v ∷ rest) long covering =
    let less : length rest ≡ left - 1 = omega (arith, long) in
    elim (cases_lt v from) [
      | inl lower ↦ none v lower rest less (moved small large threads to rest v covering)
      | inr higher ↦ absent_ends small large threads to v (left - 1) are (λ c. (let l : v < from = next v c in let f : ⊥ = omega (arith, l, higher) in f)) rest less (moved small large threads to rest v covering)
    ]

-- the first image with a covering begins the first one
pub least_from : (small large : Configuration) (threads to longer all : List ℕ) (left image : ℕ) → left ≢ 0 → NoneBelow small large threads to left image → longer ≡ to ++ image ∷ [] → IsLeast small large threads longer (left - 1) all → IsLeast small large threads to left all
least_from small large threads to longer all left image some none e is = found (subst (λ (xs : List ℕ). IsLeast small large threads xs (left - 1) all) e is)
  where
    at : (rest : List ℕ) → ((other : List ℕ) → length other ≡ left - 1 → IsCovering small large threads ((to ++ image ∷ []) ++ other) → slice_cmp nat_cmp rest other ≢ Greater)
        → (v : ℕ) (others : List ℕ) → length others ≡ left - 1 → IsCovering small large threads (to ++ v ∷ others) → (o : Ordering) → nat_cmp image v ≡ o → ordering_then o (slice_cmp nat_cmp rest others) ≢ Greater
    at rest least v others long c Less h g = (let f : ⊥ = cc in f)
    at rest least v others long c Equal h g =
        let same : image ≡ v = ranked image v Equal (sym h) in
        least others long (subst (λ (u : ℕ). IsCovering small large threads ((to ++ u ∷ []) ++ others)) (sym same) (moved small large threads to others v c)) g
    at rest least v others long c Greater h g = none v (ranked image v Greater (sym h)) others long (moved small large threads to others v c)

    first : (rest : List ℕ) → ((other : List ℕ) → length other ≡ left - 1 → IsCovering small large threads ((to ++ image ∷ []) ++ other) → slice_cmp nat_cmp rest other ≢ Greater)
        → (other : List ℕ) → length other ≡ left → IsCovering small large threads (to ++ other) → slice_cmp nat_cmp (image ∷ rest) other ≢ Greater
    first rest least [] short c = absurd (some (sym short))
    first rest least (v ∷ others) long c = at rest least v others (omega (arith, long)) c (nat_cmp image v) refl

    found : IsLeast small large threads (to ++ image ∷ []) (left - 1) all → IsLeast small large threads to left all
    found is = record {
      rest = image ∷ is.rest;
      is = is.is ∙ append_assoc to (image ∷ []) is.rest;
      covering = subst (λ (xs : List ℕ). IsCovering small large threads xs) (append_assoc to (image ∷ []) is.rest) is.covering;
      least = first is.rest is.least;
    }

-- ---- from no image on

pub first_from_none : (small large : Configuration) (threads all none : List ℕ) (left : ℕ) → AreThreads small threads → none ≡ [] → left ≡ length threads → IsLeast small large threads none left all → IsFirstInjection small large all
first_from_none small large threads all none left are e long is = found (subst (λ (xs : List ℕ). IsLeast small large threads xs left all) e is)
  where
    found : IsLeast small large threads [] left all → IsFirstInjection small large all
    found is = (
      threads,
      are,
      record {
        covering = subst (λ (xs : List ℕ). IsCovering small large threads xs) (sym is.is) is.covering;
        first = λ other c. subst (λ (xs : List ℕ). slice_cmp nat_cmp xs other ≢ Greater) (sym is.is) (is.least other (c.long ∙ sym long) c);
      },
    )

pub none_covers : (small large : Configuration) (threads none : List ℕ) (left : ℕ) → AreThreads small threads → none ≡ [] → left ≡ length threads → HasNone small large threads none left → ¬ Covers small large
none_covers small large threads none left are e long has c =
    let is = images_of small large threads are c.0 c.1 in
    has (map c.0 threads) (is.long ∙ sym long) (subst (λ (xs : List ℕ). IsCovering small large threads (xs ++ map c.0 threads)) (sym e) is)

-- ---- answers

pub if_some : {A : Type 0} (answer : Option (Vec ℕ A)) (P Q : List ℕ → Type 0) → ((xs : List ℕ) → P xs → Q xs) → IfSome answer (λ list. P list.items) → IfSome answer (λ list. Q list.items)
if_some None P Q f h = h
if_some (Some list) P Q f h = f list.items h

pub if_none : {A : Type 0} (answer : Option A) (P Q : Type 0) → (P → Q) → IfNone answer P → IfNone answer Q
if_none None P Q f h = f h
if_none (Some x) P Q f h = h
