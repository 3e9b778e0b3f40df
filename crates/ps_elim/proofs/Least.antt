-- The vectors that are kept, as a set: each one that is least in the list, and no other, once.
use Rattle.std.proofs.Common.{◌≡◌, ◌≢◌, ℕ, Bool, true, false, not, ◌&&◌, ◌||◌, List, [], ◌∷◌, ◌++◌, inl, inr, ◌⊎◌, ◌↔◌, Contains, All, AllPairs, IsTrue, refl, sym, ap, subst, ◌∙◌, append_assoc, arith}
use Rattle.std.specs.Prelude.{if◌then◌else◌}
use Rattle.std.specs.List.{list_all}
use Rattle.std.proofs.lemmas.Bool.{and_parts, and_from, or_parts, true≢false}
use Rattle.std.proofs.lemmas.List.Elements.{All-nil, All-cons, Contains-push_cases}
use Rattle.std.proofs.lemmas.List.Folds.{list_all-append}
use Rattle.std.proofs.lemmas.List.Kept.{AllPairs-cons}
use Rattle.ps_list.proofs.Members.{nothing, cons_cases, here, there}
use Rattle.ps_elim.specs.Supports.{IsLeastIn, has_support_of, is_less, is_new_after, is_strictly_inside, kept, kept_after, stays_beside}
use Rattle.ps_elim.specs.inner.Marking.{stays_by, differs}
use Rattle.ps_elim.proofs.Order.{is_less-irreflexive, is_inside_itself, same_unless_less}

-- ---- tests of all members

pub all_of : {X : Type 0} (p : X → Bool) (xs : List X) (x : X) → list_all p xs ≡ true → Contains xs x → p x ≡ true
all_of p [] x h c = absurd (nothing x c)
all_of p (y ∷ ys) x h c =
    let both : (p y ≡ true) × (list_all p ys ≡ true) = and_parts (p y) (list_all p ys) h in
    elim (cons_cases y ys x c) [ inl e ↦ ap p (sym e) ∙ both.0 | inr d ↦ all_of p ys x both.1 d ]

all_from : {X : Type 0} (p : X → Bool) (xs : List X) → ((x : X) → Contains xs x → p x ≡ true) → list_all p xs ≡ true
all_from p [] h = refl
all_from p (y ∷ ys) h = and_from (p y) (list_all p ys) (h y (here y ys)) (all_from p ys (λ x c. h x (there y ys x c)))

All_from : {X : Type 0} (P : X → Type 0) (xs : List X) → ((x : X) → Contains xs x → P x) → All P xs
All_from P [] h = All-nil P
All_from P (y ∷ ys) h = All-cons P y ys (h y (here y ys)) (All_from P ys (λ x c. h x (there y ys x c)))

-- a failed test has a member that fails it
some_fails : {X : Type 0} (p : X → Bool) (xs : List X) → list_all p xs ≡ false → (x : X) × Contains xs x × (p x ≡ false)
some_fails p [] h = absurd (true≢false h)
some_fails {X = X} p (y ∷ ys) h = by_test (p y) refl (λ rest. some_fails p ys rest)
  where
    by_test : (t : Bool) → p y ≡ t → (list_all p ys ≡ false → (x : X) × Contains ys x × (p x ≡ false)) → (x : X) × Contains (y ∷ ys) x × (p x ≡ false)
    by_test true e more =
        let found : (x : X) × Contains ys x × (p x ≡ false) = more (ap (λ (b : Bool). b && list_all p ys) (sym e) ∙ h) in
        (found.0, there y ys found.0 found.1, found.2)
    by_test false e more = (y, here y ys, e)

-- ---- one vector

-- a vector stays beside itself
stays_by_itself : (v : List ℕ) → stays_by v v ≡ true
stays_by_itself v = rw (is_inside_itself v, is_less-irreflexive v) refl

-- what isn't new is there
old_is_there : (before : List (List ℕ)) (v : List ℕ) → is_new_after before v ≡ false → Contains before v
old_is_there before v h =
    let found : (u : List ℕ) × Contains before u × (differs v u ≡ false) = some_fails (λ u. is_less u v || is_less v u) before h in
    let neither : (is_less found.0 v ≡ false) × (is_less v found.0 ≡ false) = or_parts _ _ found.2 in
    subst (λ (w : List ℕ). Contains before w) (same_unless_less found.0 v neither.0 neither.1) found.1

-- ---- the vectors that are kept

if_contains : {X : Type 0} (t : Bool) (w : X) (xs : List X) (v : X) → Contains xs v → Contains (if t then w ∷ xs else xs) v
if_contains true w xs v c = there w xs v c
if_contains false w xs v c = c

-- a kept one stands after, stays beside all, and isn't one of those before
pub record IsKept (before after : List (List ℕ)) (v : List ℕ) : Type 0 where
  pub stands : Contains after v
  pub stays : stays_beside (before ++ after) v ≡ true
  pub new : is_new_after before v ≡ true

-- a test with its vector
abbrev pub passes : List (List ℕ) → List ℕ → List (List ℕ) → Bool
passes before w after = stays_beside before w && stays_beside after w && is_new_after before w

kept_first : (before after : List (List ℕ)) (w : List ℕ) → passes before w after ≡ true → IsKept before (w ∷ after) w
kept_first before after w e =
    let a : ((stays_beside before w && stays_beside after w) ≡ true) × (is_new_after before w ≡ true) = and_parts _ _ e in
    let b : (stays_beside before w ≡ true) × (stays_beside after w ≡ true) = and_parts _ _ a.0 in
    record {
      stands = here w after;
      stays = list_all-append (λ u. stays_by w u) before (w ∷ after) ∙ and_from _ _ b.0 (and_from _ _ (stays_by_itself w) b.1);
      new = a.1;
    }

kept_later : (before after : List (List ℕ)) (w v : List ℕ) → IsKept (before ++ w ∷ []) after v → IsKept before (w ∷ after) v
kept_later before after w v h = record {
  stands = there w after v h.stands;
  stays = ap (λ (us : List (List ℕ)). stays_beside us v) (sym (append_assoc before (w ∷ []) after)) ∙ h.stays;
  new = (and_parts _ _ (sym (list_all-append (λ u. is_less u v || is_less v u) before (w ∷ [])) ∙ h.new)).0;
}

pub kept_stays : (before after : List (List ℕ)) (v : List ℕ) → Contains (kept_after before after) v → IsKept before after v
kept_stays before [] v c = absurd (nothing v c)
kept_stays before (w ∷ after) v c = by_test (passes before w after) refl c (λ d. kept_later before after w v (kept_stays (before ++ w ∷ []) after v d))
  where
    by_test : (t : Bool) → passes before w after ≡ t → Contains (if t then w ∷ kept_after (before ++ w ∷ []) after else kept_after (before ++ w ∷ []) after) v → (Contains (kept_after (before ++ w ∷ []) after) v → IsKept before (w ∷ after) v) → IsKept before (w ∷ after) v
    by_test false e d later = later d
    by_test true e d later = elim (cons_cases w (kept_after (before ++ w ∷ []) after) v d) [ inl same ↦ subst (IsKept before (w ∷ after)) same (kept_first before after w e) | inr rest ↦ later rest ]

-- one that stands after and stays beside all is kept, or it is one of those before
stays_kept : (before after : List (List ℕ)) (v : List ℕ) → Contains after v → stays_beside (before ++ after) v ≡ true → Contains before v ⊎ Contains (kept_after before after) v
stays_kept before [] v c h = absurd (nothing v c)
stays_kept before (w ∷ after) v c h =
    elim (cons_cases w after v c) [
      | inl e ↦ at_first e
      | inr d ↦ at_later (stays_kept (before ++ w ∷ []) after v d (ap (λ (us : List (List ℕ)). stays_beside us v) (append_assoc before (w ∷ []) after) ∙ h))
    ]
  where
    parts : (stays_beside before v ≡ true) × (stays_beside (w ∷ after) v ≡ true)
    parts = and_parts (stays_beside before v) (stays_beside (w ∷ after) v) (sym (list_all-append (λ u. stays_by v u) before (w ∷ after)) ∙ h)

    test_is : w ≡ v → is_new_after before v ≡ true → passes before w after ≡ true
    test_is e new =
        let p : (stays_beside before v ≡ true) × (stays_beside (w ∷ after) v ≡ true) = parts in
        let a : stays_beside after v ≡ true = (and_parts (stays_by v w) (stays_beside after v) p.1).1 in
        ap (λ (u : List ℕ). passes before u after) e
        ∙ and_from (stays_beside before v && stays_beside after v) (is_new_after before v) (and_from (stays_beside before v) (stays_beside after v) p.0 a) new

    by_new : w ≡ v → (t : Bool) → is_new_after before v ≡ t → Contains before v ⊎ Contains (kept_after before (w ∷ after)) v
    by_new e false old = inl (old_is_there before v old)
    by_new e true new =
        inr (subst (λ (t : Bool). Contains (if t then w ∷ kept_after (before ++ w ∷ []) after else kept_after (before ++ w ∷ []) after) v) (sym (test_is e new))
        (subst (λ (u : List ℕ). Contains (w ∷ kept_after (before ++ w ∷ []) after) u) e (here w (kept_after (before ++ w ∷ []) after))))

    at_first : w ≡ v → Contains before v ⊎ Contains (kept_after before (w ∷ after)) v
    at_first e = by_new e (is_new_after before v) refl

    at_later : Contains (before ++ w ∷ []) v ⊎ Contains (kept_after (before ++ w ∷ []) after) v → Contains before v ⊎ Contains (kept_after before (w ∷ after)) v
    at_later found =
        elim found [
          | inl old ↦ elim (Contains-push_cases before w v old) [ inl o ↦ inl o | inr e ↦ at_first e ]
          | inr new ↦ inr (if_contains (passes before w after) w (kept_after (before ++ w ∷ []) after) v new)
        ]

-- a vector that is kept isn't kept again
apart : (before after : List (List ℕ)) (w v : List ℕ) → Contains (kept_after (before ++ w ∷ []) after) v → w ≢ v
apart before after w v c e =
    let h : IsKept (before ++ w ∷ []) after v = kept_stays (before ++ w ∷ []) after v c in
    let new : list_all (λ u. is_less u v || is_less v u) (w ∷ []) ≡ true = (and_parts _ _ (sym (list_all-append (λ u. is_less u v || is_less v u) before (w ∷ [])) ∙ h.new)).1 in
    let differ : (is_less w v || is_less v w) ≡ true = (and_parts _ _ new).0 in
    let like : (is_less v v || is_less v v) ≡ true = subst (λ (u : List ℕ). (is_less u v || is_less v u) ≡ true) e differ in
    true≢false (sym like ∙ ap (λ (b : Bool). b || b) (is_less-irreflexive v))

each_once : (before after : List (List ℕ)) → AllPairs (λ u v. u ≢ v) (kept_after before after)
each_once before [] = λ i j d lt within. absurd (omega arith)
each_once before (w ∷ after) = by_test (passes before w after) (each_once (before ++ w ∷ []) after)
  where
    by_test : (t : Bool) → AllPairs (λ u v. u ≢ v) (kept_after (before ++ w ∷ []) after) → AllPairs (λ u v. u ≢ v) (if t then w ∷ kept_after (before ++ w ∷ []) after else kept_after (before ++ w ∷ []) after)
    by_test true more = AllPairs-cons (λ u v. u ≢ v) w (kept_after (before ++ w ∷ []) after) (All_from (λ v. w ≢ v) (kept_after (before ++ w ∷ []) after) (apart before after w)) more
    by_test false more = more

-- ---- as a set

-- what the tests say
stays_least : (vs : List (List ℕ)) (v : List ℕ) → Contains vs v → stays_beside vs v ≡ true → IsLeastIn vs v
stays_least vs v c h = record { is_in = c; minimal = λ u d s. not_both (is_strictly_inside u v) (parts u d).0 s; least = λ u d s l. not_both (has_support_of u v && is_less u v) (parts u d).1 (and_from (has_support_of u v) (is_less u v) s l) }
  where
    not_both : (a : Bool) → not a ≡ true → a ≡ true → ⊥
    not_both true e f = true≢false (sym e)
    not_both false e f = true≢false (sym f)

    parts : (u : List ℕ) → Contains vs u → (not (is_strictly_inside u v) ≡ true) × (not (has_support_of u v && is_less u v) ≡ true)
    parts u d = and_parts _ _ (all_of (λ w. stays_by v w) vs u h d)

least_stays : (vs : List (List ℕ)) (v : List ℕ) → IsLeastIn vs v → stays_beside vs v ≡ true
least_stays vs v h = all_from (λ u. stays_by v u) vs (λ u c. stay (is_strictly_inside u v) (has_support_of u v) (is_less u v) (h.minimal u c) (h.least u c))
  where
    stay : (a b d : Bool) → ¬ IsTrue a → (IsTrue b → ¬ IsTrue d) → (not a && not (b && d)) ≡ true
    stay true b d m l = absurd (m refl)
    stay false true true m l = absurd (l refl refl)
    stay false true false m l = refl
    stay false false d m l = refl

-- A vector is kept exactly where it is one of the list, no support is strictly inside its own, and none of like support is less.
pub kept_is_least : (vs : List (List ℕ)) (v : List ℕ) → Contains (kept vs) v ↔ IsLeastIn vs v
kept_is_least vs v = (to, back)
  where
    to : Contains (kept vs) v → IsLeastIn vs v
    to c = let h : IsKept [] vs v = kept_stays [] vs v c in stays_least vs v h.stands h.stays

    back : IsLeastIn vs v → Contains (kept vs) v
    back h = elim (stays_kept [] vs v h.is_in (least_stays vs v h)) [ inl old ↦ absurd (nothing v old) | inr c ↦ c ]

-- Each once.
pub kept_once : (vs : List (List ℕ)) → AllPairs (λ u v. u ≢ v) (kept vs)
kept_once vs = each_once [] vs
