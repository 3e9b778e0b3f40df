-- Vectors of which none has its support inside that of another.
use Rattle.std.proofs.Common.{◌≡◌, ℕ, zero, suc, ◌+◌, ◌<◌, Bool, true, false, not, ◌&&◌, ◌||◌, if◌then◌else◌, List, [], ◌∷◌, ◌++◌, length, map, get_or, take, drop, replicate, Contains, refl, sym, ap, ap₂, ◌∙◌, subst, arith}
use Rattle.std.specs.List.{AllByRecursion, filter}
use Rattle.std.proofs.lemmas.Bool.{and_from, and_parts, false≢true}
use Rattle.std.proofs.lemmas.List.{drop-append-le, drop_more, get_or_append_left, take-append-drop, take-append-le}
use Rattle.std.proofs.lemmas.List.Elements.{Contains-append_left, Contains-push}
use Rattle.std.proofs.lemmas.List.Folds.{list_all-append}
use Rattle.ps_list.proofs.Members.{here, there}
use Rattle.ps_elim.specs.Supports.{is_inside, is_less, is_new_after, kept, kept_after, stays_beside}
use Rattle.ps_elim.specs.Vectors.{units}
use Rattle.ps_elim.specs.inner.Antichains.{AreApart, IsAntichain}
use Rattle.ps_elim.specs.inner.Marking.{differs, stays_at, stays_by}
use Rattle.ps_elim.specs.inner.Weighing.{vectors_of}
use Rattle.ps_elim.specs.declared.weighted.Weighted.{Weighted}
use Rattle.ps_elim.proofs.Least.{IsKept, all_of, kept_stays, passes}
use Rattle.ps_elim.proofs.Order.{differs_unless_same}

-- ---- the vectors that are kept
apart_by_tests : (a b l m : Bool) → (not (a && not b) && not ((a && b) && l)) ≡ true → (not (b && not a) && not ((b && a) && m)) ≡ true → (l || m) ≡ true → (a ≡ false) × (b ≡ false)
apart_by_tests false false l m e f g = (refl, refl)
apart_by_tests true false l m e f g = absurd (false≢true e)
apart_by_tests false true l m e f g = absurd (false≢true f)
apart_by_tests true true true m e f g = absurd (false≢true e)
apart_by_tests true true false true e f g = absurd (false≢true f)
apart_by_tests true true false false e f g = absurd (false≢true g)

first_apart : (before after : List (List ℕ)) (v w : List ℕ) → passes before v after ≡ true → IsKept (before ++ v ∷ []) after w → AreApart v w
first_apart before after v w e h =
    let parts : ((stays_beside before v && stays_beside after v) ≡ true) × (is_new_after before v ≡ true) = and_parts (stays_beside before v && stays_beside after v) (is_new_after before v) e in
    let beside : (stays_beside before v ≡ true) × (stays_beside after v ≡ true) = and_parts (stays_beside before v) (stays_beside after v) parts.0 in
    let first : stays_by v w ≡ true = all_of (λ u. stays_by v u) after w beside.1 h.stands in
    let second : stays_by w v ≡ true = all_of (λ u. stays_by w u) ((before ++ v ∷ []) ++ after) v h.stays (Contains-append_left (before ++ v ∷ []) after v (Contains-push before v)) in
    let new : differs w v ≡ true = all_of (λ u. differs w u) (before ++ v ∷ []) v h.new (Contains-push before v) in
    apart_by_tests (is_inside v w) (is_inside w v) (is_less v w) (is_less w v) second first new

all_from : (P : List ℕ → Type 0) (vs : List (List ℕ)) → ((v : List ℕ) → Contains vs v → P v) → AllByRecursion P vs
all_from P [] h = tt
all_from P (v ∷ vs) h = (h v (here v vs), all_from P vs (λ w c. h w (there v vs w c)))

kept_after_apart : (before after : List (List ℕ)) → IsAntichain (kept_after before after)
kept_after_apart before [] = tt
kept_after_apart before (v ∷ after) = by_test (passes before v after) refl (kept_after_apart (before ++ v ∷ []) after)
  where
    by_test : (t : Bool) → passes before v after ≡ t → IsAntichain (kept_after (before ++ v ∷ []) after) → IsAntichain (if t then v ∷ kept_after (before ++ v ∷ []) after else kept_after (before ++ v ∷ []) after)
    by_test false e rest = rest
    by_test true e rest = (all_from (AreApart v) (kept_after (before ++ v ∷ []) after) (λ w c. first_apart before after v w e (kept_stays (before ++ v ∷ []) after w c)), rest)

pub kept_apart : (vs : List (List ℕ)) → IsAntichain (kept vs)
kept_apart vs = kept_after_apart [] vs

-- ---- some of the vectors
all_filtered : (P : List ℕ → Type 0) (p : Weighted → Bool) (ws : List Weighted) → AllByRecursion P (vectors_of ws) → AllByRecursion P (vectors_of (filter p ws))
all_filtered P p [] h = tt
all_filtered P p (w ∷ ws) h = by_test (p w) refl (all_filtered P p ws h.1)
  where
    by_test : (t : Bool) → p w ≡ t → AllByRecursion P (vectors_of (filter p ws)) → AllByRecursion P (vectors_of (filter p (w ∷ ws)))
    by_test true e rest = rw e (h.0, rest)
    by_test false e rest = rw e rest

pub filtered_apart : (p : Weighted → Bool) (ws : List Weighted) → IsAntichain (vectors_of ws) → IsAntichain (vectors_of (filter p ws))
filtered_apart p [] h = tt
filtered_apart p (w ∷ ws) h = by_test (p w) refl (filtered_apart p ws h.1)
  where
    by_test : (t : Bool) → p w ≡ t → IsAntichain (vectors_of (filter p ws)) → IsAntichain (vectors_of (filter p (w ∷ ws)))
    by_test true e rest = rw e (all_filtered (AreApart w.vector) p ws h.0, rest)
    by_test false e rest = rw e rest

-- ---- the vectors with which an elimination begins
all_shifted : (P Q : List ℕ → Type 0) (vs : List (List ℕ)) → ((v : List ℕ) → P v → Q (0 ∷ v)) → AllByRecursion P vs → AllByRecursion Q (map (λ v. 0 ∷ v) vs)
all_shifted P Q [] f h = tt
all_shifted P Q (v ∷ vs) f h = (f v h.0, all_shifted P Q vs f h.1)

shifted_apart : (vs : List (List ℕ)) → IsAntichain vs → IsAntichain (map (λ v. 0 ∷ v) vs)
shifted_apart [] h = tt
shifted_apart (v ∷ vs) h = (all_shifted (AreApart v) (AreApart (0 ∷ v)) vs (λ u a. a) h.0, shifted_apart vs h.1)

abbrev IsNone : ℕ → List ℕ → Type 0
IsNone n v = is_inside v (replicate n 0) ≡ false

none_inside_zeros : (n : ℕ) → AllByRecursion (IsNone n) (units n)
none_inside_zeros zero = tt
none_inside_zeros (suc n) = (refl, all_shifted (IsNone n) (IsNone (suc n)) (units n) (λ v h. h) (none_inside_zeros n))

pub units_apart : (n : ℕ) → IsAntichain (units n)
units_apart zero = tt
units_apart (suc n) = (all_shifted (IsNone n) (AreApart (1 ∷ replicate n 0)) (units n) (λ v h. (refl, h)) (none_inside_zeros n), shifted_apart (units n) (units_apart n))

-- ---- one among them stays
stays_by_apart : (a b l : Bool) → a ≡ false → (not (a && not b) && not ((a && b) && l)) ≡ true
stays_by_apart false b l e = refl
stays_by_apart true b l e = absurd (false≢true (sym e))

-- the first stays beside the second, and the second beside the first, and they differ
record StayBoth (u v : List ℕ) : Type 0 where
  pub first : stays_by u v ≡ true
  pub second : stays_by v u ≡ true
  pub differ : differs v u ≡ true

both_stay : (u v : List ℕ) → AreApart u v → StayBoth u v
both_stay u v h = record {
  first = stays_by_apart (is_inside v u) (is_inside u v) (is_less v u) h.1;
  second = stays_by_apart (is_inside u v) (is_inside v u) (is_less u v) h.0;
  differ = differs_unless_same u v (ap (λ (t : Bool). t && is_inside v u) h.0);
}

record StaysAmong (before : List (List ℕ)) (v : List ℕ) (after : List (List ℕ)) : Type 0 where
  pub beside_before : stays_beside before v ≡ true
  pub is_new : is_new_after before v ≡ true
  pub beside_after : stays_beside after v ≡ true

stays_after : (v : List ℕ) (after : List (List ℕ)) → AllByRecursion (AreApart v) after → stays_beside after v ≡ true
stays_after v [] h = refl
stays_after v (w ∷ after) h = and_from (stays_by v w) (stays_beside after v) (both_stay v w h.0).first (stays_after v after h.1)

apart_there : (u : List ℕ) (before : List (List ℕ)) (v : List ℕ) (after : List (List ℕ)) → AllByRecursion (AreApart u) (before ++ v ∷ after) → AreApart u v
apart_there u [] v after h = h.0
apart_there u (w ∷ before) v after h = apart_there u before v after h.1

stays_among : (before : List (List ℕ)) (v : List ℕ) (after : List (List ℕ)) → IsAntichain (before ++ v ∷ after) → StaysAmong before v after
stays_among [] v after h = record { beside_before = refl; is_new = refl; beside_after = stays_after v after h.0 }
stays_among (u ∷ before) v after h =
    let rest : StaysAmong before v after = stays_among before v after h.1 in
    let both : StayBoth u v = both_stay u v (apart_there u before v after h.0) in
    record {
      beside_before = and_from (stays_by v u) (stays_beside before v) both.second rest.beside_before;
      is_new = and_from (differs v u) (is_new_after before v) both.differ rest.is_new;
      beside_after = rest.beside_after;
    }

-- so only the vectors after those that are apart decide
joined : (a b d n : Bool) → a ≡ true → b ≡ true → n ≡ true → (a && (b && d) && n) ≡ d
joined true true true true e f g = refl
joined true true false true e f g = refl
joined false b d n e f g = absurd (false≢true e)
joined true false d n e f g = absurd (false≢true f)
joined true true d false e f g = absurd (false≢true g)

stays_first : (known others : List (List ℕ)) (k : ℕ) → IsAntichain known → k < length known → stays_at (known ++ others) k ≡ stays_beside others (get_or (known ++ others) k [])
stays_first known others k h l =
    let v = get_or (known ++ others) k [] in
    let same : v ≡ get_or known k [] = get_or_append_left known others [] k l in
    let before : take k (known ++ others) ≡ take k known = take-append-le k known others (omega arith) in
    let after : drop (k + 1) (known ++ others) ≡ drop (k + 1) known ++ others = drop-append-le (k + 1) known others (omega arith) in
    let split : take k known ++ v ∷ drop (k + 1) known ≡ known = ap (λ (u : List ℕ). take k known ++ u ∷ drop (k + 1) known) same ∙ (ap (λ (us : List (List ℕ)). take k known ++ us) (sym (drop_more known k [] l)) ∙ take-append-drop k known) in
    let among : StaysAmong (take k known) v (drop (k + 1) known) = stays_among (take k known) v (drop (k + 1) known) (subst IsAntichain (sym split) h) in
    ap₂ (λ (us ws : List (List ℕ)). stays_beside us v && stays_beside ws v && is_new_after us v) before after
    ∙ (ap (λ (t : Bool). stays_beside (take k known) v && t && is_new_after (take k known) v) (list_all-append (λ u. stays_by v u) (drop (k + 1) known) others)
    ∙ joined (stays_beside (take k known) v) (stays_beside (drop (k + 1) known) v) (stays_beside others v) (is_new_after (take k known) v) among.beside_before among.beside_after among.is_new)

pub stays_known : (vs : List (List ℕ)) (known k : ℕ) → IsAntichain (take known vs) → k < length (take known vs) → stays_at vs k ≡ stays_beside (drop known vs) (get_or vs k [])
stays_known vs known k h l =
    subst (λ (us : List (List ℕ)). stays_at us k ≡ stays_beside (drop known vs) (get_or us k [])) (take-append-drop known vs) (stays_first (take known vs) (drop known vs) k h l)
