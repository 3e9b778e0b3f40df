-- The vectors that stay, by marks; and what supports say of them.
use Rattle.std.proofs.Common.{◌≡◌, ℕ, suc, ◌+◌, ◌<◌, ◌≤◌, Bool, true, false, not, ◌&&◌, ◌||◌, ◌==◌, if◌then◌else◌, List, [], ◌∷◌, ◌++◌, length, get_or, take, drop, All, refl, sym, ap, ap₂, ◌∙◌, subst, arith}
use Rattle.std.specs.List.{AllByRecursion}
use Rattle.std.proofs.lemmas.Bool.{false≢true}
use Rattle.std.proofs.lemmas.List.{drop_more, take_more, drop_all, append_assoc, append-nil, get_or-map, take-map, drop-map}
use Rattle.std.proofs.lemmas.List.Elements.{All-from_recursion, recursion_from_All}
use Rattle.ps_elim.specs.inner.Marking.{marked, stays_at, stays_between, staying, staying_after}
use Rattle.ps_elim.specs.Places.{is_part, support_of}
use Rattle.ps_elim.specs.Supports.{has_support_of, is_inside, is_new_after, kept, kept_after, stays_beside}
use Rattle.ps_elim.specs.inner.Weighing.{vectors_of}
use Rattle.ps_elim.specs.declared.weighted.Weighted.{Weighted}

-- ---- marks
if_same : {X : Type 0} (t : Bool) (v : X) (xs ys : List X) → xs ≡ ys → (if t then v ∷ xs else xs) ≡ (if t then v ∷ ys else ys)
if_same true v xs ys e = ap (λ zs. v ∷ zs) e
if_same false v xs ys e = e

kept_after-marked : (before after : List (List ℕ)) → kept_after before after ≡ marked (staying_after before after) after
kept_after-marked before [] = refl
kept_after-marked before (v ∷ after) =
    if_same (stays_between before v after) v (kept_after (before ++ v ∷ []) after) (marked (staying_after (before ++ v ∷ []) after) after) (kept_after-marked (before ++ v ∷ []) after)

pub kept-marked : (vs : List (List ℕ)) → kept vs ≡ marked (staying vs) vs
kept-marked vs = kept_after-marked [] vs

map_if : (t : Bool) (w : Weighted) (ws : List Weighted) (vs : List (List ℕ)) → vectors_of ws ≡ vs → vectors_of (if t then w ∷ ws else ws) ≡ (if t then w.vector ∷ vs else vs)
map_if true w ws vs e = ap (λ (us : List (List ℕ)). w.vector ∷ us) e
map_if false w ws vs e = e

pub vectors_of-marked : (ms : List Bool) (ws : List Weighted) → vectors_of (marked ms ws) ≡ marked ms (vectors_of ws)
vectors_of-marked [] ws = refl
vectors_of-marked (m ∷ ms) [] = refl
vectors_of-marked (m ∷ ms) (w ∷ ws) = map_if m w (marked ms ws) (marked ms (vectors_of ws)) (vectors_of-marked ms ws)

all_if : {X : Type 0} (P : X → Type 0) (t : Bool) (x : X) (xs : List X) → P x → AllByRecursion P xs → AllByRecursion P (if t then x ∷ xs else xs)
all_if P true x xs p h = (p, h)
all_if P false x xs p h = h

all_marked : {X : Type 0} (P : X → Type 0) (ms : List Bool) (xs : List X) → AllByRecursion P xs → AllByRecursion P (marked ms xs)
all_marked P [] xs h = tt
all_marked P (m ∷ ms) [] h = tt
all_marked P (m ∷ ms) (x ∷ xs) h = all_if P m x (marked ms xs) h.0 (all_marked P ms xs h.1)

pub All-marked : {X : Type 0} (P : X → Type 0) (ms : List Bool) (xs : List X) → All P xs → All P (marked ms xs)
All-marked P ms xs h = All-from_recursion P (marked ms xs) (all_marked P ms xs (recursion_from_All P xs h))

length_if : {X : Type 0} (t : Bool) (x : X) (xs : List X) (n : ℕ) → length xs ≤ n → length (if t then x ∷ xs else xs) ≤ n + 1
length_if true x xs n h = omega arith
length_if false x xs n h = omega arith

pub length-marked : {X : Type 0} (ms : List Bool) (xs : List X) → length (marked ms xs) ≤ length xs
length-marked [] xs = omega arith
length-marked (m ∷ ms) [] = omega arith
length-marked (m ∷ ms) (x ∷ xs) = omega (arith, length_if m x (marked ms xs) (length xs) (length-marked ms xs))

pub all_kept : (P : List ℕ → Type 0) (vs : List (List ℕ)) → AllByRecursion P vs → AllByRecursion P (kept vs)
all_kept P vs h = subst (λ (us : List (List ℕ)). AllByRecursion P us) (sym (kept-marked vs)) (all_marked P (staying vs) vs h)

pub length-staying_after : (before after : List (List ℕ)) → length (staying_after before after) ≡ length after
length-staying_after before [] = refl
length-staying_after before (v ∷ after) = ap suc (length-staying_after (before ++ v ∷ []) after)

pub staying-step : (vs : List (List ℕ)) (i : ℕ) (ms : List Bool) (m : Bool) → ms ++ staying_after (take i vs) (drop i vs) ≡ staying vs → i < length vs → m ≡ stays_at vs i → (ms ++ m ∷ []) ++ staying_after (take (i + 1) vs) (drop (i + 1) vs) ≡ staying vs
staying-step vs i ms m h l e =
    let here : ms ++ staying_after (take i vs) (get_or vs i [] ∷ drop (i + 1) vs) ≡ staying vs = subst (λ (us : List (List ℕ)). ms ++ staying_after (take i vs) us ≡ staying vs) (drop_more vs i [] l) h in
    let more : take i vs ++ get_or vs i [] ∷ [] ≡ take (i + 1) vs = sym (take_more vs i [] l) in
    append_assoc ms (m ∷ []) (staying_after (take (i + 1) vs) (drop (i + 1) vs)) ∙ (ap₂ (λ (n : Bool) (us : List (List ℕ)). ms ++ (n ∷ staying_after us (drop (i + 1) vs))) e (sym more) ∙ here)

pub staying-end : (vs : List (List ℕ)) (i : ℕ) (ms : List Bool) → ms ++ staying_after (take i vs) (drop i vs) ≡ staying vs → length vs ≤ i → ms ≡ staying vs
staying-end vs i ms h l =
    sym (append-nil ms) ∙ subst (λ (us : List (List ℕ)). ms ++ staying_after (take i vs) us ≡ staying vs) (drop_all i vs l) h

-- ---- the parts of supports
not_not : (p : Bool) → not (not p) ≡ p
not_not true = refl
not_not false = refl

pub is_part-support_of : (u v : List ℕ) → is_part (support_of u) (support_of v) ≡ is_inside u v
is_part-support_of [] v = refl
is_part-support_of (m ∷ u) [] = ap₂ (λ (p q : Bool). p && q) (not_not (m == 0)) (is_part-support_of u [])
is_part-support_of (m ∷ u) (n ∷ v) =
    ap₂ (λ (p q : Bool). (p || not (n == 0)) && q) (not_not (m == 0)) (is_part-support_of u v)

-- what the supports of two vectors say
pub same_by_supports : (u v : List ℕ) (p q : List Bool) (t : Bool) → p ≡ support_of u → q ≡ support_of v → t ≡ (is_part p q && is_part q p) → t ≡ has_support_of u v
same_by_supports u v p q t e f h =
    h ∙ (ap₂ (λ (a b : List Bool). is_part a b && is_part b a) e f ∙ ap₂ (λ (a b : Bool). a && b) (is_part-support_of u v) (is_part-support_of v u))

-- ---- one vector between the others
pub stays_at-is : (ws : List Weighted) (i : ℕ) (w : Weighted) (a b d : Bool) → i < length ws → w ≡ get_or ws i w → a ≡ stays_beside (vectors_of (take i ws)) w.vector → b ≡ stays_beside (vectors_of (drop (i + 1) ws)) w.vector → d ≡ is_new_after (vectors_of (take i ws)) w.vector → (a && b && d) ≡ stays_at (vectors_of ws) i
stays_at-is ws i w a b d l is e f g =
    let here : get_or (vectors_of ws) i [] ≡ w.vector = get_or-map (λ u. u.vector) ws i w [] l ∙ ap (λ (u : Weighted). u.vector) (sym is) in
    let parts : (a && b && d) ≡ stays_between (vectors_of (take i ws)) w.vector (vectors_of (drop (i + 1) ws)) = ap₂ (λ (p q : Bool). p && q) (ap₂ (λ (p q : Bool). p && q) e f) g in
    parts ∙ (ap₂ (λ (us vs : List (List ℕ)). stays_between us w.vector vs) (sym (take-map (λ u. u.vector) i ws)) (sym (drop-map (λ u. u.vector) (i + 1) ws)) ∙ ap (λ (v : List ℕ). stays_between (take i (vectors_of ws)) v (drop (i + 1) (vectors_of ws))) (sym here))

-- what one vector says of another, by cases
pub inside_by_supports : (u v : List ℕ) (p q : List Bool) (t : Bool) → p ≡ support_of u → q ≡ support_of v → t ≡ is_part p q → t ≡ is_inside u v
inside_by_supports u v p q t e f h = h ∙ (ap₂ (λ (a b : List Bool). is_part a b) e f ∙ is_part-support_of u v)

pub by_outside : (a b l : Bool) → a ≡ false → true ≡ (not (a && not b) && not ((a && b) && l))
by_outside false b l e = refl
by_outside true b l e = absurd (false≢true (sym e))

pub by_strict : (a b l : Bool) → a ≡ true → b ≡ false → false ≡ (not (a && not b) && not ((a && b) && l))
by_strict true false l e f = refl
by_strict true true l e f = absurd (false≢true (sym f))
by_strict false b l e f = absurd (false≢true e)

pub by_order : (a b l : Bool) → a ≡ true → b ≡ true → not l ≡ (not (a && not b) && not ((a && b) && l))
by_order true true l e f = refl
by_order true false l e f = absurd (false≢true f)
by_order false b l e f = absurd (false≢true e)
