-- Two answers that are walks of the same rows and stages are one.
use Rattle.std.proofs.Common.{◌≡◌, ◌↔◌, ◌≤◌, ℕ, zero, suc, ℤ, pos, negsuc, neg_ℤ, ◌≤ℤ◌, List, [], ◌∷◌, ◌++◌, length, get_or, All, unsigned_abs, inl, inr, ◌⊎◌, refl, sym, ap, ◌∙◌, subst, arith}
use Rattle.std.proofs.lemmas.Int.{ints}
use Rattle.std.proofs.lemmas.List.Elements.{All-head, All-tail}
use Rattle.ps_elim.specs.declared.stage.Stage.{Stage}
use Rattle.ps_term.specs.declared.row.Row.{Row}
use Rattle.ps_term.specs.declared.var.Var.{Var}
use Rattle.ps_term.specs.Pairs.{coefficient}
use Rattle.ps_term.proofs.Ring.{mul-zero}
use Rattle.ps_walk.specs.Answer.{AllowsNone, IsWalk, StagePast}
use Rattle.ps_walk.specs.Bounds.{Allows, HoldsWith, IsNearest, LowerRowsHold, StageFits, UpperRowsHold}
use Rattle.ps_walk.specs.Rows.{Fails, FirstAt, IsPast, PassesRow}
use Rattle.ps_walk.specs.Values.{value_found}
use Rattle.ps_walk.specs.Walking.{AreFound, IsFoundValue, WalkStopsAt}
use Rattle.ps_walk.specs.declared.answer.Walk.{Walk}
use Rattle.ps_walk.specs.declared.answer.Walk.TheVariants.{Values, NoInteger, Misses, Past128}
use Rattle.ps_walk.proofs.Bounding.{same_lower, same_upper, times_neg}
use Rattle.ps_walk.proofs.Summing.{split_value}

-- ---- one value is nearest to 0
same_size : (n m : ℤ) → unsigned_abs n ≡ unsigned_abs m → (m ≡ n) ⊎ (m ≡ neg_ℤ n)
same_size (pos a) (pos b) e = inl (ap pos (sym e))
same_size (pos a) (negsuc b) e = inr (rw e refl)
same_size (negsuc a) (pos b) e = inr (ap pos (sym e))
same_size (negsuc a) (negsuc b) e = inl (ap negsuc (omega arith))

no_size : (n : ℤ) → unsigned_abs n ≤ 0 → n ≡ pos 0
no_size (pos a) h = ap pos (omega arith)
no_size (negsuc a) h = absurd (omega arith)

-- a row that holds at a number and at its negation holds at 0
holds_at_zero : (v : Var → ℤ) (x : Var) (r : Row) (n : ℤ) → HoldsWith v x r n → HoldsWith v x r (neg_ℤ n) → HoldsWith v x r (pos 0)
holds_at_zero v x r n h k =
    let ps = r.term.pairs in
    let a = split_value v x n ps in
    let b = split_value v x (neg_ℤ n) ps in
    let z = split_value v x (pos 0) ps in
    omega (arith, ints, h, k, a, b, z, times_neg (coefficient x ps) n, mul-zero (coefficient x ps))

nearest_is_one : (v : Var → ℤ) (x : Var) (rows : List Row) (n m : ℤ) → IsNearest (Allows v x rows) n → IsNearest (Allows v x rows) m → m ≡ n
nearest_is_one v x rows n m f g =
    let le : unsigned_abs n ≤ unsigned_abs m = f.nearest m g.allows in
    let ge : unsigned_abs m ≤ unsigned_abs n = g.nearest n f.allows in
    elim (same_size n m (omega arith)) [
      | inl e ↦ e
      | inr e ↦ opposite e
    ]
  where
    opposite : m ≡ neg_ℤ n → m ≡ n
    opposite e =
        let other : Allows v x rows (neg_ℤ n) = subst (λ (k : ℤ). Allows v x rows k) e g.allows in
        let zero_too : Allows v x rows (pos 0) = (λ k d l lt. holds_at_zero v x (get_or rows k d) n (f.allows.0 k d l lt) (other.0 k d l lt), λ k d l lt. holds_at_zero v x (get_or rows k d) n (f.allows.1 k d l lt) (other.1 k d l lt)) in
        let none : n ≡ pos 0 = no_size n (f.nearest (pos 0) zero_too) in
        e ∙ (rw none refl)

-- ---- the values are determined
found_once : (stages : List Stage) (ps qs : List (Var × ℤ)) → AreFound stages ps → AreFound stages qs → qs ≡ ps
found_once [] [] [] f g = refl
found_once [] [] (q ∷ qs) f g = absurd g
found_once [] (p ∷ ps) qs f g = absurd f
found_once (s ∷ ss) [] qs f g = absurd f
found_once (s ∷ ss) (p ∷ ps) [] f g = absurd g
found_once (s ∷ ss) (p ∷ ps) (q ∷ qs) f g =
    let rest : qs ≡ ps = found_once ss ps qs f.1 g.1 in
    let there : IsFoundValue ps s q = subst (λ (rs : List (Var × ℤ)). IsFoundValue rs s q) rest g.0 in
    let number : q.1 ≡ p.1 = nearest_is_one (value_found ps) s.variable s.rows p.1 q.1 f.0.nearest there.nearest in
    let variable : q.0 ≡ p.0 = there.variable ∙ sym f.0.variable in
    ap (λ (x : Var). (x, q.1) ∷ qs) variable ∙ (ap (λ (n : ℤ). (p.0, n) ∷ qs) number ∙ ap (λ (rs : List (Var × ℤ)). p ∷ rs) rest)

-- ---- a stage at which the walk stops, by recursion
abbrev Stops : (List (Var × ℤ) → Stage → Type 0) → List Stage → Type 0
Stops reason [] = ⊥
Stops reason (s ∷ ss) = ((later : List (Var × ℤ)) × AreFound ss later × reason later s) ⊎ Stops reason ss

stops_after : (reason : List (Var × ℤ) → Stage → Type 0) (before : List Stage) (s : Stage) (after : List Stage) (later : List (Var × ℤ)) → AreFound after later → reason later s → Stops reason (before ++ s ∷ after)
stops_after reason [] s after later f why = inl (later, f, why)
stops_after reason (b ∷ before) s after later f why = inr (stops_after reason before s after later f why)

stops_by : (reason : List (Var × ℤ) → Stage → Type 0) (stages : List Stage) → WalkStopsAt reason stages → Stops reason stages
stops_by reason stages w =
    subst (λ (ss : List Stage). Stops reason ss) (sym w.is) (stops_after reason w.before w.here w.after w.later w.found w.stops)

-- no value is found where the walk stops
abbrev Excludes : (List (Var × ℤ) → Stage → Type 0) → Type 0
Excludes reason = (later : List (Var × ℤ)) (s : Stage) (p : Var × ℤ) → reason later s → IsFoundValue later s p → ⊥

found_or_stops : (reason : List (Var × ℤ) → Stage → Type 0) → Excludes reason → (stages : List Stage) (ps : List (Var × ℤ)) → AreFound stages ps → Stops reason stages → ⊥
found_or_stops reason never [] ps f w = w
found_or_stops reason never (s ∷ ss) [] f w = f
found_or_stops reason never (s ∷ ss) (p ∷ ps) f (inl here) =
    never ps s p (subst (λ (rs : List (Var × ℤ)). reason rs s) (found_once ss ps here.0 f.1 here.1) here.2) f.0
found_or_stops reason never (s ∷ ss) (p ∷ ps) f (inr rest) = found_or_stops reason never ss ps f.1 rest

both_stop : (R Q : List (Var × ℤ) → Stage → Type 0) → Excludes R → Excludes Q → (stages : List Stage) → Stops R stages → Stops Q stages → (later : List (Var × ℤ)) × (s : Stage) × R later s × Q later s
both_stop R Q r q [] w u = absurd w
both_stop R Q r q (s ∷ ss) (inl a) (inl b) =
    (a.0, s, a.2, subst (λ (rs : List (Var × ℤ)). Q rs s) (found_once ss a.0 b.0 a.1 b.1) b.2)
both_stop R Q r q (s ∷ ss) (inl a) (inr b) = absurd (found_or_stops Q q ss a.0 a.1 b)
both_stop R Q r q (s ∷ ss) (inr a) (inl b) = absurd (found_or_stops R r ss b.0 b.1 a)
both_stop R Q r q (s ∷ ss) (inr a) (inr b) = both_stop R Q r q ss a b

none_excludes : (x : Var) (l u : ℤ) → Excludes (AllowsNone x l u)
none_excludes x l u later s p w f =
    let allowed : Allows (value_found later) x s.rows p.1 = subst (λ (y : Var). Allows (value_found later) y s.rows p.1) (sym w.variable) f.nearest.allows in
    let low : l ≤ℤ p.1 = (w.is_lower p.1).0 allowed.0 in
    let high : p.1 ≤ℤ u = (w.is_upper p.1).0 allowed.1 in
    omega (arith, ints, low, high, w.apart)

past_excludes : Excludes StagePast
past_excludes later s p w f = w f.fits

same_none : (x y : Var) (l u k m : ℤ) (later : List (Var × ℤ)) (s : Stage) → AllowsNone x l u later s → AllowsNone y k m later s → NoInteger x l u ≡ NoInteger y k m
same_none x y l u k m later s w z =
    let ev : x ≡ y = w.variable ∙ sym z.variable in
    let z_lower : (n : ℤ) → LowerRowsHold (value_found later) x s.rows n ↔ (k ≤ℤ n) = subst (λ (i : Var). (n : ℤ) → LowerRowsHold (value_found later) i s.rows n ↔ (k ≤ℤ n)) (sym ev) z.is_lower in
    let z_upper : (n : ℤ) → UpperRowsHold (value_found later) x s.rows n ↔ (n ≤ℤ m) = subst (λ (i : Var). (n : ℤ) → UpperRowsHold (value_found later) i s.rows n ↔ (n ≤ℤ m)) (sym ev) z.is_upper in
    let el : k ≡ l = same_lower (LowerRowsHold (value_found later) x s.rows) l k w.is_lower z_lower in
    let eu : m ≡ u = same_upper (UpperRowsHold (value_found later) x s.rows) u m w.is_upper z_upper in
    rw (ev, el, eu) refl

none_not_past : (x : Var) (l u : ℤ) (later : List (Var × ℤ)) (s : Stage) → AllowsNone x l u later s → StagePast later s → ⊥
none_not_past x l u later s w p =
    p (subst (λ (y : Var). StageFits (value_found later) y s.rows) w.variable w.fits)

-- ---- the first row that doesn't pass, by recursion
abbrev First : ((Var → ℤ) → Row → Type 0) → (Var → ℤ) → List Row → ℕ → Type 0
First reason v [] n = ⊥
First reason v (r ∷ rs) zero = reason v r
First reason v (r ∷ rs) (suc n) = PassesRow v r × First reason v rs n

first_after : (reason : (Var → ℤ) → Row → Type 0) (v : Var → ℤ) (before : List Row) (r : Row) (after : List Row) → All (PassesRow v) before → reason v r → First reason v (before ++ r ∷ after) (length before)
first_after reason v [] r after passed why = why
first_after reason v (b ∷ before) r after passed why =
    (All-head (PassesRow v) b before passed, first_after reason v before r after (All-tail (PassesRow v) b before passed) why)

first_by : (reason : (Var → ℤ) → Row → Type 0) (v : Var → ℤ) (rows : List Row) (n : ℕ) → FirstAt reason v rows n → First reason v rows n
first_by reason v rows n w =
    rw (w.is, w.number_is) (first_after reason v w.before w.here w.after w.passed w.stops)

abbrev Denies : ((Var → ℤ) → Row → Type 0) → Type 0
Denies reason = (v : Var → ℤ) (r : Row) → reason v r → PassesRow v r → ⊥

passed_or_first : (reason : (Var → ℤ) → Row → Type 0) → Denies reason → (v : Var → ℤ) (rows : List Row) (n : ℕ) → All (PassesRow v) rows → First reason v rows n → ⊥
passed_or_first reason never v [] n h w = w
passed_or_first reason never v (r ∷ rs) zero h w = never v r w (All-head (PassesRow v) r rs h)
passed_or_first reason never v (r ∷ rs) (suc n) h w = passed_or_first reason never v rs n (All-tail (PassesRow v) r rs h) w.1

both_first : (R Q : (Var → ℤ) → Row → Type 0) → Denies R → Denies Q → (v : Var → ℤ) (rows : List Row) (n m : ℕ) → First R v rows n → First Q v rows m → (n ≡ m) × (r : Row) × R v r × Q v r
both_first R Q never nor v [] n m w u = absurd w
both_first R Q never nor v (r ∷ rs) zero zero w u = (refl, r, w, u)
both_first R Q never nor v (r ∷ rs) zero (suc m) w u = absurd (never v r w u.0)
both_first R Q never nor v (r ∷ rs) (suc n) zero w u = absurd (nor v r u w.0)
both_first R Q never nor v (r ∷ rs) (suc n) (suc m) w u =
    let same = both_first R Q never nor v rs n m w.1 u.1 in
    (ap suc same.0, same.1, same.2, same.3)

fails_denies : Denies Fails
fails_denies v r w p = omega (arith, ints, w.1, p.1)

past_denies : Denies IsPast
past_denies v r w p = w p.0

-- ---- the answer is determined
rows_once : (R Q : (Var → ℤ) → Row → Type 0) → Denies R → Denies Q → (rows : List Row) (stages : List Stage) (ps qs : List (Var × ℤ)) (n m : ℕ) → AreFound stages ps → AreFound stages qs → FirstAt R (value_found ps) rows n → FirstAt Q (value_found qs) rows m → (n ≡ m) × (r : Row) × R (value_found ps) r × Q (value_found ps) r
rows_once R Q r q rows stages ps qs n m f g w u =
    let same : FirstAt Q (value_found ps) rows m = subst (λ (xs : List (Var × ℤ)). FirstAt Q (value_found xs) rows m) (found_once stages ps qs f g) u in
    both_first R Q r q (value_found ps) rows n m (first_by R (value_found ps) rows n w) (first_by Q (value_found ps) rows m same)

rows_pass : (R : (Var → ℤ) → Row → Type 0) → Denies R → (rows : List Row) (stages : List Stage) (ps qs : List (Var × ℤ)) (n : ℕ) → AreFound stages ps → AreFound stages qs → All (PassesRow (value_found ps)) rows → FirstAt R (value_found qs) rows n → ⊥
rows_pass R r rows stages ps qs n f g h u =
    let same : FirstAt R (value_found ps) rows n = subst (λ (xs : List (Var × ℤ)). FirstAt R (value_found xs) rows n) (found_once stages ps qs f g) u in
    passed_or_first R r (value_found ps) rows n h (first_by R (value_found ps) rows n same)

never_stops : (reason : List (Var × ℤ) → Stage → Type 0) → Excludes reason → (stages : List Stage) (ps : List (Var × ℤ)) → AreFound stages ps → WalkStopsAt reason stages → ⊥
never_stops reason r stages ps f w = found_or_stops reason r stages ps f (stops_by reason stages w)

none_once : (stages : List Stage) (x y : Var) (l u k m : ℤ) → WalkStopsAt (AllowsNone x l u) stages → WalkStopsAt (AllowsNone y k m) stages → NoInteger y k m ≡ NoInteger x l u
none_once stages x y l u k m w z =
    let both = both_stop (AllowsNone x l u) (AllowsNone y k m) (none_excludes x l u) (none_excludes y k m) stages (stops_by (AllowsNone x l u) stages w) (stops_by (AllowsNone y k m) stages z) in
    sym (same_none x y l u k m both.0 both.1 both.2 both.3)

none_or_past : (stages : List Stage) (x : Var) (l u : ℤ) → WalkStopsAt (AllowsNone x l u) stages → WalkStopsAt StagePast stages → ⊥
none_or_past stages x l u w z =
    let both = both_stop (AllowsNone x l u) StagePast (none_excludes x l u) past_excludes stages (stops_by (AllowsNone x l u) stages w) (stops_by StagePast stages z) in
    none_not_past x l u both.0 both.1 both.2 both.3

misses_or_past : (rows : List Row) (stages : List Stage) (ps qs : List (Var × ℤ)) (n m : ℕ) → AreFound stages ps → AreFound stages qs → FirstAt Fails (value_found ps) rows n → FirstAt IsPast (value_found qs) rows m → ⊥
misses_or_past rows stages ps qs n m f g w u =
    let both = rows_once Fails IsPast fails_denies past_denies rows stages ps qs n m f g w u in
    both.3 both.2.0

pub walk_once : (rows : List Row) (stages : List Stage) (a b : Walk) → IsWalk rows stages a → IsWalk rows stages b → b ≡ a
walk_once rows stages (Values ps) (Values qs) w u = ap Values (found_once stages ps qs w.0 u.0)
walk_once rows stages (Values ps) (NoInteger x l k) w u = absurd (never_stops (AllowsNone x l k) (none_excludes x l k) stages ps w.0 u)
walk_once rows stages (Values ps) (Misses n) w u = absurd (rows_pass Fails fails_denies rows stages ps u.0 n w.0 u.1 w.1 u.2)
walk_once rows stages (Values ps) Past128 w (inl u) = absurd (never_stops StagePast past_excludes stages ps w.0 u)
walk_once rows stages (Values ps) Past128 w (inr u) = absurd (rows_pass IsPast past_denies rows stages ps u.1.0 u.0 w.0 u.1.1 w.1 u.1.2)
walk_once rows stages (NoInteger x l k) (Values qs) w u = absurd (never_stops (AllowsNone x l k) (none_excludes x l k) stages qs u.0 w)
walk_once rows stages (NoInteger x l k) (NoInteger y i j) w u = none_once stages x y l k i j w u
walk_once rows stages (NoInteger x l k) (Misses n) w u = absurd (never_stops (AllowsNone x l k) (none_excludes x l k) stages u.0 u.1 w)
walk_once rows stages (NoInteger x l k) Past128 w (inl u) = absurd (none_or_past stages x l k w u)
walk_once rows stages (NoInteger x l k) Past128 w (inr u) = absurd (never_stops (AllowsNone x l k) (none_excludes x l k) stages u.1.0 u.1.1 w)
walk_once rows stages (Misses n) (Values qs) w u = absurd (rows_pass Fails fails_denies rows stages qs w.0 n u.0 w.1 u.1 w.2)
walk_once rows stages (Misses n) (NoInteger x l k) w u = absurd (never_stops (AllowsNone x l k) (none_excludes x l k) stages w.0 w.1 u)
walk_once rows stages (Misses n) (Misses m) w u = ap Misses (sym (rows_once Fails Fails fails_denies fails_denies rows stages w.0 u.0 n m w.1 u.1 w.2 u.2).0)
walk_once rows stages (Misses n) Past128 w (inl u) = absurd (never_stops StagePast past_excludes stages w.0 w.1 u)
walk_once rows stages (Misses n) Past128 w (inr u) = absurd (misses_or_past rows stages w.0 u.1.0 n u.0 w.1 u.1.1 w.2 u.1.2)
walk_once rows stages Past128 (Values qs) (inl w) u = absurd (never_stops StagePast past_excludes stages qs u.0 w)
walk_once rows stages Past128 (Values qs) (inr w) u = absurd (rows_pass IsPast past_denies rows stages qs w.1.0 w.0 u.0 w.1.1 u.1 w.1.2)
walk_once rows stages Past128 (NoInteger x l k) (inl w) u = absurd (none_or_past stages x l k u w)
walk_once rows stages Past128 (NoInteger x l k) (inr w) u = absurd (never_stops (AllowsNone x l k) (none_excludes x l k) stages w.1.0 w.1.1 u)
walk_once rows stages Past128 (Misses n) (inl w) u = absurd (never_stops StagePast past_excludes stages u.0 u.1 w)
walk_once rows stages Past128 (Misses n) (inr w) u = absurd (misses_or_past rows stages u.0 w.1.0 n w.0 u.1 w.1.1 u.2 w.1.2)
walk_once rows stages Past128 Past128 w u = refl
