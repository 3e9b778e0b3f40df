-- The walk over the variables of rows: what holds up to the last variable taken.
use Rattle.std.proofs.Common.{◌≡◌, ◌≢◌, ℕ, zero, suc, ◌<◌, ◌≤◌, ◌+◌, ℤ, pos, Bool, true, false, not, ◌&&◌, if◌then◌else◌, List, [], ◌∷◌, ◌++◌, length, get_or, take, Option, Some, None, IfSome, Any, refl, sym, ap, ◌∙◌, subst, arith}
use Rattle.std.proofs.lemmas.Bool.{true≢false, false≢true}
use Rattle.std.proofs.lemmas.List.{get_or_append_left, take_more}
use Rattle.std.proofs.lemmas.List.Elements.{All-push, recursion_from_All}
use Rattle.std.proofs.lemmas.List.Quantifiers.{Any-push}
use Rattle.ps_term.specs.declared.row.Row.{Row}
use Rattle.ps_term.specs.declared.var.Var.{Var}
use Rattle.ps_term.specs.Lookup.{is_up_to, IsAfter, IsBefore}
use Rattle.ps_term.specs.Pairs.{coefficient}
use Rattle.ps_term.specs.Var.{var_lt, var_eq}
use Rattle.ps_term.proofs.Canonical.{coefficient-other}
use Rattle.ps_term.proofs.Variables.{var_eq-true, var_eq_refl, var_lt-var_eq, var_lt_or_gt, var_lt_trans}
use Rattle.ps_farkas.specs.Refutes.{weighted, SumsFit}
use Rattle.ps_farkas.specs.inner.Walk.{IsNextVariable, lesser_variable}
use Rattle.ps_farkas.proofs.Weighing.{weighted-zero, SumsFit-zero}

-- ---- the next variable
before_lesser_of : (x a b : Var) (t : Bool) → var_lt b a ≡ t → IsBefore x (if t then Some b else Some a) → IsBefore x (Some a) × IsBefore x (Some b)
before_lesser_of x a b true e h = (var_lt_trans x b a h e, h)
before_lesser_of x a b false e h = (h, by_test (var_eq b a) refl)
  where
    by_test : (u : Bool) → var_eq b a ≡ u → var_lt x b ≡ true
    by_test true s = subst (λ (y : Var). var_lt x y ≡ true) (sym (var_eq-true b a s)) h
    by_test false s = var_lt_trans x a b h (var_lt_or_gt b a s e)

before_lesser : (x : Var) (a b : Option Var) → IsBefore x (lesser_variable a b) → IsBefore x a × IsBefore x b
before_lesser x None b h = (tt, h)
before_lesser x (Some a) None h = (h, tt)
before_lesser x (Some a) (Some b) h = before_lesser_of x a b (var_lt b a) refl h

abbrev Stands : Option Var → List Row → Var → Type 0
Stands last rows x = IsAfter last x × Any (λ r. coefficient x r.term.pairs ≢ pos 0) rows

any_more : (P : Row → Type 0) (rs : List Row) (r : Row) → Any P rs → Any P (rs ++ r ∷ [])
any_more P rs r (k, x, h, e, p) =
    (k, x, omega (arith, length_append_one rs r), get_or_append_left rs (r ∷ []) x k h ∙ e, p)
  where
    length_append_one : (rs : List Row) (r : Row) → length (rs ++ r ∷ []) ≡ length rs + 1
    length_append_one [] r = refl
    length_append_one (s ∷ rs) r = omega (arith, length_append_one rs r)

stands_more : (last : Option Var) (rs : List Row) (r : Row) (a : Option Var) → IfSome a (Stands last rs) → IfSome a (Stands last (rs ++ r ∷ []))
stands_more last rs r None h = tt
stands_more last rs r (Some x) h = (h.0, any_more (λ s. coefficient x s.term.pairs ≢ pos 0) rs r h.1)

stands_here : (last : Option Var) (rs : List Row) (r : Row) (b : Option Var) → IfSome b (λ x. IsAfter last x × (coefficient x r.term.pairs ≢ pos 0)) → IfSome b (Stands last (rs ++ r ∷ []))
stands_here last rs r None h = tt
stands_here last rs r (Some x) h = (h.0, Any-push (λ s. coefficient x s.term.pairs ≢ pos 0) rs r h.1)

either_stands : (P : Var → Type 0) (a b : Option Var) → IfSome a P → IfSome b P → IfSome (lesser_variable a b) P
either_stands P None b h k = k
either_stands P (Some x) None h k = h
either_stands P (Some x) (Some y) h k = by_test (var_lt y x)
  where
    by_test : (t : Bool) → IfSome (if t then Some y else Some x) P
    by_test true = k
    by_test false = h

pub IsNext-start : (last : Option Var) → IsNextVariable last [] None
IsNext-start last = record { skipped = λ x a b k d h. absurd (omega arith); stands = tt }

IsNext-push : (last : Option Var) (rs : List Row) (r : Row) (a b : Option Var) → IsNextVariable last rs a → ((x : Var) → IsAfter last x → IsBefore x b → coefficient x r.term.pairs ≡ pos 0) → IfSome b (λ x. IsAfter last x × (coefficient x r.term.pairs ≢ pos 0)) → IsNextVariable last (rs ++ r ∷ []) (lesser_variable a b)
IsNext-push last rs r a b n skips stands =
    record {
      skipped = λ x after before. (let both = before_lesser x a b before in All-push (λ s. coefficient x s.term.pairs ≡ pos 0) rs r (n.skipped x after both.0) (skips x after both.1));
      stands = either_stands (Stands last (rs ++ r ∷ [])) a b (stands_more last rs r a n.stands) (stands_here last rs r b stands);
    }

pub IsNext-step : (last : Option Var) (rows : List Row) (i : ℕ) (r : Row) (a b next : Option Var) → IsNextVariable last (take i rows) a → i < length rows → r ≡ get_or rows i r → ((x : Var) → IsAfter last x → IsBefore x b → coefficient x r.term.pairs ≡ pos 0) → IfSome b (λ x. IsAfter last x × (coefficient x r.term.pairs ≢ pos 0)) → next ≡ lesser_variable a b → IsNextVariable last (take (i + 1) rows) next
IsNext-step last rows i r a b next n h is skips stands e =
    let more : take (i + 1) rows ≡ (take i rows ++ r ∷ []) = take_more rows i r h ∙ ap (λ (x : Row). take i rows ++ x ∷ []) (sym is) in
    rw (more, e) (IsNext-push last (take i rows) r a b n skips stands)

-- ---- fewer pairs are left after each turn
counted : Option Var → Var → ℕ
counted last x = if is_up_to last x then 0 else 1

-- how many pairs of the list are of a variable after the last one
abbrev pub count_after : Option Var → List (Var × ℤ) → ℕ
count_after last [] = 0
count_after last (p ∷ ps) = (if is_up_to last p.0 then 0 else 1) + count_after last ps

abbrev pub count_left : Option Var → List Row → ℕ
count_left last [] = 0
count_left last (r ∷ rs) = count_after last r.term.pairs + count_left last rs

up_to_more : (last : Option Var) (x y : Var) → IsAfter last x → is_up_to last y ≡ true → is_up_to (Some x) y ≡ true
up_to_more None x y after up = absurd (false≢true up)
up_to_more (Some z) x y after up = by_test (var_lt x y) refl
  where
    not_false : (t : Bool) → not t ≡ false → t ≡ true
    not_false true e = refl
    not_false false e = absurd (true≢false e)

    by_test : (t : Bool) → var_lt x y ≡ t → not t ≡ true
    by_test false e = refl
    by_test true e =
        absurd (false≢true (sym (ap not (var_lt_trans z x y (not_false (var_lt z x) after) e)) ∙ up))

not_after_itself : (x : Var) → is_up_to (Some x) x ≡ true
not_after_itself x = by_test (var_lt x x) refl
  where
    by_test : (t : Bool) → var_lt x x ≡ t → not t ≡ true
    by_test false e = refl
    by_test true e = absurd (true≢false (sym (var_eq_refl x) ∙ var_lt-var_eq x x e))

one_no_more : (t u : Bool) → (t ≡ true → u ≡ true) → (if u then 0 else 1) ≤ (if t then 0 else 1)
one_no_more true true h = omega arith
one_no_more true false h = absurd (false≢true (h refl))
one_no_more false true h = omega arith
one_no_more false false h = omega arith

after_no_more : (last : Option Var) (x : Var) (ps : List (Var × ℤ)) → IsAfter last x → count_after (Some x) ps ≤ count_after last ps
after_no_more last x [] after = omega arith
after_no_more last x (p ∷ ps) after =
    omega (arith, after_no_more last x ps after, one_no_more (is_up_to last p.0) (is_up_to (Some x) p.0) (up_to_more last x p.0 after))

here_fewer : (last : Option Var) (x : Var) (p : Var × ℤ) (ps : List (Var × ℤ)) → IsAfter last x → x ≡ p.0 → count_after (Some x) (p ∷ ps) < count_after last (p ∷ ps)
here_fewer last x p ps after e =
    let rest = after_no_more last x ps after in
    rw (ap (is_up_to last) (sym e) ∙ after, ap (is_up_to (Some x)) (sym e) ∙ not_after_itself x) (omega arith)

after_fewer : (last : Option Var) (x : Var) (ps : List (Var × ℤ)) → IsAfter last x → coefficient x ps ≢ pos 0 → count_after (Some x) ps < count_after last ps
after_fewer last x [] after n = absurd (n refl)
after_fewer last x (p ∷ ps) after n =
    by_test (var_eq x p.0) refl (λ e. after_fewer last x ps after (λ z. n (coefficient-other x p ps e ∙ z)))
  where
    by_test : (t : Bool) → var_eq x p.0 ≡ t → (var_eq x p.0 ≡ false → count_after (Some x) ps < count_after last ps) → count_after (Some x) (p ∷ ps) < count_after last (p ∷ ps)
    by_test true e rest = here_fewer last x p ps after (var_eq-true x p.0 e)
    by_test false e rest =
        omega (arith, rest e, one_no_more (is_up_to last p.0) (is_up_to (Some x) p.0) (up_to_more last x p.0 after))

left_no_more : (last : Option Var) (x : Var) (rs : List Row) → IsAfter last x → count_left (Some x) rs ≤ count_left last rs
left_no_more last x [] after = omega arith
left_no_more last x (r ∷ rs) after =
    omega (arith, left_no_more last x rs after, after_no_more last x r.term.pairs after)

left_fewer_at : (last : Option Var) (x : Var) (rs : List Row) (k : ℕ) (s : Row) → IsAfter last x → k < length rs → get_or rs k s ≡ s → coefficient x s.term.pairs ≢ pos 0 → count_left (Some x) rs < count_left last rs
left_fewer_at last x [] k s after h e n = absurd (omega arith)
left_fewer_at last x (r ∷ rs) zero s after h e n =
    omega (arith, left_no_more last x rs after, after_fewer last x r.term.pairs after (subst (λ (q : Row). coefficient x q.term.pairs ≢ pos 0) (sym e) n))
left_fewer_at last x (r ∷ rs) (suc k) s after h e n =
    omega (arith, left_fewer_at last x rs k s after (omega arith) e n, after_no_more last x r.term.pairs after)

pub count_left-falls : (last : Option Var) (rows : List Row) (x : Var) → IsNextVariable last rows (Some x) → count_left (Some x) rows < count_left last rows
count_left-falls last rows x n =
    let a = n.stands.1 in
    left_fewer_at last x rows a.0 a.1 n.stands.0 a.2 a.3 a.4

-- ---- what the walk keeps
pub record Walked (rows : List Row) (ns : List ℕ) (last : Option Var) (cancels : Bool) : Type 0 where
  pub fits : (x : Var) → is_up_to last x ≡ true → SumsFit (λ t. coefficient x t.pairs) (pos 0) rows ns
  pub yes : cancels ≡ true → (x : Var) → is_up_to last x ≡ true → weighted (λ t. coefficient x t.pairs) rows ns ≡ pos 0
  pub no : ((x : Var) → weighted (λ t. coefficient x t.pairs) rows ns ≡ pos 0) → cancels ≡ true

pub Walked-start : (rows : List Row) (ns : List ℕ) → Walked rows ns None true
Walked-start rows ns =
    record { fits = λ x h. absurd (false≢true h); yes = λ e x h. absurd (false≢true h); no = λ h. refl }

-- what holds of the variables that were taken, of the next, and of those that stand in no row, holds up to the next
reached : (P : Var → Type 0) (last : Option Var) (y : Var) → ((x : Var) → is_up_to last x ≡ true → P x) → P y → ((x : Var) → IsAfter last x → var_lt x y ≡ true → P x) → (x : Var) → is_up_to (Some y) x ≡ true → P x
reached P last y old new skipped x up = by_old (is_up_to last x) refl (var_eq x y) refl (var_lt x y) refl
  where
    by_old : (t : Bool) → is_up_to last x ≡ t → (u : Bool) → var_eq x y ≡ u → (w : Bool) → var_lt x y ≡ w → P x
    by_old true h u e w l = old x h
    by_old false h true e w l = subst P (sym (var_eq-true x y e)) new
    by_old false h false e true l = skipped x h l
    by_old false h false e false l = absurd (false≢true (sym (ap not (var_lt_or_gt x y e l)) ∙ up))

and_true : (a b : Bool) → (a && b) ≡ true → (a ≡ true) × (b ≡ true)
and_true true true e = (refl, refl)
and_true true false e = absurd (false≢true e)
and_true false b e = absurd (false≢true e)

true_and : (a b : Bool) → a ≡ true → b ≡ true → (a && b) ≡ true
true_and a b e f = rw (e, f) refl

pub Walked-turn : (rows : List Row) (ns : List ℕ) (last : Option Var) (cancels cancel new : Bool) (y : Var) → Walked rows ns last cancels → IsNextVariable last rows (Some y) → SumsFit (λ t. coefficient y t.pairs) (pos 0) rows ns → (cancel ≡ true → weighted (λ t. coefficient y t.pairs) rows ns ≡ pos 0) → (weighted (λ t. coefficient y t.pairs) rows ns ≡ pos 0 → cancel ≡ true) → new ≡ (cancels && cancel) → Walked rows ns (Some y) new
Walked-turn rows ns last cancels cancel new y w n fits told tells e =
    record {
      fits = reached (λ x. SumsFit (λ t. coefficient x t.pairs) (pos 0) rows ns) last y w.fits fits (λ x a l. SumsFit-zero (λ t. coefficient x t.pairs) rows ns (recursion_from_All (λ r. coefficient x r.term.pairs ≡ pos 0) rows (n.skipped x a l)));
      yes = λ f. (let both = and_true cancels cancel (sym e ∙ f) in reached (λ x. weighted (λ t. coefficient x t.pairs) rows ns ≡ pos 0) last y (w.yes both.0) (told both.1) (λ x a l. weighted-zero (λ t. coefficient x t.pairs) rows ns (recursion_from_All (λ r. coefficient x r.term.pairs ≡ pos 0) rows (n.skipped x a l))));
      no = λ h. e ∙ true_and cancels cancel (w.no h) (tells (h y));
    }

-- after the last variable of all
past_all : (P : Var → Type 0) (last : Option Var) → ((x : Var) → is_up_to last x ≡ true → P x) → ((x : Var) → IsAfter last x → P x) → (x : Var) → P x
past_all P last old rest x = by_old (is_up_to last x) refl
  where
    by_old : (t : Bool) → is_up_to last x ≡ t → P x
    by_old true h = old x h
    by_old false h = rest x h

pub record WalkedAll (rows : List Row) (ns : List ℕ) (cancels : Bool) : Type 0 where
  pub fits : (x : Var) → SumsFit (λ t. coefficient x t.pairs) (pos 0) rows ns
  pub yes : cancels ≡ true → (x : Var) → weighted (λ t. coefficient x t.pairs) rows ns ≡ pos 0
  pub no : ((x : Var) → weighted (λ t. coefficient x t.pairs) rows ns ≡ pos 0) → cancels ≡ true

pub Walked-end : (rows : List Row) (ns : List ℕ) (last : Option Var) (cancels : Bool) → Walked rows ns last cancels → IsNextVariable last rows None → WalkedAll rows ns cancels
Walked-end rows ns last cancels w n =
    record {
      fits = past_all (λ x. SumsFit (λ t. coefficient x t.pairs) (pos 0) rows ns) last w.fits (λ x a. SumsFit-zero (λ t. coefficient x t.pairs) rows ns (recursion_from_All (λ r. coefficient x r.term.pairs ≡ pos 0) rows (n.skipped x a tt)));
      yes = λ f. past_all (λ x. weighted (λ t. coefficient x t.pairs) rows ns ≡ pos 0) last (w.yes f) (λ x a. weighted-zero (λ t. coefficient x t.pairs) rows ns (recursion_from_All (λ r. coefficient x r.term.pairs ≡ pos 0) rows (n.skipped x a tt)));
      no = w.no;
    }

-- ---- between two turns: all up to some variable was taken, and this is the next
pub record Walking (rows : List Row) (ns : List ℕ) (next : Option Var) (cancels : Bool) : Type 0 where
  pub last : Option Var
  pub walked : Walked rows ns last cancels
  pub follows : IsNextVariable last rows next

pub Walking-start : (rows : List Row) (ns : List ℕ) (next : Option Var) → IsNextVariable None rows next → Walking rows ns next true
Walking-start rows ns next n = record { last = None; walked = Walked-start rows ns; follows = n }

pub Walking-turn : (rows : List Row) (ns : List ℕ) (y : Var) (next : Option Var) (cancels cancel new : Bool) → Walking rows ns (Some y) cancels → IsNextVariable (Some y) rows next → SumsFit (λ t. coefficient y t.pairs) (pos 0) rows ns → (cancel ≡ true → weighted (λ t. coefficient y t.pairs) rows ns ≡ pos 0) → (weighted (λ t. coefficient y t.pairs) rows ns ≡ pos 0 → cancel ≡ true) → new ≡ (cancels && cancel) → Walking rows ns next new
Walking-turn rows ns y next cancels cancel new w n fits told tells e =
    record { last = Some y; walked = Walked-turn rows ns w.last cancels cancel new y w.walked w.follows fits told tells e; follows = n }

pub Walking-end : (rows : List Row) (ns : List ℕ) (cancels : Bool) → Walking rows ns None cancels → WalkedAll rows ns cancels
Walking-end rows ns cancels w = Walked-end rows ns w.last cancels w.walked w.follows

-- how many pairs are left from the next variable on, and one more where there is a next variable
abbrev pub count_from : Option Var → List Row → ℕ
count_from None rows = 0
count_from (Some x) rows = 1 + count_left (Some x) rows

pub count_from-falls : (rows : List Row) (y : Var) (next : Option Var) → IsNextVariable (Some y) rows next → count_from next rows < count_from (Some y) rows
count_from-falls rows y None n = omega arith
count_from-falls rows y (Some z) n = omega (arith, count_left-falls (Some y) rows z n)
