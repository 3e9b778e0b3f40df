-- The sum of the replaced terms: what is done, with what is left, is all.
use Rattle.std.proofs.Common.{◌≡◌, ◌+◌, ◌<◌, ℕ, ℤ, pos, ◌+ℤ◌, ◌*ℤ◌, List, [], ◌∷◌, length, get_or, drop, refl, sym, ap, ◌∙◌, subst, subst₂, Bool, true, false, arith}
use Rattle.std.proofs.lemmas.Bool.{false≢true}
use Rattle.std.proofs.lemmas.Int.{ints}
use Rattle.std.proofs.lemmas.List.{drop_more}
use Rattle.ps_term.specs.declared.term.Term.{Term}
use Rattle.ps_term.specs.declared.var.Var.{Var}
use Rattle.ps_term.specs.inner.Accumulated.{IsRising}
use Rattle.ps_term.specs.Pairs.{coefficient, pairs_value}
use Rattle.ps_term.specs.Substitution.{replacement, values_after, SubstitutionFitsFrom}
use Rattle.ps_term.specs.Sums.{PairsFit, ScaledFits, TermFits}
use Rattle.ps_term.specs.Term.{value}
use Rattle.ps_term.specs.Var.{var_eq}
use Rattle.ps_term.proofs.Ring.{distribute}
use Rattle.ps_term.proofs.Uniqueness.{pairs_value-unit_at, unit_at}

-- the sum so far, by its coefficients
abbrev pub FitsFrom : List (Var × Term) → Term → List (Var × ℤ) → ℤ → Type 0
FitsFrom after sum rest last = SubstitutionFitsFrom after (λ x. coefficient x sum.pairs) sum.constant rest last

pub record Substituted (after : List (Var × Term)) (pairs : List (Var × ℤ)) (last : ℤ) (sum : Term) (rest : List (Var × ℤ)) : Type 0 where
  pub rising : IsRising sum.pairs
  pub worth : (v : Var → ℤ) → (value v sum +ℤ pairs_value (values_after v after) rest) ≡ pairs_value (values_after v after) pairs
  pub fits : FitsFrom after sum rest last → SubstitutionFitsFrom after (λ _. pos 0) (pos 0) pairs last
  pub fit : SubstitutionFitsFrom after (λ _. pos 0) (pos 0) pairs last → FitsFrom after sum rest last

pub Substituted-start : (after : List (Var × Term)) (pairs : List (Var × ℤ)) (last : ℤ) (sum : Term) → sum ≡ record { pairs = []; constant = pos 0 } → Substituted after pairs last sum pairs
Substituted-start after pairs last sum e =
    subst (λ (t : Term). Substituted after pairs last t pairs) (sym e) (record { rising = tt; worth = λ v. omega (arith, ints); fits = λ h. h; fit = λ h. h })

pub Substituted-turn : (after : List (Var × Term)) (pairs : List (Var × ℤ)) (last : ℤ) (sum new : Term) (p : Var × ℤ) (rest : List (Var × ℤ)) → Substituted after pairs last sum (p ∷ rest) → IsRising new.pairs → ((v : Var → ℤ) → value v new ≡ (value v sum +ℤ (p.1 *ℤ values_after v after p.0))) → ((x : Var) → coefficient x new.pairs ≡ (coefficient x sum.pairs +ℤ (p.1 *ℤ coefficient x (replacement after p.0).pairs))) → new.constant ≡ (sum.constant +ℤ (p.1 *ℤ (replacement after p.0).constant)) → TermFits sum p.1 (replacement after p.0) → Substituted after pairs last new rest
Substituted-turn after pairs last sum new p rest s rising worth coefficients constant fits =
    record {
      rising = rising;
      worth = λ v. omega (arith, ints, s.worth v, worth v);
      fits = λ h. s.fits (fits.0, fits.1, subst₂ (λ (f : Var → ℤ) (k : ℤ). SubstitutionFitsFrom after f k rest last) same constant h);
      fit = λ h. subst₂ (λ (f : Var → ℤ) (k : ℤ). SubstitutionFitsFrom after f k rest last) (sym same) (sym constant) (s.fit h).2;
    }
  where
    same : ◌≡◌ {A = Var → ℤ} (λ x. coefficient x new.pairs) (λ x. coefficient x sum.pairs +ℤ (p.1 *ℤ coefficient x (replacement after p.0).pairs))
    same = λ i x. coefficients x i

-- the same at a place of the pairs
pub Substituted-step : (after : List (Var × Term)) (all pairs : List (Var × ℤ)) (last : ℤ) (sum new : Term) (i : ℕ) (d : Var × ℤ) → Substituted after all last sum (drop i pairs) → i < length pairs → IsRising new.pairs → ((v : Var → ℤ) → value v new ≡ (value v sum +ℤ ((get_or pairs i d).1 *ℤ values_after v after (get_or pairs i d).0))) → ((x : Var) → coefficient x new.pairs ≡ (coefficient x sum.pairs +ℤ ((get_or pairs i d).1 *ℤ coefficient x (replacement after (get_or pairs i d).0).pairs))) → new.constant ≡ (sum.constant +ℤ ((get_or pairs i d).1 *ℤ (replacement after (get_or pairs i d).0).constant)) → TermFits sum (get_or pairs i d).1 (replacement after (get_or pairs i d).0) → Substituted after all last new (drop (i + 1) pairs)
Substituted-step after all pairs last sum new i d s l rising worth coefficients constant fits =
    Substituted-turn after all last sum new (get_or pairs i d) (drop (i + 1) pairs) (subst (λ (ps : List (Var × ℤ)). Substituted after all last sum ps) (drop_more pairs i d l) s) rising worth coefficients constant fits

-- the sums and the constant apart
abbrev pub sum_of : List (Var × ℤ) → ℤ → Term
sum_of sums constant = record { pairs = sums; constant = constant }

pub Substituted-empty : (after : List (Var × Term)) (pairs : List (Var × ℤ)) (last : ℤ) (sums items : List (Var × ℤ)) → sums ≡ [] → items ≡ pairs → Substituted after pairs last (sum_of sums (pos 0)) items
Substituted-empty after pairs last sums items e f =
    subst (λ (ps : List (Var × ℤ)). Substituted after pairs last (sum_of sums (pos 0)) ps) (sym f) (Substituted-start after pairs last (sum_of sums (pos 0)) (ap (λ (ss : List (Var × ℤ)). sum_of ss (pos 0)) e))

pub Substituted-added : (after : List (Var × Term)) (all pairs : List (Var × ℤ)) (last : ℤ) (sums new : List (Var × ℤ)) (constant next : ℤ) (i : ℕ) (d : Var × ℤ) → Substituted after all last (sum_of sums constant) (drop i pairs) → i < length pairs → IsRising new
    → ((v : Var → ℤ) → pairs_value v new ≡ (pairs_value v sums +ℤ ((get_or pairs i d).1 *ℤ pairs_value v (replacement after (get_or pairs i d).0).pairs)))
    → next ≡ (constant +ℤ ((get_or pairs i d).1 *ℤ (replacement after (get_or pairs i d).0).constant))
    → PairsFit sums (get_or pairs i d).1 (replacement after (get_or pairs i d).0).pairs → ScaledFits constant (get_or pairs i d).1 (replacement after (get_or pairs i d).0).constant
    → Substituted after all last (sum_of new next) (drop (i + 1) pairs)
Substituted-added after all pairs last sums new constant next i d s l rising worth is pairs_fit constant_fits =
    Substituted-step after all pairs last (sum_of sums constant) (sum_of new next) i d s l rising value_is coefficient_is is (pairs_fit, constant_fits)
  where
    value_is : (v : Var → ℤ) → value v (sum_of new next) ≡ (value v (sum_of sums constant) +ℤ ((get_or pairs i d).1 *ℤ values_after v after (get_or pairs i d).0))
    value_is v = omega (arith, ints, worth v, is, distribute (get_or pairs i d).1 (pairs_value v (replacement after (get_or pairs i d).0).pairs) (replacement after (get_or pairs i d).0).constant)

    coefficient_is : (x : Var) → coefficient x new ≡ (coefficient x sums +ℤ ((get_or pairs i d).1 *ℤ coefficient x (replacement after (get_or pairs i d).0).pairs))
    coefficient_is x =
        rw (← pairs_value-unit_at x new, ← pairs_value-unit_at x sums, ← pairs_value-unit_at x (replacement after (get_or pairs i d).0).pairs) (worth (unit_at x))

-- a place whose replaced term doesn't fit
pub Substituted-refused : (after : List (Var × Term)) (all pairs : List (Var × ℤ)) (last : ℤ) (sum : Term) (i : ℕ) (d : Var × ℤ) → Substituted after all last sum (drop i pairs) → i < length pairs → ¬ TermFits sum (get_or pairs i d).1 (replacement after (get_or pairs i d).0) → ¬ SubstitutionFitsFrom after (λ _. pos 0) (pos 0) all last
Substituted-refused after all pairs last sum i d s l past h =
    let here : FitsFrom after sum (get_or pairs i d ∷ drop (i + 1) pairs) last = subst (λ (ps : List (Var × ℤ)). FitsFrom after sum ps last) (drop_more pairs i d l) (s.fit h) in
    past (here.0, here.1)

-- with all pairs replaced, the sums and the constant are worth the whole
pub Substituted-worth : (after : List (Var × Term)) (pairs : List (Var × ℤ)) (last : ℤ) (sums : List (Var × ℤ)) (constant : ℤ) (out : List (Var × ℤ)) (whole : ℤ) → Substituted after pairs last (sum_of sums constant) [] → ((v : Var → ℤ) → pairs_value v out ≡ pairs_value v sums) → whole ≡ (constant +ℤ last) → (v : Var → ℤ) → (pairs_value v out +ℤ whole) ≡ (pairs_value (values_after v after) pairs +ℤ last)
Substituted-worth after pairs last sums constant out whole s h e v = omega (arith, ints, s.worth v, h v, e)

-- ---- the search for the term
by_first : (x : Var) (p : Var × Term) (ps : List (Var × Term)) (t : Bool) → var_eq x p.0 ≡ t → t ≡ true → replacement (p ∷ ps) x ≡ p.1
by_first x p ps true e f = rw e refl
by_first x p ps false e f = absurd (false≢true f)

pub replacement-found : (x : Var) (after : List (Var × Term)) (i : ℕ) (p : Var × Term) → replacement (drop i after) x ≡ replacement after x → i < length after → p ≡ get_or after i p → var_eq x p.0 ≡ true → p.1 ≡ replacement after x
replacement-found x after i p e l is same =
    let front : drop i after ≡ p ∷ drop (i + 1) after = drop_more after i p l ∙ ap (λ (q : Var × Term). q ∷ drop (i + 1) after) (sym is) in
    sym (by_first x p (drop (i + 1) after) (var_eq x p.0) refl same) ∙ (ap (λ (ps : List (Var × Term)). replacement ps x) (sym front) ∙ e)
