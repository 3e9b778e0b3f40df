-- Weighted rows added one after another: what is done, with what is left, is all.
use Rattle.std.proofs.Common.{◌≡◌, refl, sym, ap, ◌∙◌, subst, ℕ, suc, ◌<◌, ◌+◌, pos, List, ◌∷◌, length, map, drop, get_or, add-one}
use Rattle.std.proofs.Math.Seq.{drop-cons}
use Rattle.std.proofs.lemmas.List.{get_or-map, length-map}
use Rattle.ps_interp.specs.Sums.{PlusRowsFit, WeightedFits, plus_rows}
use Rattle.ps_term.specs.Exact.{number_term, plus_scaled}
use Rattle.ps_term.specs.declared.row.Row.{Row}
use Rattle.ps_term.specs.declared.term.Term.{Term}
use Rattle.ps_trace.specs.Rows.{row_of_thread, term_of_thread}

pub record Added (rows : List Row) (ns : List ℕ) (sum : Term) (rest : List Row) (rest_ns : List ℕ) : Type 0 where
  pub total : plus_rows sum rest rest_ns ≡ plus_rows (number_term (pos 0)) rows ns
  pub fits : PlusRowsFit sum rest rest_ns → PlusRowsFit (number_term (pos 0)) rows ns
  pub fit : PlusRowsFit (number_term (pos 0)) rows ns → PlusRowsFit sum rest rest_ns

pub added_start : (rows : List Row) (ns : List ℕ) (sum : Term) → sum ≡ number_term (pos 0) → Added rows ns sum rows ns
added_start rows ns sum e = subst (λ (t : Term). Added rows ns t rows ns) (sym e) (record { total = refl; fits = λ h. h; fit = λ h. h })

turn : (rows : List Row) (ns : List ℕ) (sum : Term) (r : Row) (rest : List Row) (n : ℕ) (rest_ns : List ℕ) → Added rows ns sum (r ∷ rest) (n ∷ rest_ns) → WeightedFits sum n r.term →
    Added rows ns (plus_scaled sum (pos n) r.term) rest rest_ns
turn rows ns sum r rest n rest_ns a w = record { total = a.total; fits = λ h. a.fits (w, h); fit = λ h. (a.fit h).1 }

pub cut : {X : Type 0} (xs : List X) (i : ℕ) (x : X) → i < length xs → x ≡ get_or xs i x → drop i xs ≡ x ∷ drop (i + 1) xs
cut {X} xs i x h e = drop-cons xs i x h ∙ (ap (λ (y : X). y ∷ drop (suc i) xs) (sym e) ∙ ap (λ (j : ℕ). x ∷ drop j xs) (sym (add-one i)))

mapped_cut : (k : ℕ) (rows : List Row) (i : ℕ) (r : Row) → i < length rows → r ≡ get_or rows i r →
    drop i (map (row_of_thread k 0) rows) ≡ row_of_thread k 0 r ∷ drop (i + 1) (map (row_of_thread k 0) rows)
mapped_cut k rows i r h e =
    cut (map (row_of_thread k 0) rows) i (row_of_thread k 0 r) (subst (λ (n : ℕ). i < n) (sym (length-map rows (row_of_thread k 0))) h)
    (ap (row_of_thread k 0) e ∙ sym (get_or-map (row_of_thread k 0) rows i r (row_of_thread k 0 r) h))

here : (k : ℕ) (rows : List Row) (ns : List ℕ) (sum : Term) (i : ℕ) (r : Row) (n : ℕ) →
    Added (map (row_of_thread k 0) rows) ns sum (drop i (map (row_of_thread k 0) rows)) (drop i ns) → i < length rows → r ≡ get_or rows i r → i < length ns → n ≡ get_or ns i n →
    Added (map (row_of_thread k 0) rows) ns sum (row_of_thread k 0 r ∷ drop (i + 1) (map (row_of_thread k 0) rows)) (n ∷ drop (i + 1) ns)
here k rows ns sum i r n a h e j f =
    subst (λ (rs : List Row). Added (map (row_of_thread k 0) rows) ns sum rs (n ∷ drop (i + 1) ns)) (mapped_cut k rows i r h e)
    (subst (λ (ms : List ℕ). Added (map (row_of_thread k 0) rows) ns sum (drop i (map (row_of_thread k 0) rows)) ms) (cut ns i n j f) a)

pub added_step : (k : ℕ) (rows : List Row) (ns : List ℕ) (sum own new : Term) (i : ℕ) (r : Row) (n : ℕ) →
    Added (map (row_of_thread k 0) rows) ns sum (drop i (map (row_of_thread k 0) rows)) (drop i ns) → i < length rows → r ≡ get_or rows i r → i < length ns → n ≡ get_or ns i n →
    own ≡ term_of_thread k 0 r.term → new ≡ plus_scaled sum (pos n) own → WeightedFits sum n own →
    Added (map (row_of_thread k 0) rows) ns new (drop (i + 1) (map (row_of_thread k 0) rows)) (drop (i + 1) ns)
added_step k rows ns sum own new i r n a h e j f o s w =
    subst (λ (t : Term). Added (map (row_of_thread k 0) rows) ns t (drop (i + 1) (map (row_of_thread k 0) rows)) (drop (i + 1) ns))
    (sym (s ∙ ap (λ (t : Term). plus_scaled sum (pos n) t) o))
    (turn (map (row_of_thread k 0) rows) ns sum (row_of_thread k 0 r) (drop (i + 1) (map (row_of_thread k 0) rows)) n (drop (i + 1) ns) (here k rows ns sum i r n a h e j f)
    (subst (λ (t : Term). WeightedFits sum n t) o w))

pub added_past : (k : ℕ) (rows : List Row) (ns : List ℕ) (sum own : Term) (i : ℕ) (r : Row) (n : ℕ) →
    Added (map (row_of_thread k 0) rows) ns sum (drop i (map (row_of_thread k 0) rows)) (drop i ns) → i < length rows → r ≡ get_or rows i r → i < length ns → n ≡ get_or ns i n →
    own ≡ term_of_thread k 0 r.term → ¬ WeightedFits sum n own → ¬ PlusRowsFit (number_term (pos 0)) (map (row_of_thread k 0) rows) ns
added_past k rows ns sum own i r n a h e j f o past all =
    past (subst (λ (t : Term). WeightedFits sum n t) (sym o) ((here k rows ns sum i r n a h e j f).fit all).0)
