-- The rows of letters, letter after letter.
use Rattle.std.proofs.Common.{◌≡◌, refl, sym, ap, ap₂, subst, ◌∙◌, ℕ, ◌<◌, ◌+◌, List, [], ◌∷◌, ◌++◌, length, map, take, get_or, append_assoc, arith}
use Rattle.std.specs.Prelude.{All}
use Rattle.std.proofs.lemmas.List.{map_push, take_more}
use Rattle.std.proofs.lemmas.List.Elements.{All-push}
use Rattle.ps_graph.specs.declared.graph.Graph.{Graph}
use Rattle.ps_term.specs.declared.row.Row.{Row}
use Rattle.ps_term.specs.declared.term.Term.{Term}
use Rattle.ps_term.specs.declared.var.Var.{Var}
use Rattle.ps_trace.specs.Rows.{SoFar, after_letter, form_at, havocs_of_letters, letter_rows, LetterFits, LettersFit, nothing_yet, rows_after, with_terms}
use Rattle.ps_command.specs.Form.{with_term}
use Rattle.ps_command.specs.declared.symbolic_form.SymbolicForm.{SymbolicForm}

pub with_terms_last : (ps : List (Var × Term)) (p : Var × Term) (after : List (Var × Term)) → with_terms (ps ++ p ∷ []) after ≡ with_terms ps (with_term p.0 p.1 after)
with_terms_last [] p after = refl
with_terms_last (q ∷ ps) p after = ap (with_term q.0 q.1) (with_terms_last ps p after)

-- what was made, with what is left, is all
pub record IsRowing (graph : Graph) (old : List Row) (all : List (ℕ × ℕ)) (f : SoFar) (rows : List Row) (rest : List (ℕ × ℕ)) : Type 0 where
  pub same : rows ++ rows_after graph f rest ≡ old ++ rows_after graph nothing_yet all
  pub fits : LettersFit graph f rest → LettersFit graph nothing_yet all
  pub fit : LettersFit graph nothing_yet all → LettersFit graph f rest
  pub left : f.havocs + havocs_of_letters graph rest ≡ havocs_of_letters graph all

pub rowing_start : (graph : Graph) (old : List Row) (all : List (ℕ × ℕ)) → IsRowing graph old all nothing_yet old all
rowing_start graph old all = record { same = refl; fits = λ h. h; fit = λ h. h; left = omega arith }

turn : (graph : Graph) (old : List Row) (all : List (ℕ × ℕ)) (f : SoFar) (rows : List Row) (l : ℕ × ℕ) (rest : List (ℕ × ℕ)) → IsRowing graph old all f rows (l ∷ rest) →
    LetterFits f l.0 (form_at graph l.1) → IsRowing graph old all (after_letter f l.0 (form_at graph l.1)) (rows ++ letter_rows f l.0 (form_at graph l.1)) rest
turn graph old all f rows l rest r fits = record {
  same = append_assoc rows (letter_rows f l.0 (form_at graph l.1)) (rows_after graph (after_letter f l.0 (form_at graph l.1)) rest) ∙ r.same;
  fits = λ h. r.fits (fits, h);
  fit = λ h. (r.fit h).1;
  left = (let e : f.havocs + ((form_at graph l.1).havocs + havocs_of_letters graph rest) ≡ havocs_of_letters graph all = r.left in omega arith);
}

pub rowing_step : (graph : Graph) (old : List Row) (all : List (ℕ × ℕ)) (f g : SoFar) (rows new : List Row) (l : ℕ × ℕ) (here rest : List (ℕ × ℕ)) → here ≡ l ∷ rest →
    IsRowing graph old all f rows here → LetterFits f l.0 (form_at graph l.1) → g ≡ after_letter f l.0 (form_at graph l.1) →
    new ≡ rows ++ letter_rows f l.0 (form_at graph l.1) → IsRowing graph old all g new rest
rowing_step graph old all f g rows new l here rest e r fits is made =
    let t : IsRowing graph old all (after_letter f l.0 (form_at graph l.1)) (rows ++ letter_rows f l.0 (form_at graph l.1)) rest =
    turn graph old all f rows l rest (subst (λ (xs : List (ℕ × ℕ)). IsRowing graph old all f rows xs) e r) fits in
    subst (λ (h : SoFar). IsRowing graph old all h new rest) (sym is) (subst (λ (rs : List Row). IsRowing graph old all (after_letter f l.0 (form_at graph l.1)) rs rest) (sym made) t)

pub rowing_past : (graph : Graph) (old : List Row) (all : List (ℕ × ℕ)) (f : SoFar) (rows : List Row) (l : ℕ × ℕ) (here rest : List (ℕ × ℕ)) → here ≡ l ∷ rest →
    IsRowing graph old all f rows here → ¬ LetterFits f l.0 (form_at graph l.1) → ¬ LettersFit graph nothing_yet all
rowing_past graph old all f rows l here rest e r past h = past (subst (λ (xs : List (ℕ × ℕ)). LettersFit graph f xs) e (r.fit h)).0

pub rowing_room : (graph : Graph) (old : List Row) (all : List (ℕ × ℕ)) (f : SoFar) (rows : List Row) (l : ℕ × ℕ) (here rest : List (ℕ × ℕ)) (most : ℕ) → here ≡ l ∷ rest →
    IsRowing graph old all f rows here → havocs_of_letters graph all < most → f.havocs + (form_at graph l.1).havocs < most
rowing_room graph old all f rows l here rest most e r few =
    let here_left : f.havocs + havocs_of_letters graph (l ∷ rest) ≡ havocs_of_letters graph all = subst (λ (xs : List (ℕ × ℕ)). f.havocs + havocs_of_letters graph xs ≡ havocs_of_letters graph all) e r.left in
    let parted : f.havocs + ((form_at graph l.1).havocs + havocs_of_letters graph rest) ≡ havocs_of_letters graph all = here_left in
    omega arith

pub rowing_end : (graph : Graph) (old : List Row) (all : List (ℕ × ℕ)) (f : SoFar) (rows : List Row) (rest : List (ℕ × ℕ)) → rest ≡ [] → IsRowing graph old all f rows rest →
    (rows ≡ old ++ rows_after graph nothing_yet all) × LettersFit graph nothing_yet all
rowing_end graph old all f rows rest e r =
    let here : IsRowing graph old all f rows [] = subst (λ (xs : List (ℕ × ℕ)). IsRowing graph old all f rows xs) e r in
    (sym (append_nil rows) ∙ here.same, here.fits tt)
  where
    append_nil : (rs : List Row) → rs ++ [] ≡ rs
    append_nil [] = refl
    append_nil (r ∷ rs) = ap (λ (xs : List Row). r ∷ xs) (append_nil rs)

-- the same with the form that code found
pub rowing_take : (graph : Graph) (old : List Row) (all : List (ℕ × ℕ)) (f g : SoFar) (rows new : List Row) (l : ℕ × ℕ) (here rest : List (ℕ × ℕ)) (form : SymbolicForm) → form ≡ form_at graph l.1 → here ≡ l ∷ rest →
    IsRowing graph old all f rows here → LetterFits f l.0 form → g ≡ after_letter f l.0 form → new ≡ rows ++ letter_rows f l.0 form → IsRowing graph old all g new rest
rowing_take graph old all f g rows new l here rest form same e r fits is made =
    rowing_step graph old all f g rows new l here rest e r (subst (λ (x : SymbolicForm). LetterFits f l.0 x) same fits) (is ∙ ap (after_letter f l.0) same)
    (made ∙ ap (λ (x : SymbolicForm). rows ++ letter_rows f l.0 x) same)

-- ---- one element more
pub all_more : {X : Type 0} (P : X → Type 0) (xs : List X) (i : ℕ) (x : X) → i < length xs → x ≡ get_or xs i x → All P (take i xs) → P x → All P (take (i + 1) xs)
all_more P xs i x w is h p =
    subst (λ ys. All P ys) (sym (take_more xs i x w ∙ ap (λ y. take i xs ++ y ∷ []) (sym is))) (All-push P (take i xs) x h p)

pub map_more : {X Y : Type 0} (f : X → Y) (xs : List X) (i : ℕ) (x : X) (y : Y) (old ys new : List Y) → i < length xs → x ≡ get_or xs i x → y ≡ f x →
    ys ≡ old ++ map f (take i xs) → new ≡ ys ++ y ∷ [] → new ≡ old ++ map f (take (i + 1) xs)
map_more f xs i x y old ys new w is e h made =
    made ∙ ap₂ (λ zs z. zs ++ z ∷ []) h e ∙ append_assoc old (map f (take i xs)) (f x ∷ [])
    ∙ ap (λ zs. old ++ zs) (sym (ap (map f) (take_more xs i x w ∙ ap (λ z. take i xs ++ z ∷ []) (sym is)) ∙ map_push f (take i xs) x))
