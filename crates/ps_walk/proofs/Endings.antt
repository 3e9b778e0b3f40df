-- The given rows, taken in order.
use Rattle.std.proofs.Common.{◌≡◌, ℕ, ◌+◌, ◌<◌, ℤ, List, ◌∷◌, ◌++◌, length, get_or, take, drop, All, sym, ap, ◌∙◌, subst, arith, take-append-drop, length-take}
use Rattle.std.proofs.lemmas.List.{drop_more}
use Rattle.std.proofs.lemmas.List.Elements.{All-more}
use Rattle.ps_term.specs.declared.row.Row.{Row}
use Rattle.ps_term.specs.declared.var.Var.{Var}
use Rattle.ps_walk.specs.Rows.{FirstAt, PassesRow}

pub first_at : (reason : (Var → ℤ) → Row → Type 0) (v : Var → ℤ) (rows : List Row) (i : ℕ) (r : Row) → i < length rows → r ≡ get_or rows i r → All (PassesRow v) (take i rows) → reason v r → FirstAt reason v rows i
first_at reason v rows i r l is passed why =
    let parts : rows ≡ take i rows ++ drop i rows = sym (take-append-drop i rows) in
    record {
      before = take i rows;
      here = r;
      after = drop (i + 1) rows;
      is = parts ∙ ap (λ (rs : List Row). take i rows ++ rs) (drop_more rows i r l ∙ ap (λ (s : Row). s ∷ drop (i + 1) rows) (sym is));
      number_is = omega (arith, length-take i rows);
      passed = passed;
      stops = why;
    }

pub passed_more : (v : Var → ℤ) (rows : List Row) (i : ℕ) (r : Row) → i < length rows → r ≡ get_or rows i r → All (PassesRow v) (take i rows) → PassesRow v r → All (PassesRow v) (take (i + 1) rows)
passed_more v rows i r l is passed p =
    All-more (PassesRow v) rows i r l passed (subst (λ (s : Row). PassesRow v s) is p)
