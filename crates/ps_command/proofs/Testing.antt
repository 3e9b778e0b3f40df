-- Rows that are tested one after another.
use Rattle.std.proofs.Common.{◌≡◌, true, false, Bool, ◌&&◌, refl, sym, ap, ap₂, subst, ◌∙◌, ℕ, ◌<◌, ◌+◌, ℤ, pos, List, [], ◌∷◌, length, get_or, drop}
use Rattle.std.specs.List.{list_all}
use Rattle.std.proofs.lemmas.Bool.{false≢true}
use Rattle.std.proofs.lemmas.List.{drop_more}
use Rattle.ps_term.specs.Evaluation.{EvaluationFits}
use Rattle.ps_term.specs.declared.row.Row.{Row}
use Rattle.ps_term.specs.declared.var.Var.{Var}
use Rattle.ps_command.specs.Run.{holds}
use Rattle.ps_command.specs.RunFits.{TestsFit}

-- what is left to test decides all
pub record IsTesting (values : Var → ℤ) (rows rest : List Row) : Type 0 where
  pub same : list_all (holds values) rest ≡ list_all (holds values) rows
  pub fits : TestsFit values rest → TestsFit values rows
  pub fit : TestsFit values rows → TestsFit values rest

pub testing_start : (values : Var → ℤ) (rows : List Row) → IsTesting values rows rows
testing_start values rows = record { same = refl; fits = λ h. h; fit = λ h. h }

here : (values : Var → ℤ) (rows : List Row) (i : ℕ) (d : Row) → i < length rows → IsTesting values rows (drop i rows) → IsTesting values rows (get_or rows i d ∷ drop (i + 1) rows)
here values rows i d w t = subst (λ (rs : List Row). IsTesting values rows rs) (drop_more rows i d w) t

pub testing_holds : (values : Var → ℤ) (rows : List Row) (i : ℕ) (d : Row) → i < length rows → IsTesting values rows (drop i rows) → EvaluationFits values (get_or rows i d).term → holds values (get_or rows i d) ≡ true →
    IsTesting values rows (drop (i + 1) rows)
testing_holds values rows i d w t f h =
    let r : IsTesting values rows (get_or rows i d ∷ drop (i + 1) rows) = here values rows i d w t in
    record {
      same = sym (ap (λ (b : Bool). b && list_all (holds values) (drop (i + 1) rows)) h) ∙ r.same;
      fits = λ g. r.fits (f, λ e. g);
      fit = λ g. (r.fit g).1 h;
    }

pub testing_fails : (values : Var → ℤ) (rows : List Row) (i : ℕ) (d : Row) → i < length rows → IsTesting values rows (drop i rows) → EvaluationFits values (get_or rows i d).term → holds values (get_or rows i d) ≡ false →
    TestsFit values rows × (list_all (holds values) rows ≡ false)
testing_fails values rows i d w t f h =
    let r : IsTesting values rows (get_or rows i d ∷ drop (i + 1) rows) = here values rows i d w t in
    (r.fits (f, λ e. absurd (false≢true (sym h ∙ e))), sym r.same ∙ ap (λ (b : Bool). b && list_all (holds values) (drop (i + 1) rows)) h)

pub testing_past : (values : Var → ℤ) (rows : List Row) (i : ℕ) (d : Row) → i < length rows → IsTesting values rows (drop i rows) → ¬ EvaluationFits values (get_or rows i d).term → ¬ TestsFit values rows
testing_past values rows i d w t f g = f ((here values rows i d w t).fit g).0

pub testing_end : (values : Var → ℤ) (rows rest : List Row) → rest ≡ [] → IsTesting values rows rest → TestsFit values rows × (list_all (holds values) rows ≡ true)
testing_end values rows rest e t =
    let r : IsTesting values rows [] = subst (λ (rs : List Row). IsTesting values rows rs) e t in
    (r.fits tt, sym r.same)
