use Rattle.std.proofs.Common.{◌≡◌, ◌+◌, ◌-◌, ◌<◌, ◌≤◌, ℕ, ℤ, List, ◌∷◌, drop, get_or, length, sym, ap, ◌∙◌, subst, arith}
use Rattle.std.proofs.lemmas.List.{drop_all, drop_more}
use Rattle.std.proofs.lemmas.Result.{IfOk-weaker}
use Rattle.ps_elim.specs.Stages.{variables, with_variables}
use Rattle.ps_term.specs.declared.row.Row.{Row}
use Rattle.ps_term.specs.declared.var.Var.{Var}
use Rattle.ps_elim.proofs.variables.variables.Goals as goal

step : (rows : List Row) (i : ℕ) (r : Row) (ps : List (Var × ℤ)) (old new : List Var) → i ≤ length rows → 0 < i → r ≡ get_or rows (i - 1) r → ps ≡ r.term.pairs → old ≡ variables (drop i rows) → new ≡ with_variables ps old → new ≡ variables (drop (i - 1) rows)
step rows i r ps old new l z is e h f =
    let next : i - 1 + 1 ≡ i = omega arith in
    let rest : drop (i - 1) rows ≡ r ∷ drop i rows = drop_more rows (i - 1) r (omega arith) ∙ (ap (λ (j : ℕ). get_or rows (i - 1) r ∷ drop j rows) next ∙ ap (λ (s : Row). s ∷ drop i rows) (sym is)) in
    f ∙ (ap (λ (xs : List Var). with_variables ps xs) h ∙ (ap (λ (qs : List (Var × ℤ)). with_variables qs (variables (drop i rows))) e ∙ sym (ap (λ (rs : List Row). variables rs) rest)))

pub loop-at-init : goal.loop-at-init
loop-at-init c =
    let rows = c.args.rows.now in
    c.new-found.ensures.empty ∙ sym (ap (λ (rs : List Row). variables rs) (drop_all (length rows) rows (omega arith)))

pub loop-at-preserved : goal.loop-at-preserved
loop-at-preserved c =
    step c.args.rows.now c.loop-at.at c.index-rows-at.result c.as_slice.result.now c.loop-at.found.keys c.add_variables.new.found.keys c.loop-at.auto.at c.loop-at-test.true c.index-rows-at.is (c.as_slice.ensures.list ∙ ap (λ (s : Row). s.term.pairs) (sym c.index-rows-at.is)) c.loop-at.invariant c.in_ok-add_variables.ensures

pub returns : goal.returns
returns c =
    let none : c.loop-at.at ≡ 0 = omega (arith, c.loop-at-test.false) in
    IfOk-weaker c.listed.result (λ list. list.items ≡ c.loop-at.found.keys) (λ list. list.items ≡ variables c.args.rows.now) (λ list e. e ∙ subst (λ (i : ℕ). c.loop-at.found.keys ≡ variables (drop i c.args.rows.now)) none c.loop-at.invariant) c.listed.ensures
