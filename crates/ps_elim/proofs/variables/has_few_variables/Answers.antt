use Rattle.std.proofs.Common.{◌≡◌, List, ap, ◌∙◌, arith}
use Rattle.std.proofs.lemmas.List.{take_all}
use Rattle.ps_term.specs.declared.row.Row.{Row}
use Rattle.ps_elim.proofs.Counting.{length-variables, pairs_in}
use Rattle.ps_elim.proofs.variables.has_few_variables.Goals as goal

pub returns-clause-variables : goal.returns-clause-variables
returns-clause-variables c =
    let rows = c.args.rows.now in
    let all : c.loop-row.count ≡ pairs_in rows = c.loop-row.invariant.counted ∙ ap (λ (rs : List Row). pairs_in rs) (take_all c.loop-row.row-index rows c.loop-row-test.false) in
    λ _. omega (arith, all, c.loop-row.invariant.few, length-variables rows)
