use Rattle.std.proofs.Common.{sym, ◌∙◌}
use Rattle.std.proofs.lemmas.Result.{err_from_is_err_and}
use Rattle.ps_parse.specs.Inner.Items.{items_at}
use Rattle.ps_grammar.specs.Declarations.{nothing_declared}
use Rattle.ps_parse.proofs.Declarations.{items_fails}
use Rattle.ps_parse.proofs.items.items.Goals as goal

pub returns-in_err-declared : goal.returns-in_err-declared
returns-in_err-declared c =
    let p = err_from_is_err_and c.from_residual.result c.from_residual.ensures.1 in
    rw (p.1, p.2) (items_fails c.args.most c.loop.counter c.loop.declared c.loop.cursor c.in_err-declared.field-0.0 (items_at c.args.most nothing_declared c.args.most c.args.cursor.now) c.loop.invariant c.loop-test.true (sym c.has_item.ensures ∙ c.if-not-has_item.false) c.in_err-declared.ensures)
