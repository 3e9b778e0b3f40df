use Rattle.std.proofs.Common.{Vec, Global, sym, ◌∙◌}
use Rattle.std.proofs.lemmas.Result.{err_from_is_err_and}
use Rattle.ps_lines.specs.Reading.{while_at}
use Rattle.ps_lines.proofs.Loop.{whiles_fails, whiles_limit}
use Rattle.ps_lines.proofs.form.while_lines.Goals as goal

pub returns-in_err-x : goal.returns-in_err-x
returns-in_err-x g c =
    let p = err_from_is_err_and c.from_residual.result c.from_residual.ensures.1 in
    rw (p.1, p.2) (whiles_fails (λ (v : Vec g.row.F-Value.Denot Global). v.items) c.args.word.now g.F.Form.reading c.loop.list.items c.args.limit c.loop.counter c.loop.reader c.take.new.reader c.take.new.reader c.in_err-x.field-0.0 (while_at c.args.word.now g.F.Form.reading c.args.limit c.args.reader.now) c.loop.invariant c.loop-test.true (sym c.begins.ensures ∙ c.if-not-begins.false) c.in_err-x.ensures)

pub returns-then-begins : goal.returns-then-begins
returns-then-begins g c =
    rw c.line_fault.ensures (whiles_limit c.args.word.now g.F.Form.reading c.loop.list.items c.args.limit c.loop.counter c.loop.reader (while_at c.args.word.now g.F.Form.reading c.args.limit c.args.reader.now) c.loop.invariant c.loop-test.false (sym c.begins-2.ensures ∙ c.if-begins.true))
