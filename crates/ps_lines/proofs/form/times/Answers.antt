use Rattle.std.proofs.Common.{Vec, Global}
use Rattle.std.proofs.lemmas.Result.{err_from_is_err_and}
use Rattle.ps_lines.specs.Reading.{times_at}
use Rattle.ps_lines.proofs.Loop.{times_fails}
use Rattle.ps_lines.proofs.form.times.Goals as goal

pub returns-in_err-x : goal.returns-in_err-x
returns-in_err-x g c =
    let p = err_from_is_err_and c.from_residual.result c.from_residual.ensures.1 in
    rw (p.1, p.2) (times_fails (λ (v : Vec g.row.F-Value.Denot Global). v.items) g.F.Form.reading c.loop.list.items c.args.count c.loop.counter c.loop.reader c.take.new.reader c.take.new.reader c.in_err-x.field-0.0 (times_at g.F.Form.reading c.args.count c.args.reader.now) c.loop.invariant c.loop-test.true c.in_err-x.ensures)
