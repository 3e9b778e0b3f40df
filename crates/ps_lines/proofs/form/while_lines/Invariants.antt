use Rattle.std.proofs.Common.{◌-◌}
use Rattle.ps_lines.specs.Reading.{while_at}
use Rattle.ps_lines.proofs.Loop.{Whiles}
use Rattle.ps_lines.proofs.form.while_lines.Given as goal

abbrev pub invariant-loop : goal.invariant-loop
invariant-loop g l = Whiles l.word g.F.Form.reading l.list.items (l.limit - l.counter) l.reader (while_at l.word g.F.Form.reading l.limit l.fn.reader)
