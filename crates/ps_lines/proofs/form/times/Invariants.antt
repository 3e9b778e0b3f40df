use Rattle.std.proofs.Common.{◌-◌}
use Rattle.ps_lines.specs.Reading.{times_at}
use Rattle.ps_lines.proofs.Loop.{Times}
use Rattle.ps_lines.proofs.form.times.Given as goal

abbrev pub invariant-loop : goal.invariant-loop
invariant-loop g l = Times g.F.Form.reading l.list.items (l.count - l.counter) l.reader (times_at g.F.Form.reading l.count l.fn.reader)
