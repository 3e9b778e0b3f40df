use Rattle.std.proofs.Common.{◌-◌}
use Rattle.ps_lines.specs.Reading.{members_up_to}
use Rattle.ps_lines.specs.Until.{goes}
use Rattle.ps_lines.proofs.Ahead.{Counted}
use Rattle.ps_lines.proofs.reader.Reader.members_ahead.Given as goal

abbrev pub invariant-loop-count : goal.invariant-loop-count
invariant-loop-count l = Counted (goes l.until) l.count (l.most - l.count) l.place.tokens (members_up_to (goes l.until) l.most l.self.tokens)
