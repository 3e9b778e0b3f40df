use Rattle.std.proofs.Common.{length, Some, None}
use Rattle.ps_lines.specs.Until.{goes}
use Rattle.ps_lines.specs.Reading.{list_at}
use Rattle.ps_lines.proofs.Loop.{Many}
use Rattle.ps_lines.proofs.leaf.list.Given as goal

abbrev pub invariant-reading : goal.invariant-reading
invariant-reading g l = Many (goes l.until) g.L.Leaf.reading (λ _ x. Some x) l.list.items l.before l.reader (list_at (goes l.until) g.L.Leaf.reading (λ _ x. Some x) None l.fn.reader)

abbrev pub decreases-reading : goal.decreases-reading
decreases-reading g l = length l.reader.tokens
