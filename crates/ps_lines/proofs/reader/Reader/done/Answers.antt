use Rattle.std.proofs.Common.{sym, ◌∙◌}
use Rattle.ps_lines.proofs.Ahead.{no_done_at}
use Rattle.ps_lines.proofs.reader.Reader.done.Goals as goal

pub returns-then-not-is_empty : goal.returns-then-not-is_empty
returns-then-not-is_empty c = rw (c.line_fault-then-not-is_empty.ensures, ← c.self.view_is) (no_done_at c.self.inside.line c.self.inside.field c.self.inside.ended c.self.inside.rest.now c.if-self.false (sym c.is_empty.ensures ∙ c.if-not-is_empty.true))
