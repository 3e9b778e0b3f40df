use Rattle.ps_lines.proofs.Ahead.{no_end_at}
use Rattle.ps_lines.proofs.reader.Reader.end.Goals as goal

pub returns-then-not-self : goal.returns-then-not-self
returns-then-not-self c = rw (c.fault.ensures, ← c.self.view_is) (no_end_at c.self.inside.line c.self.inside.field c.self.inside.ended c.self.inside.rest.now c.if-not-self.true)
