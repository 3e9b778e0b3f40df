use Rattle.std.proofs.Common.{◌≡◌, length}
use Rattle.ps_atom_text.specs.Growing.{grow_at}
use Rattle.ps_lines.specs.Until.{goes}
use Rattle.ps_atom_text.proofs.growth.grow_fields.Given as goal

abbrev pub invariant-growing : goal.invariant-growing
invariant-growing g l = grow_at (goes l.until) g.G.Growth.grown l.state l.reader ≡ grow_at (goes l.until) g.G.Growth.grown l.fn.start l.fn.reader

abbrev pub decreases-growing : goal.decreases-growing
decreases-growing g l = length l.reader.tokens
