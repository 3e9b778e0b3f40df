use Rattle.std.proofs.Common.{subst, sym}
use Rattle.ps_parse.specs.Inner.Within.{AreWithin}
use Rattle.ps_parse.proofs.WordsWithin.{within_front}
use Rattle.ps_parse.proofs.cursor.Cursor.front.Goals as goal

pub invariant_of-result : goal.invariant_of-result
invariant_of-result c = subst (AreWithin c.self.inside.bytes.now) (sym c.split_at.ensures.front) (within_front c.self.inside.bytes.now c.args.count c.self.inside.tokens.now c.self.invariant)
