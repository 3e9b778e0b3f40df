use Rattle.std.proofs.Common.{◌-◌, length}
use Rattle.ps_token.proofs.Cuts.{Cut}
use Rattle.ps_token.proofs.tokenizing.tokens.Given as goal

abbrev pub invariant-cutting : goal.invariant-cutting
invariant-cutting l = Cut l.bytes l.at l.list.items l.place

abbrev pub decreases-cutting : goal.decreases-cutting
decreases-cutting l = length l.bytes - l.at
