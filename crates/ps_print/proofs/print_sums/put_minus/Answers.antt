use Rattle.std.proofs.Common.{◌≡◌, false, ap, rules}
use Rattle.ps_print.specs.Canonical.{is_negative}
use Rattle.ps_grammar.specs.Spelling.{minus_pieces}
use Rattle.ps_print.proofs.Putting.{nothing, respell}
use Rattle.ps_print.proofs.print_sums.put_minus.Goals as goal

pub returns : goal.returns
returns c = let plain : is_negative c.args.number ≡ false = search rules in respell (ap minus_pieces plain) (nothing c.args.out.now.items)
