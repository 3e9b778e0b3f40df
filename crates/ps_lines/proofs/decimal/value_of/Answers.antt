use Rattle.std.proofs.Common.{◌^◌, sym, ◌∙◌, arith}
use Rattle.ps_lines.proofs.Shorter.{value_whole, value_wider}
use Rattle.ps_lines.proofs.decimal.value_of.Goals as goal

pub returns-then-bytes-gt-MOST_SHORT : goal.returns-then-bytes-gt-MOST_SHORT
returns-then-bytes-gt-MOST_SHORT c = c.value128.ensures ∙ value_whole (2 ^ 128) c.args.bytes.now (omega arith)

pub returns-in-Some : goal.returns-in-Some
returns-in-Some c =
    rw c.from.ensures (sym (value_wider (2 ^ 64) (2 ^ 128) c.args.bytes.now c.in-Some.n (omega arith) (sym (value_whole (2 ^ 64) c.args.bytes.now (omega arith)) ∙ sym c.value64.ensures ∙ c.in-Some.is)))

pub returns-in-None : goal.returns-in-None
returns-in-None c = c.value128-in-None.ensures ∙ value_whole (2 ^ 128) c.args.bytes.now (omega arith)
