use Rattle.std.proofs.Common.{sym, ◌∙◌}
use Rattle.ps_lines.proofs.Shorter.{short_is, short_lacks, short_past}
use Rattle.ps_lines.proofs.decimal.short_number_of.Goals as goal

pub returns-in-Some : goal.returns-in-Some
returns-in-Some c = rw c.narrow.ensures (short_is c.args.field.now c.in-Some.n (sym c.begins_canonical.ensures ∙ c.if-not-begins_canonical.false) (sym c.value64.ensures ∙ c.in-Some.is))

pub returns-in-None : goal.returns-in-None
returns-in-None c = sym (short_past c.args.field.now (sym c.begins_canonical.ensures ∙ c.if-not-begins_canonical.false) (sym c.value64.ensures ∙ c.in-None.is))
