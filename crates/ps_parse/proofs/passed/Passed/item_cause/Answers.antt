use Rattle.std.proofs.Common.{sym, ◌∙◌}
use Rattle.ps_parse.specs.Inner.Seen.{seen_word}
use Rattle.ps_parse.proofs.WordCauses.{item_least, item_none}
use Rattle.ps_parse.proofs.passed.Passed.item_cause.Goals as goal

pub returns-then-has_many_rows : goal.returns-then-has_many_rows
returns-then-has_many_rows c = λ back ahead h m e. item_least (seen_word c.args.word) ahead c.args.rows h m e (sym c.has_many_rows.ensures ∙ c.if-has_many_rows.true)

pub returns : goal.returns
returns c = λ back ahead h m e. item_none (seen_word c.args.word) ahead c.args.rows h m e (sym c.has_many_rows.ensures ∙ c.if-has_many_rows.false)
