use Rattle.std.proofs.Common.{sym, ◌∙◌}
use Rattle.ps_parse.specs.Inner.Seen.{seen_word}
use Rattle.ps_parse.proofs.WordCauses.{level_least, level_none}
use Rattle.ps_parse.proofs.passed.Passed.level_cause.Goals as goal

pub returns-then-has_many_levels : goal.returns-then-has_many_levels
returns-then-has_many_levels c = λ back ahead h e. level_least (seen_word c.args.word) ahead h e (sym c.has_many_levels.ensures ∙ c.if-has_many_levels.true)

pub returns : goal.returns
returns c = λ back ahead h e. level_none (seen_word c.args.word) ahead h e (sym c.has_many_levels.ensures ∙ c.if-has_many_levels.false)
