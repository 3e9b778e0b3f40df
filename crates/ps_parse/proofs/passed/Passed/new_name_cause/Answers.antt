use Rattle.std.proofs.Common.{sym, ◌∙◌}
use Rattle.ps_parse.specs.Inner.Seen.{seen_word}
use Rattle.ps_parse.proofs.WordCauses.{globals_least, locals_least, new_none, twice_least}
use Rattle.ps_parse.proofs.passed.Passed.new_name_cause.Goals as goal

pub returns-then-knows : goal.returns-then-knows
returns-then-knows c = λ back ahead h s e d. twice_least (seen_word c.args.word) ahead h s e d (sym c.knows.ensures ∙ c.if-knows.true)

pub returns-then-has_many_globals : goal.returns-then-has_many_globals
returns-then-has_many_globals c = λ back ahead h s e d. globals_least (seen_word c.args.word) ahead h s e d (sym c.knows.ensures ∙ c.if-knows.false) (sym c.has_many_globals.ensures ∙ c.if-has_many_globals.true)

pub returns-then-has_many_locals : goal.returns-then-has_many_locals
returns-then-has_many_locals c = λ back ahead h s e d. locals_least (seen_word c.args.word) ahead h s e d (sym c.knows.ensures ∙ c.if-knows.false) (sym c.has_many_locals.ensures ∙ c.if-has_many_locals.true)

pub returns : goal.returns
returns c = λ back ahead h s e d. new_none (seen_word c.args.word) ahead h s e d (sym c.knows.ensures ∙ c.if-knows.false) (sym c.has_many_globals.ensures ∙ c.if-has_many_globals.false) (sym c.has_many_locals.ensures ∙ c.if-has_many_locals.false)
