use Rattle.std.proofs.Common.{sym, ◌∙◌}
use Rattle.ps_parse.specs.Inner.Seen.{seen_word}
use Rattle.ps_token.specs.declared.token_kind.TokenKind.TheVariants as kind
use Rattle.ps_parse.proofs.Steps.{one_kind}
use Rattle.ps_parse.proofs.WordCauses.{known_none, unknown_least}
use Rattle.ps_parse.proofs.passed.Passed.name_cause.Goals as goal

pub returns-then-knows : goal.returns-then-knows
returns-then-knows c = λ back ahead h s e. known_none (seen_word c.args.word) ahead h s (one_kind c.args.word.kind kind.Name e) (sym c.multiplies.ensures ∙ c.if-multiplies.false) (sym c.declares.ensures ∙ c.if-declares.false) (sym c.knows.ensures ∙ c.if-knows.true)

pub returns : goal.returns
returns c = λ back ahead h s e. unknown_least (seen_word c.args.word) ahead h s (one_kind c.args.word.kind kind.Name e) (sym c.multiplies.ensures ∙ c.if-multiplies.false) (sym c.declares.ensures ∙ c.if-declares.false) (sym c.knows.ensures ∙ c.if-knows.false)
