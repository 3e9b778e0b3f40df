use Rattle.std.proofs.Common.{sym, ◌∙◌}
use Rattle.ps_parse.specs.Inner.Seen.{seen_word}
use Rattle.ps_token.specs.declared.token_kind.TokenKind.TheVariants as kind
use Rattle.ps_parse.proofs.Steps.{one_kind}
use Rattle.ps_parse.proofs.WordCauses.{loop_least, loop_none}
use Rattle.ps_parse.proofs.passed.Passed.loop_cause.Goals as goal

pub returns-then-is_atomic : goal.returns-then-is_atomic
returns-then-is_atomic c = λ back ahead h e. loop_least (seen_word c.args.word) ahead h (one_kind c.args.word.kind kind.While e) (sym c.is_atomic.ensures ∙ c.if-is_atomic.true)

pub returns : goal.returns
returns c = λ back ahead h e. loop_none (seen_word c.args.word) ahead h (one_kind c.args.word.kind kind.While e) (sym c.is_atomic.ensures ∙ c.if-is_atomic.false)
