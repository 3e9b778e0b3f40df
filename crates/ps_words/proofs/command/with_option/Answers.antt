use Rattle.std.proofs.Common.{subst}
use Rattle.std.proofs.lemmas.Result.{IfOk-weaker}
use Rattle.clap.specs.Simple.{with_rule}
use Rattle.clap.specs.Walk.{Rule}
use Rattle.ps_words.proofs.Made.{made_more, rule_parses}
use Rattle.ps_words.specs.inner.Commands.{IsMade}
use Rattle.ps_words.proofs.command.with_option.Goals as goal

pub returns : goal.returns
returns c = λ app is.
    IfOk-weaker c.arg.result _ _
    (λ more added. subst (λ (r : Rule). IsMade more (with_rule app r)) c.option_arg.ensures.rule
    (made_more c.args.made more c.option_arg.result app is added c.option_arg.ensures.plain c.option_arg.ensures.local
    (rule_parses c.option_arg.result c.args.option c.option_arg.ensures.rule)))
    c.arg.ensures
