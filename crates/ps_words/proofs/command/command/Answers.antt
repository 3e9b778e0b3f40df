-- Each step adds one argument.
use Rattle.std.proofs.Common.{codes, subst}
use Rattle.clap.specs.Simple.{App, new_app, with_rule}
use Rattle.clap.specs.Walk.{Rule}
use Rattle.ps_words.proofs.Made.{made_more, made_new, mode_parses}
use Rattle.ps_words.specs.Command.{mode_rule}
use Rattle.ps_words.specs.inner.Commands.{IsMade}
use Rattle.ps_words.proofs.command.command.Goals as goal

pub returns : goal.returns
returns c =
    let start : App = new_app (codes "proofspace") in
    let bare : IsMade c.new.result start = made_new c.new.result start c.new.ensures.app c.new.ensures.empty.0 c.new.ensures.empty.1 c.new.ensures.local in
    let first : IsMade c.in_ok-made.made (with_rule start mode_rule) =
    subst (λ (r : Rule). IsMade c.in_ok-made.made (with_rule start r)) c.mode_arg.ensures.rule
    (made_more c.new.result c.in_ok-made.made c.mode_arg.result start bare c.in_ok-made.ensures c.mode_arg.ensures.plain c.mode_arg.ensures.local
    (mode_parses c.mode_arg.result c.mode_arg.ensures.rule)) in
    c.with_option-6.ensures _
    (c.in_ok-made-6.ensures _ (c.in_ok-made-5.ensures _ (c.in_ok-made-4.ensures _ (c.in_ok-made-3.ensures _ (c.in_ok-made-2.ensures _ first)))))
