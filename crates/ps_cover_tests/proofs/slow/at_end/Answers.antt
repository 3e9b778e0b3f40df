use Rattle.std.proofs.Common.{◌∙◌, sym}
use Rattle.ps_cover.specs.inner.Rests.{large_of}
use Rattle.ps_cover_tests.proofs.Trying.{none_at_end, least_at_end}
use Rattle.ps_cover_tests.proofs.slow.at_end.Goals as goal

pub returns-then-not-embeds-clause-none : goal.returns-then-not-embeds-clause-none
returns-then-not-embeds-clause-none c =
    none_at_end c.args.small.now (large_of c.args.at.now c.args.atoms.now) c.args.threads.now c.args.to.now c.requires.threads (sym c.embeds.ensures ∙ c.if-not-embeds.true)

pub returns-clause-some : goal.returns-clause-some
returns-clause-some c =
    least_at_end c.args.small.now (large_of c.args.at.now c.args.atoms.now) c.args.threads.now c.args.to.now _ c.requires.threads c.requires.long (sym c.embeds.ensures ∙ c.if-not-embeds.false) c.in_ok-from_slice.ensures.items
