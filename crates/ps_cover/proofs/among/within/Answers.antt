use Rattle.std.proofs.Common.{◌∙◌, sym}
use Rattle.ps_cover.proofs.Sorting.{within_from_part, part_from_within, sorted_from}
use Rattle.ps_cover.proofs.among.within.Goals as goal

pub returns : goal.returns
returns c = (
  (λ e. within_from_part c.args.small.now c.args.large.now (sym c.is_found_in.ensures ∙ e)),
  (λ w. c.is_found_in.ensures ∙ part_from_within c.args.small.now c.args.large.now (sorted_from c.args.small.now c.requires.small) (sorted_from c.args.large.now c.requires.large) w),
)
