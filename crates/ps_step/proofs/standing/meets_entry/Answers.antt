use Rattle.std.proofs.Common.{◌∙◌, sym}
use Rattle.std.proofs.lemmas.Bool.{and_parts}
use Rattle.ps_demand.specs.Demands.{agrees, is_renaming}
use Rattle.ps_step.proofs.Meeting.{one_demand_at}
use Rattle.ps_demand.proofs.Pooling.{renaming_long}
use Rattle.ps_step.proofs.standing.meets_entry.Goals as goal

pub meets_set-requires : goal.meets_set-requires
meets_set-requires c =
    renaming_long c.as_slice-numbers.result.now c.as_slice-images.result.now
    (and_parts (agrees 0 c.args.thread c.as_slice-numbers.result.now c.as_slice-images.result.now) (is_renaming c.as_slice-numbers.result.now c.as_slice-images.result.now) (sym c.renames.ensures ∙ c.if-not-renames.false)).1

pub returns-else-not-renames : goal.returns-else-not-renames
returns-else-not-renames c =
    one_demand_at c.args.thread c.args.command c.args.atom.now c.in-Triple.triple c.args.atoms.now c.meets_set.result c.renames.result c.as_slice-numbers.result.now c.as_slice-images.result.now c.as_slice.result.now c.args.entry.now
    c.in-Triple.is c.as_slice-numbers.ensures c.as_slice-images.ensures c.as_slice.ensures c.if-triple-command.false c.if-triple-atom.false c.renames.ensures c.if-not-renames.false c.meets_set.ensures
