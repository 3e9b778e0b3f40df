use Rattle.std.proofs.Common.{◌∙◌, sym}
use Rattle.std.proofs.lemmas.Bool.{and_parts}
use Rattle.ps_demand.specs.Demands.{agrees, is_renaming}
use Rattle.ps_demand.proofs.Pooling.{renaming_long}
use Rattle.ps_demand.proofs.renaming.add_parted.Goals as goal

pub renamed_atom-requires : goal.renamed_atom-requires
renamed_atom-requires c =
    renaming_long c.as_slice-numbers.result.now c.as_slice-images.result.now
    (and_parts (agrees 0 c.args.thread c.as_slice-numbers.result.now c.as_slice-images.result.now) (is_renaming c.as_slice-numbers.result.now c.as_slice-images.result.now) (sym c.renames.ensures ∙ c.if-not-renames.false)).1

pub renamed_atoms-requires : goal.renamed_atoms-requires
renamed_atoms-requires c =
    renaming_long c.as_slice-numbers.result.now c.as_slice-images.result.now
    (and_parts (agrees 0 c.args.thread c.as_slice-numbers.result.now c.as_slice-images.result.now) (is_renaming c.as_slice-numbers.result.now c.as_slice-images.result.now) (sym c.renames.ensures ∙ c.if-not-renames.false)).1
