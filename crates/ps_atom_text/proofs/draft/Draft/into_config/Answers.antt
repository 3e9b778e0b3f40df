use Rattle.ps_atom_text.proofs.InForm.{config_from, in_form_is}
use Rattle.ps_atom_text.proofs.draft.Draft.into_config.Goals as goal
use Rattle.ps_config.specs.Configurations.{Configuration}

pub new-requires : goal.new-requires
new-requires c =
    let all : Configuration = record { at = c.self.inside.at.items; atoms = c.self.inside.atoms.items } in
    config_from all (in_form_is all all c.self.invariant.form).0
