use Rattle.std.specs.Prelude.{codes}
use Rattle.std.proofs.lemmas.Result.{IfOk-equal}
use Rattle.ps_atom_text.proofs.Printed.{config_put}
use Rattle.ps_atom_text.proofs.printing.put_config_fields.Goals as goal

pub returns : goal.returns
returns c =
    IfOk-equal c.put_atoms.result _ _ _ c.put_atoms.ensures
    (config_put c.args.out.now.items c.put_field.new.out.items c.put_places.new.out.items c.put_field-2.new.out.items (codes "at") (codes "has") c.at.result.now c.args.config.now.at c.atoms.result.now c.args.config.now.atoms
    c.in_ok-put_field.ensures c.in_ok-put_places.ensures c.at.ensures.list c.in_ok-put_field-2.ensures c.atoms.ensures.list)
