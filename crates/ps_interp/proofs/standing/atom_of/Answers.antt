use Rattle.std.proofs.Common.{refl, subst}
use Rattle.ps_atom.specs.declared.place.Place128.{Place128}
use Rattle.ps_atom.specs.Places.{IsPlaceOf}
use Rattle.ps_interp.proofs.Taking.{placed_known, placed_new}
use Rattle.ps_interp.proofs.standing.atom_of.Goals as goal

pub returns-in-Known-clause-placed : goal.returns-in-Known-clause-placed
returns-in-Known-clause-placed c =
    placed_known c.args.table.now c.args.row.now c.args.table.now c.in-Known.number c.in-Known.threads (record { predicate = c.in-Known.number; threads = c.in-Known.threads }) refl
    (subst (λ (p : Place128). IsPlaceOf c.args.table.now c.args.row.now p) c.in-Known.is c.in_ok-number_of.ensures.place) refl refl

pub returns-in-Ok-clause-placed : goal.returns-in-Ok-clause-placed
returns-in-Ok-clause-placed c =
    placed_new c.args.table.now c.args.row.now c.push.new.self c.in-New.predicate c.in-New.threads (record { predicate = c.in-Ok.number; threads = c.in-New.threads }) c.in-Ok.ensures.appended
    (subst (λ (p : Place128). IsPlaceOf c.args.table.now c.args.row.now p) c.in-New.is c.in_ok-number_of.ensures.place) c.in-Ok.ensures.number refl
