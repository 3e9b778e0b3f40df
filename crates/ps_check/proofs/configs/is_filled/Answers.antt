use Rattle.std.proofs.Common.{◌==◌, length, get_or, refl, sym, ap, arith}
use Rattle.ps_atom.specs.declared.predicate.Predicate.{Predicate}
use Rattle.ps_check.proofs.Naming.{filled_is}
use Rattle.ps_check.proofs.configs.is_filled.Goals as goal

pub returns : goal.returns
returns c =
    filled_is c.args.setting.now c.args.table.now c.requires c.args.atom.now c.args.atom.now.predicate c.index-table-number.result c.as_slice.result.now
    ((get_or c.args.table.now c.args.atom.now.predicate c.index-table-number.result).arity == length c.as_slice.result.now)
    refl (omega arith) c.index-table-number.is c.as_slice.ensures (ap (λ (p : Predicate). p.arity == length c.as_slice.result.now) (sym c.index-table-number.is))
