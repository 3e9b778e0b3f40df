use Rattle.std.proofs.Common.{sym, ◌∙◌}
use Rattle.ps_elim.proofs.Kept.{same_by_supports}
use Rattle.ps_elim.proofs.Order.{differs_unless_same}
use Rattle.ps_elim.proofs.filter.differs.Goals as goal

pub is_less-requires : goal.is_less-requires
is_less-requires g c = c.requires.0.long ∙ sym c.requires.1.long

pub is_less-requires-else-is_less : goal.is_less-requires-else-is_less
is_less-requires-else-is_less g c = c.requires.1.long ∙ sym c.requires.0.long

pub returns-then-not-is_same : goal.returns-then-not-is_same
returns-then-not-is_same g c =
    let u = c.args.other.now in
    let v = c.args.weighted.now in
    let same = same_by_supports u.vector v.vector u.support v.support c.is_same.result c.requires.0.support c.requires.1.support c.is_same.ensures in
    sym (differs_unless_same u.vector v.vector (sym same ∙ c.if-not-is_same.true))
