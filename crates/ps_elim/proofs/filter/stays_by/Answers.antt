use Rattle.std.proofs.Common.{not, sym, ap, ◌∙◌}
use Rattle.ps_elim.specs.Supports.{is_inside, is_less}
use Rattle.ps_elim.proofs.Kept.{by_order, by_outside, by_strict, inside_by_supports}
use Rattle.ps_elim.proofs.filter.stays_by.Goals as goal

pub returns-then-not-inside : goal.returns-then-not-inside
returns-then-not-inside g c =
    let u = c.args.other.now in
    let v = c.args.weighted.now in
    let inside = inside_by_supports u.vector v.vector u.support v.support c.inside.result c.requires.0.support c.requires.1.support c.inside.ensures in
    by_outside (is_inside u.vector v.vector) (is_inside v.vector u.vector) (is_less u.vector v.vector) (sym inside ∙ c.if-not-inside.true)

pub returns-then-not-inside-2 : goal.returns-then-not-inside-2
returns-then-not-inside-2 g c =
    let u = c.args.other.now in
    let v = c.args.weighted.now in
    let inside = inside_by_supports u.vector v.vector u.support v.support c.inside.result c.requires.0.support c.requires.1.support c.inside.ensures in
    let around = inside_by_supports v.vector u.vector v.support u.support c.inside-2.result c.requires.1.support c.requires.0.support c.inside-2.ensures in
    by_strict (is_inside u.vector v.vector) (is_inside v.vector u.vector) (is_less u.vector v.vector) (sym inside ∙ c.if-not-inside.false) (sym around ∙ c.if-not-inside-2.true)

pub is_less-requires : goal.is_less-requires
is_less-requires g c = c.requires.0.long ∙ sym c.requires.1.long

pub returns : goal.returns
returns g c =
    let u = c.args.other.now in
    let v = c.args.weighted.now in
    let inside = inside_by_supports u.vector v.vector u.support v.support c.inside.result c.requires.0.support c.requires.1.support c.inside.ensures in
    let around = inside_by_supports v.vector u.vector v.support u.support c.inside-2.result c.requires.1.support c.requires.0.support c.inside-2.ensures in
    ap not c.is_less.ensures ∙ by_order (is_inside u.vector v.vector) (is_inside v.vector u.vector) (is_less u.vector v.vector) (sym inside ∙ c.if-not-inside.false) (sym around ∙ c.if-not-inside-2.false)
