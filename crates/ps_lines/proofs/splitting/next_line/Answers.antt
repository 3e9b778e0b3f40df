use Rattle.std.proofs.Common.{arith, ◌<◌, ◌∙◌, sym, length, eq-eqb, ne_eqb}
use Rattle.ps_lines.proofs.LineList.{spanning_more, spanning_all, spanning_ends}
use Rattle.ps_lines.proofs.splitting.next_line.Goals as goal

pub returns-then-end-bytes : goal.returns-then-end-bytes
returns-then-end-bytes c = spanning_ends c.args.bytes.now c.args.start c.cutting.at c.cutting.list.items c.cutting.invariant (sym c.field_end-end.ensures.value ∙ c.if-end-bytes.true)

pub returns-then-bytes-end-eq10 : goal.returns-then-bytes-end-eq10
returns-then-bytes-end-eq10 c =
    let lt : c.field_end-end.result < length c.args.bytes.now = omega (arith, c.if-end-bytes.false) in
    rw (c.from_list.ensures, c.in_ok-push.ensures.items) (spanning_all c.args.bytes.now c.args.start c.cutting.at c.field_end-end.result c.cutting.list.items c.cutting.invariant c.field_end-end.ensures.value lt (eq-eqb _ _ c.if-bytes-end-eq10.true))

pub cutting-preserved : goal.cutting-preserved
cutting-preserved c =
    let lt : c.field_end-end.result < length c.args.bytes.now = omega (arith, c.if-end-bytes.false) in
    rw c.in_ok-push.ensures.items (spanning_more c.args.bytes.now c.args.start c.cutting.at c.field_end-end.result c.cutting.list.items c.cutting.invariant c.field_end-end.ensures.value lt (ne_eqb _ _ c.if-bytes-end-eq10.false))
