use Rattle.std.proofs.Common.{◌<◌, length, arith}
use Rattle.ps_token.proofs.Cuts.{cut_more, cut_all, cut_bad}
use Rattle.ps_token.proofs.OneCut.{each_inside}
use Rattle.ps_token.proofs.tokenizing.tokens.Goals as goal

pub returns-then-start-bytes-clause-tokens : goal.returns-then-start-bytes-clause-tokens
returns-then-start-bytes-clause-tokens c = cut_all c.args.bytes.now c.cutting.at c.gap_end-start.result c.cutting.list.items c.cutting.place c.cutting.invariant c.gap_end-start.ensures.value c.if-start-bytes.true

pub cutting-preserved : goal.cutting-preserved
cutting-preserved c =
    rw c.in_ok-push-in-Some.ensures.items
    (cut_more c.args.bytes.now c.cutting.at c.gap_end-start.result c.in-Some.end c.cutting.list.items c.cutting.place c.place_at-place.result c.place_at-place-in-Some.result c.in-Some.kind c.cutting.invariant c.gap_end-start.ensures.value c.place_at-place.ensures c.in-Some.ensures c.place_at-place-in-Some.ensures)

pub returns-in-None-clause-bad : goal.returns-in-None-clause-bad
returns-in-None-clause-bad c =
    let inside : c.gap_end-start.result < length c.args.bytes.now = omega (arith, c.if-start-bytes.false, c.gap_end-start.ensures.inside) in
    cut_bad c.args.bytes.now c.cutting.at c.gap_end-start.result c.cutting.list.items c.cutting.place c.place_at-place.result c.cutting.invariant c.gap_end-start.ensures.value inside c.place_at-place.ensures c.in-None.ensures

pub returns-then-start-bytes-clause-inside : goal.returns-then-start-bytes-clause-inside
returns-then-start-bytes-clause-inside c = each_inside c.args.bytes.now c.cutting.list.items (cut_all c.args.bytes.now c.cutting.at c.gap_end-start.result c.cutting.list.items c.cutting.place c.cutting.invariant c.gap_end-start.ensures.value c.if-start-bytes.true)
