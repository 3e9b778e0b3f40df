use Rattle.std.proofs.Common.{◌+◌, ◌-◌, drop, arith}
use Rattle.std.proofs.lemmas.List.{length-take}
use Rattle.ps_token.proofs.Cuts.{place_is_below, moved_more}
use Rattle.ps_token.proofs.tokenizing.place_at.Goals as goal

pub next_place-moved-requires-clause-line : goal.next_place-moved-requires-clause-line
next_place-moved-requires-clause-line c =
    let h = place_is_below c.args.bytes.now (c.args.from + c.loop-byte.byte-index) c.loop-byte.moved c.loop-byte.invariant in
    omega (arith, length-take (c.args.to - c.args.from) (drop c.args.from c.args.bytes.now))

pub next_place-moved-requires-clause-column : goal.next_place-moved-requires-clause-column
next_place-moved-requires-clause-column c =
    let h = place_is_below c.args.bytes.now (c.args.from + c.loop-byte.byte-index) c.loop-byte.moved c.loop-byte.invariant in
    omega (arith, length-take (c.args.to - c.args.from) (drop c.args.from c.args.bytes.now))

pub loop-byte-preserved : goal.loop-byte-preserved
loop-byte-preserved c = moved_more c.args.bytes.now c.args.from c.args.to c.loop-byte.byte-index c.loop-byte.moved c.next_place-moved.result c.requires.inside c.loop-byte-test.true c.loop-byte.invariant c.next_place-moved.ensures
