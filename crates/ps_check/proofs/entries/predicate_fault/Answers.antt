use Rattle.std.proofs.Common.{◌+◌, arith}
use Rattle.std.proofs.lemmas.Bool.{both_ways}
use Rattle.ps_check.proofs.Before.{before_all, before_more, before_none, past_all, read_at}
use Rattle.ps_check.proofs.Firsts.{InRange, first_predicate}
use Rattle.ps_check.proofs.entries.predicate_fault.Goals as goal

pub loop-place-init : goal.loop-place-init
loop-place-init c = before_none (InRange c.args.graph.now c.args.proof.now) c.args.proof.now.predicates

pub returns-then-not-is_in_range : goal.returns-then-not-is_in_range
returns-then-not-is_in_range c =
    first_predicate c.args.graph.now c.args.proof.now c.loop-place.place (c.loop-place.place + 1) c.index-predicates-place.result (omega arith) c.loop-place.invariant
    (read_at c.args.proof.now.predicates c.as_slice-predicates.result.now c.count_of-count.result c.loop-place.place c.index-predicates-place.result c.as_slice-predicates.ensures c.count_of-count.ensures c.loop-place-test.true c.index-predicates-place.is)
    (λ h. both_ways c.is_in_range.result c.if-not-is_in_range.true (c.is_in_range.ensures.1 h))

pub loop-place-preserved : goal.loop-place-preserved
loop-place-preserved c =
    before_more (InRange c.args.graph.now c.args.proof.now) c.args.proof.now.predicates c.loop-place.place c.index-predicates-place.result c.loop-place.invariant
    (read_at c.args.proof.now.predicates c.as_slice-predicates.result.now c.count_of-count.result c.loop-place.place c.index-predicates-place.result c.as_slice-predicates.ensures c.count_of-count.ensures c.loop-place-test.true c.index-predicates-place.is)
    (c.is_in_range.ensures.0 c.if-not-is_in_range.false)

pub returns : goal.returns
returns c =
    before_all (InRange c.args.graph.now c.args.proof.now) c.args.proof.now.predicates c.loop-place.place c.loop-place.invariant
    (past_all c.args.proof.now.predicates c.as_slice-predicates.result.now c.count_of-count.result c.loop-place.place c.as_slice-predicates.ensures c.count_of-count.ensures c.loop-place-test.false)
