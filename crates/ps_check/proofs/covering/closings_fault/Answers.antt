use Rattle.ps_check.proofs.Before.{before_all, before_none, past_all}
use Rattle.ps_check.proofs.Firsts.{accepted_of}
use Rattle.ps_check.specs.inner.Stages.{IsClosedAt}
use Rattle.ps_check.proofs.covering.closings_fault.Goals as goal

pub loop-number-init : goal.loop-number-init
loop-number-init c = before_none (IsClosedAt c.args.graph.now c.args.proof.now.entries c.args.proof.now.configs) c.args.proof.now.configs

pub returns : goal.returns
returns c =
    accepted_of c.args.graph.now c.args.proof.now c.requires.start
    (before_all (IsClosedAt c.args.graph.now c.args.proof.now.entries c.args.proof.now.configs) c.args.proof.now.configs c.loop-number.number c.loop-number.invariant
    (past_all c.args.proof.now.configs c.as_slice.result.now c.count_of-count.result c.loop-number.number c.as_slice.ensures c.count_of-count.ensures c.loop-number-test.false))
