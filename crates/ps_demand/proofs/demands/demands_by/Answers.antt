use Rattle.std.proofs.Common.{ap, sym, ◌∙◌, take}
use Rattle.ps_demand.specs.Candidates.{demanded_of, pairs_of}
use Rattle.ps_demand.proofs.PartedDemands.{pair_at, sets_more}
use Rattle.ps_demand.proofs.demands.demands_by.Goals as goal

pub loop-candidate-preserved : goal.loop-candidate-preserved
loop-candidate-preserved c =
    let item = c.candidate-item.result in
    sets_more c.args.thread c.args.command (pairs_of (take c.loop-candidate.candidate-index c.args.candidates.now)) (item.atom.now, item.entry.now) _ _ c.in_ok-add_demand.ensures c.loop-candidate.invariant
    ∙ ap (λ ps. demanded_of c.args.thread c.args.command ps) (sym (pair_at c.args.candidates.now c.loop-candidate.candidate-index item c.loop-candidate-test.true c.candidate-item.is))
