use Rattle.std.proofs.Common.{ap, sym, ◌∙◌, take}
use Rattle.std.specs.List.{filter, filter_map}
use Rattle.ps_demand.specs.Candidates.{demanded_of, has_no_only, only_atom, pairs_of}
use Rattle.ps_demand.proofs.PartedDemands.{alone_more, others_more, pair_at}
use Rattle.ps_demand.proofs.parting.parted_demands.Goals as goal

pub loop-candidate-preserved : goal.loop-candidate-preserved
loop-candidate-preserved c =
    let pairs = pairs_of (take c.loop-candidate.candidate-index c.args.candidates.now) in
    let item = c.candidate-item.result in
    let at = pair_at c.args.candidates.now c.loop-candidate.candidate-index item c.loop-candidate-test.true c.candidate-item.is in
    record {
      alone = alone_more only_atom c.args.thread c.args.command pairs (item.atom.now, item.entry.now) c.loop-candidate.parted.alone.items c.add_parted.new.parted.alone.items c.in_ok-add_parted.ensures.alone c.loop-candidate.invariant.alone
          ∙ ap (λ ps. filter_map only_atom (demanded_of c.args.thread c.args.command ps)) (sym at);
      others = others_more has_no_only c.args.thread c.args.command pairs (item.atom.now, item.entry.now) _ _ c.in_ok-add_parted.ensures.others c.loop-candidate.invariant.others
          ∙ ap (λ ps. filter has_no_only (demanded_of c.args.thread c.args.command ps)) (sym at);
    }
