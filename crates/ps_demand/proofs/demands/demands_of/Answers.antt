use Rattle.std.proofs.Common.{ap, ◌∙◌}
use Rattle.ps_demand.specs.Candidates.{demanded_of, pairs_of}
use Rattle.ps_demand.proofs.PartedDemands.{all_demanded}
use Rattle.ps_demand.proofs.demands.demands_of.Goals as goal

pub returns : goal.returns
returns g c =
    c.in_ok-sets.ensures ∙ ap (λ list. demanded_of c.args.thread c.args.command (pairs_of list)) c.as_slice.ensures.value ∙ ap (demanded_of c.args.thread c.args.command) c.in_ok-candidates.ensures
    ∙ all_demanded c.args.thread c.args.command (g.B.Shown.entries c.args.basis.now) c.args.atoms.now
