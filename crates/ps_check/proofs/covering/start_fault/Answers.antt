use Rattle.ps_check.proofs.Viewing.{covered_views, first_views}
use Rattle.ps_check.proofs.Firsts.{first_start}
use Rattle.ps_config.specs.Forms.{start_configuration}
use Rattle.ps_check.proofs.covering.start_fault.Goals as goal

pub returns-in-None : goal.returns-in-None
returns-in-None c = record {
  named = c.requires.named;
  first = covered_views c.args.graph.now c.args.proof.now c.args.front.now c.args.configs.now c.in_ok-start.start start_configuration c.requires.front c.requires.configs c.in_ok-start.ensures (rw c.in-None.is at c.in_ok-first_uncovered.ensures);
}

pub returns : goal.returns
returns c =
    first_start c.args.graph.now c.args.proof.now c.in-Some.step c.requires.named
    (first_views c.args.graph.now c.args.proof.now c.args.front.now c.args.configs.now c.in_ok-start.start start_configuration c.in-Some.step c.requires.front c.requires.configs c.in_ok-start.ensures (rw c.in-Some.is at c.in_ok-first_uncovered.ensures))
