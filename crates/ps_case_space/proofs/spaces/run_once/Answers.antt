use Rattle.std.proofs.Common.{◌<◌, List, ℕ, length, subst, rules}
use Rattle.std.proofs.lemmas.Bool.{lt-ltb}
use Rattle.ps_case_space.proofs.Once.{named_once}
use Rattle.ps_case_space.proofs.spaces.run_once.Goals as goal

pub invariant_of-result : goal.invariant_of-result
invariant_of-result c =
    let some : 0 < length c.as_slice.result.now = search rules in
    record {
      numbers = named_once c.args.graph.locations c.args.graph.edges c.args.graph.entries c.args.graph.once _ c.args.graph.owner c.args.graph.setting.commands c.args.graph.numbers
          (lt-ltb 0 (length c.args.graph.entries) (subst (λ (entries : List ℕ). 0 < length entries) c.as_slice.ensures some));
      entries_own = c.args.graph.entries_own;
      error_final = c.args.graph.error_final;
      picks = c.args.graph.picks;
      stays = c.args.graph.stays;
      deterministic = c.args.graph.deterministic;
    }
