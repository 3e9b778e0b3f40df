use Rattle.std.proofs.Common.{length}
use Rattle.ps_check.proofs.Indexing.{located_sorted}
use Rattle.ps_check.proofs.located.by_locations.Goals as goal

pub returns : goal.returns
returns c =
    located_sorted c.args.configs.now (length c.args.configs.now) c.in_ok-located.located.items c.sort_unstable_by.new.self.items c.in_ok-located.ensures c.sort_unstable_by.ensures.permutation
