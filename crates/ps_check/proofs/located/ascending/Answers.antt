use Rattle.std.proofs.Common.{ℕ, List, subst}
use Rattle.std.specs.List.Sorted.{IsPermutation}
use Rattle.ps_check.proofs.located.ascending.Goals as goal

pub returns : goal.returns
returns c = subst (λ (ns : List ℕ). IsPermutation ns c.sort_unstable.new.self.items) c.in_ok-locations.ensures c.sort_unstable.ensures.permutation
