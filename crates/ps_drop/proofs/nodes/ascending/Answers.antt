use Rattle.std.proofs.Common.{◌≡◌, ℕ, List, sym, subst, rules}
use Rattle.std.specs.List.Sorted.{IsStrictlyIncreasing}
use Rattle.std.proofs.lemmas.Result.{IfOk-weaker}
use Rattle.std.proofs.lemmas.Map.Keys.{IsStrictlyIncreasing-from_sorted}
use Rattle.ps_drop.proofs.nodes.ascending.Goals as goal

-- the keys of a set ascend
pub returns-clause-ascending : goal.returns-clause-ascending
returns-clause-ascending c =
    IfOk-weaker c.collect.result (λ list. list.items ≡ c.args.nodes.now.keys) (λ list. IsStrictlyIncreasing list.items)
    (λ list same. subst (λ (keys : List ℕ). IsStrictlyIncreasing keys) (sym same) (IsStrictlyIncreasing-from_sorted c.args.nodes.now.keys c.iter.ensures.ordered)) (search rules)
