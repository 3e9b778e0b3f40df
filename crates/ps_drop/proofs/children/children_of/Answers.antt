use Rattle.std.proofs.Common.{ltb, leb, rules}
use Rattle.std.proofs.lemmas.List.Sorted.{IsPartitionedBy-ltb, IsPartitionedBy-leb, IsPartitionPoint-from_clause}
use Rattle.ps_drop.specs.declared.pair.Pair.{Pair}
use Rattle.ps_drop.proofs.Siblings.{are_siblings, rest_sorted}
use Rattle.ps_drop.proofs.children.children_of.Goals as goal

pub returns : goal.returns
returns c =
    are_siblings c.args.sorted.now c.args.parent c.partition_point-first.result c.partition_point-count.result
    (IsPartitionPoint-from_clause (λ (p : Pair). ltb p.other c.args.parent) _ _ c.partition_point-first.ensures.partitioned (IsPartitionedBy-ltb (λ (p : Pair). p.other) c.args.sorted.now c.args.parent c.requires) (λ a r q k. search rules))
    c.partition_point-count.ensures.bound
    (IsPartitionPoint-from_clause (λ (p : Pair). leb p.other c.args.parent) _ _ c.partition_point-count.ensures.partitioned (IsPartitionedBy-leb (λ (p : Pair). p.other) _ c.args.parent (rest_sorted c.args.sorted.now c.partition_point-first.result c.requires)) (λ a r q k. search rules))
