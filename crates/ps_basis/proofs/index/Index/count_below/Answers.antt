use Rattle.std.proofs.Common.{List, rules, subst, sym}
use Rattle.std.specs.List.Sorted.{IsPartitionedBy}
use Rattle.std.specs.Ordering.{is_lt}
use Rattle.std.proofs.lemmas.List.Sorted.{IsPartitionPoint-from_clause}
use Rattle.ps_basis.specs.declared.place.Place.{Place}
use Rattle.ps_basis.specs.inner.Index.{place_cmp}
use Rattle.ps_basis.proofs.Indexing.{IsPoint, parted}
use Rattle.ps_basis.proofs.index.Index.count_below.Goals as goal

pub returns-clause-point : goal.returns-clause-point
returns-clause-point c =
    subst (λ (places : List Place). IsPoint places c.args.place.now c.partition_point.result) c.deref.ensures.value
    (IsPartitionPoint-from_clause (λ (p : Place). is_lt (place_cmp p c.args.place.now)) _ _ c.partition_point.ensures.partitioned
    (subst (λ (places : List Place). IsPartitionedBy (λ (p : Place). is_lt (place_cmp p c.args.place.now)) places) (sym c.deref.ensures.value) (parted _ c.args.place.now c.requires)) (λ a r q k. search rules))
