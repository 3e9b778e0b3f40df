use Rattle.std.proofs.Common.{rules}
use Rattle.std.specs.Ordering.{is_lt}
use Rattle.std.proofs.lemmas.List.Sorted.{IsPartitionPoint-from_clause}
use Rattle.ps_atom.specs.Atoms.{atom_cmp}
use Rattle.ps_atom.specs.declared.atom.Atom.{Atom}
use Rattle.ps_demand.proofs.Pooling.{found_at, parted, place_is, place_within}
use Rattle.ps_demand.proofs.numbering.place_of.Goals as goal

pub returns-clause-within : goal.returns-clause-within
returns-clause-within c =
    place_within c.args.pool.now c.args.atom.now c.partition_point.result c.requires.there (found_at c.args.pool.now c.args.atom.now c.partition_point.result c.requires.there c.requires.ascends
    (IsPartitionPoint-from_clause (λ (y : Atom). is_lt (atom_cmp y c.args.atom.now)) _ _ c.partition_point.ensures.partitioned (parted c.args.pool.now c.args.atom.now c.requires.ascends) (λ a r q k. search rules)))

pub returns-clause-is : goal.returns-clause-is
returns-clause-is c =
    place_is c.args.pool.now c.args.atom.now c.partition_point.result c.requires.there (found_at c.args.pool.now c.args.atom.now c.partition_point.result c.requires.there c.requires.ascends
    (IsPartitionPoint-from_clause (λ (y : Atom). is_lt (atom_cmp y c.args.atom.now)) _ _ c.partition_point.ensures.partitioned (parted c.args.pool.now c.args.atom.now c.requires.ascends) (λ a r q k. search rules)))
