use Rattle.std.proofs.Common.{rules, ap, ◌∙◌}
use Rattle.std.specs.Ordering.{is_eq, is_lt}
use Rattle.std.proofs.lemmas.List.Sorted.{IsPartitionPoint-from_clause}
use Rattle.ps_atom.specs.Atoms.{atom_cmp}
use Rattle.ps_atom.specs.declared.atom.Atom.{Atom}
use Rattle.ps_demand.proofs.Pooling.{parted}
use Rattle.ps_member.proofs.Knowing.{among_at, among_end}
use Rattle.ps_member.proofs.known.is_among.Goals as goal

pub returns-in-Some : goal.returns-in-Some
returns-in-Some c =
    c.is_eq.ensures ∙ (ap is_eq c.compare.ensures ∙ among_at c.args.known.now c.args.atom.now c.in-Some.other.now c.partition_point-place.result c.requires
    (IsPartitionPoint-from_clause (λ (y : Atom). is_lt (atom_cmp y c.args.atom.now)) _ _ c.partition_point-place.ensures.partitioned (parted c.args.known.now c.args.atom.now c.requires) (λ a r q k. search rules)) c.in-Some.ensures.lookup.3.0 c.in-Some.ensures.lookup.1)

pub returns-in-None : goal.returns-in-None
returns-in-None c =
    among_end c.args.known.now c.args.atom.now c.partition_point-place.result c.requires
    (IsPartitionPoint-from_clause (λ (y : Atom). is_lt (atom_cmp y c.args.atom.now)) _ _ c.partition_point-place.ensures.partitioned (parted c.args.known.now c.args.atom.now c.requires) (λ a r q k. search rules)) c.in-None.ensures.lookup.3
