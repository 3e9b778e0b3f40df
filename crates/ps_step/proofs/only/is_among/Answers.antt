use Rattle.std.proofs.Common.{◌≡◌, ◌∙◌, sym, true, false, arith, rules}
use Rattle.std.specs.List.Sorted.{IsPartitionPoint}
use Rattle.std.specs.Ordering.{is_eq, is_lt}
use Rattle.std.proofs.lemmas.Bool.{false≢true}
use Rattle.std.proofs.lemmas.List.Sorted.{IsPartitionPoint-from_clause}
use Rattle.ps_atom.specs.Atoms.{atom_cmp}
use Rattle.ps_atom.specs.declared.atom.Atom.{Atom}
use Rattle.ps_demand.proofs.Pooling.{parted}
use Rattle.ps_step.proofs.Alone.{found_inside, found_there, found_tied}
use Rattle.ps_step.proofs.only.is_among.Goals as goal

-- all are below it
pub returns-then-place-atoms : goal.returns-then-place-atoms
returns-then-place-atoms c = (
  λ yes. absurd (false≢true yes),
  λ has. absurd (
      let inside = found_inside c.args.atoms.now c.args.atom.now c.partition_point-place.result c.requires
      (IsPartitionPoint-from_clause (λ (y : Atom). is_lt (atom_cmp y c.args.atom.now)) _ _ c.partition_point-place.ensures.partitioned (parted c.args.atoms.now c.args.atom.now c.requires) (λ a r q k. search rules)) has in
      omega (arith, inside, c.if-place-atoms.true)),
)

pub returns : goal.returns
returns c =
    let point : IsPartitionPoint (λ (y : Atom). is_lt (atom_cmp y c.args.atom.now) ≡ true) (λ (y : Atom). is_lt (atom_cmp y c.args.atom.now) ≡ false) c.args.atoms.now c.partition_point-place.result =
    IsPartitionPoint-from_clause (λ (y : Atom). is_lt (atom_cmp y c.args.atom.now)) _ _ c.partition_point-place.ensures.partitioned (parted c.args.atoms.now c.args.atom.now c.requires) (λ a r q k. search rules) in
    let tied : c.is_eq.result ≡ is_eq (atom_cmp c.index-atoms-place.result c.args.atom.now) = search rules in (
      λ yes. found_there c.args.atoms.now c.args.atom.now c.partition_point-place.result c.index-atoms-place.result (omega (arith, c.if-place-atoms.false)) c.index-atoms-place.is (sym tied ∙ yes),
      λ has. tied ∙ found_tied c.args.atoms.now c.args.atom.now c.partition_point-place.result c.index-atoms-place.result c.requires point c.index-atoms-place.is has,
    )
