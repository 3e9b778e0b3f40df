use Rattle.ps_atom.proofs.Ranges.{canonical_in_range}
use Rattle.ps_atom.proofs.laws.canonical_is_in_range.Goals as goal

pub returns : goal.returns
returns c = λ globals locals threads is few known.
    canonical_in_range globals locals c.args.row.now c.args.predicate.now threads is few known
