use Rattle.std.proofs.Common.{sym, subst}
use Rattle.ps_term.specs.Pairs.{IsCanonical}
use Rattle.ps_atom.specs.Atoms.{at_threads}
use Rattle.ps_triple.proofs.Renewed.{pairs_canonical}
use Rattle.ps_triple.proofs.placing.place.Goals as goal

pub from_list-requires : goal.from_list-requires
from_list-requires c = subst IsCanonical (sym c.in_ok-list.ensures) (pairs_canonical (at_threads c.args.threads.now) c.as_slice.result.now)
