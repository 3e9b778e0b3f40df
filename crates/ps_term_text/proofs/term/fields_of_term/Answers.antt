use Rattle.ps_term_text.proofs.Exact.{pairs_canonical}
use Rattle.ps_term_text.proofs.term.fields_of_term.Goals as goal

pub from_list-pairs-requires : goal.from_list-pairs-requires
from_list-pairs-requires c = pairs_canonical c.args.reader.now c.list.new.reader c.in_ok-pairs.pairs.items c.in_ok-pairs.ensures
