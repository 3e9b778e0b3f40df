use Rattle.ps_triple.proofs.Counts.{counted}
use Rattle.ps_triple.proofs.rows.row_count.Goals as goal

pub returns-in-Initial : goal.returns-in-Initial
returns-in-Initial c =
    counted c.args.setting.now c.args.predicates.now c.args.entry.now c.in-Initial.initial c.index-predicates-initial.result c.as_slice-in-Initial.result.now c.as_slice-in-Initial-2.result.now
    c.in-Initial.is c.requires.names c.as_slice-in-Initial.ensures c.as_slice-in-Initial-2.ensures
