use Rattle.ps_farkas.proofs.Examples.{refuted, not_alone, not_short}
use Rattle.ps_farkas.proofs.worked.rows_apart_are_refuted.Goals as goal

pub returns-clause-both : goal.returns-clause-both
returns-clause-both c = refuted

pub returns-clause-alone : goal.returns-clause-alone
returns-clause-alone c = not_alone

pub returns-clause-short : goal.returns-clause-short
returns-clause-short c = not_short
