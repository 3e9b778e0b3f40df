use Rattle.std.proofs.Common.{refl, lit≤}
use Rattle.ps_token.proofs.Examples.{reserved_is_no_name, longer_is_a_name, nineteen_digits}
use Rattle.ps_token.proofs.worked.words.Goals as goal

pub returns-clause-names : goal.returns-clause-names
returns-clause-names c = (reserved_is_no_name, longer_is_a_name)

pub returns-clause-numbers : goal.returns-clause-numbers
returns-clause-numbers c = (record { digits = refl; some = lit≤ tt; few = lit≤ tt }, nineteen_digits)

pub returns-clause-places : goal.returns-clause-places
returns-clause-places c = (refl, refl)
