use Rattle.std.proofs.Common.{arith}
use Rattle.std.proofs.lemmas.Int.{ints}
use Rattle.ps_term.proofs.Ceilings.{ceiling_of_negative}
use Rattle.ps_term.proofs.worked.rows.Goals as goal

pub returns-clause-holds : goal.returns-clause-holds
returns-clause-holds c = (omega (arith, ints), (λ h. omega (arith, ints, h)))

pub returns-clause-rounded : goal.returns-clause-rounded
returns-clause-rounded c = (
  record { reaches = omega (arith, ints); least = λ m h. omega (arith, ints, h) },
  ceiling_of_negative 7 2 (omega arith),
  (λ h. omega (arith, ints, h.reaches)),
)
