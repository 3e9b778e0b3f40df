-- What rows and multipliers owe by themselves.
use Rattle.std.specs.Prelude.{◌≡◌, ℕ, List}
use Rattle.ps_farkas.specs.Refutes.{AllSumsFit, Refutes}
use Rattle.ps_rows.specs.declared.claim.Claim.{Claim}
use Rattle.ps_modes.specs.declared.status.Status.{Status}
use Rattle.ps_modes.specs.declared.status.Status.TheVariants.{Holds, Fails, BadInput}
use Rattle.ps_modes.specs.declared.texts.TheConstants.{YES, NO, PAST}

-- what a claim alone owes
pub data Judged (claim : Claim) (status : Status) (text : List ℕ) : Type 0 where
  Refuting : AllSumsFit claim.rows claim.multipliers → Refutes claim.rows claim.multipliers → status ≡ Holds → text ≡ YES.now → Judged claim status text
  NotRefuting : AllSumsFit claim.rows claim.multipliers → ¬ Refutes claim.rows claim.multipliers → status ≡ Fails → text ≡ NO.now → Judged claim status text
  PastSums : ¬ AllSumsFit claim.rows claim.multipliers → status ≡ BadInput → text ≡ PAST.now → Judged claim status text
