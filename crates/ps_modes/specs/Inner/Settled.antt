-- What is known of an answer before it is written.
use Rattle.std.specs.Prelude.{◌≡◌, ℕ, List, Option, IfSome}
use Rattle.ps_modes.specs.Owes.{IsOwedAnswer, IsVerdict, Owes}
use Rattle.ps_modes.specs.declared.status.Status.{Status}

-- some input, the source's own where it tells its bytes, owes this status and this text, and no others
pub record Settled (Owed : List ℕ → Status → List ℕ → Type 0) (left : Option (List ℕ)) (status : Status) (text : List ℕ) : Type 0 where
  pub input : List ℕ
  pub is : IfSome left (λ bytes. bytes ≡ input)
  pub answer : IsOwedAnswer (Owes Owed input) status text
  pub verdict : IsVerdict status
