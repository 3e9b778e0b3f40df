use Rattle.std.proofs.Common.{◌≡◌, ℕ, List}
use Rattle.ps_modes.proofs.Answering.{one_owes}
use Rattle.ps_modes.proofs.Checking as check
use Rattle.ps_modes.proofs.Owing as refute
use Rattle.ps_modes.proofs.Proving as member
use Rattle.ps_modes.proofs.Replaying as replay
use Rattle.ps_modes.specs.Modes.{owed_by}
use Rattle.ps_words.specs.declared.mode.Mode.{Mode}
use Rattle.ps_words.specs.declared.mode.Mode.TheVariants.{Refute, Replay, Check, Member}
use Rattle.ps_modes.specs.declared.status.Status.{Status}
use Rattle.ps_modes.proofs.laws.one_answer_is_owed.Goals as goal

-- each mode owes one answer at most
each_one : (mode : Mode) (input : List ℕ) (s t : Status) (x y : List ℕ) → owed_by mode input s x → owed_by mode input t y → (s ≡ t) × (x ≡ y)
each_one Refute = refute.one_owed
each_one Replay = replay.one_owed
each_one Check = check.one_owed
each_one Member = member.one_owed

pub returns : goal.returns
returns c = λ mode input. one_owes (owed_by mode) input (each_one mode input)
