-- What the modes owe to their inputs.
use Rattle.std.specs.Prelude.{◌≡◌, ℕ, List}
use Rattle.ps_check.specs.declared.fault.CheckFault.{CheckFault}
use Rattle.ps_modes.specs.Check as check
use Rattle.ps_modes.specs.Check.{SaysAccepted, SaysFault}
use Rattle.ps_modes.specs.CheckTexts.{not_accepted_line}
use Rattle.ps_modes.specs.Member as member
use Rattle.ps_modes.specs.Member.{SaysProved, SaysUnproved}
use Rattle.ps_modes.specs.Refute as refute
use Rattle.ps_modes.specs.Refute.{SaysYes, SaysNo}
use Rattle.ps_modes.specs.Replay as replay
use Rattle.ps_modes.specs.Replay.{SaysReached, SaysUnreached}
use Rattle.ps_modes.specs.declared.status.Status.{Status}
use Rattle.ps_modes.specs.declared.texts.TheConstants.{ACCEPTED, NO, YES}
use Rattle.ps_words.specs.declared.mode.Mode.{Mode}
use Rattle.ps_words.specs.declared.mode.Mode.TheVariants.{Refute, Replay, Check, Member}

-- the statuses and texts that a mode owes to an input that isn't too long
abbrev pub owed_by : Mode → List ℕ → Status → List ℕ → Type 0
owed_by Refute = refute.Owed
owed_by Replay = replay.Owed
owed_by Check = check.Owed
owed_by Member = member.Owed

-- the input says what the mode asks for, and this is the answer to it
abbrev pub SaysSo : Mode → List ℕ → List ℕ → Type 0
SaysSo Refute input text = SaysYes input × (text ≡ YES.now)
SaysSo Replay input text = SaysReached input × (text ≡ YES.now)
SaysSo Check input text = SaysAccepted input × (text ≡ ACCEPTED.now)
SaysSo Member input text = SaysProved input × (text ≡ YES.now)

-- the input says that it isn't so, and this is the answer to it
abbrev pub SaysNotSo : Mode → List ℕ → List ℕ → Type 0
SaysNotSo Refute input text = SaysNo input × (text ≡ NO.now)
SaysNotSo Replay input text = SaysUnreached input × (text ≡ NO.now)
SaysNotSo Check input text = (fault : CheckFault) × SaysFault input fault × (text ≡ not_accepted_line fault)
SaysNotSo Member input text = SaysUnproved input × (text ≡ NO.now)
