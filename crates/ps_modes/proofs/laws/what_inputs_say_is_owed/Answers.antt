-- Each mode by itself.
use Rattle.std.proofs.Common.{◌≡◌, ◌↔◌, ℕ, List, [], ◌∷◌, Contains, subst, sym}
use Rattle.ps_modes.proofs.Checking as check
use Rattle.ps_modes.proofs.Meaning.{IsOwedWhere}
use Rattle.ps_modes.proofs.Owing as refute
use Rattle.ps_modes.proofs.Proving as member
use Rattle.ps_modes.proofs.Replaying as replay
use Rattle.ps_modes.specs.Check.{Owed}
use Rattle.ps_modes.specs.Modes.{SaysNotSo, SaysSo, owed_by}
use Rattle.ps_modes.specs.Owes.{IsShort, Owes}
use Rattle.ps_modes.specs.declared.status.Status.{Status}
use Rattle.ps_modes.specs.declared.status.Status.TheVariants.{Holds, Fails, BadInput}
use Rattle.ps_words.specs.declared.mode.Mode.{Mode}
use Rattle.ps_words.specs.declared.mode.Mode.TheVariants.{Refute, Replay, Check, Member}
use Rattle.ps_modes.proofs.laws.what_inputs_say_is_owed.Goals as goal

-- a status that is owed where an input that isn't too long says something
where_said : {Owed : List ℕ → Status → List ℕ → Type 0} {status : Status} {Says : List ℕ → Type 0} {expected : List ℕ}
    → IsOwedWhere Owed status (λ input. IsShort input × Says input) expected → (input text : List ℕ)
    → (Owes Owed input status text ↔ (IsShort input × (Says input × (text ≡ expected))))
where_said is input text = (
  (λ owes. let said = is.said input text owes in (said.0.0, (said.0.1, said.1))),
  (λ said. is.owed input text ((said.0, said.1.0), said.1.1)),
)

holds : (mode : Mode) (input text : List ℕ) → (Owes (owed_by mode) input Holds text ↔ (IsShort input × SaysSo mode input text))
holds Refute = where_said refute.yes_owed
holds Replay = where_said replay.yes_owed
holds Check = where_said check.yes_owed
holds Member = where_said member.yes_owed

fails : (mode : Mode) (input text : List ℕ) → (Owes (owed_by mode) input Fails text ↔ (IsShort input × SaysNotSo mode input text))
fails Refute = where_said refute.no_owed
fails Replay = where_said replay.no_owed
fails Check = λ input text. (
  check.fault_said input text,
  (λ said. subst (Owes Owed input Fails) (sym said.1.2) (check.fault_owed input said.1.0 said.0 said.1.1)),
)
fails Member = where_said member.no_owed

statuses : (mode : Mode) (input : List ℕ) (status : Status) (text : List ℕ) → Owes (owed_by mode) input status text → Contains (Holds ∷ Fails ∷ BadInput ∷ []) status
statuses Refute = refute.statuses_owed
statuses Replay = replay.statuses_owed
statuses Check = check.statuses_owed
statuses Member = member.statuses_owed

pub returns-clause-holds : goal.returns-clause-holds
returns-clause-holds c = holds

pub returns-clause-fails : goal.returns-clause-fails
returns-clause-fails c = fails

pub returns-clause-statuses : goal.returns-clause-statuses
returns-clause-statuses c = statuses
