-- What `refute` owes to its input.
use Rattle.std.specs.Prelude.{◌≡◌, ℕ, List, Err}
use Rattle.ps_lines.specs.declared.form_fault.FormFault.{FormFault}
use Rattle.ps_lines.specs.Reading.{text_start}
use Rattle.ps_lines.specs.Tokens.{text_bytes}
use Rattle.ps_farkas.specs.Refutes.{AllSumsFit, Refutes}
use Rattle.ps_rows.specs.declared.claim.Claim.{Claim}
use Rattle.ps_rows.specs.Reading.{claim_at}
use Rattle.ps_rows.specs.Spelling.{claim_lines, ClaimHasSpelling}
use Rattle.ps_modes.specs.declared.status.Status.{Status}
use Rattle.ps_modes.specs.declared.status.Status.TheVariants.{Holds, Fails, BadInput}
use Rattle.ps_modes.specs.declared.texts.TheConstants.{YES, NO, PAST}
use Rattle.ps_modes.specs.Owes.{Owes}
use Rattle.ps_modes.specs.Texts.{fault_line}

-- the input spells these rows and multipliers, which are within the limits of the form
pub record SpellsClaim (input : List ℕ) (claim : Claim) : Type 0 where
  pub fits : ClaimHasSpelling claim
  pub spelled : input ≡ text_bytes (claim_lines claim)

-- the input says that multipliers refute rows, no number leaves 128 bits, and they do
pub record SaysYes (input : List ℕ) : Type 0 where
  pub claim : Claim
  pub says : SpellsClaim input claim
  pub fits : AllSumsFit claim.rows claim.multipliers
  pub holds : Refutes claim.rows claim.multipliers

-- the same, and they don't
pub record SaysNo (input : List ℕ) : Type 0 where
  pub claim : Claim
  pub says : SpellsClaim input claim
  pub fits : AllSumsFit claim.rows claim.multipliers
  pub fails : ¬ Refutes claim.rows claim.multipliers

-- reading the input as rows and multipliers meets this fault first
abbrev pub FirstFault : List ℕ → FormFault → Type 0
FirstFault input fault = claim_at (text_start 1 input) ≡ Err fault

-- what an input owes that isn't too long: yes, no, or a line that refuses it, since it isn't of the form, or since
-- a product or a partial sum leaves 128 bits
pub data Owed (input : List ℕ) (status : Status) (text : List ℕ) : Type 0 where
  Yes : SaysYes input → status ≡ Holds → text ≡ YES.now → Owed input status text
  No : SaysNo input → status ≡ Fails → text ≡ NO.now → Owed input status text
  NotOfForm : (fault : FormFault) → FirstFault input fault → status ≡ BadInput → text ≡ fault_line fault → Owed input status text
  PastRange : (claim : Claim) → SpellsClaim input claim → ¬ AllSumsFit claim.rows claim.multipliers → status ≡ BadInput → text ≡ PAST.now → Owed input status text

-- the line that refuses an input, which is too long, not of the form, or leads past 128 bits
abbrev pub Refusal : List ℕ → List ℕ → Type 0
Refusal input text = Owes Owed input BadInput text

-- some line refuses the input
abbrev pub IsRefusedInput : List ℕ → Type 0
IsRefusedInput input = (text : List ℕ) × Refusal input text
