-- What `replay` owes to its input.
use Rattle.std.specs.Prelude.{◌≡◌, ℕ, List, Err}
use Rattle.ps_graph.specs.declared.graph.Graph.{Graph}
use Rattle.ps_lines.specs.declared.form_fault.FormFault.{FormFault}
use Rattle.ps_lines.specs.Reading.{text_start}
use Rattle.ps_lines.specs.Tokens.{text_bytes}
use Rattle.ps_parts.specs.declared.parts.TheConstants.{MOST_WITNESS}
use Rattle.ps_trace.specs.Reaches.{Reaches}
use Rattle.ps_trace.specs.Replay.{ReplayFits}
use Rattle.ps_trace.specs.declared.witness.Witness.{Witness}
use Rattle.ps_trace_text.specs.WitnessReading.{witness_at}
use Rattle.ps_trace_text.specs.WitnessSpelling.{witness_lines, WitnessFits}
use Rattle.ps_tree.specs.declared.program.Program.{Program}
use Rattle.ps_modes.specs.Owes.{Owes}
use Rattle.ps_modes.specs.Parts.{HasTexts, OwedToParts}
use Rattle.ps_modes.specs.Programs.{SaysProgram}
use Rattle.ps_modes.specs.Texts.{fault_line}
use Rattle.ps_modes.specs.declared.status.Status.{Status}
use Rattle.ps_modes.specs.declared.status.Status.TheVariants.{Holds, Fails, BadInput}
use Rattle.ps_modes.specs.declared.texts.TheConstants.{YES, NO, PAST}

-- the text spells this witness, which is within the limits of the form
pub record SpellsWitness (text : List ℕ) (witness : Witness) : Type 0 where
  pub fits : WitnessFits witness
  pub spelled : text ≡ text_bytes (witness_lines witness)

-- reading the text as a witness, from the line of this number on, meets this fault first
abbrev pub FirstFault : List ℕ → ℕ → FormFault → Type 0
FirstFault text line fault = witness_at (text_start line text) ≡ Err fault

-- The input says a program, with its graph, and a witness.
pub record SaysBoth (input : List ℕ) (program : Program) (graph : Graph) (witness : Witness) : Type 0 where
  pub program_text : List ℕ
  pub witness_text : List ℕ
  pub line : ℕ
  pub texts : HasTexts MOST_WITNESS input program_text witness_text line
  pub reads : SaysProgram program_text program graph
  pub spells : SpellsWitness witness_text witness

-- the input says a program and a witness that reaches a failure of it, and no number leaves 128 bits before that is known
pub record SaysReached (input : List ℕ) : Type 0 where
  pub program : Program
  pub graph : Graph
  pub witness : Witness
  pub says : SaysBoth input program graph witness
  pub fits : ReplayFits graph witness
  pub reaches : Reaches program witness

-- the same, and it reaches none
pub record SaysUnreached (input : List ℕ) : Type 0 where
  pub program : Program
  pub graph : Graph
  pub witness : Witness
  pub says : SaysBoth input program graph witness
  pub fits : ReplayFits graph witness
  pub misses : ¬ Reaches program witness

-- what a program, with its graph, and a witness owe: yes, no, or a line, where a number leaves 128 bits before it is known
pub data OwedOf (program : Program) (graph : Graph) (witness : Witness) (status : Status) (text : List ℕ) : Type 0 where
  Reached : ReplayFits graph witness → Reaches program witness → status ≡ Holds → text ≡ YES.now → OwedOf program graph witness status text
  Unreached : ReplayFits graph witness → ¬ Reaches program witness → status ≡ Fails → text ≡ NO.now → OwedOf program graph witness status text
  PastRange : ¬ ReplayFits graph witness → status ≡ BadInput → text ≡ PAST.now → OwedOf program graph witness status text

-- what a program and the text of a witness owe: a line that refuses a text that isn't of the form, or what the witness owes
pub data OwedToWitness (program : Program) (graph : Graph) (bytes : List ℕ) (line : ℕ) (status : Status) (text : List ℕ) : Type 0 where
  NotOfForm : (fault : FormFault) → FirstFault bytes line fault → status ≡ BadInput → text ≡ fault_line fault → OwedToWitness program graph bytes line status text
  Witnesses : (witness : Witness) → SpellsWitness bytes witness → OwedOf program graph witness status text → OwedToWitness program graph bytes line status text

-- what an input owes that isn't too long
abbrev pub Owed : List ℕ → Status → List ℕ → Type 0
Owed = OwedToParts MOST_WITNESS OwedToWitness

-- the line that refuses an input, which is too long, not of the form, past a limit, or leads past 128 bits
abbrev pub Refusal : List ℕ → List ℕ → Type 0
Refusal input text = Owes Owed input BadInput text

-- some line refuses the input
abbrev pub IsRefusedInput : List ℕ → Type 0
IsRefusedInput input = (text : List ℕ) × Refusal input text
