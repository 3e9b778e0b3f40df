-- What `check` owes to its input.
use Rattle.std.specs.Prelude.{◌≡◌, ℕ, List, Err}
use Rattle.ps_check.specs.Faults.{IsFirstFault}
use Rattle.ps_check.specs.declared.fault.CheckFault.{CheckFault}
use Rattle.ps_file.specs.Reading.{proof_at}
use Rattle.ps_file.specs.Spelling.{ProofFits, proof_lines}
use Rattle.ps_file.specs.declared.proof.Proof.{Proof}
use Rattle.ps_graph.specs.Execution.{NeverFails}
use Rattle.ps_graph.specs.declared.graph.Graph.{Graph}
use Rattle.ps_grammar.specs.Programs.{IsProgram}
use Rattle.ps_lines.specs.Reading.{text_start}
use Rattle.ps_lines.specs.Tokens.{text_bytes}
use Rattle.ps_lines.specs.declared.form_fault.FormFault.{FormFault}
use Rattle.ps_parts.specs.Cuts.{AreTwoParts}
use Rattle.ps_parts.specs.declared.parts.TheConstants.{MOST_PROOF}
use Rattle.ps_step.specs.Closed.{IsAccepted}
use Rattle.ps_tree.specs.declared.program.Program.{Program}
use Rattle.ps_modes.specs.CheckTexts.{not_accepted_line}
use Rattle.ps_modes.specs.Owes.{Owes}
use Rattle.ps_modes.specs.Parts.{HasTexts, OwedToParts}
use Rattle.ps_modes.specs.Programs.{SaysProgram}
use Rattle.ps_modes.specs.Texts.{fault_line}
use Rattle.ps_modes.specs.declared.status.Status.{Status}
use Rattle.ps_modes.specs.declared.status.Status.TheVariants.{Holds, Fails, BadInput}
use Rattle.ps_modes.specs.declared.texts.TheConstants.{ACCEPTED}

-- the text spells this proof, which is within the limits of the form
pub record SpellsProof (text : List ℕ) (proof : Proof) : Type 0 where
  pub fits : ProofFits proof
  pub spelled : text ≡ text_bytes (proof_lines proof)

-- reading the text as a proof, from the line of this number on, meets this fault first
abbrev pub FirstFault : List ℕ → ℕ → FormFault → Type 0
FirstFault text line fault = proof_at (text_start line text) ≡ Err fault

-- The input says a program, with its graph, and a proof.
pub record SaysProof (input : List ℕ) (program : Program) (graph : Graph) (proof : Proof) : Type 0 where
  pub program_text : List ℕ
  pub proof_text : List ℕ
  pub line : ℕ
  pub texts : HasTexts MOST_PROOF input program_text proof_text line
  pub reads : SaysProgram program_text program graph
  pub spells : SpellsProof proof_text proof

abbrev pub Accepts : Graph → Proof → Type 0
Accepts graph proof = IsAccepted graph proof.predicates proof.entries proof.configs

-- the input says a program and a proof that is accepted for it
pub record SaysAccepted (input : List ℕ) : Type 0 where
  pub program : Program
  pub graph : Graph
  pub proof : Proof
  pub says : SaysProof input program graph proof
  pub accepted : Accepts graph proof

-- the same, and it isn't accepted; this is its first fault
pub record SaysFault (input : List ℕ) (fault : CheckFault) : Type 0 where
  pub program : Program
  pub graph : Graph
  pub proof : Proof
  pub says : SaysProof input program graph proof
  pub refused : ¬ Accepts graph proof
  pub first : IsFirstFault graph proof fault

-- the input begins with the text of a program of which no execution, with any number of threads, fails an assertion
pub record SaysSafe (input : List ℕ) : Type 0 where
  pub program_text : List ℕ
  pub rest : List ℕ
  pub program : Program
  pub parts : AreTwoParts input program_text rest
  pub read : IsProgram program_text program
  pub safe : NeverFails program

-- what a graph and a proof owe: `accepted`, or the line of the first fault
pub data OwedOf (graph : Graph) (proof : Proof) (status : Status) (text : List ℕ) : Type 0 where
  Accepted : Accepts graph proof → status ≡ Holds → text ≡ ACCEPTED.now → OwedOf graph proof status text
  Refused : (fault : CheckFault) → ¬ Accepts graph proof → IsFirstFault graph proof fault → status ≡ Fails → text ≡ not_accepted_line fault → OwedOf graph proof status text

-- what a program, with its graph, and the text of a proof owe: a line that refuses a text that isn't of the form, or what
-- the proof owes
pub data OwedToProof (program : Program) (graph : Graph) (bytes : List ℕ) (line : ℕ) (status : Status) (text : List ℕ) : Type 0 where
  NotOfForm : (fault : FormFault) → FirstFault bytes line fault → status ≡ BadInput → text ≡ fault_line fault → OwedToProof program graph bytes line status text
  Proves : (proof : Proof) → SpellsProof bytes proof → OwedOf graph proof status text → OwedToProof program graph bytes line status text

-- what an input owes that isn't too long
abbrev pub Owed : List ℕ → Status → List ℕ → Type 0
Owed = OwedToParts MOST_PROOF OwedToProof

-- the line that refuses an input, which is too long, not of the form, or past a limit
abbrev pub Refusal : List ℕ → List ℕ → Type 0
Refusal input text = Owes Owed input BadInput text

-- some line refuses the input
abbrev pub IsRefusedInput : List ℕ → Type 0
IsRefusedInput input = (text : List ℕ) × Refusal input text
