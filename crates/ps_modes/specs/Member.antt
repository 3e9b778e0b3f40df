-- What `member` owes to its input.
use Rattle.std.specs.Prelude.{◌≡◌, ℕ, ◌<◌, List, length, All, Err}
use Rattle.ps_basis.specs.Space.{IsProved}
use Rattle.ps_check.specs.Faults.{DoEntriesHold}
use Rattle.ps_file.specs.declared.proof.Proof.{Proof}
use Rattle.ps_graph.specs.declared.graph.Graph.{Graph}
use Rattle.ps_lines.specs.Reading.{text_start}
use Rattle.ps_lines.specs.Tokens.{text_bytes}
use Rattle.ps_lines.specs.declared.form_fault.FormFault.{FormFault}
use Rattle.ps_parts.specs.declared.parts.TheConstants.{MOST_PROOF, MOST_WITNESS}
use Rattle.ps_soundness.specs.Traces.{trace_of}
use Rattle.ps_trace.specs.Traces.{IsErrorTraceOf, IsFeasibleTraceOf, pairs_of}
use Rattle.ps_trace.specs.declared.trace.IndexedTrace.{IndexedTrace}
use Rattle.ps_trace_text.specs.TraceReading.{trace_at}
use Rattle.ps_trace_text.specs.TraceSpelling.{TraceFits, trace_lines}
use Rattle.ps_tree.specs.declared.program.Program.{Program}
use Rattle.ps_modes.specs.Check.{SpellsProof}
use Rattle.ps_modes.specs.Check as check
use Rattle.ps_modes.specs.Owes.{Owes}
use Rattle.ps_modes.specs.Programs.{SaysProgram}
use Rattle.ps_modes.specs.Texts.{fault_line}
use Rattle.ps_modes.specs.ThreeParts.{HasThreeTexts, OwedToThreeParts}
use Rattle.ps_modes.specs.declared.status.Status.{Status}
use Rattle.ps_modes.specs.declared.status.Status.TheVariants.{Holds, Fails, BadInput}
use Rattle.ps_modes.specs.declared.texts.TheConstants.{YES, NO}

-- the text spells this trace, which is within the limits of the form
pub record SpellsTrace (text : List ℕ) (trace : IndexedTrace) : Type 0 where
  pub fits : TraceFits trace
  pub spelled : text ≡ text_bytes (trace_lines trace)

-- reading the text as a trace, from the line of this number on, meets this fault first
abbrev pub FirstFault : List ℕ → ℕ → FormFault → Type 0
FirstFault text line fault = trace_at (text_start line text) ≡ Err fault

-- The input says a program, with its graph, a proof and a trace.
pub record SaysThree (input : List ℕ) (program : Program) (graph : Graph) (proof : Proof) (trace : IndexedTrace) : Type 0 where
  pub program_text : List ℕ
  pub proof_text : List ℕ
  pub trace_text : List ℕ
  pub proof_line : ℕ
  pub trace_line : ℕ
  pub texts : HasThreeTexts MOST_PROOF MOST_WITNESS input program_text proof_text proof_line trace_text trace_line
  pub reads : SaysProgram program_text program graph
  pub spells_proof : SpellsProof proof_text proof
  pub spells_trace : SpellsTrace trace_text trace

-- each entry holds, each edge exists, and the entries prove the trace
pub record Proves (graph : Graph) (proof : Proof) (trace : IndexedTrace) : Type 0 where
  pub hold : DoEntriesHold graph proof
  pub exist : All (λ l. l.edge < length graph.edges) trace.letters
  pub proved : IsProved proof.entries (trace_of graph.edges (pairs_of trace))

-- the input says a program, a proof and a trace that it proves
pub record SaysProved (input : List ℕ) : Type 0 where
  pub program : Program
  pub graph : Graph
  pub proof : Proof
  pub trace : IndexedTrace
  pub says : SaysThree input program graph proof trace
  pub proves : Proves graph proof trace

-- the same, and it doesn't
pub record SaysUnproved (input : List ℕ) : Type 0 where
  pub program : Program
  pub graph : Graph
  pub proof : Proof
  pub trace : IndexedTrace
  pub says : SaysThree input program graph proof trace
  pub misses : ¬ Proves graph proof trace

-- the input says a program, a proof and a trace that isn't both an error trace and feasible
pub record SaysInfeasible (input : List ℕ) : Type 0 where
  pub program : Program
  pub graph : Graph
  pub proof : Proof
  pub trace : IndexedTrace
  pub says : SaysThree input program graph proof trace
  pub infeasible : IsErrorTraceOf graph trace → ¬ IsFeasibleTraceOf graph trace

-- what a graph, a proof and a trace owe: yes or no
pub data OwedOf (graph : Graph) (proof : Proof) (trace : IndexedTrace) (status : Status) (text : List ℕ) : Type 0 where
  Proved : Proves graph proof trace → status ≡ Holds → text ≡ YES.now → OwedOf graph proof trace status text
  Unproved : ¬ Proves graph proof trace → status ≡ Fails → text ≡ NO.now → OwedOf graph proof trace status text

-- what a graph, a proof and the text of a trace owe: a line that refuses a text that isn't of the form, or what the trace owes
pub data OwedToTraceOf (graph : Graph) (proof : Proof) (bytes : List ℕ) (line : ℕ) (status : Status) (text : List ℕ) : Type 0 where
  NotATrace : (fault : FormFault) → FirstFault bytes line fault → status ≡ BadInput → text ≡ fault_line fault → OwedToTraceOf graph proof bytes line status text
  Traces : (trace : IndexedTrace) → SpellsTrace bytes trace → OwedOf graph proof trace status text → OwedToTraceOf graph proof bytes line status text

-- what the text of a proof, a program, with its graph, and the text of a trace owe: a line that refuses the proof's text, if
-- that isn't of the form, or what the proof and the trace's text owe
pub data OwedToTwo (proof_text : List ℕ) (proof_line : ℕ) (program : Program) (graph : Graph) (bytes : List ℕ) (line : ℕ) (status : Status) (text : List ℕ) : Type 0 where
  NotAProof : (fault : FormFault) → check.FirstFault proof_text proof_line fault → status ≡ BadInput → text ≡ fault_line fault
      → OwedToTwo proof_text proof_line program graph bytes line status text
  Proofs : (proof : Proof) → SpellsProof proof_text proof → OwedToTraceOf graph proof bytes line status text
      → OwedToTwo proof_text proof_line program graph bytes line status text

-- what an input owes that isn't too long
abbrev pub Owed : List ℕ → Status → List ℕ → Type 0
Owed = OwedToThreeParts MOST_PROOF MOST_WITNESS OwedToTwo

-- the line that refuses an input, which is too long, not of the form, or past a limit
abbrev pub Refusal : List ℕ → List ℕ → Type 0
Refusal input text = Owes Owed input BadInput text

-- some line refuses the input
abbrev pub IsRefusedInput : List ℕ → Type 0
IsRefusedInput input = (text : List ℕ) × Refusal input text
