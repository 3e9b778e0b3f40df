-- An input that isn't too long owes `member` one answer.
use Rattle.std.proofs.Common.{◌≡◌, ℕ, ◌<◌, ◌↔◌, Bool, IsTrue, List, [], ◌∷◌, length, All, Contains, refl, sym, ap, ◌∙◌, subst, arith, lit<}
use Rattle.ps_basis.specs.Space.{IsProved}
use Rattle.ps_check.specs.Faults.{DoEntriesHold}
use Rattle.ps_demand.specs.Demands.{AreTied}
use Rattle.ps_file.specs.Reading.{proof_at}
use Rattle.ps_file.specs.declared.proof.Proof.{Proof}
use Rattle.ps_graph.specs.declared.graph.Graph.{Graph}
use Rattle.ps_lines.specs.Reading.{text_start}
use Rattle.ps_lines.specs.declared.form_fault.FormFault.{FormFault}
use Rattle.ps_parts.specs.declared.parts.TheConstants.{MOST_PROOF, MOST_WITNESS}
use Rattle.ps_soundness.proofs.Safe.{proved_error_is_infeasible}
use Rattle.ps_soundness.specs.Traces.{trace_of}
use Rattle.ps_trace.specs.Traces.{pairs_of}
use Rattle.ps_trace.specs.declared.trace.IndexedTrace.{IndexedTrace}
use Rattle.ps_trace.specs.declared.trace.Letter.{Letter}
use Rattle.ps_trace_text.proofs.TraceLaws.{trace_is_format}
use Rattle.ps_trace_text.specs.TraceReading.{trace_at}
use Rattle.ps_tree.specs.declared.program.Program.{Program}
use Rattle.ps_triple.specs.declared.entry.Entry.{Entry}
use Rattle.ps_modes.proofs.Checking.{one_proof}
use Rattle.ps_modes.proofs.Checking as check
use Rattle.ps_modes.proofs.Meaning.{IsOwedWhere}
use Rattle.ps_modes.proofs.OneGraph.{one_graph}
use Rattle.ps_modes.proofs.Spelled.{no_fault_where_spelled, one_fault, one_spelled}
use Rattle.ps_modes.proofs.Three as three
use Rattle.ps_modes.specs.Member.{FirstFault, NotAProof, NotATrace, Owed, OwedOf, OwedToTraceOf, OwedToTwo, Proofs, Proved, Proves, SaysInfeasible, SaysProved, SaysUnproved, SpellsTrace, Traces, Unproved}
use Rattle.ps_modes.specs.Owes.{IsShort, IsVerdict, Owes, TooLong, Within}
use Rattle.ps_modes.specs.Parts.{NoProgram, Programs}
use Rattle.ps_modes.specs.Status.{code}
use Rattle.ps_modes.specs.Texts.{fault_line}
use Rattle.ps_modes.specs.ThreeParts.{LongPart, NoMark, Parts}
use Rattle.ps_modes.specs.declared.status.Status.{Status}
use Rattle.ps_modes.specs.declared.status.Status.TheVariants.{Holds, Fails, BadInput}
use Rattle.ps_modes.specs.declared.texts.TheConstants.{NO, YES}

-- ---- traces as texts

one_trace : (text : List ℕ) (a b : IndexedTrace) → SpellsTrace text a → SpellsTrace text b → a ≡ b
one_trace text a b x y = one_spelled trace_is_format text a b x.fits x.spelled y.fits y.spelled

no_fault : (text : List ℕ) (line : ℕ) (trace : IndexedTrace) (fault : FormFault) → SpellsTrace text trace → FirstFault text line fault → ⊥
no_fault text line trace fault says first = no_fault_where_spelled trace_is_format text line trace fault says.fits says.spelled first

-- ---- one answer, layer by layer

one_of : (g : Graph) (p : Proof) (trace : IndexedTrace) (s t : Status) (x y : List ℕ) → OwedOf g p trace s x → OwedOf g p trace t y → (s ≡ t) × (x ≡ y)
one_of g p trace s t x y (Proved _ e f) (Proved _ d c) = (e ∙ sym d, f ∙ sym c)
one_of g p trace s t x y (Proved proves _ _) (Unproved misses _ _) = absurd (misses proves)
one_of g p trace s t x y (Unproved misses _ _) (Proved proves _ _) = absurd (misses proves)
one_of g p trace s t x y (Unproved _ e f) (Unproved _ d c) = (e ∙ sym d, f ∙ sym c)

one_to_trace : (g : Graph) (p : Proof) (bytes : List ℕ) (line : ℕ) (s t : Status) (x y : List ℕ)
    → OwedToTraceOf g p bytes line s x → OwedToTraceOf g p bytes line t y → (s ≡ t) × (x ≡ y)
one_to_trace g p bytes line s t x y (NotATrace fault first e f) (NotATrace other again d c) =
    (e ∙ sym d, f ∙ ap fault_line (one_fault (trace_at (text_start line bytes)) fault other first again) ∙ sym c)
one_to_trace g p bytes line s t x y (NotATrace fault first _ _) (Traces a says _) = absurd (no_fault bytes line a fault says first)
one_to_trace g p bytes line s t x y (Traces a says _) (NotATrace fault first _ _) = absurd (no_fault bytes line a fault says first)
one_to_trace g p bytes line s t x y (Traces a says owed) (Traces b too other) =
    one_of g p b s t x y (subst (λ (u : IndexedTrace). OwedOf g p u s x) (one_trace bytes a b says too) owed) other

pub one_to_two : three.OweOnce OwedToTwo
one_to_two middle i p g h bytes line a b s t x y (NotAProof fault first e f) (NotAProof other again d c) =
    (e ∙ sym d, f ∙ ap fault_line (one_fault (proof_at (text_start i middle)) fault other first again) ∙ sym c)
one_to_two middle i p g h bytes line a b s t x y (NotAProof fault first _ _) (Proofs q says _) = absurd (check.no_fault middle i q fault says first)
one_to_two middle i p g h bytes line a b s t x y (Proofs q says _) (NotAProof fault first _ _) = absurd (check.no_fault middle i q fault says first)
one_to_two middle i p g h bytes line a b s t x y (Proofs q says owed) (Proofs r too other) =
    one_to_trace h r bytes line s t x y
    (subst (λ (u : Graph). OwedToTraceOf u r bytes line s x) (one_graph p g h a b)
    (subst (λ (u : Proof). OwedToTraceOf g u bytes line s x) (one_proof middle q r says too) owed)) other

pub one_owed : (input : List ℕ) (s t : Status) (x y : List ℕ) → Owed input s x → Owed input t y → (s ≡ t) × (x ≡ y)
one_owed = three.one_owed MOST_PROOF MOST_WITNESS OwedToTwo one_to_two

pub is_verdict : (middle : List ℕ) (i : ℕ) (p : Program) (g : Graph) (bytes : List ℕ) (line : ℕ) (status : Status) (text : List ℕ)
    → OwedToTwo middle i p g bytes line status text → IsVerdict status
is_verdict middle i p g bytes line status text (NotAProof _ _ is _) = omega (arith, ap code is)
is_verdict middle i p g bytes line status text (Proofs _ _ (NotATrace _ _ is _)) = omega (arith, ap code is)
is_verdict middle i p g bytes line status text (Proofs _ _ (Traces _ _ (Proved _ is _))) = omega (arith, ap code is)
is_verdict middle i p g bytes line status text (Proofs _ _ (Traces _ _ (Unproved _ is _))) = omega (arith, ap code is)

-- ---- what the mode tests

abbrev DoExist : Graph → List Letter → Type 0
DoExist g letters = All (λ (l : Letter). l.edge < length g.edges) letters

-- no triple of entries that hold has a free thread
pub tied_where_held : (g : Graph) (p : Proof) (entries : List Entry) → entries ≡ p.entries → DoEntriesHold g p → AreTied entries
tied_where_held g p entries same hold = λ entry i. (hold entry (subst (λ (es : List Entry). Contains es entry) same i)).tied

pub proves_exactly : (g : Graph) (p : Proof) (trace : IndexedTrace) (entries : List Entry) (answer : Bool) → entries ≡ p.entries → DoEntriesHold g p → DoExist g trace.letters
    → (IsTrue answer ↔ IsProved entries (trace_of g.edges (pairs_of trace))) → (IsTrue answer ↔ Proves g p trace)
proves_exactly g p trace entries answer same hold exist is = (
  (λ h. record {
    hold = hold;
    exist = exist;
    proved = subst (λ (es : List Entry). IsProved es (trace_of g.edges (pairs_of trace))) same (is.0 h);
  }),
  (λ proves. is.1 (subst (λ (es : List Entry). IsProved es (trace_of g.edges (pairs_of trace))) (sym same) proves.proved)),
)

-- ---- what the statuses of `member` mean

proved_said : (input text : List ℕ) → Owes Owed input Holds text → (IsShort input × SaysProved input) × (text ≡ YES.now)
proved_said input text (TooLong _ is _) = absurd (cc)
proved_said input text (Within short (NoMark _ is _)) = absurd (cc)
proved_said input text (Within short (LongPart _ is _)) = absurd (cc)
proved_said input text (Within short (Parts p u w i line texts (NoProgram _ is))) = absurd (cc)
proved_said input text (Within short (Parts p u w i line texts (Programs q g says (NotAProof _ _ is _)))) = absurd (cc)
proved_said input text (Within short (Parts p u w i line texts (Programs q g says (Proofs v spells (NotATrace _ _ is _))))) = absurd (cc)
proved_said input text (Within short (Parts p u w i line texts (Programs q g says (Proofs v spells (Traces a too (Proved proves _ f)))))) = (
  (
    short,
    record {
      program = q;
      graph = g;
      proof = v;
      trace = a;
      says = record {
        program_text = p;
        proof_text = u;
        trace_text = w;
        proof_line = i;
        trace_line = line;
        texts = texts;
        reads = says;
        spells_proof = spells;
        spells_trace = too;
      };
      proves = proves;
    },
  ),
  f,
)
proved_said input text (Within short (Parts p u w i line texts (Programs q g says (Proofs v spells (Traces a too (Unproved _ is _)))))) = absurd (cc)

unproved_said : (input text : List ℕ) → Owes Owed input Fails text → (IsShort input × SaysUnproved input) × (text ≡ NO.now)
unproved_said input text (TooLong _ is _) = absurd (cc)
unproved_said input text (Within short (NoMark _ is _)) = absurd (cc)
unproved_said input text (Within short (LongPart _ is _)) = absurd (cc)
unproved_said input text (Within short (Parts p u w i line texts (NoProgram _ is))) = absurd (cc)
unproved_said input text (Within short (Parts p u w i line texts (Programs q g says (NotAProof _ _ is _)))) = absurd (cc)
unproved_said input text (Within short (Parts p u w i line texts (Programs q g says (Proofs v spells (NotATrace _ _ is _))))) = absurd (cc)
unproved_said input text (Within short (Parts p u w i line texts (Programs q g says (Proofs v spells (Traces a too (Proved _ is _)))))) = absurd (cc)
unproved_said input text (Within short (Parts p u w i line texts (Programs q g says (Proofs v spells (Traces a too (Unproved misses _ f)))))) = (
  (
    short,
    record {
      program = q;
      graph = g;
      proof = v;
      trace = a;
      says = record {
        program_text = p;
        proof_text = u;
        trace_text = w;
        proof_line = i;
        trace_line = line;
        texts = texts;
        reads = says;
        spells_proof = spells;
        spells_trace = too;
      };
      misses = misses;
    },
  ),
  f,
)

proved_owed : (input text : List ℕ) → (IsShort input × SaysProved input) × (text ≡ YES.now) → Owes Owed input Holds text
proved_owed input text is =
    let yes = is.0.1 in let says = yes.says in
    Within is.0.0 (Parts says.program_text says.proof_text says.trace_text says.proof_line says.trace_line says.texts
    (Programs yes.program yes.graph says.reads (Proofs yes.proof says.spells_proof (Traces yes.trace says.spells_trace (Proved yes.proves refl is.1)))))

unproved_owed : (input text : List ℕ) → (IsShort input × SaysUnproved input) × (text ≡ NO.now) → Owes Owed input Fails text
unproved_owed input text is =
    let no = is.0.1 in let says = no.says in
    Within is.0.0 (Parts says.program_text says.proof_text says.trace_text says.proof_line says.trace_line says.texts
    (Programs no.program no.graph says.reads (Proofs no.proof says.spells_proof (Traces no.trace says.spells_trace (Unproved no.misses refl is.1)))))

-- `member` owes no other status
pub statuses_owed : (input : List ℕ) (status : Status) (text : List ℕ) → Owes Owed input status text
    → Contains (Holds ∷ Fails ∷ BadInput ∷ []) status
statuses_owed input status text (TooLong _ is _) = rw is (2, lit< tt, refl)
statuses_owed input status text (Within short (NoMark _ is _)) = rw is (2, lit< tt, refl)
statuses_owed input status text (Within short (LongPart _ is _)) = rw is (2, lit< tt, refl)
statuses_owed input status text (Within short (Parts p u w i line texts (NoProgram _ is))) = rw is (2, lit< tt, refl)
statuses_owed input status text (Within short (Parts p u w i line texts (Programs q g says (NotAProof _ _ is _)))) = rw is (2, lit< tt, refl)
statuses_owed input status text (Within short (Parts p u w i line texts (Programs q g says (Proofs v spells (NotATrace _ _ is _))))) = rw is (2, lit< tt, refl)
statuses_owed input status text (Within short (Parts p u w i line texts (Programs q g says (Proofs v spells (Traces a too (Proved _ is _)))))) = rw is (0, lit< tt, refl)
statuses_owed input status text (Within short (Parts p u w i line texts (Programs q g says (Proofs v spells (Traces a too (Unproved _ is _)))))) = rw is (1, lit< tt, refl)

pub yes_owed : IsOwedWhere Owed Holds (λ input. IsShort input × SaysProved input) YES.now
yes_owed = record { verdict = omega arith; said = proved_said; owed = proved_owed }

pub no_owed : IsOwedWhere Owed Fails (λ input. IsShort input × SaysUnproved input) NO.now
no_owed = record { verdict = omega arith; said = unproved_said; owed = unproved_owed }

-- ---- what a proved trace is worth

-- a trace that is proved isn't both an error trace and feasible
pub proved_infeasible : (input : List ℕ) → SaysProved input → SaysInfeasible input
proved_infeasible input said = record {
  program = said.program;
  graph = said.graph;
  proof = said.proof;
  trace = said.trace;
  says = said.says;
  infeasible = λ is runs. proved_error_is_infeasible said.graph said.proof.predicates said.proof.entries said.proves.hold (pairs_of said.trace) is said.proves.proved runs;
}
