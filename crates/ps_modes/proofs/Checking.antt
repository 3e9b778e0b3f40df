-- An input that isn't too long owes `check` one answer.
use Rattle.std.proofs.Common.{◌≡◌, ℕ, ◌<◌, List, [], ◌∷◌, Contains, Option, Some, None, IfSome, refl, sym, ap, ◌∙◌, subst, arith, lit<}
use Rattle.ps_check.proofs.Single.{one_first}
use Rattle.ps_check.specs.declared.fault.CheckFault.{CheckFault}
use Rattle.ps_compile.proofs.Meets.{graph_of}
use Rattle.ps_compile.proofs.Readable.{readable}
use Rattle.ps_compile.specs.Compiled.{IsCompiled}
use Rattle.ps_file.proofs.Laws.{proof_is_format}
use Rattle.ps_file.specs.Reading.{proof_at}
use Rattle.ps_file.specs.declared.proof.Proof.{Proof}
use Rattle.ps_graph.specs.declared.graph.Graph.{Graph}
use Rattle.ps_lines.specs.Reading.{text_start}
use Rattle.ps_lines.specs.declared.form_fault.FormFault.{FormFault}
use Rattle.ps_parts.specs.declared.parts.TheConstants.{MOST_PROOF}
use Rattle.ps_soundness.proofs.Safe.{accepted_text as never_fails}
use Rattle.ps_tree.specs.declared.program.Program.{Program}
use Rattle.ps_modes.proofs.Meaning.{IsOwedWhere, line_written}
use Rattle.ps_modes.proofs.OneGraph.{one_graph}
use Rattle.ps_modes.proofs.Spelled.{no_fault_where_spelled, one_fault, one_spelled}
use Rattle.ps_modes.proofs.Two as two
use Rattle.ps_modes.specs.Check.{Accepted, FirstFault, NotOfForm, Owed, OwedOf, OwedToProof, Proves, Refused, SaysAccepted, SaysFault, SaysSafe, SpellsProof}
use Rattle.ps_modes.specs.CheckTexts.{not_accepted_line}
use Rattle.ps_modes.specs.Owes.{IsShort, IsVerdict, Owes, OwesStatus, SomeAnswer, TooLong, Within}
use Rattle.ps_modes.specs.Parts.{LongPart, NoMark, NoProgram, Parts, Programs}
use Rattle.ps_modes.specs.Status.{Exactly, code}
use Rattle.ps_modes.specs.Texts.{fault_line}
use Rattle.ps_modes.specs.declared.status.Status.{Status}
use Rattle.ps_modes.specs.declared.status.Status.TheVariants.{Holds, Fails, BadInput, BadWords}
use Rattle.ps_modes.specs.declared.texts.TheConstants.{ACCEPTED}

-- ---- proofs as texts

pub one_proof : (text : List ℕ) (p q : Proof) → SpellsProof text p → SpellsProof text q → p ≡ q
one_proof text p q a b = one_spelled proof_is_format text p q a.fits a.spelled b.fits b.spelled

pub no_fault : (text : List ℕ) (line : ℕ) (p : Proof) (fault : FormFault) → SpellsProof text p → FirstFault text line fault → ⊥
no_fault text line p fault says first = no_fault_where_spelled proof_is_format text line p fault says.fits says.spelled first

-- ---- one answer

one_of : (g : Graph) (p : Proof) (s t : Status) (x y : List ℕ) → OwedOf g p s x → OwedOf g p t y → (s ≡ t) × (x ≡ y)
one_of g p s t x y (Accepted _ e f) (Accepted _ d c) = (e ∙ sym d, f ∙ sym c)
one_of g p s t x y (Accepted accepts _ _) (Refused _ refused _ _ _) = absurd (refused accepts)
one_of g p s t x y (Refused _ refused _ _ _) (Accepted accepts _ _) = absurd (refused accepts)
one_of g p s t x y (Refused a _ first e f) (Refused b _ other d c) = (
  e ∙ sym d,
  f ∙ ap not_accepted_line (one_first g p a b first other) ∙ sym c,
)

pub one_to_proof : (p : Program) (g h : Graph) (bytes : List ℕ) (line : ℕ) → IsCompiled p g → IsCompiled p h → (s t : Status) (x y : List ℕ)
    → OwedToProof p g bytes line s x → OwedToProof p h bytes line t y → (s ≡ t) × (x ≡ y)
one_to_proof p g h bytes line a b s t x y (NotOfForm fault first e f) (NotOfForm other again d c) =
    (e ∙ sym d, f ∙ ap fault_line (one_fault (proof_at (text_start line bytes)) fault other first again) ∙ sym c)
one_to_proof p g h bytes line a b s t x y (NotOfForm fault first _ _) (Proves q says _) = absurd (no_fault bytes line q fault says first)
one_to_proof p g h bytes line a b s t x y (Proves q says _) (NotOfForm fault first _ _) = absurd (no_fault bytes line q fault says first)
one_to_proof p g h bytes line a b s t x y (Proves q says owed) (Proves r too other) =
    one_of h r s t x y
    (subst (λ (u : Graph). OwedOf u r s x) (one_graph p g h a b) (subst (λ (u : Proof). OwedOf g u s x) (one_proof bytes q r says too) owed)) other

pub is_verdict : (p : Program) (g : Graph) (bytes : List ℕ) (line : ℕ) (status : Status) (text : List ℕ) → OwedToProof p g bytes line status text → IsVerdict status
is_verdict p g bytes line status text (NotOfForm _ _ is _) = omega (arith, ap code is)
is_verdict p g bytes line status text (Proves _ _ (Accepted _ is _)) = omega (arith, ap code is)
is_verdict p g bytes line status text (Proves _ _ (Refused _ _ _ is _)) = omega (arith, ap code is)

pub one_owed : (input : List ℕ) (s t : Status) (x y : List ℕ) → Owed input s x → Owed input t y → (s ≡ t) × (x ≡ y)
one_owed = two.one_owed MOST_PROOF OwedToProof one_to_proof

-- ---- what the statuses of `check` mean

accepted_said : (input text : List ℕ) → Owes Owed input Holds text → (IsShort input × SaysAccepted input) × (text ≡ ACCEPTED.now)
accepted_said input text (TooLong _ is _) = absurd (cc)
accepted_said input text (Within short (NoMark _ is _)) = absurd (cc)
accepted_said input text (Within short (LongPart _ is _)) = absurd (cc)
accepted_said input text (Within short (Parts p w line texts (NoProgram _ is))) = absurd (cc)
accepted_said input text (Within short (Parts p w line texts (Programs q g says (NotOfForm _ _ is _)))) = absurd (cc)
accepted_said input text (Within short (Parts p w line texts (Programs q g says (Proves v spells (Accepted accepts _ f))))) = (
  (
    short,
    record {
      program = q;
      graph = g;
      proof = v;
      says = record { program_text = p; proof_text = w; line = line; texts = texts; reads = says; spells = spells };
      accepted = accepts;
    },
  ),
  f,
)
accepted_said input text (Within short (Parts p w line texts (Programs q g says (Proves v spells (Refused _ _ _ is _))))) = absurd (cc)

pub fault_said : (input text : List ℕ) → Owes Owed input Fails text
    → IsShort input × ((fault : CheckFault) × SaysFault input fault × (text ≡ not_accepted_line fault))
fault_said input text (TooLong _ is _) = absurd (cc)
fault_said input text (Within short (NoMark _ is _)) = absurd (cc)
fault_said input text (Within short (LongPart _ is _)) = absurd (cc)
fault_said input text (Within short (Parts p w line texts (NoProgram _ is))) = absurd (cc)
fault_said input text (Within short (Parts p w line texts (Programs q g says (NotOfForm _ _ is _)))) = absurd (cc)
fault_said input text (Within short (Parts p w line texts (Programs q g says (Proves v spells (Accepted _ is _))))) = absurd (cc)
fault_said input text (Within short (Parts p w line texts (Programs q g says (Proves v spells (Refused fault refused first _ f))))) = (
  short,
  (
    fault,
    record {
      program = q;
      graph = g;
      proof = v;
      says = record { program_text = p; proof_text = w; line = line; texts = texts; reads = says; spells = spells };
      refused = refused;
      first = first;
    },
    f,
  ),
)

-- `check` owes no other status
pub statuses_owed : (input : List ℕ) (status : Status) (text : List ℕ) → Owes Owed input status text
    → Contains (Holds ∷ Fails ∷ BadInput ∷ []) status
statuses_owed input status text (TooLong _ is _) = rw is (2, lit< tt, refl)
statuses_owed input status text (Within short (NoMark _ is _)) = rw is (2, lit< tt, refl)
statuses_owed input status text (Within short (LongPart _ is _)) = rw is (2, lit< tt, refl)
statuses_owed input status text (Within short (Parts _ _ _ _ (NoProgram _ is))) = rw is (2, lit< tt, refl)
statuses_owed input status text (Within short (Parts _ _ _ _ (Programs _ _ _ (NotOfForm _ _ is _)))) = rw is (2, lit< tt, refl)
statuses_owed input status text (Within short (Parts _ _ _ _ (Programs _ _ _ (Proves _ _ (Accepted _ is _))))) = rw is (0, lit< tt, refl)
statuses_owed input status text (Within short (Parts _ _ _ _ (Programs _ _ _ (Proves _ _ (Refused _ _ _ is _))))) = rw is (1, lit< tt, refl)

accepted_owed : (input text : List ℕ) → (IsShort input × SaysAccepted input) × (text ≡ ACCEPTED.now) → Owes Owed input Holds text
accepted_owed input text is =
    let accepted = is.0.1 in let says = accepted.says in
    Within is.0.0 (Parts says.program_text says.proof_text says.line says.texts
    (Programs accepted.program accepted.graph says.reads (Proves accepted.proof says.spells (Accepted accepted.accepted refl is.1))))

pub fault_owed : (input : List ℕ) (fault : CheckFault) → IsShort input → SaysFault input fault → Owes Owed input Fails (not_accepted_line fault)
fault_owed input fault short refusal =
    let says = refusal.says in
    Within short (Parts says.program_text says.proof_text says.line says.texts
    (Programs refusal.program refusal.graph says.reads (Proves refusal.proof says.spells (Refused fault refusal.refused refusal.first refl refl))))

pub yes_owed : IsOwedWhere Owed Holds (λ input. IsShort input × SaysAccepted input) ACCEPTED.now
yes_owed = record { verdict = omega arith; said = accepted_said; owed = accepted_owed }

pub exactly_fault : (left : Option (List ℕ)) (n : ℕ)
    → IfSome left (λ input. (status : Status) → IsVerdict status → Exactly n status (OwesStatus Owed input status))
    → IfSome left (λ input. Exactly n Fails (IsShort input × ((fault : CheckFault) × SaysFault input fault)))
exactly_fault None n each = tt
exactly_fault (Some input) n each =
    let at = each Fails (omega arith) in record {
      only = λ one. let owes = at.only one in let said = fault_said input owes.0 owes.1 in (said.0, (said.1.0, said.1.1));
      comes = λ says. at.comes (not_accepted_line says.1.0, fault_owed input says.1.0 says.0 says.1.1);
    }

-- no execution of the program of an accepted proof fails an assertion
pub accepted_safe : (input : List ℕ) → SaysAccepted input → SaysSafe input
accepted_safe input accepted =
    let says = accepted.says in record {
      program_text = says.program_text;
      rest = says.proof_text;
      program = accepted.program;
      parts = says.texts.parts;
      read = says.reads.read;
      safe = never_fails accepted.program accepted.graph accepted.proof.predicates accepted.proof.entries accepted.proof.configs
          (graph_of accepted.program accepted.graph (readable says.program_text accepted.program says.reads.read).signs says.reads.compiled) accepted.accepted;
    }

-- the line of the first fault was written
pub fault_written : (left : Option (List ℕ)) (n : ℕ) (Wrote : List ℕ → Type 0)
    → (n < code BadWords → SomeAnswer Owed left (λ status text. (n ≡ code status) × Wrote text)) → n ≡ 1
    → IfSome left (λ input. (fault : CheckFault) × SaysFault input fault × Wrote (not_accepted_line fault))
fault_written None n Wrote answer e = tt
fault_written (Some input) n Wrote answer e =
    let line = line_written Owed Fails (omega arith) (Some input) n Wrote answer e in
    let said = (fault_said input line.0 line.1).1 in
    (said.0, said.1, subst Wrote said.2 line.2)
