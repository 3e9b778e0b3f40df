-- An input that isn't too long owes `replay` one answer.
use Rattle.std.proofs.Common.{◌≡◌, ℕ, List, [], ◌∷◌, Contains, refl, sym, ap, ◌∙◌, subst, arith, lit<}
use Rattle.ps_compile.specs.Compiled.{IsCompiled}
use Rattle.ps_graph.specs.declared.graph.Graph.{Graph}
use Rattle.ps_lines.specs.Reading.{text_start}
use Rattle.ps_lines.specs.declared.form_fault.FormFault.{FormFault}
use Rattle.ps_parts.specs.declared.parts.TheConstants.{MOST_WITNESS}
use Rattle.ps_trace.specs.declared.witness.Witness.{Witness}
use Rattle.ps_trace_text.proofs.WitnessLaws.{witness_is_format}
use Rattle.ps_trace_text.specs.WitnessReading.{witness_at}
use Rattle.ps_tree.specs.declared.program.Program.{Program}
use Rattle.ps_modes.proofs.Alike.{fits_on_each}
use Rattle.ps_modes.proofs.Meaning.{IsOwedWhere}
use Rattle.ps_modes.proofs.Spelled.{no_fault_where_spelled, one_fault, one_spelled}
use Rattle.ps_modes.proofs.Two as two
use Rattle.ps_modes.specs.Owes.{IsShort, IsVerdict, Owes, TooLong, Within}
use Rattle.ps_modes.specs.Parts.{LongPart, NoMark, NoProgram, Parts, Programs}
use Rattle.ps_modes.specs.Replay.{FirstFault, NotOfForm, Owed, OwedOf, OwedToWitness, PastRange, Reached, SaysReached, SaysUnreached, SpellsWitness, Unreached, Witnesses}
use Rattle.ps_modes.specs.Status.{code}
use Rattle.ps_modes.specs.Texts.{fault_line}
use Rattle.ps_modes.specs.declared.status.Status.{Status}
use Rattle.ps_modes.specs.declared.status.Status.TheVariants.{Holds, Fails, BadInput}
use Rattle.ps_modes.specs.declared.texts.TheConstants.{NO, YES}

-- ---- witnesses as texts

one_witness : (text : List ℕ) (v w : Witness) → SpellsWitness text v → SpellsWitness text w → v ≡ w
one_witness text v w a b = one_spelled witness_is_format text v w a.fits a.spelled b.fits b.spelled

no_fault : (text : List ℕ) (line : ℕ) (w : Witness) (fault : FormFault) → SpellsWitness text w → FirstFault text line fault → ⊥
no_fault text line w fault says first = no_fault_where_spelled witness_is_format text line w fault says.fits says.spelled first

-- ---- one answer, layer by layer

one_of : (p : Program) (g h : Graph) (w : Witness) → IsCompiled p g → IsCompiled p h → (s t : Status) (x y : List ℕ)
    → OwedOf p g w s x → OwedOf p h w t y → (s ≡ t) × (x ≡ y)
one_of p g h w a b s t x y (Reached _ _ e f) (Reached _ _ d c) = (e ∙ sym d, f ∙ sym c)
one_of p g h w a b s t x y (Reached _ reaches _ _) (Unreached _ misses _ _) = absurd (misses reaches)
one_of p g h w a b s t x y (Reached fits _ _ _) (PastRange past _ _) = absurd (past (fits_on_each p g h a b w fits))
one_of p g h w a b s t x y (Unreached _ misses _ _) (Reached _ reaches _ _) = absurd (misses reaches)
one_of p g h w a b s t x y (Unreached _ _ e f) (Unreached _ _ d c) = (e ∙ sym d, f ∙ sym c)
one_of p g h w a b s t x y (Unreached fits _ _ _) (PastRange past _ _) = absurd (past (fits_on_each p g h a b w fits))
one_of p g h w a b s t x y (PastRange past _ _) (Reached fits _ _ _) = absurd (past (fits_on_each p h g b a w fits))
one_of p g h w a b s t x y (PastRange past _ _) (Unreached fits _ _ _) = absurd (past (fits_on_each p h g b a w fits))
one_of p g h w a b s t x y (PastRange _ e f) (PastRange _ d c) = (e ∙ sym d, f ∙ sym c)

pub one_to_witness : (p : Program) (g h : Graph) (bytes : List ℕ) (line : ℕ) → IsCompiled p g → IsCompiled p h → (s t : Status) (x y : List ℕ)
    → OwedToWitness p g bytes line s x → OwedToWitness p h bytes line t y → (s ≡ t) × (x ≡ y)
one_to_witness p g h bytes line a b s t x y (NotOfForm fault first e f) (NotOfForm other again d c) =
    (e ∙ sym d, f ∙ ap fault_line (one_fault (witness_at (text_start line bytes)) fault other first again) ∙ sym c)
one_to_witness p g h bytes line a b s t x y (NotOfForm fault first _ _) (Witnesses w says _) = absurd (no_fault bytes line w fault says first)
one_to_witness p g h bytes line a b s t x y (Witnesses w says _) (NotOfForm fault first _ _) = absurd (no_fault bytes line w fault says first)
one_to_witness p g h bytes line a b s t x y (Witnesses v says owed) (Witnesses w too other) =
    one_of p g h w a b s t x y (subst (λ (u : Witness). OwedOf p g u s x) (one_witness bytes v w says too) owed) other

pub one_owed : (input : List ℕ) (s t : Status) (x y : List ℕ) → Owed input s x → Owed input t y → (s ≡ t) × (x ≡ y)
one_owed = two.one_owed MOST_WITNESS OwedToWitness one_to_witness

-- ---- what the statuses of `replay` mean

reached_said : (input text : List ℕ) → Owes Owed input Holds text → (IsShort input × SaysReached input) × (text ≡ YES.now)
reached_said input text (TooLong _ is _) = absurd (cc)
reached_said input text (Within short (NoMark _ is _)) = absurd (cc)
reached_said input text (Within short (LongPart _ is _)) = absurd (cc)
reached_said input text (Within short (Parts p w line texts (NoProgram _ is))) = absurd (cc)
reached_said input text (Within short (Parts p w line texts (Programs q g says (NotOfForm _ _ is _)))) = absurd (cc)
reached_said input text (Within short (Parts p w line texts (Programs q g says (Witnesses v spells (Reached fits reaches _ f))))) = (
  (
    short,
    record {
      program = q;
      graph = g;
      witness = v;
      says = record { program_text = p; witness_text = w; line = line; texts = texts; reads = says; spells = spells };
      fits = fits;
      reaches = reaches;
    },
  ),
  f,
)
reached_said input text (Within short (Parts p w line texts (Programs q g says (Witnesses v spells (Unreached _ _ is _))))) = absurd (cc)
reached_said input text (Within short (Parts p w line texts (Programs q g says (Witnesses v spells (PastRange _ is _))))) = absurd (cc)

unreached_said : (input text : List ℕ) → Owes Owed input Fails text → (IsShort input × SaysUnreached input) × (text ≡ NO.now)
unreached_said input text (TooLong _ is _) = absurd (cc)
unreached_said input text (Within short (NoMark _ is _)) = absurd (cc)
unreached_said input text (Within short (LongPart _ is _)) = absurd (cc)
unreached_said input text (Within short (Parts p w line texts (NoProgram _ is))) = absurd (cc)
unreached_said input text (Within short (Parts p w line texts (Programs q g says (NotOfForm _ _ is _)))) = absurd (cc)
unreached_said input text (Within short (Parts p w line texts (Programs q g says (Witnesses v spells (Reached _ _ is _))))) = absurd (cc)
unreached_said input text (Within short (Parts p w line texts (Programs q g says (Witnesses v spells (Unreached fits misses _ f))))) = (
  (
    short,
    record {
      program = q;
      graph = g;
      witness = v;
      says = record { program_text = p; witness_text = w; line = line; texts = texts; reads = says; spells = spells };
      fits = fits;
      misses = misses;
    },
  ),
  f,
)
unreached_said input text (Within short (Parts p w line texts (Programs q g says (Witnesses v spells (PastRange _ is _))))) = absurd (cc)

reached_owed : (input text : List ℕ) → (IsShort input × SaysReached input) × (text ≡ YES.now) → Owes Owed input Holds text
reached_owed input text is =
    let yes = is.0.1 in let says = yes.says in
    Within is.0.0 (Parts says.program_text says.witness_text says.line says.texts
    (Programs yes.program yes.graph says.reads (Witnesses yes.witness says.spells (Reached yes.fits yes.reaches refl is.1))))

unreached_owed : (input text : List ℕ) → (IsShort input × SaysUnreached input) × (text ≡ NO.now) → Owes Owed input Fails text
unreached_owed input text is =
    let no = is.0.1 in let says = no.says in
    Within is.0.0 (Parts says.program_text says.witness_text says.line says.texts
    (Programs no.program no.graph says.reads (Witnesses no.witness says.spells (Unreached no.fits no.misses refl is.1))))

pub is_verdict : (p : Program) (g : Graph) (bytes : List ℕ) (line : ℕ) (status : Status) (text : List ℕ) → OwedToWitness p g bytes line status text → IsVerdict status
is_verdict p g bytes line status text (NotOfForm _ _ is _) = omega (arith, ap code is)
is_verdict p g bytes line status text (Witnesses _ _ (Reached _ _ is _)) = omega (arith, ap code is)
is_verdict p g bytes line status text (Witnesses _ _ (Unreached _ _ is _)) = omega (arith, ap code is)
is_verdict p g bytes line status text (Witnesses _ _ (PastRange _ is _)) = omega (arith, ap code is)

-- `replay` owes no other status
pub statuses_owed : (input : List ℕ) (status : Status) (text : List ℕ) → Owes Owed input status text
    → Contains (Holds ∷ Fails ∷ BadInput ∷ []) status
statuses_owed input status text (TooLong _ is _) = rw is (2, lit< tt, refl)
statuses_owed input status text (Within short (NoMark _ is _)) = rw is (2, lit< tt, refl)
statuses_owed input status text (Within short (LongPart _ is _)) = rw is (2, lit< tt, refl)
statuses_owed input status text (Within short (Parts _ _ _ _ (NoProgram _ is))) = rw is (2, lit< tt, refl)
statuses_owed input status text (Within short (Parts _ _ _ _ (Programs _ _ _ (NotOfForm _ _ is _)))) = rw is (2, lit< tt, refl)
statuses_owed input status text (Within short (Parts _ _ _ _ (Programs _ _ _ (Witnesses _ _ (Reached _ _ is _))))) = rw is (0, lit< tt, refl)
statuses_owed input status text (Within short (Parts _ _ _ _ (Programs _ _ _ (Witnesses _ _ (Unreached _ _ is _))))) = rw is (1, lit< tt, refl)
statuses_owed input status text (Within short (Parts _ _ _ _ (Programs _ _ _ (Witnesses _ _ (PastRange _ is _))))) = rw is (2, lit< tt, refl)

pub yes_owed : IsOwedWhere Owed Holds (λ input. IsShort input × SaysReached input) YES.now
yes_owed = record { verdict = omega arith; said = reached_said; owed = reached_owed }

pub no_owed : IsOwedWhere Owed Fails (λ input. IsShort input × SaysUnreached input) NO.now
no_owed = record { verdict = omega arith; said = unreached_said; owed = unreached_owed }
