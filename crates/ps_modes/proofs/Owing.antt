-- An input that isn't too long owes `refute` one answer.
use Rattle.std.proofs.Common.{◌≡◌, ℕ, List, [], ◌∷◌, Contains, refl, sym, ap, ◌∙◌, subst, lit<, arith}
use Rattle.ps_farkas.specs.Refutes.{AllSumsFit, Refutes}
use Rattle.ps_lines.specs.Reading.{text_start}
use Rattle.ps_lines.specs.declared.form_fault.FormFault.{FormFault}
use Rattle.ps_rows.proofs.Laws.{claim_is_format}
use Rattle.ps_rows.specs.Reading.{claim_at}
use Rattle.ps_rows.specs.declared.claim.Claim.{Claim}
use Rattle.ps_modes.proofs.Meaning.{IsOwedWhere}
use Rattle.ps_modes.proofs.Spelled.{no_fault_where_spelled, one_fault, one_spelled}
use Rattle.ps_modes.specs.Inner.Judged.{Judged, Refuting, NotRefuting, PastSums}
use Rattle.ps_modes.specs.Owes.{IsOwedAnswer, IsShort, Owes, TooLong, Within}
use Rattle.ps_modes.specs.Refute.{FirstFault, Owed, Yes, No, NotOfForm, PastRange, SpellsClaim, SaysYes, SaysNo}
use Rattle.ps_modes.specs.Texts.{fault_line}
use Rattle.ps_modes.specs.declared.status.Status.{Status}
use Rattle.ps_modes.specs.declared.status.Status.TheVariants.{Holds, Fails, BadInput}
use Rattle.ps_modes.specs.declared.texts.TheConstants.{NO, YES}

-- ---- claims as texts

one_claim : (input : List ℕ) (a b : Claim) → SpellsClaim input a → SpellsClaim input b → a ≡ b
one_claim input a b x y = one_spelled claim_is_format input a b x.fits x.spelled y.fits y.spelled

no_fault : (input : List ℕ) (claim : Claim) (fault : FormFault) → SpellsClaim input claim → FirstFault input fault → ⊥
no_fault input claim fault says first = no_fault_where_spelled claim_is_format input 1 claim fault says.fits says.spelled first

fit : (input : List ℕ) (a b : Claim) → SpellsClaim input a → SpellsClaim input b → AllSumsFit a.rows a.multipliers → AllSumsFit b.rows b.multipliers
fit input a b x y h = subst (λ (c : Claim). AllSumsFit c.rows c.multipliers) (one_claim input a b x y) h

refute : (input : List ℕ) (a b : Claim) → SpellsClaim input a → SpellsClaim input b → Refutes a.rows a.multipliers → Refutes b.rows b.multipliers
refute input a b x y h = subst (λ (c : Claim). Refutes c.rows c.multipliers) (one_claim input a b x y) h

-- ---- one answer

pub one_owed : (input : List ℕ) (s t : Status) (x y : List ℕ) → Owed input s x → Owed input t y → (s ≡ t) × (x ≡ y)
one_owed input s t x y (Yes _ e f) (Yes _ d c) = (e ∙ sym d, f ∙ sym c)
one_owed input s t x y (Yes a _ _) (No b _ _) = absurd (b.fails (refute input a.claim b.claim a.says b.says a.holds))
one_owed input s t x y (Yes a _ _) (NotOfForm fault first _ _) = absurd (no_fault input a.claim fault a.says first)
one_owed input s t x y (Yes a _ _) (PastRange b says past _ _) = absurd (past (fit input a.claim b a.says says a.fits))
one_owed input s t x y (No a _ _) (Yes b _ _) = absurd (a.fails (refute input b.claim a.claim b.says a.says b.holds))
one_owed input s t x y (No _ e f) (No _ d c) = (e ∙ sym d, f ∙ sym c)
one_owed input s t x y (No a _ _) (NotOfForm fault first _ _) = absurd (no_fault input a.claim fault a.says first)
one_owed input s t x y (No a _ _) (PastRange b says past _ _) = absurd (past (fit input a.claim b a.says says a.fits))
one_owed input s t x y (NotOfForm fault first _ _) (Yes b _ _) = absurd (no_fault input b.claim fault b.says first)
one_owed input s t x y (NotOfForm fault first _ _) (No b _ _) = absurd (no_fault input b.claim fault b.says first)
one_owed input s t x y (NotOfForm fault first e f) (NotOfForm other again d c) =
    (e ∙ sym d, f ∙ ap fault_line (one_fault (claim_at (text_start 1 input)) fault other first again) ∙ sym c)
one_owed input s t x y (NotOfForm fault first _ _) (PastRange b says _ _ _) = absurd (no_fault input b fault says first)
one_owed input s t x y (PastRange a says past _ _) (Yes b _ _) = absurd (past (fit input b.claim a b.says says b.fits))
one_owed input s t x y (PastRange a says past _ _) (No b _ _) = absurd (past (fit input b.claim a b.says says b.fits))
one_owed input s t x y (PastRange a says _ _ _) (NotOfForm fault first _ _) = absurd (no_fault input a fault says first)
one_owed input s t x y (PastRange _ _ _ e f) (PastRange _ _ _ d c) = (e ∙ sym d, f ∙ sym c)

pub answer_of : (input : List ℕ) (s : Status) (x : List ℕ) → Owed input s x → IsOwedAnswer (Owed input) s x
answer_of input s x owed = record { owed = owed; only = λ t y other. one_owed input t s y x other owed }

-- what a claim alone owes, the input owes that says it
pub judged_owed : (input : List ℕ) (claim : Claim) → SpellsClaim input claim → (status : Status) (text : List ℕ) → Judged claim status text → Owed input status text
judged_owed input claim says status text (Refuting fits holds e f) = Yes (record { claim = claim; says = says; fits = fits; holds = holds }) e f
judged_owed input claim says status text (NotRefuting fits fails e f) = No (record { claim = claim; says = says; fits = fits; fails = fails }) e f
judged_owed input claim says status text (PastSums past e f) = PastRange claim says past e f

-- ---- what the statuses of `refute` mean

yes_said : (input text : List ℕ) → Owes Owed input Holds text → (IsShort input × SaysYes input) × (text ≡ YES.now)
yes_said input text (TooLong _ is _) = absurd (cc)
yes_said input text (Within short (Yes says _ e)) = ((short, says), e)
yes_said input text (Within short (No _ is _)) = absurd (cc)
yes_said input text (Within short (NotOfForm _ _ is _)) = absurd (cc)
yes_said input text (Within short (PastRange _ _ _ is _)) = absurd (cc)

no_said : (input text : List ℕ) → Owes Owed input Fails text → (IsShort input × SaysNo input) × (text ≡ NO.now)
no_said input text (TooLong _ is _) = absurd (cc)
no_said input text (Within short (Yes _ is _)) = absurd (cc)
no_said input text (Within short (No says _ e)) = ((short, says), e)
no_said input text (Within short (NotOfForm _ _ is _)) = absurd (cc)
no_said input text (Within short (PastRange _ _ _ is _)) = absurd (cc)

pub yes_owed : IsOwedWhere Owed Holds (λ input. IsShort input × SaysYes input) YES.now
yes_owed = record { verdict = omega arith; said = yes_said; owed = λ input text is. Within is.0.0 (Yes is.0.1 refl is.1) }

pub no_owed : IsOwedWhere Owed Fails (λ input. IsShort input × SaysNo input) NO.now
no_owed = record { verdict = omega arith; said = no_said; owed = λ input text is. Within is.0.0 (No is.0.1 refl is.1) }

pub statuses_owed : (input : List ℕ) (status : Status) (text : List ℕ) → Owes Owed input status text
    → Contains (Holds ∷ Fails ∷ BadInput ∷ []) status
statuses_owed input status text (TooLong _ is _) = rw is (2, lit< tt, refl)
statuses_owed input status text (Within short (Yes _ is _)) = rw is (0, lit< tt, refl)
statuses_owed input status text (Within short (No _ is _)) = rw is (1, lit< tt, refl)
statuses_owed input status text (Within short (NotOfForm _ _ is _)) = rw is (2, lit< tt, refl)
statuses_owed input status text (Within short (PastRange _ _ _ is _)) = rw is (2, lit< tt, refl)
