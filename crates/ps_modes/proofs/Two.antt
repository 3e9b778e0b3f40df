-- An input of two parts owes one answer, where the program and the last part do.
use Rattle.std.proofs.Common.{◌≡◌, ℕ, ◌+◌, ◌<◌, ◌≤◌, ◌^◌, ◌⊎◌, inl, inr, List, ◌++◌, length, sym, ap, ◌∙◌, subst, arith, length-append}
use Rattle.std.specs.Prelude.{count_by, ◌==◌}
use Rattle.std.proofs.lemmas.List.{append_cancel_right}
use Rattle.std.proofs.lemmas.List.Sums.{count_by-le-length}
use Rattle.ps_compile.specs.Compiled.{IsCompiled}
use Rattle.ps_graph.specs.declared.graph.Graph.{Graph}
use Rattle.ps_parts.proofs.Marks.{one_cut}
use Rattle.ps_parts.specs.Cuts.{AreTwoParts, HasNoMark, IsNumbered, program_before}
use Rattle.ps_parts.specs.declared.parts.TheConstants.{MOST_PROGRAM}
use Rattle.ps_tree.specs.declared.program.Program.{Program}
use Rattle.ps_modes.proofs.Programs.{not_refused, one_line, one_read}
use Rattle.ps_modes.specs.Owes.{IsOwedAnswer, IsShort, IsVerdict}
use Rattle.ps_modes.specs.Parts.{HasLongPart, HasTexts, LongPart, NoMark, NoProgram, OwedToParts, OwedToTexts, Parts, Programs}
use Rattle.ps_modes.specs.Status.{code}
use Rattle.ps_modes.specs.declared.status.Status.{Status}
use Rattle.ps_modes.specs.declared.status.Status.TheVariants.{BadInput}
use Rattle.ps_modes.specs.declared.texts.TheConstants.{LIMIT_PART}

-- a program and the text of the last part owe one answer, on each of its graphs
abbrev pub OwesOnce : (Program → Graph → List ℕ → ℕ → Status → List ℕ → Type 0) → Type 0
OwesOnce OwedTo = (p : Program) (g h : Graph) (bytes : List ℕ) (line : ℕ) → IsCompiled p g → IsCompiled p h → (s t : Status) (x y : List ℕ)
    → OwedTo p g bytes line s x → OwedTo p h bytes line t y → (s ≡ t) × (x ≡ y)

pub one_to_texts : (OwedTo : Program → Graph → List ℕ → ℕ → Status → List ℕ → Type 0) → OwesOnce OwedTo → (program last : List ℕ) (line : ℕ) (s t : Status) (x y : List ℕ)
    → OwedToTexts OwedTo program last line s x → OwedToTexts OwedTo program last line t y → (s ≡ t) × (x ≡ y)
one_to_texts OwedTo once program last line s t x y (NoProgram by e) (NoProgram other d) = (e ∙ sym d, one_line program x y by other)
one_to_texts OwedTo once program last line s t x y (NoProgram by e) (Programs q h too _) = absurd (not_refused program q h by.0 too by.1)
one_to_texts OwedTo once program last line s t x y (Programs p g says _) (NoProgram by e) = absurd (not_refused program p g by.0 says by.1)
one_to_texts OwedTo once program last line s t x y (Programs p g says owed) (Programs q h too other) =
    let same = one_read program p q says.read too.read in
    once q g h last line (subst (λ (r : Program). IsCompiled r g) same says.compiled) too.compiled s t x y
    (subst (λ (r : Program). OwedTo r g last line s x) same owed) other

-- ---- the parts of an input

record AreSameTexts (program last : List ℕ) (line : ℕ) (front rest : List ℕ) (at : ℕ) : Type 0 where
  pub front_is : program ≡ front
  pub rest_is : last ≡ rest
  pub line_is : line ≡ at

pub same_parts : (input program last front rest : List ℕ) → AreTwoParts input program last → AreTwoParts input front rest
    → (program ≡ front) × (last ≡ rest)
same_parts input program last front rest a b =
    let same = one_cut input a.0 last b.0 rest a.1 b.1 in
    (a.2 ∙ ap program_before same.0 ∙ sym b.2, same.1)

pub same_line : (input last rest : List ℕ) (line at : ℕ) → last ≡ rest → IsNumbered input last line → IsNumbered input rest at → line ≡ at
same_line input last rest line at same a b =
    let joined : a.0 ++ rest ≡ b.0 ++ rest = ap (λ (xs : List ℕ). a.0 ++ xs) (sym same) ∙ sym a.1 ∙ b.1 in
    a.2 ∙ ap (λ (xs : List ℕ). 1 + count_by (λ (b : ℕ). b == 10) xs) (append_cancel_right a.0 b.0 rest joined) ∙ sym b.2

same_texts : (most : ℕ) (input program last : List ℕ) (line : ℕ) (front rest : List ℕ) (at : ℕ) → HasTexts most input program last line
    → HasTexts most input front rest at → AreSameTexts program last line front rest at
same_texts most input program last line front rest at a b =
    let same = same_parts input program last front rest a.parts b.parts in record {
      front_is = same.0;
      rest_is = same.1;
      line_is = same_line input last rest line at same.1 a.numbered b.numbered;
    }

not_long : (most : ℕ) (input program last : List ℕ) (line : ℕ) → HasTexts most input program last line → HasLongPart most input → ⊥
not_long most input program last line texts long =
    let same = same_parts input program last long.program long.last texts.parts long.parts in
    elim long.long [
      | inl more ↦ omega (arith, more, texts.program_within, ap length same.0)
      | inr more ↦ omega (arith, more, texts.last_within, ap length same.1)
    ]

-- an input of two parts has a mark
pub marked : (input program last : List ℕ) → AreTwoParts input program last → HasNoMark input → ⊥
marked input program last parts none = none (length parts.0) parts.1.first.mark

pub one_owed : (most : ℕ) (OwedTo : Program → Graph → List ℕ → ℕ → Status → List ℕ → Type 0) → OwesOnce OwedTo → (input : List ℕ) (s t : Status) (x y : List ℕ)
    → OwedToParts most OwedTo input s x → OwedToParts most OwedTo input t y → (s ≡ t) × (x ≡ y)
one_owed most OwedTo once input s t x y (NoMark _ e f) (NoMark _ d c) = (e ∙ sym d, f ∙ sym c)
one_owed most OwedTo once input s t x y (NoMark none _ _) (LongPart long _ _) = absurd (marked input long.program long.last long.parts none)
one_owed most OwedTo once input s t x y (NoMark none _ _) (Parts p w line texts _) = absurd (marked input p w texts.parts none)
one_owed most OwedTo once input s t x y (LongPart long _ _) (NoMark none _ _) = absurd (marked input long.program long.last long.parts none)
one_owed most OwedTo once input s t x y (LongPart _ e f) (LongPart _ d c) = (e ∙ sym d, f ∙ sym c)
one_owed most OwedTo once input s t x y (LongPart long _ _) (Parts p w line texts _) = absurd (not_long most input p w line texts long)
one_owed most OwedTo once input s t x y (Parts p w line texts _) (NoMark none _ _) = absurd (marked input p w texts.parts none)
one_owed most OwedTo once input s t x y (Parts p w line texts _) (LongPart long _ _) = absurd (not_long most input p w line texts long)
one_owed most OwedTo once input s t x y (Parts p w line texts owed) (Parts q v at others other) =
    let same = same_texts most input p w line q v at texts others in
    one_to_texts OwedTo once q v at s t x y
    (subst (λ (n : ℕ). OwedToTexts OwedTo q v n s x) same.line_is
    (subst (λ (u : List ℕ). OwedToTexts OwedTo q u line s x) same.rest_is
    (subst (λ (r : List ℕ). OwedToTexts OwedTo r w line s x) same.front_is owed)))
    other

pub answer_of : (most : ℕ) (OwedTo : Program → Graph → List ℕ → ℕ → Status → List ℕ → Type 0) → OwesOnce OwedTo → (input : List ℕ) (s : Status) (x : List ℕ)
    → OwedToParts most OwedTo input s x → IsOwedAnswer (OwedToParts most OwedTo input) s x
answer_of most OwedTo once input s x owed = record { owed = owed; only = λ t y other. one_owed most OwedTo once input t s y x other owed }

-- ---- what the cut answered

pub parts_owe : (most : ℕ) (OwedTo : Program → Graph → List ℕ → ℕ → Status → List ℕ → Type 0) (input program last : List ℕ) (line : ℕ) → AreTwoParts input program last
    → (length program ≤ MOST_PROGRAM) × (length last ≤ most) → IsNumbered input last line
    → (s : Status) (x : List ℕ) → OwedToTexts OwedTo program last line s x → OwedToParts most OwedTo input s x
parts_owe most OwedTo input program last line parts within numbered s x owed =
    Parts program last line
    (record { parts = parts; program_within = within.0; last_within = within.1; numbered = numbered }) owed

pub long_owes : (most : ℕ) (OwedTo : Program → Graph → List ℕ → ℕ → Status → List ℕ → Type 0) (input : List ℕ)
    → ((program last : List ℕ) × AreTwoParts input program last × ((MOST_PROGRAM < length program) ⊎ (most < length last)))
    → (s : Status) (x : List ℕ) → s ≡ BadInput → x ≡ LIMIT_PART.now → OwedToParts most OwedTo input s x
long_owes most OwedTo input long s x e f = LongPart (record { program = long.0; last = long.1; parts = long.2; long = long.3 }) e f

-- the lines of the last part stay below 2^32
pub room : (input last : List ℕ) (line : ℕ) → IsShort input → IsNumbered input last line → (1 ≤ line) × (line + length last < 2 ^ 32)
room input last line short numbered =
    let feeds = count_by-le-length (λ (b : ℕ). b == 10) numbered.0 in
    let joined = ap length numbered.1 ∙ length-append numbered.0 last in
    (omega (arith, numbered.2), omega (arith, short, numbered.2, feeds, joined))

-- the statuses of an answer are those that the program and the last part owe, or that of a refusal
pub verdict_of : (most : ℕ) (OwedTo : Program → Graph → List ℕ → ℕ → Status → List ℕ → Type 0)
    → ((p : Program) (g : Graph) (bytes : List ℕ) (line : ℕ) (s : Status) (x : List ℕ) → OwedTo p g bytes line s x → IsVerdict s)
    → (input : List ℕ) (s : Status) (x : List ℕ) → OwedToParts most OwedTo input s x → IsVerdict s
verdict_of most OwedTo each input s x (NoMark _ is _) = omega (arith, ap code is)
verdict_of most OwedTo each input s x (LongPart _ is _) = omega (arith, ap code is)
verdict_of most OwedTo each input s x (Parts _ last line _ (NoProgram _ is)) = omega (arith, ap code is)
verdict_of most OwedTo each input s x (Parts _ last line _ (Programs q g _ owed)) = each q g last line s x owed
