-- An input of three parts owes one answer, where the program and the other two texts do.
use Rattle.std.proofs.Common.{◌≡◌, ℕ, ◌<◌, ◌≤◌, ◌⊎◌, inl, inr, List, ◌++◌, length, sym, ap, ap₂, ◌∙◌, subst, arith, length-append}
use Rattle.ps_graph.specs.declared.graph.Graph.{Graph}
use Rattle.ps_parts.proofs.Marks.{one_cut}
use Rattle.ps_parts.specs.Cuts.{AreThreeParts, HasNoMark, IsCut, IsNumbered}
use Rattle.ps_parts.specs.declared.mark.TheConstants.{MARK}
use Rattle.ps_parts.specs.declared.parts.TheConstants.{MOST_PROGRAM}
use Rattle.ps_tree.specs.declared.program.Program.{Program}
use Rattle.ps_modes.proofs.Two.{OwesOnce, marked, one_to_texts, same_line, same_parts}
use Rattle.ps_modes.proofs.Two as two
use Rattle.ps_modes.specs.Inner.Lines.{HasRoom}
use Rattle.ps_modes.specs.Owes.{IsOwedAnswer, IsShort, IsVerdict}
use Rattle.ps_modes.specs.Parts.{NoProgram, OwedToTexts, Programs}
use Rattle.ps_modes.specs.Status.{code}
use Rattle.ps_modes.specs.ThreeParts.{HasLongPart, HasThreeTexts, IsMiddleNumbered, LacksMark, LongPart, NoMark, OwedToThreeParts, Parts}
use Rattle.ps_modes.specs.declared.status.Status.{Status}
use Rattle.ps_modes.specs.declared.status.Status.TheVariants.{BadInput}
use Rattle.ps_modes.specs.declared.texts.TheConstants.{LIMIT_PART}

-- what a middle text and its line, a program, with its graph, and the text of the last part and its line owe
abbrev pub Owing : Type 1
Owing = List ℕ → ℕ → Program → Graph → List ℕ → ℕ → Status → List ℕ → Type 0

-- they owe one answer, on each graph of the program
abbrev pub OweOnce : Owing → Type 0
OweOnce OwedTo = (middle : List ℕ) (line : ℕ) → OwesOnce (OwedTo middle line)

-- ---- the parts of an input

same_three : (input program middle last front center rest : List ℕ) → AreThreeParts input program middle last → AreThreeParts input front center rest
    → (program ≡ front) × (middle ≡ center) × (last ≡ rest)
same_three input program middle last front center rest a b =
    let outer = same_parts input program a.0 front b.0 a.1 b.1 in
    let inner = one_cut b.0 middle last center rest (subst (λ (r : List ℕ). IsCut r middle last) outer.1 a.2) b.2 in
    (outer.0, inner.0, inner.1)

same_middle_line : (input middle last center rest : List ℕ) (line at : ℕ) → middle ≡ center → last ≡ rest
    → IsMiddleNumbered input middle last line → IsMiddleNumbered input center rest at → line ≡ at
same_middle_line input middle last center rest line at here there a b =
    let same : a.0 ≡ b.0 = a.1.whole ∙ ap₂ (λ (x y : List ℕ). x ++ (MARK.now ++ y)) here there ∙ sym b.1.whole in
    same_line input a.0 b.0 line at same a.2 b.2

record AreSameTexts (program middle : List ℕ) (middle_line : ℕ) (last : List ℕ) (line : ℕ) (front center : List ℕ) (center_line : ℕ) (rest : List ℕ) (at : ℕ) : Type 0 where
  pub front_is : program ≡ front
  pub center_is : middle ≡ center
  pub center_line_is : middle_line ≡ center_line
  pub rest_is : last ≡ rest
  pub line_is : line ≡ at

same_texts : (m n : ℕ) (input program middle : List ℕ) (middle_line : ℕ) (last : List ℕ) (line : ℕ) (front center : List ℕ) (center_line : ℕ) (rest : List ℕ) (at : ℕ)
    → HasThreeTexts m n input program middle middle_line last line → HasThreeTexts m n input front center center_line rest at
    → AreSameTexts program middle middle_line last line front center center_line rest at
same_texts m n input program middle middle_line last line front center center_line rest at a b =
    let same = same_three input program middle last front center rest a.parts b.parts in record {
      front_is = same.0;
      center_is = same.1;
      center_line_is = same_middle_line input middle last center rest middle_line center_line same.1 same.2 a.middle_numbered b.middle_numbered;
      rest_is = same.2;
      line_is = same_line input last rest line at same.2 a.numbered b.numbered;
    }

not_long : (m n : ℕ) (input program middle : List ℕ) (middle_line : ℕ) (last : List ℕ) (line : ℕ) → HasThreeTexts m n input program middle middle_line last line
    → HasLongPart m n input → ⊥
not_long m n input program middle middle_line last line texts long =
    let same = same_three input program middle last long.program long.middle long.last texts.parts long.parts in
    elim long.long [
      | inl more ↦ omega (arith, more, texts.program_within, ap length same.0)
      | inr other ↦ elim other [
        | inl more ↦ omega (arith, more, texts.middle_within, ap length same.1)
        | inr more ↦ omega (arith, more, texts.last_within, ap length same.2)
      ]
    ]

-- an input of three parts lacks no mark
both_marked : (input program middle last : List ℕ) → AreThreeParts input program middle last → LacksMark input → ⊥
both_marked input program middle last parts (inl none) = marked input program parts.0 parts.1 none
both_marked input program middle last parts (inr second) =
    let same = same_parts input program parts.0 second.0 second.1 parts.1 second.2 in
    subst HasNoMark (sym same.1) second.3 (length middle) parts.2.first.mark

-- ---- one answer

pub one_owed : (m n : ℕ) (OwedTo : Owing) → OweOnce OwedTo → (input : List ℕ) (s t : Status) (x y : List ℕ)
    → OwedToThreeParts m n OwedTo input s x → OwedToThreeParts m n OwedTo input t y → (s ≡ t) × (x ≡ y)
one_owed m n OwedTo once input s t x y (NoMark _ e f) (NoMark _ d c) = (e ∙ sym d, f ∙ sym c)
one_owed m n OwedTo once input s t x y (NoMark none _ _) (LongPart long _ _) = absurd (both_marked input long.program long.middle long.last long.parts none)
one_owed m n OwedTo once input s t x y (NoMark none _ _) (Parts p u w i line texts _) = absurd (both_marked input p u w texts.parts none)
one_owed m n OwedTo once input s t x y (LongPart long _ _) (NoMark none _ _) = absurd (both_marked input long.program long.middle long.last long.parts none)
one_owed m n OwedTo once input s t x y (LongPart _ e f) (LongPart _ d c) = (e ∙ sym d, f ∙ sym c)
one_owed m n OwedTo once input s t x y (LongPart long _ _) (Parts p u w i line texts _) = absurd (not_long m n input p u i w line texts long)
one_owed m n OwedTo once input s t x y (Parts p u w i line texts _) (NoMark none _ _) = absurd (both_marked input p u w texts.parts none)
one_owed m n OwedTo once input s t x y (Parts p u w i line texts _) (LongPart long _ _) = absurd (not_long m n input p u i w line texts long)
one_owed m n OwedTo once input s t x y (Parts p u w i line texts owed) (Parts q v z j at others other) =
    let same = same_texts m n input p u i w line q v j z at texts others in
    one_to_texts (OwedTo v j) (once v j) q z at s t x y
    (subst (λ (k : ℕ). OwedToTexts (OwedTo v j) q z k s x) same.line_is
    (subst (λ (r : List ℕ). OwedToTexts (OwedTo v j) q r line s x) same.rest_is
    (subst (λ (k : ℕ). OwedToTexts (OwedTo v k) q w line s x) same.center_line_is
    (subst (λ (r : List ℕ). OwedToTexts (OwedTo r i) q w line s x) same.center_is
    (subst (λ (r : List ℕ). OwedToTexts (OwedTo u i) r w line s x) same.front_is owed)))))
    other

pub answer_of : (m n : ℕ) (OwedTo : Owing) → OweOnce OwedTo → (input : List ℕ) (s : Status) (x : List ℕ)
    → OwedToThreeParts m n OwedTo input s x → IsOwedAnswer (OwedToThreeParts m n OwedTo input) s x
answer_of m n OwedTo once input s x owed = record { owed = owed; only = λ t y other. one_owed m n OwedTo once input t s y x other owed }

-- ---- what the cut answered

pub parts_owe : (m n : ℕ) (OwedTo : Owing) (input program middle last : List ℕ) (middle_line line : ℕ) → AreThreeParts input program middle last
    → (length program ≤ MOST_PROGRAM) × (length middle ≤ m) × (length last ≤ n) → IsMiddleNumbered input middle last middle_line → IsNumbered input last line
    → (s : Status) (x : List ℕ) → OwedToTexts (OwedTo middle middle_line) program last line s x → OwedToThreeParts m n OwedTo input s x
parts_owe m n OwedTo input program middle last middle_line line parts within middle_numbered numbered s x owed =
    Parts program middle last middle_line line
    (record {
      parts = parts;
      program_within = within.0;
      middle_within = within.1;
      last_within = within.2;
      middle_numbered = middle_numbered;
      numbered = numbered;
    }) owed

pub long_owes : (m n : ℕ) (OwedTo : Owing) (input : List ℕ)
    → ((program middle last : List ℕ) × AreThreeParts input program middle last × ((MOST_PROGRAM < length program) ⊎ (m < length middle) ⊎ (n < length last)))
    → (s : Status) (x : List ℕ) → s ≡ BadInput → x ≡ LIMIT_PART.now → OwedToThreeParts m n OwedTo input s x
long_owes m n OwedTo input long s x e f = LongPart (record { program = long.0; middle = long.1; last = long.2; parts = long.3; long = long.4 }) e f

-- the lines of the middle part stay below 2^32
pub middle_room : (input middle last : List ℕ) (line : ℕ) → IsShort input → IsMiddleNumbered input middle last line → HasRoom middle line
middle_room input middle last line short numbered =
    let all = two.room input numbered.0 line short numbered.2 in
    let joined = ap length numbered.1.whole ∙ length-append middle (MARK.now ++ last) in
    (all.0, omega (arith, all.1, joined))

-- the statuses of an answer are those that the program and the other texts owe, or that of a refusal
pub verdict_of : (m n : ℕ) (OwedTo : Owing)
    → ((middle : List ℕ) (i : ℕ) (p : Program) (g : Graph) (bytes : List ℕ) (line : ℕ) (s : Status) (x : List ℕ) → OwedTo middle i p g bytes line s x → IsVerdict s)
    → (input : List ℕ) (s : Status) (x : List ℕ) → OwedToThreeParts m n OwedTo input s x → IsVerdict s
verdict_of m n OwedTo each input s x (NoMark _ is _) = omega (arith, ap code is)
verdict_of m n OwedTo each input s x (LongPart _ is _) = omega (arith, ap code is)
verdict_of m n OwedTo each input s x (Parts _ _ last _ line _ (NoProgram _ is)) = omega (arith, ap code is)
verdict_of m n OwedTo each input s x (Parts _ middle last i line _ (Programs q g _ owed)) = each middle i q g last line s x owed
