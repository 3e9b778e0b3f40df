-- Worked examples of variables, terms and rows.
use Rattle.std.specs.Prelude.{◌≡◌, ℤ, pos, negsuc, ◌^◌, true, false, List, [], ◌∷◌}
use Rattle.ps_term.specs.Evaluation.{EvaluationFits}
use Rattle.ps_term.specs.Exact.{plus_scaled, substituted}
use Rattle.ps_term.specs.Pairs.{IsCanonical, coefficient}
use Rattle.ps_term.specs.Row.{Holds}
use Rattle.ps_term.specs.Substitution.{SubstitutionFits, values_after}
use Rattle.ps_term.specs.Term.{value}
use Rattle.ps_term.specs.Var.{var_eq, var_lt}
use Rattle.ps_term.specs.Whole.{IsCeiling}
use Rattle.ps_term.specs.declared.term.Term.{Term}
use Rattle.ps_term.specs.declared.var.Var.{Var}
use Rattle.ps_term.specs.declared.var.Var.TheVariants.{Global, Local, Havoc}

abbrev pub term : List (Var × ℤ) → ℤ → Term
term pairs constant = record { pairs = pairs; constant = constant }

-- twice global 0 less local 1 of thread 0, and 3
abbrev pub example : Term
example = term ((Global 0, pos 2) ∷ (Local 0 1, negsuc 0) ∷ []) (pos 3)

-- globals come first, of locals the thread decides before the number, and havocs come last
abbrev pub VariablesInOrder : Type 0
VariablesInOrder =
    (var_lt (Global 9) (Local 0 0) ≡ true) × (var_lt (Local 0 9) (Local 1 0) ≡ true) × (var_lt (Local 1 0) (Local 1 1) ≡ true)
    × (var_lt (Local 7 7) (Havoc 0) ≡ true) × (var_lt (Global 1) (Global 1) ≡ false)

-- a local is told by its thread and its number, and is no global of that number
abbrev pub VariablesApart : Type 0
VariablesApart =
    (var_eq (Local 1 2) (Local 1 2) ≡ true) × (var_eq (Local 1 2) (Local 2 2) ≡ false) × (var_eq (Local 1 2) (Local 1 1) ≡ false)
    × (var_eq (Global 2) (Havoc 2) ≡ false)

-- neither a coefficient 0 nor a variable before another one that is less, or the same, is canonical
abbrev pub OneSpelling : Type 0
OneSpelling =
    IsCanonical example.pairs × (¬ IsCanonical ((Global 0, pos 0) ∷ []))
    × (¬ IsCanonical ((Local 0 1, pos 1) ∷ (Global 0, pos 1) ∷ [])) × (¬ IsCanonical ((Global 0, pos 1) ∷ (Global 0, pos 1) ∷ []))

-- a coefficient that stands, and one that doesn't
abbrev pub Coefficients : Type 0
Coefficients = (coefficient (Local 0 1) example.pairs ≡ negsuc 0) × (coefficient (Havoc 0) example.pairs ≡ pos 0)

-- 2 * 5 - 5 + 3
abbrev pub WorthAtFives : Type 0
WorthAtFives = value (λ _. pos 5) example ≡ pos 8

-- at ones, with the example put for global 4: that is worth 4, and global 5 is worth 1 as before
abbrev pub PutAtOnes : Type 0
PutAtOnes =
    (values_after (λ _. pos 1) ((Global 4, example) ∷ []) (Global 4) ≡ pos 4)
    × (values_after (λ _. pos 1) ((Global 4, example) ∷ []) (Global 5) ≡ pos 1)

-- where a variable stands twice in the list, its first term is put
abbrev pub FirstIsPut : Type 0
FirstIsPut = values_after (λ _. pos 1) ((Global 4, example) ∷ (Global 4, term [] (pos 9)) ∷ []) (Global 4) ≡ pos 4

-- the example and twice (local 1 less global 7, and 1): the local is gone
abbrev pub SumAdded : Type 0
SumAdded =
    plus_scaled example (pos 1) (term ((Global 7, negsuc 1) ∷ (Local 0 1, pos 1) ∷ []) (pos 2))
    ≡ term ((Global 0, pos 2) ∷ (Global 7, negsuc 1) ∷ []) (pos 5)

-- in 3 * global 4 + global 5 + 1 the example stands for global 4
abbrev pub ExamplePut : Type 0
ExamplePut =
    substituted ((Global 4, example) ∷ []) (term ((Global 4, pos 3) ∷ (Global 5, pos 1) ∷ []) (pos 1))
    ≡ term ((Global 0, pos 6) ∷ (Global 5, pos 1) ∷ (Local 0 1, negsuc 2) ∷ []) (pos 10)

-- 2^126 is put for globals 0 and 1 of global 0 + global 1 - 1: the whole fits, and the partial sum 2^127 doesn't
abbrev pub PartialSumsCount : Type 0
PartialSumsCount =
    ¬ SubstitutionFits ((Global 0, term [] (pos (2 ^ 126))) ∷ (Global 1, term [] (pos (2 ^ 126))) ∷ [])
    (term ((Global 0, pos 1) ∷ (Global 1, pos 1) ∷ []) (negsuc 0))

-- likewise where the term is evaluated with both globals at 2^126
abbrev pub EvaluatedInOrder : Type 0
EvaluatedInOrder =
    ¬ EvaluationFits (λ _. pos (2 ^ 126)) (term ((Global 0, pos 1) ∷ (Global 1, pos 1) ∷ []) (negsuc 0))

-- global 0 - 1 <= 0 holds at 1, and not at 2
abbrev pub HoldsUpToOne : Type 0
HoldsUpToOne =
    Holds (λ _. pos 1) (record { term = term ((Global 0, pos 1) ∷ []) (negsuc 0) })
    × (¬ Holds (λ _. pos 2) (record { term = term ((Global 0, pos 1) ∷ []) (negsuc 0) }))

-- half of 7, rounded up, is 4, and that of -7 is -3 and not -4
abbrev pub RoundedUp : Type 0
RoundedUp =
    IsCeiling (pos 7) (pos 2) (pos 4) × IsCeiling (negsuc 6) (pos 2) (negsuc 2) × (¬ IsCeiling (negsuc 6) (pos 2) (negsuc 3))
