-- How variables and terms are spelled, and which ones have a spelling.
use Rattle.std.specs.Prelude.{ℕ, ◌≤◌, ℤ, FitsSigned, List, [], ◌∷◌, ◌++◌, map, decimal}
use Rattle.std.specs.Fmt.{signed_decimal}
use Rattle.std.specs.Int.{w128}
use Rattle.std.specs.List.{AllByRecursion}
use Rattle.ps_term.specs.declared.var.Var.{Var}
use Rattle.ps_term.specs.declared.var.Var.TheVariants.{Global, Local, Havoc}
use Rattle.ps_term.specs.declared.term.Term.{Term}
use Rattle.ps_term.specs.Pairs.{IsCanonical}
use Rattle.ps_term_text.specs.declared.limits.TheConstants.{MOST_NUMBER}

-- A global is `gN`, and local N of thread or slot S is `lN@S`. A havoc has no spelling.
abbrev pub variable_text : Var → List ℕ
variable_text (Global n) = 103 ∷ decimal n
variable_text (Local s n) = 108 ∷ (decimal n ++ 64 ∷ decimal s)
variable_text (Havoc n) = []

-- The numbers are in range, and the variable isn't a havoc.
abbrev pub VariableHasSpelling : Var → Type 0
VariableHasSpelling (Global n) = n ≤ MOST_NUMBER
VariableHasSpelling (Local s n) = (n ≤ MOST_NUMBER) × (s ≤ MOST_NUMBER)
VariableHasSpelling (Havoc n) = ⊥

-- The coefficient, `*`, and the variable.
abbrev pub pair_text : Var × ℤ → List ℕ
pair_text p = signed_decimal p.1 ++ 42 ∷ variable_text p.0

-- Which pairs have a spelling.
pub record PairHasSpelling (p : Var × ℤ) : Type 0 where
  pub coefficient : FitsSigned w128 p.1
  pub variable : VariableHasSpelling p.0

-- The fields of a term: its pairs, and then its constant.
abbrev pub term_fields : Term → List (List ℕ)
term_fields t = map pair_text t.pairs ++ signed_decimal t.constant ∷ []

-- Which terms have a spelling: the pairs are canonical, and each number is in its range.
pub record TermHasSpelling (t : Term) : Type 0 where
  pub canonical : IsCanonical t.pairs
  pub pairs : AllByRecursion PairHasSpelling t.pairs
  pub constant : FitsSigned w128 t.constant
