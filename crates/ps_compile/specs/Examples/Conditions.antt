-- Worked examples: programs of a global `x` and a local `t` that can be compiled, and some that can't.
use Rattle.std.specs.Prelude.{◌-◌, ◌^◌, ℤ, pos, neg_ℤ, List, [], ◌∷◌, Option, Some, None}
use Rattle.ps_compile.specs.Conditions.{IsCompilable}
use Rattle.ps_graph.specs.Examples.{does, number, relation_with, t, x, y}
use Rattle.ps_term.specs.declared.var.Var.{Var}
use Rattle.ps_term.specs.declared.var.Var.TheVariants.{Local, Havoc as HavocVar}
use Rattle.ps_tree.specs.declared.cond.Test.TheVariants.{Star}
use Rattle.ps_tree.specs.declared.program.Program.{Program}
use Rattle.ps_tree.specs.declared.relation.Relation.{Relation}
use Rattle.ps_tree.specs.declared.relation.Sign.TheVariants.{LessEq, NotEqual}
use Rattle.ps_tree.specs.declared.stmt.Stmt.{Stmt}
use Rattle.ps_tree.specs.declared.stmt.StmtKind.TheVariants.{Assign, Havoc, Atomic, If, While}

-- `global x = ..; local t; init ..; thread { .. }`
abbrev pub program_with : Option ℤ → List Relation → List Stmt → Program
program_with value inits body = record {
  globals = record { name = 120 ∷ []; value = value } ∷ [];
  locals = (116 ∷ []) ∷ [];
  inits = inits;
  body = body;
}

-- the largest number of a text
abbrev pub largest : ℤ
largest = pos (10 ^ 18 - 1)

-- the largest numbers, each with its sign, names that are declared, and an atomic block in a loop
abbrev pub UpToTheBoundsIsCompiled : Type 0
UpToTheBoundsIsCompiled =
    IsCompilable (program_with (Some (neg_ℤ largest)) (relation_with t LessEq largest ∷ [])
    (does (While Star (does (Atomic (does (Assign x (number (neg_ℤ largest))) ∷ does (Havoc t) ∷ [])) ∷ [])) ∷ []))

-- larger numbers: a declared value, a sum of the body and a sum that holds at the start
abbrev pub LargerNumbersAreNot : Type 0
LargerNumbersAreNot =
    (¬ IsCompilable (program_with (Some (pos (10 ^ 18))) [] []))
    × (¬ IsCompilable (program_with None [] (does (Assign x (number (neg_ℤ (pos (10 ^ 18))))) ∷ [])))
    × (¬ IsCompilable (program_with None (relation_with x LessEq (pos (10 ^ 18)) ∷ []) []))

-- `havoc` of a variable alone
abbrev pub havocs : Var → Program
havocs v = program_with None [] (does (Havoc v) ∷ [])

-- a second global, a second local, the local of another thread, and what no text names
abbrev pub OtherNamesAreNot : Type 0
OtherNamesAreNot =
    (¬ IsCompilable (havocs y)) × (¬ IsCompilable (havocs (Local 0 1))) × (¬ IsCompilable (havocs (Local 1 0)))
    × (¬ IsCompilable (havocs (HavocVar 0)))

-- `init x != 0`
abbrev pub UnequalStartsAreNot : Type 0
UnequalStartsAreNot = ¬ IsCompilable (program_with None (relation_with x NotEqual (pos 0) ∷ []) [])

-- `atomic { if (*) { while (*) { } } }`
abbrev pub LoopsInAtomicBlocksAreNot : Type 0
LoopsInAtomicBlocksAreNot =
    ¬ IsCompilable (program_with None [] (does (Atomic (does (If Star (does (While Star []) ∷ []) []) ∷ [])) ∷ []))
