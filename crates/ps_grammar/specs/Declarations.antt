-- What a program declares, and how much it may.
use Rattle.std.specs.Prelude.{ℕ, ℤ, List, [], map, Option, Some, None}
use Rattle.ps_tree.specs.declared.global_decl.GlobalDecl.{GlobalDecl}
use Rattle.ps_tree.specs.declared.relation.Relation.{Relation}
use Rattle.ps_tree.specs.declared.relation.Sign.{Sign}
use Rattle.ps_tree.specs.declared.relation.Sign.TheVariants as sign
use Rattle.ps_grammar.specs.Names.{Names}
use Rattle.ps_grammar.specs.declared.limits.TheConstants.{MOST_GLOBALS, MOST_LEVELS, MOST_LOCALS, MOST_ROWS}

-- What is declared so far, and how many rows hold at the start: two for a declared value and for `==`, one for
-- another sign.
pub record Declared : Type 0 where
  pub globals : List GlobalDecl
  pub locals : List (List ℕ)
  pub inits : List Relation
  pub rows : ℕ

abbrev pub most_globals : ℕ
most_globals = MOST_GLOBALS

abbrev pub most_locals : ℕ
most_locals = MOST_LOCALS

abbrev pub most_rows : ℕ
most_rows = MOST_ROWS

abbrev pub most_levels : ℕ
most_levels = MOST_LEVELS

abbrev pub nothing_declared : Declared
nothing_declared = record { globals = []; locals = []; inits = []; rows = 0 }

abbrev pub names_of : Declared → Names
names_of d = record { globals = map (λ (g : GlobalDecl). g.name) d.globals; locals = d.locals }

-- how many rows a relation gives
abbrev pub rows_of_sign : Sign → ℕ
rows_of_sign sign.Equal = 2
rows_of_sign s = 1

-- how many rows a declared value gives
abbrev pub rows_of_value : Option ℤ → ℕ
rows_of_value None = 0
rows_of_value (Some v) = 2
