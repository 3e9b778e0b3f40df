-- Worked examples: which states are initial.
use Rattle.std.specs.Prelude.{◌≡◌, ℤ, pos, negsuc, ◌^◌, true, false, [], ◌∷◌, Some}
use Rattle.ps_command.specs.Initial.{IsInitial}
use Rattle.ps_command.specs.Named.{names_local}
use Rattle.ps_command.specs.declared.setting.Setting.{Setting}
use Rattle.ps_graph.specs.Examples.{relation_with, x, t, of_body, undeclared, state, counter}
use Rattle.ps_graph.specs.Initial.{is_initial}
use Rattle.ps_tree.specs.declared.program.Program.{Program}
use Rattle.ps_tree.specs.declared.relation.Sign.TheVariants.{LessEq, GreaterEq}
use Rattle.ps_term.specs.declared.row.Row.{Row}
use Rattle.ps_term.specs.declared.var.Var.{Var}

-- a state with no thread isn't initial, and neither is one in which a global hasn't its declared value, nor one with a
-- value too many
abbrev pub InitialStates : Type 0
InitialStates = (is_initial counter (state (pos 0) ([] ∷ [])) ≡ true)
    × (is_initial counter (state (pos 0) []) ≡ false)
    × (is_initial counter (state (pos 1) ([] ∷ [])) ≡ false)
    × (is_initial counter (state (pos 0) ((pos 0 ∷ []) ∷ [])) ≡ false)
    × (is_initial counter (record { globals = pos 0 ∷ pos 0 ∷ []; locals = [] ∷ [] }) ≡ false)

-- an `init t >= 0;` holds for every thread
abbrev pub InitialLocals : Type 0
InitialLocals =
    let p : Program = record (of_body ((116 ∷ []) ∷ []) []) { inits = relation_with t GreaterEq (pos 0) ∷ [] } in
    (is_initial p (state (pos 0) ((pos 0 ∷ []) ∷ (pos 4 ∷ []) ∷ [])) ≡ true)
    × (is_initial p (state (pos 0) ((pos 0 ∷ []) ∷ (negsuc 0 ∷ []) ∷ [])) ≡ false)

-- `global x;` is any number, without bound
abbrev pub UndeclaredValues : Type 0
UndeclaredValues = (is_initial (undeclared []) (state (negsuc 6) ([] ∷ [])) ≡ true)
    × (is_initial (undeclared []) (state (pos (2 ^ 200)) ([] ∷ [])) ≡ true)

-- of `init x >= 1 && x <= 2;` each can fail
abbrev pub InitialRelations : Type 0
InitialRelations =
    let p : Program = record (undeclared []) { inits = relation_with x GreaterEq (pos 1) ∷ relation_with x LessEq (pos 2) ∷ [] } in
    (is_initial p (state (pos 1) ([] ∷ [])) ≡ true)
    × (is_initial p (state (pos 0) ([] ∷ [])) ≡ false)
    × (is_initial p (state (pos 3) ([] ∷ [])) ≡ false)

-- `global x = 0; global y = 5;`: each has its own value
abbrev pub DeclaredValues : Type 0
DeclaredValues =
    let p : Program = record counter { globals = record { name = 120 ∷ []; value = Some (pos 0) } ∷ record { name = 121 ∷ []; value = Some (pos 5) } ∷ [] } in
    (is_initial p (record { globals = pos 0 ∷ pos 5 ∷ []; locals = [] ∷ [] }) ≡ true)
    × (is_initial p (record { globals = pos 5 ∷ pos 0 ∷ []; locals = [] ∷ [] }) ≡ false)
    × (is_initial p (record { globals = pos 0 ∷ []; locals = [] ∷ [] }) ≡ false)

-- the row of a variable times a number, plus a number
abbrev pub row_of : ℤ → Var → ℤ → Row
row_of by v constant = record { term = record { pairs = (v, by) ∷ []; constant = constant } }

-- a setting of one global and one local, with the row `x <= 1`, and the row `t >= 0` for every thread
pub record IsBounded (setting : Setting) : Type 0 where
  pub globals : setting.globals ≡ 1
  pub locals : setting.locals ≡ 1
  pub once : setting.init_once ≡ row_of (pos 1) x (negsuc 0) ∷ []
  pub each : setting.init_each ≡ row_of (negsuc 0) t (pos 0) ∷ []

-- its initial states: `x` is at most 1, and each thread has one local, of at least 0
abbrev pub StatesOfSetting : Type 0
StatesOfSetting = (setting : Setting) → IsBounded setting →
    IsInitial setting (state (pos 1) ((pos 0 ∷ []) ∷ (pos 4 ∷ []) ∷ []))
    × (IsInitial setting (state (pos 2) ((pos 0 ∷ []) ∷ [])) → ⊥)
    × (IsInitial setting (state (pos 1) ((pos 0 ∷ []) ∷ (negsuc 0 ∷ []) ∷ [])) → ⊥)
    × (IsInitial setting (state (pos 1) []) → ⊥)
    × (IsInitial setting (state (pos 1) ((pos 0 ∷ pos 0 ∷ []) ∷ [])) → ⊥)
    × (IsInitial setting (record { globals = pos 1 ∷ pos 0 ∷ []; locals = (pos 0 ∷ []) ∷ [] }) → ⊥)

-- a row names a local where one stands in its term; the row of `init x + t >= t;` has none, since its locals cancel
abbrev pub LocalsNamed : Type 0
LocalsNamed = (names_local (row_of (negsuc 0) t (pos 0)) ≡ true) × (names_local (row_of (negsuc 0) x (pos 0)) ≡ false)
