-- The initial states of a program.
use Rattle.std.specs.Prelude.{ℤ, Bool, true, false, ◌&&◌, ◌==◌, nat_lt, List, [], ◌∷◌, length, Option, Some, None}
use Rattle.std.specs.List.{list_all}
use Rattle.std.specs.Ordering.{int_eq}
use Rattle.ps_command.specs.Values.{value_at}
use Rattle.ps_command.specs.declared.state.State.{State}
use Rattle.ps_tree.specs.Cond.{is_true}
use Rattle.ps_tree.specs.declared.global_decl.GlobalDecl.{GlobalDecl}
use Rattle.ps_tree.specs.declared.program.Program.{Program}
use Rattle.ps_tree.specs.declared.relation.Relation.{Relation}

-- the value is the declared one, where one is declared
abbrev pub is_declared_value : Option ℤ → ℤ → Bool
is_declared_value None z = true
is_declared_value (Some n) z = int_eq n z

-- there is one value for each declared global, and each has its declared value
abbrev pub start_as_declared : List GlobalDecl → List ℤ → Bool
start_as_declared [] [] = true
start_as_declared (d ∷ ds) (z ∷ zs) = is_declared_value d.value z && start_as_declared ds zs
start_as_declared _ _ = false

-- a thread has one value for each local, and every relation of the program holds of the globals and its locals
abbrev pub starts_well : Program → List ℤ → List ℤ → Bool
starts_well p globals locals =
    length locals == length p.locals
    && list_all (λ (r : Relation). is_true (value_at (record { globals = globals; locals = locals })) r) p.inits

-- There is a thread; every declared value and every relation holds, for every thread where a local is named.
abbrev pub is_initial : Program → State → Bool
is_initial p s =
    nat_lt 0 (length s.locals) && start_as_declared p.globals s.globals && list_all (starts_well p s.globals) s.locals
