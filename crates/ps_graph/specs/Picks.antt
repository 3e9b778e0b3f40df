-- Picks and the choices that fit them.
use Rattle.std.specs.Prelude.{ℕ, ℤ, pos, ◌+◌, Bool, true, false, List, [], ◌∷◌, Option, Some, None, option_map, if◌then◌else◌}
use Rattle.std.specs.Ordering.{int_eq}
use Rattle.std.specs.Option.{option_and_then}
use Rattle.ps_command.specs.Run.{run}
use Rattle.ps_command.specs.Values.{Values}
use Rattle.ps_command.specs.declared.op.Op.{Op}
use Rattle.ps_graph.specs.declared.edge.Pick.{Pick}
use Rattle.ps_graph.specs.declared.edge.Pick.TheVariants.{Star, Value}

-- the choice of a `*`: 1 where it is true, and 0 where it is false
abbrev pub choice_of : Bool → ℤ
choice_of true = pos 1
choice_of false = pos 0

-- The values of the havocs and the choices that are left, where the first choices fit the picks: each `*` has its
-- choice, and each havoc any.
abbrev pub fit : List Pick → List ℤ → Option (List ℤ × List ℤ)
fit [] cs = Some ([], cs)
fit (_ ∷ ps) [] = None
fit (Star b ∷ ps) (c ∷ cs) = if int_eq c (choice_of b) then fit ps cs else None
fit (Value ∷ ps) (c ∷ cs) = option_map (λ (q : List ℤ × List ℤ). (c ∷ q.0, q.1)) (fit ps cs)

-- the havoc values, if no choice is left
abbrev pub if_all_used : List ℤ × List ℤ → Option (List ℤ)
if_all_used (hs, []) = Some hs
if_all_used (hs, _ ∷ _) = None

-- the values of the havocs, where the choices fit the picks exactly
abbrev pub havocs_of : List Pick → List ℤ → Option (List ℤ)
havocs_of ps cs = option_and_then if_all_used (fit ps cs)

-- how many of the picks are values of havocs
abbrev pub values_in : List Pick → ℕ
values_in [] = 0
values_in (Value ∷ ps) = 1 + values_in ps
values_in (Star _ ∷ ps) = values_in ps

-- the values after the ops, run with these choices, which fit the picks exactly
abbrev pub run_with : List Pick → List Op → Values → List ℤ → Option Values
run_with ps ops v cs = option_and_then (run ops v) (havocs_of ps cs)
