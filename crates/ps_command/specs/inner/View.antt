-- A view, op by op.
use Rattle.std.specs.Prelude.{◌≡◌, ℤ, Bool, true, false, List, [], ◌∷◌, drop, Option, Some, None}
use Rattle.ps_command.specs.Run.{holds}
use Rattle.ps_command.specs.Values.{Values, value_at, with_value}
use Rattle.ps_command.specs.declared.op.Op.{Op}
use Rattle.ps_command.specs.declared.op.Op.TheVariants.{Assume, Assign, Havoc}
use Rattle.ps_command.specs.declared.view.View.{View}
use Rattle.ps_term.specs.Evaluation.{EvaluationFits}
use Rattle.ps_term.specs.Term.{value}
use Rattle.ps_term.specs.declared.var.Var.{Var}

-- the values of these lists
abbrev pub values_from : List ℤ → List ℤ → Values
values_from globals locals = record { globals = globals; locals = locals }

-- the values that a view has
abbrev pub seen : View → Values
seen v = values_from v.globals.items v.locals.items

-- the op's term is evaluated within 128 bits
abbrev pub OpRunFits : Values → Op → Type 0
OpRunFits v (Assume r) = EvaluationFits (value_at v) r.term
OpRunFits v (Assign x t) = EvaluationFits (value_at v) t
OpRunFits v (Havoc x) = Unit {0}

-- the op isn't an assume that fails
abbrev pub is_passed : Values → Op → Bool
is_passed v (Assume r) = holds (value_at v) r
is_passed v _ = true

-- the values after the op, with this havoc value
abbrev pub after_op : Values → Op → ℤ → Values
after_op v (Assume r) h = v
after_op v (Assign x t) h = with_value v x (value (value_at v) t)
after_op v (Havoc x) h = with_value v x h

-- the havoc values that the op leaves
abbrev pub havocs_left : Op → List ℤ → List ℤ
havocs_left (Havoc x) hs = drop 1 hs
havocs_left _ hs = hs

-- the run ends in these values, or fails where it doesn't go on
abbrev pub IsRunTo : Bool → Option Values → Values → Type 0
IsRunTo true ran v = ran ≡ Some v
IsRunTo false ran v = ran ≡ None

-- the values after variables were set back to these, the last first
abbrev pub undone : List (Var × ℤ) → Values → Values
undone [] v = v
undone (p ∷ ps) v = with_value (undone ps v) p.0 p.1
