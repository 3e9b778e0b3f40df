-- When a run stays within 128 bits.
use Rattle.std.specs.Prelude.{ℤ, pos, ◌<◌, List, [], ◌∷◌, length, drop, slice_index_or, IsTrue}
use Rattle.std.specs.List.{list_all}
use Rattle.ps_command.specs.Fitting.{IsSized}
use Rattle.ps_command.specs.Run.{holds}
use Rattle.ps_command.specs.Values.{Values, value_at, values_of, with_value}
use Rattle.ps_command.specs.declared.op.Op.{Op}
use Rattle.ps_command.specs.declared.op.Op.TheVariants.{Assume, Assign, Havoc}
use Rattle.ps_command.specs.declared.setting.Setting.{Setting}
use Rattle.ps_command.specs.declared.state.State.{State}
use Rattle.ps_term.specs.Evaluation.{EvaluationFits}
use Rattle.ps_term.specs.declared.row.Row.{Row}
use Rattle.ps_term.specs.declared.var.Var.{Var}
use Rattle.ps_term.specs.Term.{value}

-- up to the first assume that fails, its own term included, each term is evaluated within 128 bits
abbrev pub RunFits : List Op → Values → List ℤ → Type 0
RunFits [] v hs = Unit {0}
RunFits (Assume r ∷ ops) v hs = EvaluationFits (value_at v) r.term × (IsTrue (holds (value_at v) r) → RunFits ops v hs)
RunFits (Assign x t ∷ ops) v hs = EvaluationFits (value_at v) t × RunFits ops (with_value v x (value (value_at v) t)) hs
RunFits (Havoc x ∷ ops) v hs = RunFits ops (with_value v x (slice_index_or hs 0 (pos 0))) (drop 1 hs)

-- up to the first row that fails, its own term included, each is evaluated within 128 bits
abbrev pub TestsFit : (Var → ℤ) → List Row → Type 0
TestsFit values [] = Unit {0}
TestsFit values (r ∷ rows) = EvaluationFits values r.term × (IsTrue (holds values r) → TestsFit values rows)

-- thread by thread, with these globals, up to the first for which a row fails
abbrev pub EachFits : List Row → List ℤ → List (List ℤ) → Type 0
EachFits rows globals [] = Unit {0}
EachFits rows globals (ls ∷ lss) =
    let values : Var → ℤ = value_at (record { globals = globals; locals = ls }) in
    TestsFit values rows × (IsTrue (list_all (holds values) rows) → EachFits rows globals lss)

-- Where a state has a thread and the setting's numbers of values: the rows that hold once, and if these hold those for
-- each thread, are evaluated within 128 bits, up to the first that fails.
abbrev pub StartFits : Setting → State → Type 0
StartFits setting s = 0 < length s.locals → IsSized setting s →
    TestsFit (value_at (values_of 0 s)) setting.init_once
    × (IsTrue (list_all (holds (value_at (values_of 0 s))) setting.init_once) → EachFits setting.init_each s.globals s.locals)
