-- What code keeps of the values that are given for a trace.
use Rattle.std.specs.Prelude.{ℤ, pos, unwrap_or}
use Rattle.std.specs.BTreeMap.{BTreeMap}
use Rattle.std.specs.BTreeMap as tree
use Rattle.std.specs.declared.cmp.Ordering.{Ordering}
use Rattle.ps_term.specs.declared.var.Var.{Var}
use Rattle.ps_term.specs.contracts.var.VarOrd.TheImpl as var_ord

-- the order of variables
abbrev pub var_cmp : Var → Var → Ordering
var_cmp = (var_ord.ghosts).cmp

-- the value that the map has for a variable, or 0
abbrev pub known_values : BTreeMap Var ℤ → Var → ℤ
known_values known x = unwrap_or (tree.get var_cmp known x) (pos 0)
