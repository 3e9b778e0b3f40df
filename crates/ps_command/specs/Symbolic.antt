-- What the symbolic form of a command says.
use Rattle.std.specs.Prelude.{◌≡◌, ℤ, pos, List, slice_index_or, Some, None, if◌then◌else◌}
use Rattle.std.specs.List.{list_all}
use Rattle.ps_command.specs.Run.{holds, run_on, havocs_in}
use Rattle.ps_command.specs.declared.op.Op.{Op}
use Rattle.ps_command.specs.declared.symbolic_form.SymbolicForm.{SymbolicForm}
use Rattle.ps_term.specs.Substitution.{values_after}
use Rattle.ps_term.specs.Var.{var_eq}
use Rattle.ps_term.specs.declared.var.Var.{Var}
use Rattle.ps_term.specs.declared.var.Var.TheVariants.{Havoc}

-- the values of variables after one of them is set
abbrev pub set_at : (Var → ℤ) → Var → ℤ → Var → ℤ
set_at values x z y = if var_eq x y then z else values y

-- the values of variables, with those of the havocs from a list
abbrev pub with_havocs : (Var → ℤ) → List ℤ → Var → ℤ
with_havocs values hs (Havoc i) = slice_index_or hs i (pos 0)
with_havocs values hs x = values x

-- From all values and with all havoc values, the ops run exactly where the rows of the form hold, and give the values
-- that the form says; and it has as many havocs as they take.
pub record IsForm (ops : List Op) (form : SymbolicForm) : Type 0 where
  pub runs : (values : Var → ℤ) (hs : List ℤ) →
      run_on (λ (v : Var → ℤ). v) set_at ops (with_havocs values hs) hs
      ≡ (if list_all (holds (with_havocs values hs)) form.rows then Some (values_after (with_havocs values hs) form.after) else None)
  pub counts : form.havocs ≡ havocs_in ops
