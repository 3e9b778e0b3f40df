use Rattle.std.proofs.Common.{◌≡◌, refl, ap, ℤ, pos, []}
use Rattle.std.specs.Prelude.{Option, option_map, unwrap_or}
use Rattle.ps_command.specs.Examples.{x}
use Rattle.ps_term.specs.declared.var.Var.{Var}
use Rattle.ps_command.proofs.worked.forms.Goals as goal

pub returns-clause-havoc : goal.returns-clause-havoc
returns-clause-havoc c = refl

pub returns-clause-between : goal.returns-clause-between
returns-clause-between c = refl

pub returns-clause-rows : goal.returns-clause-rows
returns-clause-rows c = refl

-- what x is worth after a run, or -1 where there is none
abbrev worth : Option (Var → ℤ) → ℤ
worth o = unwrap_or (option_map (λ (v : Var → ℤ). v x) o) (pos 7)

pub returns-clause-none : goal.returns-clause-none
returns-clause-none c = (
  (λ f. let no : pos 7 ≡ pos 1 = ap worth (f.runs (λ _. pos 1) []) in cc),
  (λ f. let no : pos 1 ≡ pos 0 = ap worth (f.runs (λ _. pos 0) []) in cc),
  (λ f. let no : 0 ≡ 1 = f.counts in cc),
)
