use Rattle.std.proofs.Common.{◌≡◌, ℤ, List, [], ◌∷◌, ◌++◌, sym, ap, ◌∙◌, FitsSigned, rules}
use Rattle.std.specs.Int.{w128}
use Rattle.std.proofs.lemmas.Int.{to_z-of_z}
use Rattle.ps_term.specs.declared.var.Var.{Var}
use Rattle.ps_command.specs.inner.View.{seen, undone}
use Rattle.ps_command.proofs.Undoing.{undone_last}
use Rattle.ps_command.proofs.runner.roll_back.Goals as goal

pub loop-variable-preserved : goal.loop-variable-preserved
loop-variable-preserved c =
    let fits : FitsSigned w128 c.in-Some.value = search rules in
    let popped : c.loop-variable.undo.items ≡ (c.pop.new.self.items ++ (c.in-Some.variable, c.in-Some.value) ∷ []) = search rules in
    let set = simp to_z-of_z at c.set.ensures in
    ap (undone c.pop.new.self.items) set
    ∙ sym (undone_last c.pop.new.self.items (c.in-Some.variable, c.in-Some.value) (seen c.loop-variable.view))
    ∙ sym (ap (λ (ps : List (Var × ℤ)). undone ps (seen c.loop-variable.view)) popped)
    ∙ c.loop-variable.invariant
