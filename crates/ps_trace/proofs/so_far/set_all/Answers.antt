use Rattle.std.proofs.Common.{◌≡◌, List, [], ◌∷◌, ◌++◌, sym, ap, ◌∙◌, rules}
use Rattle.ps_term.specs.declared.term.Term.{Term}
use Rattle.ps_term.specs.declared.var.Var.{Var}
use Rattle.ps_trace.specs.Rows.{with_terms}
use Rattle.ps_trace.proofs.Rowing.{with_terms_last}
use Rattle.ps_trace.proofs.so_far.set_all.Goals as goal

pub loop-variable-preserved : goal.loop-variable-preserved
loop-variable-preserved c =
    let popped : c.loop-variable.left.items ≡ (c.pop.new.self.items ++ (c.in-Some.variable, c.in-Some.term) ∷ []) = search rules in
    ap (with_terms c.pop.new.self.items) c.in_ok-set.ensures.set
    ∙ sym (with_terms_last c.pop.new.self.items (c.in-Some.variable, c.in-Some.term) c.loop-variable.after)
    ∙ sym (ap (λ (ps : List (Var × Term)). with_terms ps c.loop-variable.after) popped)
    ∙ c.loop-variable.invariant
