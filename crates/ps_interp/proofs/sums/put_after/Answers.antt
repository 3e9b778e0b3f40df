use Rattle.std.proofs.Common.{◌≡◌, ◌∙◌, subst, List}
use Rattle.ps_term.specs.Exact.{substituted}
use Rattle.ps_term.specs.declared.term.Term.{Term}
use Rattle.ps_term.specs.declared.var.Var.{Var}
use Rattle.ps_term.proofs.ExactTerms.{put_is}
use Rattle.ps_interp.proofs.sums.put_after.Goals as goal

pub returns-in-Ok-substitute-clause-term : goal.returns-in-Ok-substitute-clause-term
returns-in-Ok-substitute-clause-term c =
    subst (λ (after : List (Var × Term)). c.in-Ok-substitute.put ≡ substituted after c.args.next.now) (c.as_slice.ensures.value ∙ c.in-Ok.ensures)
    (put_is c.in-Ok-substitute.put c.as_slice.result.now c.args.next.now c.in-Ok-substitute.ensures.canonical c.in-Ok-substitute.ensures.worth)
