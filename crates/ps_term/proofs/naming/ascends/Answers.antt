use Rattle.std.proofs.Common.{◌-◌, get_or, sym, ap, ◌∙◌, arith}
use Rattle.ps_term.specs.Var.{var_lt}
use Rattle.ps_term.specs.declared.term.Term.{Term}
use Rattle.ps_term.specs.declared.var.Var.{Var}
use Rattle.ps_term.proofs.Searching.{rising_more}
use Rattle.ps_term.proofs.naming.ascends.Goals as goal

pub loop-at-preserved : goal.loop-at-preserved
loop-at-preserved c =
    let after = c.args.after.now in
    let at = c.loop-at.at in
    let p = c.index-after-at.result in
    let q = c.index-after-at-in-loop-at.result in
    rising_more after at p q (omega arith) (omega arith) c.loop-at.invariant c.index-after-at.is c.index-after-at-in-loop-at.is
    (ap (λ (r : Var × Term). var_lt r.0 q.0) c.index-after-at.is ∙ (ap (λ (r : Var × Term). var_lt (get_or after (at - 1) p).0 r.0) c.index-after-at-in-loop-at.is ∙ (sym c.is_before.ensures ∙ c.if-not-is_before.false)))

pub returns : goal.returns
returns c = λ _ i d h. c.loop-at.invariant i d (omega arith)
