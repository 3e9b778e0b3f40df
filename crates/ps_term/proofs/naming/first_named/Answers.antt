use Rattle.std.proofs.Common.{sym, ap, ◌∙◌}
use Rattle.std.proofs.lemmas.List.{drop_all}
use Rattle.ps_term.specs.Substitution.{replacement}
use Rattle.ps_term.proofs.Substitutions.{replacement-found}
use Rattle.ps_term.proofs.naming.first_named.Goals as goal

pub returns-then-is_same : goal.returns-then-is_same
returns-then-is_same c =
    replacement-found c.args.variable c.args.after.now c.loop-pair.pair-index c.pair-item.result c.loop-pair.invariant c.loop-pair-test.true c.pair-item.is (sym c.is_same.ensures ∙ c.if-is_same.true)

pub returns : goal.returns
returns c =
    let end = drop_all c.loop-pair.pair-index c.args.after.now c.loop-pair-test.false in
    ap (λ ps. replacement ps c.args.variable) (sym end) ∙ c.loop-pair.invariant
