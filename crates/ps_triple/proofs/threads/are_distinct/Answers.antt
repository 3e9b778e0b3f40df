use Rattle.std.proofs.Common.{get_or, sym, ◌∙◌}
use Rattle.std.proofs.lemmas.Bool.{false≢true}
use Rattle.ps_triple.proofs.Distinct.{stands_twice, differ_more}
use Rattle.ps_triple.proofs.Membership.{any_default}
use Rattle.ps_triple.proofs.threads.are_distinct.Goals as goal

pub returns-then-is_among : goal.returns-then-is_among
returns-then-is_among c =
    let xs = c.args.threads.now in
    let i = c.loop-i.i in
    let x = get_or xs i 0 in (
      (λ no. absurd (false≢true no)),
      (λ all. absurd (stands_twice xs i x c.loop-i-test.true (any_default xs i 0 x c.loop-i-test.true) (c.is_among.ensures.0 c.if-is_among.true) all)),
    )

pub loop-i-preserved : goal.loop-i-preserved
loop-i-preserved c =
    let xs = c.args.threads.now in
    let i = c.loop-i.i in
    let x = get_or xs i 0 in
    differ_more xs i x c.loop-i.invariant c.loop-i-test.true (any_default xs i 0 x c.loop-i-test.true) (λ h. false≢true (sym c.if-is_among.false ∙ c.is_among.ensures.1 h))
