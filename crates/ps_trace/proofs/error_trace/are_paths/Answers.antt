use Rattle.std.proofs.Common.{◌≡◌, true, false, List, length, refl, sym, subst, ◌∙◌, rules}
use Rattle.std.proofs.lemmas.List.{take_all}
use Rattle.ps_trace.specs.Traces.{pairs_in}
use Rattle.ps_trace.specs.inner.Paths.{ArePaths}
use Rattle.ps_trace.specs.declared.trace.Letter.{Letter}
use Rattle.ps_trace.proofs.Following.{goes_here, no_body, stops_here}
use Rattle.ps_trace.proofs.error_trace.are_paths.Goals as goal

false_true : false ≡ true → ⊥
false_true e = cc

pub returns-then-is_empty : goal.returns-then-is_empty
returns-then-is_empty c =
    let none : length c.as_slice.result.now ≡ 0 = search rules in
    (λ f. absurd (false_true f), λ h. absurd (no_body c.args.graph.now c.as_slice.result.now (pairs_in c.args.letters.now) c.as_slice.ensures none h))

pub returns-then-not-goes_on : goal.returns-then-not-goes_on
returns-then-not-goes_on c = (
  λ f. absurd (false_true f),
  λ h. absurd (stops_here c.args.graph.now c.args.letters.now c.loop-i.i (record { thread = 0; edge = 0 }) c.loop-i-test.true
      (λ more. false_true (sym c.if-not-goes_on.true ∙ c.goes_on.ensures.1 more)) h),
)

pub loop-i-preserved : goal.loop-i-preserved
loop-i-preserved c =
    goes_here c.args.graph.now c.args.letters.now c.loop-i.i (record { thread = 0; edge = 0 }) c.loop-i-test.true (c.goes_on.ensures.0 c.if-not-goes_on.false)

pub returns : goal.returns
returns c = (
  λ t. subst (λ (ls : List Letter). ArePaths c.args.graph.now (pairs_in ls)) (take_all c.loop-i.i c.args.letters.now c.loop-i-test.false) c.loop-i.invariant,
  λ h. refl,
)
