use Rattle.std.proofs.Common.{◌≢◌, pos, arith, subst, sym}
use Rattle.std.proofs.lemmas.List.{take_all}
use Rattle.std.proofs.lemmas.List.Elements.{All-more}
use Rattle.ps_term.specs.declared.row.Row.{Row}
use Rattle.ps_term.specs.Pairs.{coefficient}
use Rattle.ps_walk.specs.Bounds.{BoundFits, StageFits}
use Rattle.ps_walk.specs.inner.Findings.{found_values}
use Rattle.ps_walk.proofs.RowBounds.{AreBounds-step}
use Rattle.ps_walk.proofs.bounds.bounds_of.Goals as goal

pub returns-in_err-bound_of-clause-past : goal.returns-in_err-bound_of-clause-past
returns-in_err-bound_of-clause-past c =
    let v = found_values c.args.found.now in
    let r = c.row-item.result in
    let i = c.loop-row.row-index in
    rw c.from_residual.ensures (λ all. c.in_err-bound_of.ensures.past (subst (λ (s : Row). coefficient c.args.variable s.term.pairs ≢ pos 0 → BoundFits v c.args.variable s) (sym c.row-item.is) (all i r c.loop-row-test.true)))

pub loop-row-preserved : goal.loop-row-preserved
loop-row-preserved c =
    let v = found_values c.args.found.now in
    let x = c.args.variable in
    let rows = c.args.rows.now in
    let r = c.row-item.result in
    let i = c.loop-row.row-index in
    record {
      fits = All-more (λ s. coefficient x s.term.pairs ≢ pos 0 → BoundFits v x s) rows i r c.loop-row-test.true c.loop-row.invariant.fits (subst (λ (s : Row). coefficient x s.term.pairs ≢ pos 0 → BoundFits v x s) c.row-item.is c.in_ok-bound_of.ensures.fits);
      bounds = AreBounds-step v x rows i r c.loop-row.bounds c.narrowed-bounds.result c.in_ok-bound_of.field-0 c.loop-row-test.true c.row-item.is c.loop-row.invariant.bounds c.in_ok-bound_of.ensures.bound c.narrowed-bounds.ensures.lower c.narrowed-bounds.ensures.upper;
    }

pub returns-clause-fits : goal.returns-clause-fits
returns-clause-fits c =
    subst (λ rows. StageFits (found_values c.args.found.now) c.args.variable rows) (take_all c.loop-row.row-index c.args.rows.now (omega arith)) c.loop-row.invariant.fits
