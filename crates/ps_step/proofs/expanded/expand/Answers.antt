use Rattle.std.proofs.Common.{ℕ, List, sym, subst}
use Rattle.ps_config.specs.Forms.{IsFresh}
use Rattle.ps_config.specs.declared.wide.WideStep.{WideStep}
use Rattle.ps_step.specs.Successors.{AreSuccessors, CoverAll}
use Rattle.ps_step.specs.Wide.{AreNarrow, IsFirstWide}
use Rattle.ps_step.specs.declared.expansion.Successor.{Successor}
use Rattle.ps_step.proofs.Over.{ends_weaker}
use Rattle.ps_step.proofs.Turns.{fresh_is_one}
use Rattle.ps_step.proofs.expanded.expand.Goals as goal

pub returns-in-Ok-expansion_of-clause-successors : goal.returns-in-Ok-expansion_of-clause-successors
returns-in-Ok-expansion_of-clause-successors g c = λ fresh is.
    subst (λ (n : ℕ). AreSuccessors c.args.graph.now (g.B.Shown.entries c.args.basis.now) c.args.config.now n c.in-Ok-expansion_of.expansion.successors) (fresh_is_one c.args.config.now c.fresh-fresh.result fresh c.fresh-fresh.ensures is)
    (subst (λ (xs : List Successor). AreSuccessors c.args.graph.now (g.B.Shown.entries c.args.basis.now) c.args.config.now c.fresh-fresh.result xs) (sym c.in-Ok-expansion_of.ensures.successors) c.in-Ok.ensures.are)

pub returns-in-Ok-expansion_of-clause-covered : goal.returns-in-Ok-expansion_of-clause-covered
returns-in-Ok-expansion_of-clause-covered g c =
    subst (λ (xs : List Successor). CoverAll c.args.graph.now (g.B.Shown.entries c.args.basis.now) c.args.config.now xs) (sym c.in-Ok-expansion_of.ensures.successors) c.in-Ok.ensures.covered

pub returns-in-Ok-expansion_of-clause-narrow : goal.returns-in-Ok-expansion_of-clause-narrow
returns-in-Ok-expansion_of-clause-narrow g c = λ fresh is.
    subst (λ (n : ℕ). AreNarrow c.args.graph.now (g.B.Shown.entries c.args.basis.now) c.args.config.now n) (fresh_is_one c.args.config.now c.fresh-fresh.result fresh c.fresh-fresh.ensures is) c.in-Ok.ensures.narrow

pub returns-in-Err-clause-wide : goal.returns-in-Err-clause-wide
returns-in-Err-clause-wide g c =
    ends_weaker (IsFirstWide c.args.graph.now (g.B.Shown.entries c.args.basis.now) c.args.config.now c.fresh-fresh.result)
    (λ (w : WideStep). (fresh : ℕ) → IsFresh c.args.config.now fresh → IsFirstWide c.args.graph.now (g.B.Shown.entries c.args.basis.now) c.args.config.now fresh w)
    (λ w first fresh is. subst (λ (n : ℕ). IsFirstWide c.args.graph.now (g.B.Shown.entries c.args.basis.now) c.args.config.now n w) (fresh_is_one c.args.config.now c.fresh-fresh.result fresh c.fresh-fresh.ensures is) first)
    c.in-Err.end c.in-Err.ensures.wide
