use Rattle.std.proofs.Common.{◌<◌, ℕ, ◌+◌, Some, None, ap, refl, arith, rules}
use Rattle.ps_config.proofs.Nexts.{next_listed}
use Rattle.ps_check.specs.inner.Stages.{IsCoveredBy, IsUncoveredBy}
use Rattle.ps_check.proofs.Stepping.{all_done, first_fresh, first_thread, more_done, none_done, told_false, told_true}
use Rattle.ps_check.proofs.steps.uncovered_along.Goals as goal

pub loop-thread-init : goal.loop-thread-init
loop-thread-init c = record { done = none_done c.args.graph.now c.args.front.now c.args.configs.now c.args.from.now c.args.edge; fits = omega arith }

pub returns-then-not-covered : goal.returns-then-not-covered
returns-then-not-covered c =
    first_thread c.args.graph.now c.args.front.now c.args.configs.now c.args.from.now c.args.edge c.loop-thread.least c.in-Some.thread _ c.loop-thread.invariant.done (next_listed c.args.from.now c.args.threads.now c.loop-thread.least (Some c.in-Some.thread) c.requires.threads c.in-Some.ensures) refl refl
    (told_false c.in_ok-covered.covered (IsCoveredBy c.args.graph.now c.args.front.now c.args.configs.now c.args.from.now c.args.edge c.in-Some.thread) (IsUncoveredBy c.args.graph.now c.args.front.now c.args.configs.now c.args.from.now c.args.edge c.in-Some.thread)
    c.in_ok-covered.ensures c.if-not-covered.true)

pub loop-thread-preserved : goal.loop-thread-preserved
loop-thread-preserved c =
    let small : c.in-Some.thread < 4294967296 = search rules in
    record {
      done = more_done c.args.graph.now c.args.front.now c.args.configs.now c.args.from.now c.args.edge c.loop-thread.least c.in-Some.thread (c.from-least.result + 1) c.loop-thread.invariant.done (next_listed c.args.from.now c.args.threads.now c.loop-thread.least (Some c.in-Some.thread) c.requires.threads c.in-Some.ensures) (ap (λ (n : ℕ). n + 1) c.from-least.ensures)
          (told_true c.in_ok-covered.covered (IsCoveredBy c.args.graph.now c.args.front.now c.args.configs.now c.args.from.now c.args.edge c.in-Some.thread) (IsUncoveredBy c.args.graph.now c.args.front.now c.args.configs.now c.args.from.now c.args.edge c.in-Some.thread)
          c.in_ok-covered.ensures c.if-not-covered.false);
      fits = omega (arith, small, c.from-least.ensures);
    }

pub returns-then-not-fresh_covered : goal.returns-then-not-fresh_covered
returns-then-not-fresh_covered c =
    first_fresh c.args.graph.now c.args.front.now c.args.configs.now c.args.from.now c.args.edge c.loop-thread.least c.args.fresh _ c.requires.fresh c.loop-thread.invariant.done (next_listed c.args.from.now c.args.threads.now c.loop-thread.least None c.requires.threads c.in_default.ensures) refl refl
    (told_false c.in_ok-fresh_covered.fresh_covered (IsCoveredBy c.args.graph.now c.args.front.now c.args.configs.now c.args.from.now c.args.edge c.args.fresh) (IsUncoveredBy c.args.graph.now c.args.front.now c.args.configs.now c.args.from.now c.args.edge c.args.fresh)
    c.in_ok-fresh_covered.ensures c.if-not-fresh_covered.true)

pub returns : goal.returns
returns c =
    all_done c.args.graph.now c.args.front.now c.args.configs.now c.args.from.now c.args.edge c.loop-thread.least c.args.fresh c.loop-thread.invariant.done (next_listed c.args.from.now c.args.threads.now c.loop-thread.least None c.requires.threads c.in_default.ensures)
    (told_true c.in_ok-fresh_covered.fresh_covered (IsCoveredBy c.args.graph.now c.args.front.now c.args.configs.now c.args.from.now c.args.edge c.args.fresh) (IsUncoveredBy c.args.graph.now c.args.front.now c.args.configs.now c.args.from.now c.args.edge c.args.fresh)
    c.in_ok-fresh_covered.ensures c.if-not-fresh_covered.false)
