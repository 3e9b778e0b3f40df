use Rattle.std.proofs.Common.{◌≡◌, ap}
use Rattle.ps_config.specs.declared.wide.WideName.TheVariants.{Threads}
use Rattle.ps_config.specs.declared.wide.WideStep.{WideStep}
use Rattle.ps_demand.specs.Pools.{lists_of}
use Rattle.ps_step.specs.inner.Sets.{IsNamed, IsPastBy}
use Rattle.ps_step.proofs.Over.{are_configs, are_within, ends_weaker, ok_always, past_threads}
use Rattle.ps_step.proofs.step.add_sets.Goals as goal

pub returns-in-Some-first_threads_over-clause-past : goal.returns-in-Some-first_threads_over-clause-past
returns-in-Some-first_threads_over-clause-past c =
    ends_weaker (λ (w : WideStep). (w.edge ≡ c.args.number) × (w.thread ≡ c.args.thread) × (w.what ≡ Threads) × (w.count ≡ c.in-Some-first_threads_over.count)) (IsNamed c.args.number c.args.thread (IsPastBy c.args.at.now (lists_of c.args.sets.items)))
    (past_threads c.args.at.now c.args.number c.args.thread c.in-Some-first_threads_over.count (lists_of c.args.sets.items) (lists_of c.as_slice.result.now) (lists_of c.as_slice-2.result.now)
    (ap lists_of c.as_slice.ensures.value) (ap lists_of c.as_slice-2.ensures.value) c.in_default.ensures c.in-Some-first_threads_over.ensures)
    c.past-in-Some-first_threads_over.result c.past-in-Some-first_threads_over.ensures

pub push_sets-requires : goal.push_sets-requires
push_sets-requires c =
    are_configs c.args.at.now (lists_of c.args.sets.items) (lists_of c.as_slice.result.now) (lists_of c.as_slice-2.result.now) (ap lists_of c.as_slice.ensures.value) (ap lists_of c.as_slice-2.ensures.value)
    c.requires.located c.requires.ascend c.in_default.ensures c.in_default-first_threads_over.ensures

pub returns-clause-within : goal.returns-clause-within
returns-clause-within c =
    ok_always c.map_err.result (are_within c.args.at.now (lists_of c.args.sets.items) (lists_of c.as_slice.result.now) (lists_of c.as_slice-2.result.now) (ap lists_of c.as_slice.ensures.value) (ap lists_of c.as_slice-2.ensures.value)
    c.in_default.ensures c.in_default-first_threads_over.ensures)
