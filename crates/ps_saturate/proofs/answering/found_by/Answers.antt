use Rattle.std.proofs.Common.{◌∙◌, ◌≡◌, ◌+◌, ap, arith, refl, subst, sym, ℕ, List}
use Rattle.ps_atom.specs.declared.predicate.Predicate.{Predicate}
use Rattle.ps_saturate.proofs.Asking.{found_all}
use Rattle.ps_saturate.proofs.Finding.{IsBelow}
use Rattle.ps_saturate.proofs.Stepping.{first_size, next_size, trial_threads}
use Rattle.ps_saturate.specs.declared.choice.Choice.{Choice}
use Rattle.ps_saturate.specs.inner.Arranging.{thread_count}
use Rattle.ps_saturate.specs.inner.Trials.{AreChoices, atoms_of}
use Rattle.ps_saturate.proofs.answering.found_by.Goals as goal

pub choices-requires-clause-threads : goal.choices-requires-clause-threads
choices-requires-clause-threads c =
    trial_threads c.args.trial.now c.index-trial-question.result c.thread_count-threads.result c.requires.ready c.requires.question.subject c.index-trial-question.is
    (c.thread_count-threads.ensures ∙ ap (λ (p : Predicate). thread_count c.args.trial.now.question.pattern p.arity) (sym c.index-trial-question.is))

pub loop-size-init : goal.loop-size-init
loop-size-init c = first_size c.args.trial.now (atoms_of c.as_slice-members.result.now) c.new-found.result.items c.new-found.ensures.items

pub loop-size-preserved : goal.loop-size-preserved
loop-size-preserved c =
    let are : AreChoices c.args.trial.now.setting.now c.args.trial.now.predicates.now c.args.trial.now.question.now c.args.trial.now.post c.as_slice-members.result.now =
    subst (λ (cs : List Choice). AreChoices c.args.trial.now.setting.now c.args.trial.now.predicates.now c.args.trial.now.question.now c.args.trial.now.post cs) (sym c.as_slice-members.ensures.value) c.in_ok-list.ensures in
    next_size c.args.trial.now c.as_slice-members.result.now c.as_slice-members.result.now c.as_slice.result.now c.loop-size.size c.min-most.result c.loop-size.found.items c.in_ok-found.found.items
    are.ascend (c.as_slice.ensures.value ∙ c.new-none.ensures.items) refl c.loop-size-test.true c.min-most.ensures c.loop-size.invariant c.in_ok-found.ensures

pub returns : goal.returns
returns c =
    let are : AreChoices c.args.trial.now.setting.now c.args.trial.now.predicates.now c.args.trial.now.question.now c.args.trial.now.post c.as_slice-members.result.now =
    subst (λ (cs : List Choice). AreChoices c.args.trial.now.setting.now c.args.trial.now.predicates.now c.args.trial.now.question.now c.args.trial.now.post cs) (sym c.as_slice-members.ensures.value) c.in_ok-list.ensures in
    let e : c.loop-size.size ≡ c.min-most.result + 1 = omega arith in
    found_all c.args.trial.now c.as_slice-members.result.now c.min-most.result c.loop-size.found.items are c.min-most.ensures
    (subst (λ (n : ℕ). IsBelow c.args.trial.now (atoms_of c.as_slice-members.result.now) n c.loop-size.found.items) e c.loop-size.invariant)
