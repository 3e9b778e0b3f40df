use Rattle.std.proofs.Common.{◌≡◌, ◌<◌, ◌≤◌, arith, length, refl, subst, sym, List}
use Rattle.std.proofs.lemmas.Bool.{false≢true}
use Rattle.ps_atom.specs.Range.{IsInRange}
use Rattle.ps_atom.specs.declared.predicate.Predicate.{Predicate}
use Rattle.ps_saturate.proofs.Arranged.{choices_more, choices_skipped, no_choices}
use Rattle.ps_saturate.proofs.Stepping.{read_predicate}
use Rattle.ps_saturate.specs.declared.choice.Choice.{Choice}
use Rattle.ps_saturate.specs.inner.Trials.{AreChoices}
use Rattle.ps_triple.specs.Rows.{predicate_of}
use Rattle.ps_saturate.proofs.choosing.choices.Goals as goal

pub loop-number-init : goal.loop-number-init
loop-number-init c =
    subst (λ (cs : List Choice). AreChoices c.args.setting.now c.args.predicates.now 1 c.args.post.now cs) (sym c.new-list.ensures.items) (no_choices c.args.setting.now c.args.predicates.now c.args.post.now)

pub loop-number-preserved-then-not-is_in_range : goal.loop-number-preserved-then-not-is_in_range
loop-number-preserved-then-not-is_in_range c =
    let within : c.loop-number.number < length c.args.predicates.now = omega (arith, c.loop-number-test.true, c.requires.known) in
    let same : c.index-predicates-number.result ≡ predicate_of c.args.predicates.now c.loop-number.number = read_predicate c.args.predicates.now c.loop-number.number c.index-predicates-number.result within c.index-predicates-number.is in
    choices_skipped c.args.setting.now c.args.predicates.now c.loop-number.number c.args.post.now c.loop-number.list.items
    (λ there. false≢true (c.if-not-is_in_range.ensures.1 (subst (λ (p : Predicate). IsInRange c.args.setting.now.globals c.args.setting.now.locals p) (sym same) there.1))) c.loop-number.invariant

pub loop-number-preserved : goal.loop-number-preserved
loop-number-preserved c =
    let within : c.loop-number.number < length c.args.predicates.now = omega (arith, c.loop-number-test.true, c.requires.known) in
    let same : c.index-predicates-number.result ≡ predicate_of c.args.predicates.now c.loop-number.number = read_predicate c.args.predicates.now c.loop-number.number c.index-predicates-number.result within c.index-predicates-number.is in
    let least : 1 ≤ c.loop-number.number = omega (arith, c.loop-number.auto.number) in
    choices_more c.args.setting.now c.args.predicates.now c.loop-number.number c.args.post.now c.args.threads c.loop-number.list.items c.push_choices.new.list.items least
    (within, subst (λ (p : Predicate). IsInRange c.args.setting.now.globals c.args.setting.now.locals p) same (c.if-not-is_in_range.ensures.0 refl)) c.requires.threads c.loop-number.invariant
    c.in_ok-push_choices.ensures.atoms (c.in_ok-push_choices.ensures.made c.loop-number.invariant.made)
