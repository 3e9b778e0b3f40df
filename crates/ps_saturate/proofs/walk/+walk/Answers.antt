use Rattle.std.proofs.Common.{◌≡◌, ◌≤◌, ◌++◌, All, arith, refl, subst, sym}
use Rattle.std.specs.List.Sorted.{IsStrictlySortedBy}
use Rattle.std.proofs.lemmas.Bool.{false≢true}
use Rattle.std.proofs.lemmas.List.Elements.{All-drop}
use Rattle.ps_atom.specs.Atoms.{atom_cmp}
use Rattle.ps_saturate.proofs.Ascents.{sorted_first}
use Rattle.ps_saturate.proofs.Finding.{ascend_from_sorted}
use Rattle.ps_saturate.proofs.Stepping.{all_longer, if_ok, longer_ascends, rest_is, walk_on, walked}
use Rattle.ps_saturate.proofs.Trying.{tried_alone, tried_blocked}
use Rattle.ps_saturate.specs.inner.Choosing.{choices}
use Rattle.ps_saturate.specs.inner.Trials.{AreTried, IsBlocked, IsChoiceOf, atoms_of, pointed_to}
use Rattle.ps_saturate.proofs.walk.+walk.Goals as goal

pub returns-then-is_blocked : goal.returns-then-is_blocked
returns-then-is_blocked t c =
    tried_blocked c.args.trial.now (atoms_of (pointed_to c.args.set.now)) (choices (atoms_of c.args.rest.now) c.args.more) c.args.found.items
    (subst (λ f. IsBlocked f (atoms_of (pointed_to c.args.set.now))) c.as_slice.ensures.value (c.if-is_blocked.ensures.0 refl))

pub with_set-requires-clause-ascends : goal.with_set-requires-clause-ascends
with_set-requires-clause-ascends t c =
    ascend_from_sorted (atoms_of (pointed_to c.args.set.now)) (sorted_first atom_cmp (atoms_of (pointed_to c.args.set.now)) (atoms_of c.args.rest.now) c.requires.ascends)

pub with_set-requires-clause-unblocked : goal.with_set-requires-clause-unblocked
with_set-requires-clause-unblocked t c =
    λ h. false≢true (c.if-is_blocked.ensures.1 (subst (λ f. IsBlocked f (atoms_of (pointed_to c.args.set.now))) (sym c.as_slice.ensures.value) h))

pub returns-then-more-eq0 : goal.returns-then-more-eq0
returns-then-more-eq0 t c =
    if_ok c.with_set.result _ _ (λ new h. tried_alone c.args.trial.now (atoms_of (pointed_to c.args.set.now)) (atoms_of c.args.rest.now) c.args.found.items new.items c.args.more c.if-more-eq0.true h) c.with_set.ensures

pub walk-requires : goal.walk-requires
walk-requires t c = (
  omega arith,
  (
    c.requires.ready,
    (
      subst (λ cs. All (IsChoiceOf c.args.trial.now) (pointed_to cs)) (sym c.as_slice-in-loop-at.ensures.value)
          (all_longer (IsChoiceOf c.args.trial.now) (pointed_to c.args.set.now) c.args.rest.now c.loop-at.at c.index-rest-at.result (pointed_to c.in_ok-longer.longer.items) c.loop-at-test.true c.index-rest-at.is c.in_ok-longer.ensures c.requires.choices c.requires.rest),
      (
        subst (λ cs. All (IsChoiceOf c.args.trial.now) cs) (sym (rest_is c.args.rest.now c.loop-at.at)) (All-drop (IsChoiceOf c.args.trial.now) (Rattle.std.proofs.Common.◌+◌ c.loop-at.at 1) c.args.rest.now c.requires.rest),
        subst (λ cs. IsStrictlySortedBy atom_cmp (atoms_of (pointed_to c.as_slice-in-loop-at.result.now) ++ atoms_of cs)) (sym (rest_is c.args.rest.now c.loop-at.at))
            (subst (λ rs. IsStrictlySortedBy atom_cmp (atoms_of (pointed_to rs) ++ atoms_of (Rattle.std.proofs.Common.drop (Rattle.std.proofs.Common.◌+◌ c.loop-at.at 1) c.args.rest.now))) (sym c.as_slice-in-loop-at.ensures.value)
            (longer_ascends (pointed_to c.args.set.now) c.args.rest.now c.loop-at.at c.index-rest-at.result (pointed_to c.in_ok-longer.longer.items) c.loop-at-test.true c.index-rest-at.is c.in_ok-longer.ensures c.requires.ascends)),
      ),
    ),
  ),
)

pub loop-at-preserved : goal.loop-at-preserved
loop-at-preserved t c =
    let some : 1 ≤ c.args.more = omega arith in
    walk_on c.args.trial.now (pointed_to c.args.set.now) c.args.rest.now (pointed_to c.as_slice-in-loop-at.result.now) c.loop-at.at c.index-rest-at.result c.args.more c.args.found.items c.loop-at.found.items c.in_ok-found.found.items
    some c.loop-at-test.true c.index-rest-at.is
    (Rattle.std.proofs.Common.◌∙◌ (Rattle.std.proofs.Common.ap pointed_to c.as_slice-in-loop-at.ensures.value) c.in_ok-longer.ensures)
    c.loop-at.invariant
    (subst (λ cs. AreTried c.args.trial.now (Rattle.ps_saturate.specs.inner.Choosing.after_all (atoms_of (pointed_to c.as_slice-in-loop-at.result.now)) (choices (atoms_of cs) (Rattle.std.proofs.Common.◌-◌ c.args.more 1))) c.loop-at.found.items c.in_ok-found.found.items) (rest_is c.args.rest.now c.loop-at.at) c.in_ok-found.ensures)

pub returns : goal.returns
returns t c =
    let some : 1 ≤ c.args.more = omega arith in
    walked c.args.trial.now (pointed_to c.args.set.now) c.args.rest.now c.loop-at.at c.args.more c.args.found.items c.loop-at.found.items some c.loop-at-test.false c.loop-at.invariant
