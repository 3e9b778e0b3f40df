use Rattle.std.proofs.Common.{All, Contains, refl, subst}
use Rattle.std.proofs.lemmas.Bool.{false≢true}
use Rattle.std.proofs.lemmas.List.Elements.{All-contains}
use Rattle.ps_saturate.proofs.Stepping.{all_more, all_taken, member}
use Rattle.ps_saturate.specs.inner.Trials.{atoms_of, pointed_to}
use Rattle.ps_saturate.proofs.walk.is_blocked.Goals as goal

pub returns-then-is_inside : goal.returns-then-is_inside
returns-then-is_inside c = (
  λ _. (
    c.triple-item.result,
    member c.args.found.now c.loop-triple.triple-index c.triple-item.result c.loop-triple-test.true c.triple-item.is,
    subst (λ qs. All (Contains (atoms_of (pointed_to c.args.set.now))) qs) c.as_slice.ensures (c.if-is_inside.ensures.0 refl),
  ),
  λ _. refl,
)

pub loop-triple-preserved : goal.loop-triple-preserved
loop-triple-preserved c =
    all_more (λ t. ¬ All (Contains (atoms_of (pointed_to c.args.set.now))) t.pre) c.args.found.now c.loop-triple.triple-index c.triple-item.result c.loop-triple-test.true c.triple-item.is c.loop-triple.invariant
    (λ h. false≢true (c.if-is_inside.ensures.1 (subst (λ qs. All (Contains (atoms_of (pointed_to c.args.set.now))) qs) (Rattle.std.proofs.Common.sym c.as_slice.ensures) h)))

pub returns : goal.returns
returns c = (
  λ h. absurd (false≢true h),
  λ h. absurd (All-contains (λ t. ¬ All (Contains (atoms_of (pointed_to c.args.set.now))) t.pre) c.args.found.now h.0
      (all_taken (λ t. ¬ All (Contains (atoms_of (pointed_to c.args.set.now))) t.pre) c.args.found.now c.loop-triple.triple-index c.loop-triple-test.false c.loop-triple.invariant) h.1 h.2),
)
