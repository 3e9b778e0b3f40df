use Rattle.std.proofs.Common.{Contains, refl}
use Rattle.std.proofs.lemmas.Bool.{false≢true}
use Rattle.std.proofs.lemmas.List.Elements.{All-contains}
use Rattle.ps_saturate.proofs.Stepping.{all_more, all_taken, member}
use Rattle.ps_saturate.specs.inner.Trials.{atoms_of, pointed_to}
use Rattle.ps_saturate.proofs.walk.is_inside.Goals as goal

pub returns-then-not-has_atom : goal.returns-then-not-has_atom
returns-then-not-has_atom c = (
  λ h. absurd (false≢true h),
  λ h. c.if-not-has_atom.ensures.1 (All-contains (Contains (atoms_of (pointed_to c.args.set.now))) c.args.part.now c.atom-item.result h (member c.args.part.now c.loop-atom.atom-index c.atom-item.result c.loop-atom-test.true c.atom-item.is)),
)

pub loop-atom-preserved : goal.loop-atom-preserved
loop-atom-preserved c =
    all_more (Contains (atoms_of (pointed_to c.args.set.now))) c.args.part.now c.loop-atom.atom-index c.atom-item.result c.loop-atom-test.true c.atom-item.is c.loop-atom.invariant (c.if-not-has_atom.ensures.0 refl)

pub returns : goal.returns
returns c = (
  λ _. all_taken (Contains (atoms_of (pointed_to c.args.set.now))) c.args.part.now c.loop-atom.atom-index c.loop-atom-test.false c.loop-atom.invariant,
  λ _. refl,
)
