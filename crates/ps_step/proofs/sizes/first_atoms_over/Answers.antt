use Rattle.std.proofs.Common.{List, length, sym, ap}
use Rattle.ps_atom.specs.declared.atom.Atom.{Atom}
use Rattle.ps_config.specs.declared.config.TheConstants.{MOST_ATOMS}
use Rattle.ps_step.specs.inner.Sets.{HasLength}
use Rattle.ps_step.proofs.Over.{fine_all, fine_more, first_over}
use Rattle.ps_step.proofs.sizes.first_atoms_over.Goals as goal

pub returns-then-count-gt-MOST_ATOMS : goal.returns-then-count-gt-MOST_ATOMS
returns-then-count-gt-MOST_ATOMS c =
    first_over MOST_ATOMS HasLength c.args.sets.now c.loop-set.set-index (length c.as_slice-count.result.now) c.set-item.result c.loop-set-test.true c.set-item.is
    (sym (ap (λ (qs : List Atom). length qs) c.as_slice-count.ensures.value)) c.if-count-gt-MOST_ATOMS.true c.loop-set.invariant

pub loop-set-preserved : goal.loop-set-preserved
loop-set-preserved c =
    fine_more MOST_ATOMS HasLength c.args.sets.now c.loop-set.set-index (length c.as_slice-count.result.now) c.set-item.result c.loop-set-test.true c.set-item.is
    (sym (ap (λ (qs : List Atom). length qs) c.as_slice-count.ensures.value)) c.if-count-gt-MOST_ATOMS.false c.loop-set.invariant

pub returns : goal.returns
returns c = fine_all MOST_ATOMS HasLength c.args.sets.now c.loop-set.set-index c.loop-set-test.false c.loop-set.invariant
