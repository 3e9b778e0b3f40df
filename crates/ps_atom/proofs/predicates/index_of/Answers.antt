use Rattle.std.proofs.Common.{arith, subst}
use Rattle.ps_atom.specs.inner.Index.{IsNoted, key_of}
use Rattle.ps_atom.specs.declared.predicate.Predicate.{Predicate}
use Rattle.ps_atom.proofs.Indexing.{index-step}
use Rattle.ps_atom.proofs.predicates.index_of.Goals as goal

pub loop-predicate-preserved : goal.loop-predicate-preserved
loop-predicate-preserved c =
    let l = c.loop-predicate in
    let noted : IsNoted l.index (key_of c.predicate-item.result) l.number c.enter.new.index = subst (λ (p : Predicate). IsNoted l.index (key_of p) l.number c.enter.new.index) c.in_ok-copy.ensures c.in_ok-enter.ensures in
    (omega (arith, l.invariant.0), index-step c.args.list.now l.predicate-index c.predicate-item.result l.number l.index c.enter.new.index c.loop-predicate-test.true c.predicate-item.is l.invariant.0 l.invariant.1 noted)
