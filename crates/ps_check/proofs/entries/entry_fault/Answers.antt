use Rattle.ps_check.proofs.Before.{at_place_in, before_all, before_more, before_none, past_all, read_at}
use Rattle.ps_check.proofs.Firsts.{Holds, first_entry}
use Rattle.ps_check.proofs.entries.entry_fault.Goals as goal

pub loop-number-init : goal.loop-number-init
loop-number-init c = before_none (Holds c.args.graph.now c.args.proof.now) c.args.proof.now.entries

pub fault_of-requires : goal.fault_of-requires
fault_of-requires c =
    c.requires.counted.short c.index-entries-number.result (at_place_in c.args.proof.now.entries c.loop-number.number c.index-entries-number.result
    (read_at c.args.proof.now.entries c.as_slice-entries.result.now c.count_of-count.result c.loop-number.number c.index-entries-number.result c.as_slice-entries.ensures c.count_of-count.ensures c.loop-number-test.true c.index-entries-number.is))

pub returns-in-Some : goal.returns-in-Some
returns-in-Some c =
    first_entry c.args.graph.now c.args.proof.now c.loop-number.number c.index-entries-number.result c.in-Some.fault c.requires.in_range c.loop-number.invariant
    (read_at c.args.proof.now.entries c.as_slice-entries.result.now c.count_of-count.result c.loop-number.number c.index-entries-number.result c.as_slice-entries.ensures c.count_of-count.ensures c.loop-number-test.true c.index-entries-number.is)
    (rw (← c.requires.table) (rw c.in-Some.is at c.in_ok-fault.ensures))

pub loop-number-preserved : goal.loop-number-preserved
loop-number-preserved c =
    before_more (Holds c.args.graph.now c.args.proof.now) c.args.proof.now.entries c.loop-number.number c.index-entries-number.result c.loop-number.invariant
    (read_at c.args.proof.now.entries c.as_slice-entries.result.now c.count_of-count.result c.loop-number.number c.index-entries-number.result c.as_slice-entries.ensures c.count_of-count.ensures c.loop-number-test.true c.index-entries-number.is)
    (rw (← c.requires.table) (rw c.in-None.is at c.in_ok-fault.ensures))

pub returns : goal.returns
returns c = record {
  in_range = c.requires.in_range;
  hold = before_all (Holds c.args.graph.now c.args.proof.now) c.args.proof.now.entries c.loop-number.number c.loop-number.invariant
      (past_all c.args.proof.now.entries c.as_slice-entries.result.now c.count_of-count.result c.loop-number.number c.as_slice-entries.ensures c.count_of-count.ensures c.loop-number-test.false);
}
