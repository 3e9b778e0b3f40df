use Rattle.std.proofs.Common.{arith}
use Rattle.ps_parse.specs.Inner.Items.{rows_from}
use Rattle.ps_parse.proofs.Declarations.{counts_none, counts_stop, counts_more, counts_all}
use Rattle.ps_parse.proofs.items.init_rows.Goals as goal

pub returns-in-None-clause-is : goal.returns-in-None-clause-is
returns-in-None-clause-is c =
    counts_none c.args.most c.loop.counter c.loop.rows c.loop.cursor c.next_rows.new.cursor (rows_from c.args.most c.args.most c.args.cursor.now) c.loop.invariant.counted c.loop-test.true (rw (c.new-declared.ensures, c.in-None.is) at c.in_ok-more.ensures.is)

pub returns-then-not-passes-clause-is : goal.returns-then-not-passes-clause-is
returns-then-not-passes-clause-is c =
    counts_stop c.args.most c.loop.counter c.loop.rows c.in-Some.more c.loop.cursor c.next_rows.new.cursor c.passes.new.self (rows_from c.args.most c.args.most c.args.cursor.now) c.loop.invariant.counted c.loop-test.true (rw (c.new-declared.ensures, c.in-Some.is) at c.in_ok-more.ensures.is) (rw c.if-not-passes.true at c.passes.ensures)

pub loop-preserved : goal.loop-preserved
loop-preserved c =
    let few = rw c.in-Some.is at c.in_ok-more.ensures.few in
    record {
      counted = counts_more c.args.most c.loop.counter c.loop.rows c.in-Some.more c.loop.cursor c.next_rows.new.cursor c.passes.new.self (rows_from c.args.most c.args.most c.args.cursor.now) c.loop.invariant.counted c.loop-test.true (rw (c.new-declared.ensures, c.in-Some.is) at c.in_ok-more.ensures.is) (rw c.if-not-passes.false at c.passes.ensures);
      few = omega (arith, few, c.loop.invariant.few);
    }

pub returns-clause-is : goal.returns-clause-is
returns-clause-is c =
    counts_all c.args.most c.loop.counter c.loop.rows c.loop.cursor (rows_from c.args.most c.args.most c.args.cursor.now) c.loop.invariant.counted c.loop-test.false
