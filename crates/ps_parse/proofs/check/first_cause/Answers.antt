use Rattle.std.proofs.Common.{◌<◌, length, arith}
use Rattle.ps_parse.specs.Inner.Seen.{seen_word}
use Rattle.ps_parse.proofs.Checking.{few_passed, few_rows, goes_last, goes_on, goes_spot}
use Rattle.ps_parse.proofs.check.first_cause.Goals as goal

pub returns-in-None : goal.returns-in-None
returns-in-None c = goes_last c.args.cursor.now.words c.args.cursor.now.end c.checking.passed c.checking.cursor c.checking.invariant c.in-None.ensures.gives

pub cause-requires : goal.cause-requires
cause-requires c = omega (arith, few_rows c.checking.invariant, c.in_ok-rows.ensures.few, c.requires)

pub returns-in-Some-cause : goal.returns-in-Some-cause
returns-in-Some-cause c =
    rw c.words.ensures (goes_spot c.args.cursor.now.words c.args.cursor.now.end c.checking.passed c.args.most c.in_ok-rows.rows c.checking.cursor c.take.new.self (seen_word c.in-Some.word) c.in-Some-cause.refusal
    c.checking.invariant c.requires (rw c.fork.ensures at c.in_ok-rows.ensures.is) c.in-Some.ensures.gives c.in-Some.ensures.spelled c.in-Some-cause.ensures)

pub pass-requires : goal.pass-requires
pass-requires c =
    let few : c.checking.passed.words < length c.args.cursor.now.words = few_passed (seen_word c.in-Some.word) c.take.new.self c.checking.invariant c.in-Some.ensures.gives in
    omega (arith, few, c.requires, c.ranges.most.fits)

pub checking-preserved : goal.checking-preserved
checking-preserved c =
    goes_on c.args.cursor.now.words c.args.cursor.now.end c.checking.passed c.pass.new.self c.args.most c.in_ok-rows.rows c.checking.cursor c.take.new.self (seen_word c.in-Some.word)
    c.checking.invariant c.requires (rw c.fork.ensures at c.in_ok-rows.ensures.is) c.in-Some.ensures.gives c.in-Some.ensures.spelled c.in_default.ensures c.in_ok-pass.ensures
