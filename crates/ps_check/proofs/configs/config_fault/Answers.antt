use Rattle.std.proofs.lemmas.Bool.{both_ways}
use Rattle.ps_check.specs.Faults.{table_of}
use Rattle.ps_step.specs.Closed.{IsNamed}
use Rattle.ps_check.proofs.Before.{before_all, before_more, before_none, past_all, read_at}
use Rattle.ps_check.proofs.Firsts.{first_number, first_thread}
use Rattle.ps_check.proofs.Naming.{from_table, named_of, table_in_range, to_table}
use Rattle.ps_check.proofs.configs.config_fault.Goals as goal

pub loop-number-init : goal.loop-number-init
loop-number-init c = before_none (IsNamed c.args.graph.now (table_of c.args.proof.now)) c.args.proof.now.configs

pub has_numbers-requires : goal.has_numbers-requires
has_numbers-requires c = table_in_range c.args.graph.now c.args.proof.now c.args.table.now c.requires.held.in_range c.requires.table

pub returns-then-not-has_numbers : goal.returns-then-not-has_numbers
returns-then-not-has_numbers c =
    first_number c.args.graph.now c.args.proof.now c.loop-number.number c.index-configs-number.result c.requires.held c.loop-number.invariant
    (read_at c.args.proof.now.configs c.as_slice-configs.result.now c.count_of-count.result c.loop-number.number c.index-configs-number.result c.as_slice-configs.ensures c.count_of-count.ensures c.loop-number-test.true c.index-configs-number.is)
    (λ h. both_ways c.has_numbers.result c.if-not-has_numbers.true (c.has_numbers.ensures.1 (from_table c.args.graph.now c.args.proof.now c.args.table.now c.index-configs-number.result c.requires.table h)))

pub returns-then-not-has_threads_apart : goal.returns-then-not-has_threads_apart
returns-then-not-has_threads_apart c =
    first_thread c.args.graph.now c.args.proof.now c.loop-number.number c.index-configs-number.result c.requires.held c.loop-number.invariant
    (read_at c.args.proof.now.configs c.as_slice-configs.result.now c.count_of-count.result c.loop-number.number c.index-configs-number.result c.as_slice-configs.ensures c.count_of-count.ensures c.loop-number-test.true c.index-configs-number.is)
    (to_table c.args.graph.now c.args.proof.now c.args.table.now c.index-configs-number.result c.requires.table (c.has_numbers.ensures.0 c.if-not-has_numbers.false))
    (λ h. both_ways c.has_threads_apart.result c.if-not-has_threads_apart.true (c.has_threads_apart.ensures.1 h))

pub loop-number-preserved : goal.loop-number-preserved
loop-number-preserved c =
    before_more (IsNamed c.args.graph.now (table_of c.args.proof.now)) c.args.proof.now.configs c.loop-number.number c.index-configs-number.result c.loop-number.invariant
    (read_at c.args.proof.now.configs c.as_slice-configs.result.now c.count_of-count.result c.loop-number.number c.index-configs-number.result c.as_slice-configs.ensures c.count_of-count.ensures c.loop-number-test.true c.index-configs-number.is)
    (named_of c.args.graph.now c.args.proof.now c.args.table.now c.index-configs-number.result c.requires.table (c.has_numbers.ensures.0 c.if-not-has_numbers.false) (c.has_threads_apart.ensures.0 c.if-not-has_threads_apart.false))

pub returns : goal.returns
returns c = record {
  held = c.requires.held;
  named = before_all (IsNamed c.args.graph.now (table_of c.args.proof.now)) c.args.proof.now.configs c.loop-number.number c.loop-number.invariant (past_all c.args.proof.now.configs c.as_slice-configs.result.now c.count_of-count.result c.loop-number.number c.as_slice-configs.ensures c.count_of-count.ensures c.loop-number-test.false);
}
