use Rattle.std.proofs.Common.{◌≡◌, ◌≤◌, ◌<◌, true, false, rules, of_calls, arith}
use Rattle.std.specs.Prelude.{nat_lt}
use Rattle.std.specs.List.Sorted.{IsPartitionPoint}
use Rattle.std.proofs.lemmas.Fn.{always_returns_same}
use Rattle.ps_trace.specs.WitnessOf.{new_number}
use Rattle.ps_trace.proofs.Numbering.{number_is, number_small, parted}
use Rattle.ps_trace.proofs.witnessing.new_number.Goals as goal

pub overflow_cast-result : goal.overflow_cast-result
overflow_cast-result c =
    let at : IsPartitionPoint (λ y. nat_lt y c.args.thread ≡ true) (λ y. nat_lt y c.args.thread ≡ false) c.args.threads.now c.partition_point.result =
    c.partition_point.ensures.partitioned (λ y. nat_lt y c.args.thread) (always_returns_same _ _ _ (λ a r f k. search (rules, of_calls))) (parted c.args.threads.now c.args.thread c.requires) in
    let is : c.partition_point.result ≡ new_number c.args.threads.now c.args.thread = number_is c.args.threads.now c.args.thread c.partition_point.result c.partition_point.ensures.bound at in
    let small : new_number c.args.threads.now c.args.thread ≤ c.args.thread = number_small c.args.threads.now c.args.thread c.requires in
    let fits : c.args.thread < 4294967296 = search rules in
    omega arith

pub returns : goal.returns
returns c =
    number_is c.args.threads.now c.args.thread c.partition_point.result c.partition_point.ensures.bound
    (c.partition_point.ensures.partitioned (λ y. nat_lt y c.args.thread) (always_returns_same _ _ _ (λ a r f k. search (rules, of_calls))) (parted c.args.threads.now c.args.thread c.requires))
