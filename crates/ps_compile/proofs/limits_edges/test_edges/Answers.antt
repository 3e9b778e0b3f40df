use Rattle.std.proofs.Common.{rules, ◌<◌, ◌+◌, length, refl, inl, inr, arith}
use Rattle.ps_compile.specs.Checks.{rows_checks, numbers_checks}
use Rattle.ps_tree.specs.declared.limit_name.LimitName.TheVariants.{Locations, Edges}
use Rattle.ps_compile.specs.inner.Drafts.{commands_on}
use Rattle.ps_compile.proofs.Testing.{end_left, end_right, first_right, commands_count}
use Rattle.ps_compile.proofs.limits_edges.test_edges.Goals as goal

pub returns-in-Err : goal.returns-in-Err
returns-in-Err c = end_left (rows_checks c.args.place (commands_on c.args.due.now)) _ c.in-Err.end c.in-Err.ensures

pub returns-in-Err-test_numbers : goal.returns-in-Err-test_numbers
returns-in-Err-test_numbers c =
    end_right (rows_checks c.args.place (commands_on c.args.due.now)) _ c.in-Err-test_numbers.end c.in-Ok.ensures
    (end_left (numbers_checks c.args.place (commands_on c.args.due.now)) _ c.in-Err-test_numbers.end c.in-Err-test_numbers.ensures)

pub returns-then-len-gt-MOST_LOCATIONS : goal.returns-then-len-gt-MOST_LOCATIONS
returns-then-len-gt-MOST_LOCATIONS c =
    let h : 256 < length c.args.plan.now.owners.items = search rules in
    first_right c.args.place Locations (rows_checks c.args.place (commands_on c.args.due.now)) _ c.in-Ok.ensures
    (first_right c.args.place Locations (numbers_checks c.args.place (commands_on c.args.due.now)) _ c.in-Ok-test_numbers.ensures (inl (h, refl, refl)))

pub returns-then-len-due-gt-MOST_EDGES : goal.returns-then-len-due-gt-MOST_EDGES
returns-then-len-due-gt-MOST_EDGES c =
    let k : 512 < length c.args.plan.now.drafts.items + length c.args.due.now = search rules in
    let h : 512 < length c.args.plan.now.drafts.items + length (commands_on c.args.due.now) = omega (arith, k, commands_count c.args.due.now) in
    let few : ¬ (256 < length c.args.plan.now.owners.items) = search rules in
    first_right c.args.place Edges (rows_checks c.args.place (commands_on c.args.due.now)) _ c.in-Ok.ensures
    (first_right c.args.place Edges (numbers_checks c.args.place (commands_on c.args.due.now)) _ c.in-Ok-test_numbers.ensures (inr (few, inl (h, refl, refl))))
