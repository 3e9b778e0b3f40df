use Rattle.std.proofs.Common.{rules, ◌<◌, ◌≤◌, length, min, true, false, not, ap, sym, ◌∙◌, List}
use Rattle.ps_graph.specs.Alternatives.{Bound, alternatives}
use Rattle.ps_compile.specs.inner.Members.{any_of, each_of}
use Rattle.ps_compile.proofs.Members.{and_true, and_false, or_true, or_false, not_is}
use Rattle.ps_tree.specs.declared.cond.Cond.TheVariants.{And, Or}
use Rattle.ps_compile.proofs.Counted.{rel_counts, members_count, each_step, any_step, each_end, any_end}
use Rattle.ps_compile.proofs.counts.+counts.Goals as goal

pub count_alternatives-returns-in-Rel : goal.count_alternatives-returns-in-Rel
count_alternatives-returns-in-Rel t c = rel_counts c.args.holds c.args.cond.now c.in-Rel.relation c.count_relation.result c.in-Rel.is c.count_relation.ensures

pub count_alternatives-returns-in-Not : goal.count_alternatives-returns-in-Not
count_alternatives-returns-in-Not t c =
    c.count_alternatives.ensures ∙ ap (λ (l : List (List Bound)). min (length l) 65)
    (ap (alternatives (not c.args.holds)) c.get.ensures ∙ sym (not_is c.args.holds c.in-Not.negated) ∙ ap (alternatives c.args.holds) (sym c.in-Not.is))

pub count_alternatives-returns-then-holds : goal.count_alternatives-returns-then-holds
count_alternatives-returns-then-holds t c = members_count true c.args.holds c.args.cond.now (And c.in-And.members) c.in-And.members c.as_slice.result.now each_of c.count_each.result
    (and_true c.in-And.members) c.in-And.is c.if-holds.true c.as_slice.ensures c.count_each.ensures

pub count_alternatives-returns-else-holds : goal.count_alternatives-returns-else-holds
count_alternatives-returns-else-holds t c = members_count false c.args.holds c.args.cond.now (And c.in-And.members) c.in-And.members c.as_slice-else-holds.result.now any_of c.count_any.result
    (and_false c.in-And.members) c.in-And.is c.if-holds.false c.as_slice-else-holds.ensures c.count_any.ensures

pub count_alternatives-returns-then-holds-2 : goal.count_alternatives-returns-then-holds-2
count_alternatives-returns-then-holds-2 t c = members_count true c.args.holds c.args.cond.now (Or c.in-Or.members) c.in-Or.members c.as_slice-then-holds-2.result.now any_of c.count_any-then-holds-2.result
    (or_true c.in-Or.members) c.in-Or.is c.if-holds-2.true c.as_slice-then-holds-2.ensures c.count_any-then-holds-2.ensures

pub count_alternatives-returns-else-holds-2 : goal.count_alternatives-returns-else-holds-2
count_alternatives-returns-else-holds-2 t c = members_count false c.args.holds c.args.cond.now (Or c.in-Or.members) c.in-Or.members c.as_slice-else-holds-2.result.now each_of c.count_each-else-holds-2.result
    (or_false c.in-Or.members) c.in-Or.is c.if-holds-2.false c.as_slice-else-holds-2.ensures c.count_each-else-holds-2.ensures

pub count_any-returns : goal.count_any-returns
count_any-returns t c =
    let l : length c.args.members.now ≤ c.loop-member.member-index = search rules in
    any_end c.loop-member.all c.args.holds c.args.members.now c.loop-member.member-index (min (length (any_of c.args.holds c.args.members.now)) 65) l c.loop-member.invariant.0 c.loop-member.invariant.1

pub count_each-returns : goal.count_each-returns
count_each-returns t c =
    let l : length c.args.members.now ≤ c.loop-member.member-index = search rules in
    each_end c.loop-member.all c.args.holds c.args.members.now c.loop-member.member-index (min (length (each_of c.args.holds c.args.members.now)) 65) l c.loop-member.invariant.0 c.loop-member.invariant.1

pub count_each-loop-member-preserved : goal.count_each-loop-member-preserved
count_each-loop-member-preserved t c =
    let l : c.loop-member.member-index < length c.args.members.now = search rules in
    each_step c.loop-member.all c.saturating_mul.result c.min-all.result c.count_alternatives.result c.args.holds c.member-item.result c.args.members.now c.loop-member.member-index
    (min (length (each_of c.args.holds c.args.members.now)) 65) l c.member-item.is c.loop-member.invariant.0 c.count_alternatives.ensures c.saturating_mul.ensures c.min-all.ensures

pub count_any-loop-member-preserved : goal.count_any-loop-member-preserved
count_any-loop-member-preserved t c =
    let l : c.loop-member.member-index < length c.args.members.now = search rules in
    any_step c.loop-member.all c.saturating_add.result c.min-all.result c.count_alternatives.result c.args.holds c.member-item.result c.args.members.now c.loop-member.member-index
    (min (length (any_of c.args.holds c.args.members.now)) 65) l c.member-item.is c.loop-member.invariant.0 c.count_alternatives.ensures c.saturating_add.ensures c.min-all.ensures
