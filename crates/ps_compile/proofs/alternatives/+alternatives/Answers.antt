use Rattle.std.proofs.Common.{rules, ◌≡◌, ◌∙◌, ◌<◌, ◌≤◌, length, true, false, not, ap, ap₂, sym, subst, List, IfOk}
use Rattle.ps_compile.proofs.Alternating.{rows_of, each_start, each_step, each_end}
use Rattle.ps_compile.proofs.Members.{and_true, and_false, or_true, or_false, not_is, members_are, asked_members, asked_any, asked_not}
use Rattle.ps_compile.proofs.alternatives.+alternatives.Goals as goal
use Rattle.ps_compile.specs.Conditions.{IsCompilableCond}
use Rattle.ps_compile.specs.inner.Members.{any_of, each_of}
use Rattle.ps_graph.specs.Alternatives.{Bound, alternatives, product}
use Rattle.ps_term.specs.declared.row.Row.{Row}
use Rattle.ps_tree.specs.declared.cond.Cond.TheVariants.{And, Or}

pub alternatives_of-returns-in-Rel-clause-past : goal.alternatives_of-returns-in-Rel-clause-past
alternatives_of-returns-in-Rel-clause-past t c = λ past g l h. c.of_relation.ensures.past past g l (subst (IsCompilableCond g l) c.in-Rel.is h)

pub alternatives_of-returns-in-Not-clause-is : goal.alternatives_of-returns-in-Not-clause-is
alternatives_of-returns-in-Not-clause-is t c =
    subst (λ (alts : List (List Bound)). IfOk c.alternatives_of.result (λ all. all.items ≡ rows_of alts))
    (ap (alternatives (not c.args.holds)) c.get.ensures ∙ sym (not_is c.args.holds c.in-Not.negated) ∙ ap (alternatives c.args.holds) (sym c.in-Not.is))
    c.alternatives_of.ensures.is

pub alternatives_of-returns-in-Not-clause-past : goal.alternatives_of-returns-in-Not-clause-past
alternatives_of-returns-in-Not-clause-past t c = λ past g l h. c.alternatives_of.ensures.past past g l
    (subst (IsCompilableCond g l) (sym c.get.ensures) (asked_not g l c.in-Not.negated (subst (IsCompilableCond g l) c.in-Not.is h)))

pub alternatives_of-returns-then-holds-clause-is : goal.alternatives_of-returns-then-holds-clause-is
alternatives_of-returns-then-holds-clause-is t c =
    subst (λ (alts : List (List Bound)). IfOk c.one_of_each.result (λ all. all.items ≡ rows_of alts))
    (members_are true c.args.holds c.args.cond.now (And c.in-And.members) c.in-And.members c.as_slice.result.now each_of (and_true c.in-And.members) c.in-And.is c.if-holds.true c.as_slice.ensures)
    c.one_of_each.ensures.is

pub alternatives_of-returns-then-holds-clause-past : goal.alternatives_of-returns-then-holds-clause-past
alternatives_of-returns-then-holds-clause-past t c = λ past g l h. c.one_of_each.ensures.past past g l
    (asked_members g l c.args.cond.now c.in-And.members c.as_slice.result.now c.in-And.is c.as_slice.ensures h)

pub alternatives_of-returns-else-holds-clause-is : goal.alternatives_of-returns-else-holds-clause-is
alternatives_of-returns-else-holds-clause-is t c =
    subst (λ (alts : List (List Bound)). IfOk c.one_of_any.result (λ all. all.items ≡ rows_of alts))
    (members_are false c.args.holds c.args.cond.now (And c.in-And.members) c.in-And.members c.as_slice-else-holds.result.now any_of (and_false c.in-And.members) c.in-And.is c.if-holds.false c.as_slice-else-holds.ensures)
    c.one_of_any.ensures.is

pub alternatives_of-returns-else-holds-clause-past : goal.alternatives_of-returns-else-holds-clause-past
alternatives_of-returns-else-holds-clause-past t c = λ past g l h. c.one_of_any.ensures.past past g l
    (asked_members g l c.args.cond.now c.in-And.members c.as_slice-else-holds.result.now c.in-And.is c.as_slice-else-holds.ensures h)

pub alternatives_of-returns-then-holds-2-clause-is : goal.alternatives_of-returns-then-holds-2-clause-is
alternatives_of-returns-then-holds-2-clause-is t c =
    subst (λ (alts : List (List Bound)). IfOk c.one_of_any-then-holds-2.result (λ all. all.items ≡ rows_of alts))
    (members_are true c.args.holds c.args.cond.now (Or c.in-Or.members) c.in-Or.members c.as_slice-then-holds-2.result.now any_of (or_true c.in-Or.members) c.in-Or.is c.if-holds-2.true c.as_slice-then-holds-2.ensures)
    c.one_of_any-then-holds-2.ensures.is

pub alternatives_of-returns-then-holds-2-clause-past : goal.alternatives_of-returns-then-holds-2-clause-past
alternatives_of-returns-then-holds-2-clause-past t c = λ past g l h. c.one_of_any-then-holds-2.ensures.past past g l
    (asked_any g l c.args.cond.now c.in-Or.members c.as_slice-then-holds-2.result.now c.in-Or.is c.as_slice-then-holds-2.ensures h)

pub alternatives_of-returns-else-holds-2-clause-is : goal.alternatives_of-returns-else-holds-2-clause-is
alternatives_of-returns-else-holds-2-clause-is t c =
    subst (λ (alts : List (List Bound)). IfOk c.one_of_each-else-holds-2.result (λ all. all.items ≡ rows_of alts))
    (members_are false c.args.holds c.args.cond.now (Or c.in-Or.members) c.in-Or.members c.as_slice-else-holds-2.result.now each_of (or_false c.in-Or.members) c.in-Or.is c.if-holds-2.false c.as_slice-else-holds-2.ensures)
    c.one_of_each-else-holds-2.ensures.is

pub alternatives_of-returns-else-holds-2-clause-past : goal.alternatives_of-returns-else-holds-2-clause-past
alternatives_of-returns-else-holds-2-clause-past t c = λ past g l h. c.one_of_each-else-holds-2.ensures.past past g l
    (asked_any g l c.args.cond.now c.in-Or.members c.as_slice-else-holds-2.result.now c.in-Or.is c.as_slice-else-holds-2.ensures h)

pub one_of_each-loop-member-init : goal.one_of_each-loop-member-init
one_of_each-loop-member-init t c =
    ap (λ (a : List (List Row)). product a (rows_of (each_of c.args.holds c.args.members.now))) c.in-Ok.ensures ∙ each_start c.args.holds c.args.members.now

pub one_of_each-loop-member-preserved : goal.one_of_each-loop-member-preserved
one_of_each-loop-member-preserved t c =
    let l : c.loop-member.member-index < length c.args.members.now = search rules in
    each_step c.args.holds c.args.members.now c.loop-member.member-index c.member-item.result c.member-item.result
    c.loop-member.all.items c.in-Ok-alternatives_of.next.items c.in-Ok-product.more.items
    (rows_of (each_of c.args.holds c.args.members.now)) l c.member-item.is c.loop-member.invariant c.in-Ok-alternatives_of.ensures.is
    (c.in-Ok-product.ensures ∙ ap₂ product c.as_slice.ensures.value c.as_slice-in-loop-member.ensures.value)

pub one_of_each-returns-clause-is : goal.one_of_each-returns-clause-is
one_of_each-returns-clause-is t c =
    let l : length c.args.members.now ≤ c.loop-member.member-index = search rules in
    each_end c.args.holds c.args.members.now c.loop-member.member-index c.loop-member.all.items (rows_of (each_of c.args.holds c.args.members.now)) l c.loop-member.invariant
