use Rattle.std.proofs.Common.{◌<◌, ◌≤◌, ◌∙◌, length, arith}
use Rattle.ps_atom_text.specs.declared.limits.TheConstants.{MOST_BEFORE}
use Rattle.ps_atom_text.proofs.Befores.{before_ascends, before_full, before_joined, before_refused}
use Rattle.ps_atom_text.proofs.joining.with_atom.Goals as goal

pub returns-then-not-comes_last : goal.returns-then-not-comes_last
returns-then-not-comes_last c = before_refused c.args.before c.args.atom c.deref.result.now (c.deref.ensures.value ∙ c.into_list-atoms.ensures) c.if-not-comes_last.ensures

pub returns-then-len-ge-MOST_BEFORE : goal.returns-then-len-ge-MOST_BEFORE
returns-then-len-ge-MOST_BEFORE c =
    let many : MOST_BEFORE ≤ length c.deref.result.now = omega (arith, c.if-len-ge-MOST_BEFORE.true, c.len.ensures, c.deref.ensures.len) in
    before_full c.args.before c.args.atom c.deref.result.now (c.deref.ensures.value ∙ c.into_list-atoms.ensures) c.if-not-comes_last.ensures many

pub invariant_of-result : goal.invariant_of-result
invariant_of-result c =
    record { ascends = before_ascends c.args.before c.args.atom c.into_list-atoms.result.items c.from_list.result c.into_list-atoms.ensures (rw c.deref.ensures.value at c.if-not-comes_last.ensures) (c.from_list.ensures ∙ c.in_ok-push.ensures.items) }

pub returns : goal.returns
returns c =
    let room : length c.into_list-atoms.result.items < MOST_BEFORE = omega (arith, c.if-len-ge-MOST_BEFORE.false, c.len.ensures, c.into_list-atoms.result.ok.0) in
    before_joined c.args.before c.args.atom c.into_list-atoms.result.items _ c.into_list-atoms.ensures (c.from_list.ensures ∙ c.in_ok-push.ensures.items) room
