use Rattle.std.proofs.Common.{◌≡◌, ◌<◌, length, arith, rules}
use Rattle.ps_step.proofs.Meeting.{all_met, more_met, not_met}
use Rattle.ps_demand.proofs.Scanning.{next_within}
use Rattle.ps_step.proofs.standing.meets_atom.Goals as goal

pub returns-then-not-meets_entry : goal.returns-then-not-meets_entry
returns-then-not-meets_entry g c =
    not_met (g.B.Shown.entries c.args.basis.now) c.args.thread c.args.command c.args.atom.now c.args.atoms.now c.in-Some.n c.entry.result.now c.meets_entry.result c.entry.ensures c.meets_entry.ensures.1 c.if-not-meets_entry.true

pub overflow_add-from : goal.overflow_add-from
overflow_add-from g c =
    let inside : c.in-Some.n < length (g.B.Shown.entries c.args.basis.now) = next_within (g.B.Shown.entries c.args.basis.now) c.args.atom.now.predicate c.args.command c.loop-n.from c.in-Some.n c.in-Some.ensures in
    let small : c.count-count.result < 4294967296 = search rules in
    let is : c.count-count.result ≡ length (g.B.Shown.entries c.args.basis.now) = c.count-count.ensures in
    omega (arith, inside, small, is)

pub loop-n-preserved : goal.loop-n-preserved
loop-n-preserved g c =
    more_met (g.B.Shown.entries c.args.basis.now) c.args.thread c.args.command c.args.atom.now c.args.atoms.now c.loop-n.from c.in-Some.n c.entry.result.now c.in-Some.ensures c.entry.ensures (c.meets_entry.ensures.0 c.if-not-meets_entry.false) c.loop-n.invariant

pub returns : goal.returns
returns g c = all_met (g.B.Shown.entries c.args.basis.now) c.args.thread c.args.command c.args.atom.now c.args.atoms.now c.loop-n.from c.in_default.ensures c.loop-n.invariant
