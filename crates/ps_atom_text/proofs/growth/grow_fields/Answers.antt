use Rattle.std.proofs.lemmas.Result.{err_from_is_err_and}
use Rattle.ps_atom_text.specs.Growing.{grow_at}
use Rattle.ps_atom_text.proofs.Growths.{grown_ends, grown_fails, grown_more, member_smaller}
use Rattle.ps_atom_text.proofs.growth.grow_fields.Goals as goal
use Rattle.ps_lines.specs.Until.{goes}

pub returns-in-None : goal.returns-in-None
returns-in-None g c =
    let p = rw c.in-None.is at c.member.ensures in
    grown_ends (goes c.args.until.now) g.G.Growth.grown c.growing.state c.growing.reader c.member.new.self (grow_at (goes c.args.until.now) g.G.Growth.grown c.args.start c.args.reader.now) c.growing.invariant p.0 p.1

pub growing-smaller : goal.growing-smaller
growing-smaller g c = member_smaller (goes c.args.until.now) c.growing.reader c.member.new.self c.in-Some.field.now (rw c.in-Some.is at c.member.ensures)

pub returns-in_err-state-in-Some : goal.returns-in_err-state-in-Some
returns-in_err-state-in-Some g c =
    let p = err_from_is_err_and c.from_residual.result c.from_residual.ensures.1 in
    rw (p.1, p.2)
    (grown_fails (λ x. x) (goes c.args.until.now) g.G.Growth.grown c.growing.state c.growing.reader c.member.new.self c.member.new.self c.in-Some.field.now c.in_err-state-in-Some.field-0.0
    (grow_at (goes c.args.until.now) g.G.Growth.grown c.args.start c.args.reader.now) c.growing.invariant (rw c.in-Some.is at c.member.ensures) (rw c.fault-place.ensures at c.in_err-state-in-Some.ensures))

pub growing-preserved : goal.growing-preserved
growing-preserved g c =
    grown_more (goes c.args.until.now) g.G.Growth.grown c.growing.state c.in_ok-state-in-Some.state c.growing.reader c.member.new.self c.in-Some.field.now (grow_at (goes c.args.until.now) g.G.Growth.grown c.args.start c.args.reader.now) c.growing.invariant
    (rw c.in-Some.is at c.member.ensures) (rw c.fault-place.ensures at c.in_ok-state-in-Some.ensures)
