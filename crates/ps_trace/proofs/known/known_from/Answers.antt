use Rattle.std.proofs.Common.{◌+◌, ◌-◌, ℕ, ℤ, pos, FitsSigned, get_or, length, arith, rules}
use Rattle.std.specs.Int.{w128}
use Rattle.std.proofs.lemmas.Int.{to_z-of_z}
use Rattle.ps_term.specs.declared.var.Var.{Var}
use Rattle.ps_term.specs.declared.var.Var.TheVariants.{Global}
use Rattle.ps_trace.proofs.Knowing.{known_next}
use Rattle.ps_trace.proofs.known.known_from.Goals as goal

pub loop-taken-preserved : goal.loop-taken-preserved
loop-taken-preserved c =
    let ps = c.args.values.now in
    let i : ℕ = length ps - (c.loop-taken.taken + 1) in
    let d : Var × ℤ = (Global 0, pos 0) in
    let fits : FitsSigned w128 (get_or ps i d).1 = search rules in
    let up = c.in_ok-insert.ensures.updates in
    known_next c.loop-taken.known c.insert.new.self ps i (length ps - c.loop-taken.taken) d (omega arith) (omega arith) c.loop-taken.invariant (simp to_z-of_z at up)
