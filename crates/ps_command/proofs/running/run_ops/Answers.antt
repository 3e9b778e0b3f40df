use Rattle.std.proofs.Common.{◌≡◌, ℤ, Bool, true, Option, IsSome, SomeIff, FitsSigned, drop, ◌+◌, refl, rules, sym, ap, subst, ◌∙◌}
use Rattle.std.specs.Int.{w128}
use Rattle.std.proofs.lemmas.Int.{to_z-of_z}
use Rattle.ps_command.specs.inner.View.{after_op, is_passed, OpRunFits, seen, undone}
use Rattle.ps_command.proofs.OpByOp.{front_op, running_step}
use Rattle.ps_command.proofs.running.run_ops.Goals as goal

pub loop-op-preserved : goal.loop-op-preserved
loop-op-preserved c =
    let ops = c.args.ops.now in
    let i = c.loop-op.op-index in
    let op = c.op-item.result in
    let w = seen c.loop-op.view in
    let fits : FitsSigned w128 c.next_value.result = search rules in
    let is : OpRunFits w op × (c.in_ok-ok_or.field-0 ≡ is_passed w op) = subst (λ (o : Option Bool). SomeIff o (OpRunFits w op) (is_passed w op)) c.in_ok-ok_or.ensures.ok_part c.take.ensures.answer in
    let some : IsSome c.take.result = subst (λ (o : Option Bool). IsSome o) (sym c.in_ok-ok_or.ensures.ok_part) refl in
    let yes : c.in_ok-ok_or.field-0 ≡ true = search rules in
    let ran = c.take.ensures.after some in
    record {
      running = running_step ops (seen c.args.view.now) c.args.values.now w (seen c.take.new.self) c.loop-op.left.now c.values_left-left.result.now op (drop (i + 1) ops) (drop i ops)
          (front_op ops i op c.loop-op-test.true c.op-item.is) c.loop-op.invariant.running is.0 (sym is.1 ∙ yes)
          ((simp to_z-of_z at ran) ∙ ap (λ (z : ℤ). after_op w op z) c.next_value.ensures) c.values_left-left.ensures;
      undo = ap (undone c.note.new.undo.items) ran ∙ c.in_ok-note.ensures.noted _ ∙ c.loop-op.invariant.undo;
    }
