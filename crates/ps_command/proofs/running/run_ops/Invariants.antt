use Rattle.std.proofs.Common.{◌≡◌, drop}
use Rattle.ps_command.specs.inner.View.{seen, undone}
use Rattle.ps_command.proofs.OpByOp.{IsRunning}
use Rattle.ps_command.proofs.running.run_ops.Given as goal

abbrev pub invariant-loop-op : goal.invariant-loop-op
invariant-loop-op l = record {
  running : IsRunning l.ops (seen l.fn.view) l.values (seen l.view) l.left (drop l.op-index l.ops);
  undo : undone l.undo.items (seen l.view) ≡ seen l.fn.view;
}
