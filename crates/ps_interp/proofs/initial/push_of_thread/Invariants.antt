use Rattle.std.proofs.Common.{◌≡◌, drop}
use Rattle.ps_interp.specs.Weights.{weights_of, zeros}
use Rattle.ps_interp.specs.inner.Starts.{all_weights}
use Rattle.ps_interp.proofs.initial.push_of_thread.Given as goal

abbrev pub invariant-loop-own : goal.invariant-loop-own
invariant-loop-own l = record {
  same : l.lambda.items ≡ l.fn.lambda.items;
  rest : weights_of (zeros l.setting.init_each) (all_weights (drop l.own-index l.threads)) l.thread ≡ weights_of (zeros l.setting.init_each) (all_weights l.threads) l.thread;
}
