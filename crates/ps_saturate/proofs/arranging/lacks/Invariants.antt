use Rattle.std.proofs.Common.{◌≡◌, ◌==◌, drop}
use Rattle.std.specs.List.{list_any}
use Rattle.ps_saturate.proofs.arranging.lacks.Given as goal

abbrev pub invariant-loop-other : goal.invariant-loop-other
invariant-loop-other l = list_any (λ t. t == l.thread) (drop l.other-index l.list) ≡ list_any (λ t. t == l.thread) l.list
