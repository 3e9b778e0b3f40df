use Rattle.std.proofs.Common.{◌≡◌, Some, None, drop}
use Rattle.ps_token.specs.inner.Scanning.{first_spelled}
use Rattle.ps_token.proofs.scanning.spelled.Given as goal

abbrev pub invariant-loop-kind : goal.invariant-loop-kind
invariant-loop-kind l =
    first_spelled (λ kind. Some kind) None (drop l.kind-index l.kinds) l.text ≡ first_spelled (λ kind. Some kind) None l.kinds l.text
