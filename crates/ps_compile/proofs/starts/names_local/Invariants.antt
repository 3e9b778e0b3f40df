use Rattle.std.proofs.Common.{◌≡◌, ℤ, drop}
use Rattle.std.specs.List.{list_any}
use Rattle.ps_command.specs.Named.{is_local}
use Rattle.ps_compile.proofs.starts.names_local.Given as goal
use Rattle.ps_term.specs.declared.var.Var.{Var}

abbrev pub invariant-loop-pair : goal.invariant-loop-pair
invariant-loop-pair l =
    list_any (λ (p : Var × ℤ). is_local p.0) (drop l.pair-index l.pairs) ≡ list_any (λ (p : Var × ℤ). is_local p.0) l.pairs
