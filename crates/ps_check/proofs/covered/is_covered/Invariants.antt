use Rattle.std.proofs.Common.{◌≡◌, ℕ, Contains, Some, take}
use Rattle.std.specs.Prelude.{slice_get}
use Rattle.ps_config.specs.Configurations.{Configuration, Covers}
use Rattle.ps_check.proofs.covered.is_covered.Given as goal

abbrev pub invariant-loop-number : goal.invariant-loop-number
invariant-loop-number l = (n : ℕ) → Contains (take l.number-index l.candidates) n → (c : Configuration) → slice_get l.configs n ≡ Some c → ¬ Covers c (record { at = l.at; atoms = l.atoms })
