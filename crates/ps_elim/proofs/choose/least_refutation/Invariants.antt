use Rattle.std.proofs.Common.{take}
use Rattle.std.specs.Option.{option_copied}
use Rattle.ps_elim.proofs.Choosing.{IsBest}
use Rattle.ps_elim.proofs.choose.least_refutation.Given as goal

abbrev pub invariant-loop-weighted : goal.invariant-loop-weighted
invariant-loop-weighted l = IsBest (take l.weighted-index l.set) (option_copied l.best)
