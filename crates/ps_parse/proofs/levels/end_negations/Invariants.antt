use Rattle.std.proofs.Common.{◌≡◌, reverse, length}
use Rattle.ps_parse.specs.Causes.{without_negations}
use Rattle.ps_parse.proofs.levels.end_negations.Given as goal

abbrev pub invariant-ending : goal.invariant-ending
invariant-ending l = without_negations (reverse l.levels.items) ≡ without_negations (reverse l.initial.levels.items)

abbrev pub decreases-ending : goal.decreases-ending
decreases-ending l = length l.levels.items
