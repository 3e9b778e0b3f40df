use Rattle.ps_basis.proofs.Rules.{rules_are_demands}
use Rattle.ps_basis.proofs.laws.rules_are_demands.Goals as goal

pub returns : goal.returns
returns c = rules_are_demands
