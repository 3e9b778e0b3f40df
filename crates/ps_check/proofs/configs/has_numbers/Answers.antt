use Rattle.ps_check.proofs.Naming.{numbers_are, numbers_not}
use Rattle.ps_check.proofs.configs.has_numbers.Goals as goal

pub returns-then-not-are_locations : goal.returns-then-not-are_locations
returns-then-not-are_locations c =
    numbers_not c.args.graph.now c.args.table.now c.args.config.now c.at.result.now c.are_locations.result c.at.ensures.list c.are_locations.ensures c.if-not-are_locations.true

pub returns : goal.returns
returns c =
    numbers_are c.args.graph.now c.args.table.now c.args.config.now c.at.result.now c.are_locations.result c.at.ensures.list c.are_locations.ensures c.atoms.result.now c.are_filled.result c.atoms.ensures.list
    c.if-not-are_locations.false c.are_filled.ensures
