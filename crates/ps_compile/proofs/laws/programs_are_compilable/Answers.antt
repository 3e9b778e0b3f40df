use Rattle.ps_compile.proofs.Readable.{readable, tree_compilable}
use Rattle.ps_compile.proofs.laws.programs_are_compilable.Goals as goal

pub returns-clause-read : goal.returns-clause-read
returns-clause-read c = readable

pub returns-clause-trees : goal.returns-clause-trees
returns-clause-trees c = tree_compilable
