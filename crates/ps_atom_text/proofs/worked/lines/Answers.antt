use Rattle.std.proofs.Common.{refl}
use Rattle.ps_atom_text.specs.Growing.{grow_from}
use Rattle.ps_atom_text.specs.Reading.{before_with, config_at, configuration_at, entry_at, initial_at, lambda_at, triple_at, with_atom, with_place}
use Rattle.ps_lines.specs.Reading.{leaf_at, line_at, list_from}
use Rattle.ps_lines.specs.Steps.{and_then}
use Rattle.ps_atom_text.proofs.worked.lines.Goals as goal

pub returns-clause-atoms : goal.returns-clause-atoms
returns-clause-atoms c = (refl, refl, refl, refl)

pub returns-clause-configs : goal.returns-clause-configs
unfolding and_then line_at leaf_at grow_from with_place with_atom configuration_at config_at
returns-clause-configs c = (refl, refl, refl)

pub returns-clause-entries : goal.returns-clause-entries
unfolding and_then line_at leaf_at list_from grow_from before_with lambda_at initial_at triple_at entry_at
returns-clause-entries c = (refl, refl, refl, refl)
