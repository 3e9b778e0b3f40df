use Rattle.std.proofs.Common.{refl}
use Rattle.ps_atom_text.specs.Reading.{predicate_at}
use Rattle.ps_file.specs.Reading.{listed_at, proof_at, version_at}
use Rattle.ps_lines.specs.Reading.{header_at, leaf_at, line_at, list_from, only_at, times_at}
use Rattle.ps_lines.specs.Steps.{and_then}
use Rattle.ps_term_text.specs.Reading.{term_at}
use Rattle.ps_file.proofs.worked.proofs.Goals as goal

pub returns : goal.returns
unfolding and_then line_at leaf_at list_from times_at header_at only_at term_at predicate_at version_at listed_at proof_at
returns c = (refl, refl, refl, refl, refl)
