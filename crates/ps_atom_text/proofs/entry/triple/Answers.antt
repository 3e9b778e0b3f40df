use Rattle.std.proofs.Common.{refl}
use Rattle.ps_atom_text.proofs.entry.triple.Goals as goal
use Rattle.ps_triple.proofs.Alike.{same_but_multipliers}
use Rattle.ps_triple.specs.declared.entry.Entry.TheVariants.{Triple as OfTriple}

pub returns : goal.returns
returns c = same_but_multipliers (OfTriple _) (OfTriple _) (refl, refl, refl) refl
