use Rattle.std.proofs.Common.{[], ◌∷◌, refl, codes}
use Rattle.clap.proofs.OnLiterals.{clap_on_literals}
use Rattle.clap.specs.declared.error.kind.ErrorKind.TheVariants.{ValueValidation}
use Rattle.ps_words.proofs.Refused.{faulty_words}
use Rattle.ps_words.specs.Examples.{after_refute}
use Rattle.ps_words.proofs.worked.numbers_are_in_range.Goals as goal

pub returns : goal.returns
unfolding clap_on_literals
returns c = record {
  explorers = faulty_words (after_refute (codes "--explorers" ∷ (codes "17" ∷ []))) ValueValidation refl;
  provers = faulty_words (after_refute (codes "--provers" ∷ (codes "0" ∷ []))) ValueValidation refl;
  nodes = faulty_words (after_refute (codes "--nodes" ∷ (codes "0" ∷ []))) ValueValidation refl;
  many_nodes = faulty_words (after_refute (codes "--nodes" ∷ (codes "65537" ∷ []))) ValueValidation refl;
  traces = faulty_words (after_refute (codes "--traces" ∷ (codes "4097" ∷ []))) ValueValidation refl;
  width = faulty_words (after_refute (codes "--width" ∷ (codes "3" ∷ []))) ValueValidation refl;
  size = faulty_words (after_refute (codes "--size" ∷ (codes "17" ∷ []))) ValueValidation refl;
}
