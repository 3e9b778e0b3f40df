use Rattle.std.proofs.Common.{[], ◌∷◌, refl, codes}
use Rattle.clap.proofs.OnLiterals.{clap_on_literals}
use Rattle.clap.specs.declared.error.kind.ErrorKind.TheVariants.{ArgumentConflict, InvalidValue, UnknownArgument, ValueValidation}
use Rattle.ps_words.proofs.Refused.{faulty_words}
use Rattle.ps_words.specs.Examples.{after_refute}
use Rattle.ps_words.proofs.worked.options_have_one_number.Goals as goal

pub returns : goal.returns
unfolding clap_on_literals
returns c = record {
  none = faulty_words (after_refute (codes "--nodes" ∷ [])) InvalidValue refl;
  text = faulty_words (after_refute (codes "--nodes" ∷ (codes "many" ∷ []))) ValueValidation refl;
  negative = faulty_words (after_refute (codes "--nodes" ∷ (codes "-1" ∷ []))) UnknownArgument refl;
  twice = faulty_words (after_refute (codes "--nodes" ∷ (codes "1" ∷ (codes "--nodes" ∷ (codes "1" ∷ []))))) ArgumentConflict refl;
}
