use Rattle.std.proofs.Common.{[], ◌∷◌, refl, codes}
use Rattle.clap.proofs.OnLiterals.{clap_on_literals}
use Rattle.clap.specs.declared.error.kind.ErrorKind.TheVariants.{DisplayHelp, UnknownArgument}
use Rattle.ps_words.proofs.Refused.{faulty_words}
use Rattle.ps_words.specs.Examples.{after_refute}
use Rattle.ps_words.proofs.worked.other_options_are_refused.Goals as goal

pub returns : goal.returns
unfolding clap_on_literals
returns c = record {
  unknown = faulty_words (after_refute (codes "--workers" ∷ (codes "1" ∷ []))) UnknownArgument refl;
  shortened = faulty_words (after_refute (codes "--node" ∷ (codes "1" ∷ []))) UnknownArgument refl;
  help = faulty_words (after_refute (codes "--help" ∷ [])) DisplayHelp refl;
  short_help = faulty_words (after_refute (codes "-h" ∷ [])) DisplayHelp refl;
  version = faulty_words (after_refute (codes "--version" ∷ [])) UnknownArgument refl;
}
