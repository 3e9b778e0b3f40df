use Rattle.std.proofs.Common.{◌≡◌, [], ◌∷◌, false, refl, codes}
use Rattle.std.specs.Str.{bytes_eq}
use Rattle.clap.proofs.OnLiterals.{clap_on_literals}
use Rattle.clap.specs.declared.error.kind.ErrorKind.TheVariants.{MissingRequiredArgument, UnknownArgument}
use Rattle.ps_words.proofs.Refused.{faulty_words, nameless_words}
use Rattle.ps_words.specs.Examples.{after_refute}
use Rattle.ps_words.specs.Modes.{mode_name}
use Rattle.ps_words.specs.declared.mode.Mode.{Mode}
use Rattle.ps_words.specs.declared.mode.Mode.TheVariants.{Refute, Replay, Check, Member}
use Rattle.ps_words.proofs.worked.one_mode_is_wanted.Goals as goal

unlike : (mode : Mode) → bytes_eq (mode_name mode) (codes "refut") ≡ false
unlike Refute = refl
unlike Replay = refl
unlike Check = refl
unlike Member = refl

pub returns : goal.returns
unfolding clap_on_literals
returns c = record {
  no_words = faulty_words [] MissingRequiredArgument refl;
  no_mode = faulty_words (codes "proofspace" ∷ []) MissingRequiredArgument refl;
  other = nameless_words (codes "proofspace" ∷ (codes "refut" ∷ [])) (codes "refut") refl unlike;
  two = faulty_words (after_refute (codes "refute" ∷ [])) UnknownArgument refl;
}
