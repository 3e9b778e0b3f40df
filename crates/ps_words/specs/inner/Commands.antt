-- What is known of the command that is made.
use Rattle.std.specs.Prelude.{◌≡◌, ℕ, List, Some, false, IfSome}
use Rattle.std.specs.List.{All}
use Rattle.clap.specs.Built.{IsPlain}
use Rattle.clap.specs.Facts.{args_of}
use Rattle.clap.specs.Lexer.{without_minus}
use Rattle.clap.specs.Matches.{one_text}
use Rattle.clap.specs.Simple.{App, app_of}
use Rattle.clap.specs.Values.{Accepts}
use Rattle.clap.specs.declared.builder.arg.Arg.{Arg}
use Rattle.clap.specs.declared.builder.command.Command.{Command}
use Rattle.clap.specs.declared.builder.command.Command.TheViews.{out-Command}
use Rattle.clap.specs.declared.parser.matches.Found.{Found}
use Rattle.ps_words.specs.Command.{option_parser}
use Rattle.ps_words.specs.Options.{option_name}
use Rattle.ps_words.specs.declared.option_name.OptionName.{OptionName}

-- an argument with the name of an option takes that option's numbers
abbrev pub ParsesAs : Arg → Type 0
ParsesAs arg = (option : OptionName) → arg.id.now ≡ option_name option → arg.value_parser ≡ Some (option_parser option)

-- the command shows as this one, no argument excludes another, and each option takes its numbers
pub record IsMade (made : Command) (shown : App) : Type 0 where
  pub app : app_of made ≡ shown
  pub globals : (out-Command made).has_globals ≡ false
  pub plain : IsPlain made
  pub parses : All ParsesAs (args_of made)

-- the text is what is read of a text that the option's parser takes, which leaves out a minus of `-0`
abbrev pub IsReadOf : OptionName → List ℕ → Type 0
IsReadOf option text = (given : List ℕ) × (text ≡ without_minus given) × Accepts false (option_parser option) given

-- whatever the matches have for an option is such a text
abbrev pub AreRead : Found → Type 0
AreRead found = (option : OptionName) → IfSome (one_text found (option_name option)) (IsReadOf option)
