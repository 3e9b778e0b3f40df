-- What is known of a number that the matches have.
use Rattle.std.specs.Prelude.{◌≡◌, ℕ}
use Rattle.clap.specs.Matches.{found_of}
use Rattle.clap.specs.Walk.{rows_of}
use Rattle.clap.specs.declared.parser.matches.ArgMatches.{ArgMatches}
use Rattle.ps_words.specs.Asked.{option_number}
use Rattle.ps_words.specs.Options.{Takes}
use Rattle.ps_words.specs.declared.option_name.OptionName.{OptionName}

-- the number is the option's in the matches, and one that it takes
pub record IsOptionNumber (option : OptionName) (matches : ArgMatches) (n : ℕ) : Type 0 where
  pub matched : n ≡ option_number option (rows_of (found_of matches))
  pub taken : Takes option n
