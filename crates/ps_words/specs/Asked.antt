-- What words ask for.
use Rattle.std.specs.Prelude.{◌≡◌, ℕ, List, [], Some, codes, option_map, unwrap_or}
use Rattle.std.specs.Str.Parse.{digits_value, without_leading_plus}
use Rattle.clap.specs.Faults.{fault_of}
use Rattle.clap.specs.Simple.{matches_of}
use Rattle.clap.specs.Walk.{Row, Text, first_of, one_of}
use Rattle.ps_words.specs.Command.{command}
use Rattle.ps_words.specs.Modes.{mode_name}
use Rattle.ps_words.specs.Options.{option_name, default_number, Takes}
use Rattle.ps_words.specs.declared.option_name.OptionName.{OptionName}
use Rattle.ps_words.specs.declared.option_name.OptionName.TheVariants.{Explorers, Provers, Nodes, Traces, Width, Size}
use Rattle.ps_words.specs.declared.words.Words.{Words}

-- the number that a decimal spells, which may begin with `+`
abbrev pub number_in : Text → ℕ
number_in text = digits_value 10 (without_leading_plus text)

-- the number that the matches have for an option
abbrev pub option_number : OptionName → List Row → ℕ
option_number option rows = unwrap_or (option_map number_in (one_of (option_name option) rows)) (default_number option)

-- the matches have this mode, and these numbers for the options
pub record IsMatched (rows : List Row) (asked : Words) : Type 0 where
  pub mode : first_of (codes "MODE") rows ≡ Some (mode_name asked.mode)
  pub explorers : asked.limits.explorers ≡ option_number Explorers rows
  pub provers : asked.limits.provers ≡ option_number Provers rows
  pub nodes : asked.limits.nodes ≡ option_number Nodes rows
  pub traces : asked.limits.traces ≡ option_number Traces rows
  pub width : asked.limits.width ≡ option_number Width rows
  pub size : asked.size ≡ option_number Size rows

-- `clap` takes the words, and its matches have this mode and these numbers
pub record AskFor (words : List Text) (asked : Words) : Type 0 where
  pub taken : fault_of command words ≡ []
  pub matched : IsMatched (matches_of command words) asked

-- the words ask for nothing: `clap` refuses them, or MODE is the name of no mode that is built
abbrev pub AskForNothing : List Text → Type 0
AskForNothing words = (asked : Words) → ¬ AskFor words asked

-- each number is one that its option takes
pub record HasNumbersInRange (asked : Words) : Type 0 where
  pub explorers : Takes Explorers asked.limits.explorers
  pub provers : Takes Provers asked.limits.provers
  pub nodes : Takes Nodes asked.limits.nodes
  pub traces : Takes Traces asked.limits.traces
  pub width : Takes Width asked.limits.width
  pub size : Takes Size asked.size
