-- Plain words: the program's name, a mode, and options as `--NAME` and a decimal, each once.
use Rattle.std.specs.Prelude.{◌≡◌, ℕ, List, [], ◌∷◌, ◌++◌, Bool, true, false, codes, find}
use Rattle.std.specs.Fmt.{decimal}
use Rattle.std.specs.List.{list_any}
use Rattle.std.specs.Option.{option_map_or}
use Rattle.clap.specs.Walk.{Text}
use Rattle.ps_words.specs.Modes.{mode_name}
use Rattle.ps_words.specs.Options.{option_name, default_number, Takes}
use Rattle.ps_words.specs.declared.mode.Mode.{Mode}
use Rattle.ps_words.specs.declared.option_name.OptionName.{OptionName}
use Rattle.ps_words.specs.declared.option_name.OptionName.TheVariants.{Explorers, Provers, Nodes, Traces, Width, Size}
use Rattle.ps_words.specs.declared.words.Words.{Words}

-- an option with its number
abbrev pub Given : Type 0
Given = OptionName × ℕ

-- for each option the words `--NAME` and the decimal of its number
abbrev pub option_words : List Given → List Text
option_words [] = []
option_words (g ∷ rest) = (codes "--" ++ option_name g.0) ∷ (decimal g.1 ∷ option_words rest)

-- the program's name, a mode, and options
abbrev pub plain_words : Text → Mode → List Given → List Text
plain_words name mode given = name ∷ (mode_name mode ∷ option_words given)

abbrev pub same_option : OptionName → OptionName → Bool
same_option Explorers Explorers = true
same_option Provers Provers = true
same_option Nodes Nodes = true
same_option Traces Traces = true
same_option Width Width = true
same_option Size Size = true
same_option _ _ = false

-- the option is among those that are given
abbrev pub is_given : OptionName → List Given → Bool
is_given option given = list_any (λ g. same_option option g.0) given

-- each number is one that its option takes, and no option is given twice
abbrev pub AreTaken : List Given → Type 0
AreTaken [] = Unit {0}
AreTaken (g ∷ rest) = Takes g.0 g.1 × (is_given g.0 rest ≡ false) × AreTaken rest

-- the number that is given for an option, or else its default
abbrev pub number_given : OptionName → List Given → ℕ
number_given option given = option_map_or (λ g. g.1) (find (λ g. same_option option g.0) given) (default_number option)

-- the mode, with the numbers that are given and the defaults of the other options
abbrev pub words_given : Mode → List Given → Words
words_given mode given = record {
  mode = mode;
  limits = record {
    nodes = number_given Nodes given;
    traces = number_given Traces given;
    width = number_given Width given;
    explorers = number_given Explorers given;
    provers = number_given Provers given;
  };
  size = number_given Size given;
}
