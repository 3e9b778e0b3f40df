-- The options: their names, the numbers that they take, and their defaults.
use Rattle.std.specs.Prelude.{ℕ, ◌≤◌, List, codes}
use Rattle.ps_words.specs.declared.option_name.OptionName.{OptionName}
use Rattle.ps_words.specs.declared.option_name.OptionName.TheVariants.{Explorers, Provers, Nodes, Traces, Width, Size}

-- the name of an option, which the words spell after `--`
abbrev pub option_name : OptionName → List ℕ
option_name Explorers = codes "explorers"
option_name Provers = codes "provers"
option_name Nodes = codes "nodes"
option_name Traces = codes "traces"
option_name Width = codes "width"
option_name Size = codes "size"

-- the least number that it takes
abbrev pub least_number : OptionName → ℕ
least_number Explorers = 1
least_number Provers = 1
least_number Nodes = 1
least_number Traces = 0
least_number Width = 0
least_number Size = 1

-- the greatest number that it takes
abbrev pub most_number : OptionName → ℕ
most_number Explorers = 16
most_number Provers = 16
most_number Nodes = 65536
most_number Traces = 4096
most_number Width = 2
most_number Size = 16

-- it takes this number
abbrev pub Takes : OptionName → ℕ → Type 0
Takes option n = (least_number option ≤ n) × (n ≤ most_number option)

-- the number that stands where the words name none
abbrev pub default_number : OptionName → ℕ
default_number Explorers = 2
default_number Provers = 2
default_number Nodes = 4096
default_number Traces = 256
default_number Width = 1
default_number Size = 4

-- that number in decimal
abbrev pub default_text : OptionName → List ℕ
default_text Explorers = codes "2"
default_text Provers = codes "2"
default_text Nodes = codes "4096"
default_text Traces = codes "256"
default_text Width = codes "1"
default_text Size = codes "4"
