-- The command line as `clap` is told of it: one required MODE, and the options.
use Rattle.std.specs.Prelude.{[], ◌∷◌, Some, pos, true, codes}
use Rattle.clap.specs.Simple.{App, new_app, new_rule, with_rule}
use Rattle.clap.specs.Walk.{Rule}
use Rattle.clap.specs.declared.builder.action.ArgAction.TheVariants.{Set}
use Rattle.clap.specs.declared.builder.value_parser.ValueParser.{ValueParser}
use Rattle.clap.specs.declared.builder.value_parser.ValueParser.TheVariants.{Signed}
use Rattle.ps_words.specs.Options.{option_name, least_number, most_number, default_text}
use Rattle.ps_words.specs.declared.option_name.OptionName.{OptionName}
use Rattle.ps_words.specs.declared.option_name.OptionName.TheVariants.{Explorers, Provers, Nodes, Traces, Width, Size}

-- the positional MODE, any text, which has to be there
abbrev pub mode_rule : Rule
mode_rule = record (new_rule (codes "MODE")) { required = true; action = Some Set }

-- the whole numbers that an option takes
abbrev pub option_parser : OptionName → ValueParser
option_parser option = Signed (pos (least_number option)) (pos (most_number option))

-- `--NAME` with one whole number in its range, and the default
abbrev pub option_rule : OptionName → Rule
option_rule option = record (new_rule (option_name option)) {
  long = Some (option_name option);
  action = Some Set;
  parser = Some (option_parser option);
  defaults = default_text option ∷ [];
}

abbrev pub with_option : App → OptionName → App
with_option app option = with_rule app (option_rule option)

-- the command
abbrev pub command : App
command =
    with_option (with_option (with_option (with_option (with_option (with_option
    (with_rule (new_app (codes "proofspace")) mode_rule)
    Explorers) Provers) Nodes) Traces) Width) Size
