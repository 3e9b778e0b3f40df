-- Reading names of variables.
use Rattle.std.specs.Prelude.{Ok}
use Rattle.ps_term.specs.declared.var.Var.{Var}
use Rattle.ps_token.specs.declared.token_kind.TokenKind.TheVariants as kind
use Rattle.ps_grammar.specs.Names.{Names}
use Rattle.ps_grammar.specs.Trees.{variable_named}
use Rattle.ps_parse.specs.Inner.Reading.{ReadWords, next_word}
use Rattle.ps_lines.specs.Steps.{◌>>=◌}

-- The next word is a name: the variable that it stands for. (Of a name that isn't declared there is none: that has a cause.)
unfoldable pub variable_at : Names → ReadWords Var
variable_at names at = next_word kind.Name at >>= λ w. Ok (variable_named names w.0.text, w.1)
