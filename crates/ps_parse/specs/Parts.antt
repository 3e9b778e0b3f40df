-- The parts of which a refusal of words is made: the first word with a cause, apart from the grammar.
use Rattle.std.specs.Prelude.{Bool, ◌&&◌, List}
use Rattle.ps_token.specs.declared.place.Place.{Place}
use Rattle.ps_token.specs.declared.token_kind.TokenKind.TheVariants as kind
use Rattle.ps_grammar.specs.Words.{Word}
use Rattle.ps_parse.specs.Causes.{IsCause, IsFirstCause, is_after_factor}
use Rattle.ps_parse.specs.Kinds.{begins_with}
use Rattle.ps_parse.specs.declared.read_refusal.ReadRefusal.{ReadRefusal}

-- The refusal stands at the first word that has a cause, and is no fault of the grammar.
pub record HasOwnCause (words : List Word) (end : Place) (refused : ReadRefusal) : Type 0 where
  pub first : IsFirstCause words end refused
  pub own : IsCause first.back first.ahead refused

-- a second name of a product stands next
abbrev pub is_second_name : List Word → List Word → Bool
is_second_name back ahead = is_after_factor back && begins_with kind.Name ahead
