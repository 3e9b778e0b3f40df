-- Kinds of words, and where the next word stands.
use Rattle.std.specs.Prelude.{ℕ, Bool, false, List, [], ◌∷◌, ◌==◌}
use Rattle.ps_token.specs.declared.place.Place.{Place}
use Rattle.ps_token.specs.declared.token_kind.TokenKind.{TokenKind}
use Rattle.ps_token.specs.declared.token_kind.TokenKind.TheVariants as kind
use Rattle.ps_grammar.specs.Words.{Word}

-- a number for each kind
abbrev pub kind_number : TokenKind → ℕ
kind_number kind.Name = 0
kind_number kind.Number = 1
kind_number kind.Global = 2
kind_number kind.Local = 3
kind_number kind.Init = 4
kind_number kind.Thread = 5
kind_number kind.Havoc = 6
kind_number kind.Assume = 7
kind_number kind.Assert = 8
kind_number kind.Skip = 9
kind_number kind.Atomic = 10
kind_number kind.If = 11
kind_number kind.Else = 12
kind_number kind.While = 13
kind_number kind.Becomes = 14
kind_number kind.LessEq = 15
kind_number kind.GreaterEq = 16
kind_number kind.EqualEqual = 17
kind_number kind.NotEqual = 18
kind_number kind.And = 19
kind_number kind.Or = 20
kind_number kind.Less = 21
kind_number kind.Greater = 22
kind_number kind.Not = 23
kind_number kind.Equal = 24
kind_number kind.Plus = 25
kind_number kind.Minus = 26
kind_number kind.Star = 27
kind_number kind.OpenParen = 28
kind_number kind.CloseParen = 29
kind_number kind.OpenBrace = 30
kind_number kind.CloseBrace = 31
kind_number kind.Semicolon = 32

-- the two kinds are one
abbrev pub is_kind : TokenKind → TokenKind → Bool
is_kind a b = kind_number a == kind_number b

-- the next word is of the kind
abbrev pub begins_with : TokenKind → List Word → Bool
begins_with k [] = false
begins_with k (w ∷ ws) = is_kind w.kind k

-- where the next word stands, or where the text ends
abbrev pub place_of_next : List Word → Place → Place
place_of_next [] end = end
place_of_next (w ∷ ws) end = w.place
