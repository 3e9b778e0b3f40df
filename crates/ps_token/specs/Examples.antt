-- Worked examples: what names and numbers are, where bytes stand, and how two texts are cut.
use Rattle.std.specs.Prelude.{◌≡◌, List, [], ◌∷◌, codes}
use Rattle.ps_token.specs.Lexing.{AreTokens, IsBadAt, IsName, IsNumber, place_of}
use Rattle.ps_token.specs.declared.token.Token.{Token}
use Rattle.ps_token.specs.declared.token_kind.TokenKind.TheVariants.{Name, Number, Becomes}

-- `init` is no name, and `iff` is one
abbrev pub ReservedNamesAreNone : Type 0
ReservedNamesAreNone = (¬ IsName (codes "init")) × IsName (codes "iff")

-- eighteen digits are a number, leading zeros and all, and nineteen are none
abbrev pub NumbersHaveFewDigits : Type 0
NumbersHaveFewDigits = IsNumber (codes "012345678901234567") × (¬ IsNumber (codes "1234567890123456789"))

-- the `x` of `global x = 1;`, and a byte after a tab in a second line: places count from 1, in bytes
abbrev pub PlacesCountBytes : Type 0
PlacesCountBytes =
    (place_of (codes "global x = 1;") 7 ≡ record { line = 1; column = 8 })
    × (place_of (97 ∷ 10 ∷ 9 ∷ 98 ∷ []) 3 ≡ record { line = 2; column = 2 })

-- `a:=7//b` is a name, a sign and a number, before a comment that the end of the text ends
abbrev pub assignment : List Token
assignment =
    record { kind = Name; start = 0; end = 1; place = record { line = 1; column = 1 } }
    ∷ record { kind = Becomes; start = 1; end = 3; place = record { line = 1; column = 2 } }
    ∷ record { kind = Number; start = 3; end = 4; place = record { line = 1; column = 4 } } ∷ []

abbrev pub AssignmentIsCut : Type 0
AssignmentIsCut = AreTokens (codes "a:=7//b") assignment

-- the second byte of `;#` starts nothing
abbrev pub HashIsBad : Type 0
HashIsBad = IsBadAt (codes ";#") (record { line = 1; column = 2 })
