-- The signs that a relation may have.
use Rattle.std.specs.Prelude.{Option}
use Rattle.ps_token.specs.declared.token_kind.TokenKind.{TokenKind}
use Rattle.ps_parse.specs.declared.signs.Signs.{Signs}
use Rattle.ps_parse.specs.declared.signs.Signs.TheVariants.{All, AtStart}
use Rattle.ps_tree.specs.declared.relation.Sign.{Sign}
use Rattle.ps_parse.specs.Inner.Sums.{sign_of, init_sign_of}

-- which signs words stand for
abbrev pub signs_of : Signs → TokenKind → Option Sign
signs_of All = sign_of
signs_of AtStart = init_sign_of
