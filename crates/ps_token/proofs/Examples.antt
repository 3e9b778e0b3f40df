-- The worked examples that take more than computing.
use Rattle.std.proofs.Common.{◌≡◌, ◌≤◌, List, [], ◌∷◌, length, refl, lit<, lit≤, arith}
use Rattle.std.specs.Prelude.{codes}
use Rattle.ps_token.specs.Examples.{AssignmentIsCut, HashIsBad}
use Rattle.ps_token.specs.Lexing.{IsName, IsNumber, Nothing, Comment}
use Rattle.ps_token.specs.declared.token_kind.TokenKind.TheVariants.{Init, Semicolon}
use Rattle.ps_token.proofs.Gaps.{starts_no_gap}
use Rattle.ps_token.proofs.Front.{name_from_kind}
use Rattle.ps_token.proofs.Cuts.{starts_no_token}

pub assignment_is_cut : AssignmentIsCut
assignment_is_cut = record {
  to = 4;
  cut = (
    record { ordered = lit≤ tt; gap = Nothing },
    record { inside = lit≤ tt; text = record { spelled = name_from_kind (codes "a") (refl, refl) refl; whole = refl }; place = refl },
    (
      record { ordered = lit≤ tt; gap = Nothing },
      record { inside = lit≤ tt; text = record { spelled = refl; whole = refl }; place = refl },
      (
        record { ordered = lit≤ tt; gap = Nothing },
        record { inside = lit≤ tt; text = record { spelled = record { digits = refl; some = lit≤ tt; few = lit≤ tt }; whole = refl }; place = refl },
        refl,
      ),
    ),
  );
  rest = record { ordered = lit≤ tt; gap = Comment (codes "b") [] refl tt Nothing };
}

-- the second byte of `;#` starts nothing
pub hash_is_bad : HashIsBad
hash_is_bad = record {
  tokens = record { kind = Semicolon; start = 0; end = 1; place = record { line = 1; column = 1 } } ∷ [];
  to = 1;
  at = 1;
  cut = (record { ordered = lit≤ tt; gap = Nothing }, record { inside = lit≤ tt; text = record { spelled = refl; whole = refl }; place = refl }, refl);
  gap = record { ordered = lit≤ tt; gap = Nothing };
  inside = lit< tt;
  no_token = starts_no_token (codes "#") refl;
  no_gap = starts_no_gap (codes "#") refl;
  is = refl;
}

-- `init` is no name, and `iff` is one
pub reserved_is_no_name : ¬ IsName (codes "init")
reserved_is_no_name h = h.free Init refl

pub longer_is_a_name : IsName (codes "iff")
longer_is_a_name = name_from_kind (codes "iff") (refl, refl) refl

pub nineteen_digits : ¬ IsNumber (codes "1234567890123456789")
nineteen_digits h = let few : length (codes "1234567890123456789") ≤ 18 = h.few in omega arith
