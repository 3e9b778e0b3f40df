-- The first reserved name that is spelled by the word is its kind.
use Rattle.std.proofs.Common.{◌≡◌, ℕ, Bool, true, false, List, [], ◌∷◌, Option, Some, None, refl, sym, ap, ◌∙◌}
use Rattle.std.specs.Prelude.{if◌then◌else◌}
use Rattle.std.specs.Str.{bytes_eq}
use Rattle.ps_token.specs.Lexing.{spelling}
use Rattle.ps_token.specs.declared.token_kind.TokenKind.{TokenKind}
use Rattle.ps_token.specs.declared.token_kind.TokenKind.TheVariants.{Name}
use Rattle.ps_token.specs.inner.Scanning.{first_spelled, reserved}
use Rattle.ps_token.proofs.scanning.word_kind.Goals as goal

abbrev or_name : Option TokenKind → TokenKind
or_name None = Name
or_name (Some kind) = kind

by_test : (kind : TokenKind) (kinds : List TokenKind) (text : List ℕ) (test : Bool) → or_name (first_spelled (λ k. Some k) None kinds text) ≡ first_spelled (λ k. k) Name kinds text → or_name (if test then Some kind else first_spelled (λ k. Some k) None kinds text) ≡ (if test then kind else first_spelled (λ k. k) Name kinds text)
by_test kind kinds text true h = refl
by_test kind kinds text false h = h

kind_or_name : (kinds : List TokenKind) (text : List ℕ) → or_name (first_spelled (λ k. Some k) None kinds text) ≡ first_spelled (λ k. k) Name kinds text
kind_or_name [] text = refl
kind_or_name (kind ∷ kinds) text = by_test kind kinds text (bytes_eq text (spelling kind)) (kind_or_name kinds text)

pub returns-in-Some : goal.returns-in-Some
returns-in-Some c = ap or_name (sym c.in-Some.is ∙ c.spelled.ensures) ∙ kind_or_name reserved c.args.word.now
