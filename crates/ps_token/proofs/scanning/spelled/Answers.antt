-- The kinds that were passed don't spell the text.
use Rattle.std.proofs.Common.{◌≡◌, ℕ, suc, ◌+◌, ◌<◌, Bool, true, false, List, ◌∷◌, length, get_or, drop, Option, Some, None, refl, sym, ap, ◌∙◌, add-one, drop-cons}
use Rattle.std.specs.Prelude.{if◌then◌else◌}
use Rattle.std.specs.Str.{bytes_eq}
use Rattle.ps_token.specs.Lexing.{spelling}
use Rattle.ps_token.specs.declared.token_kind.TokenKind.{TokenKind}
use Rattle.ps_token.specs.declared.token_kind.TokenKind.TheVariants.{Name}
use Rattle.ps_token.specs.inner.Scanning.{first_spelled}
use Rattle.ps_token.proofs.scanning.spelled.Goals as goal

abbrev from_kinds : List TokenKind → List ℕ → Option TokenKind
from_kinds kinds text = first_spelled (λ kind. Some kind) None kinds text

-- the kind at this place decides, or else those after it
step : (kinds : List TokenKind) (text : List ℕ) (i : ℕ) (test : Bool) → i < length kinds → test ≡ bytes_eq text (spelling (get_or kinds i Name)) → from_kinds (drop i kinds) text ≡ (if test then Some (get_or kinds i Name) else from_kinds (drop (suc i) kinds) text)
step kinds text i test h e =
    ap (λ (ks : List TokenKind). from_kinds ks text) (drop-cons kinds i Name h)
    ∙ ap (λ (t : Bool). if t then Some (get_or kinds i Name) else from_kinds (drop (suc i) kinds) text) (sym e)

found : (kinds : List TokenKind) (text spelled : List ℕ) (i : ℕ) (test : Bool) → from_kinds (drop i kinds) text ≡ from_kinds kinds text → i < length kinds → test ≡ bytes_eq text spelled → spelled ≡ spelling (get_or kinds i Name) → test ≡ true → Some (get_or kinds i Name) ≡ from_kinds kinds text
found kinds text spelled i test so_far h e s held =
    sym (sym so_far ∙ step kinds text i true h (sym held ∙ e ∙ ap (λ (t : List ℕ). bytes_eq text t) s))

passed : (kinds : List TokenKind) (text spelled : List ℕ) (i : ℕ) (test : Bool) → from_kinds (drop i kinds) text ≡ from_kinds kinds text → i < length kinds → test ≡ bytes_eq text spelled → spelled ≡ spelling (get_or kinds i Name) → test ≡ false → from_kinds (drop (i + 1) kinds) text ≡ from_kinds kinds text
passed kinds text spelled i test so_far h e s failed =
    ap (λ (n : ℕ). from_kinds (drop n kinds) text) (add-one i)
    ∙ sym (step kinds text i false h (sym failed ∙ e ∙ ap (λ (t : List ℕ). bytes_eq text t) s)) ∙ so_far

pub returns-then-eq : goal.returns-then-eq
returns-then-eq c =
    found c.args.kinds.now c.args.text.now c.spelling.result.now c.loop-kind.kind-index c.eq.result c.loop-kind.invariant c.loop-kind-test.true c.eq.ensures c.spelling.ensures c.if-eq.true

pub loop-kind-preserved : goal.loop-kind-preserved
loop-kind-preserved c =
    passed c.args.kinds.now c.args.text.now c.spelling.result.now c.loop-kind.kind-index c.eq.result c.loop-kind.invariant c.loop-kind-test.true c.eq.ensures c.spelling.ensures c.if-eq.false
