-- Conditions and tests whose words have no cause of a refusal: exactly those that fit, where so many levels may be opened.
-- Of what they open, only `!` may be left, which the next `&&`, `||`, `)` or `;` ends.
use Rattle.std.proofs.Common.{◌≡◌, ℕ, ◌-◌, false, List, [], ◌∷◌, ◌++◌, refl, sym, ap, subst, ◌∙◌, arith, append_assoc}
use Rattle.ps_token.specs.declared.token_kind.TokenKind.{TokenKind}
use Rattle.ps_token.specs.declared.token_kind.TokenKind.TheVariants as kind
use Rattle.ps_grammar.specs.Fits.{CondFits, ConjFits, UnaryFits, TestFits}
use Rattle.ps_grammar.specs.Grammar.{CondText, last_conj, or_else, ConjText, last_unary, and_also, UnaryText, negation, in_parens, relation, TestText, either, condition}
use Rattle.ps_grammar.specs.Names.{Names}
use Rattle.ps_grammar.specs.Spelling.{Piece, Mark, pieces, cond_pieces, conj_pieces, unary_pieces, test_pieces}
use Rattle.ps_grammar.specs.Words.{Word}
use Rattle.ps_parse.specs.declared.level.Level.{Level}
use Rattle.ps_parse.specs.declared.level.Level.TheVariants as level
use Rattle.ps_parse.specs.Causes.{without_negations, closed, levels}
use Rattle.ps_parse.specs.Kinds.{is_kind}
use Rattle.ps_parse.proofs.WordsAllowed.{fresh_star}
use Rattle.ps_parse.proofs.OpenLevels.{Settles, settled_again}
use Rattle.ps_parse.proofs.WordsClean.{Walk, walk_end, walk_as, walk_then, walk_ending, Free, walk_piece, walk_star, Room, walk_opening}
use Rattle.ps_parse.proofs.SumsClean.{relation_walk}

-- after a condition
pub record Ended (names : Names) (ls : List Level) (back : List Word) : Type 0 where
  pub free : Free names false (levels back) back
  pub settles : Settles ls back

ended_of : {names : Names} {ls to : List Level} {back : List Word} → without_negations ls ≡ to → Free names false ls back → Ended names to back
ended_of {names = names} {back = back} e f = record {
  free = subst (λ (xs : List Level). Free names false xs back) (sym f.here.level) f;
  settles = ap without_negations f.here.level ∙ e;
}

-- the words that end each `!`
pub walk_settled : {F : Type 0} {P : List Word → Type 0} {names : Names} {ls : List Level} {back ahead : List Word} {rest to : List Piece} → pieces ahead ≡ Mark kind.And ∷ rest → Ended names ls back
    → ((past left : List Word) → pieces left ≡ rest → Free names false ls past → Walk F P past left to) → Walk F P back ahead to
walk_settled {names = names} {back = back} e h next =
    walk_piece (Mark kind.And) refl refl e h.free.here (λ w left spelled is g. next (w ∷ back) left spelled (subst (λ (xs : List Level). Free names false xs (w ∷ back)) h.settles g))

walk_or : {F : Type 0} {P : List Word → Type 0} {names : Names} {ls : List Level} {back ahead : List Word} {rest to : List Piece} → pieces ahead ≡ Mark kind.Or ∷ rest → Ended names ls back
    → ((past left : List Word) → pieces left ≡ rest → Free names false ls past → Walk F P past left to) → Walk F P back ahead to
walk_or {names = names} {back = back} e h next =
    walk_piece (Mark kind.Or) refl refl e h.free.here (λ w left spelled is g. next (w ∷ back) left spelled (subst (λ (xs : List Level). Free names false xs (w ∷ back)) h.settles g))

-- `)` closes what `(` opened
walk_close : {names : Names} {ls : List Level} {back ahead : List Word} {rest : List Piece} → pieces ahead ≡ Mark kind.CloseParen ∷ rest → Ended names (level.Parens ∷ ls) back → Walk (Unit {0}) (Free names false (without_negations ls)) back ahead rest
walk_close {names = names} {back = back} e h =
    walk_piece (Mark kind.CloseParen) refl refl e h.free.here (λ w left spelled is g.
    walk_end (subst (λ (xs : List Level). Free names false xs (w ∷ back)) (ap (λ (xs : List Level). without_negations (closed xs)) h.settles) g) spelled)

-- ---- conditions

mutual
  pub cond_walk : {names : Names} {back ahead : List Word} (n : ℕ) (ls : List Level) (c : CondText) (rest : List Piece) → Room n ls → without_negations ls ≡ ls → pieces ahead ≡ cond_pieces c ++ rest → Free names false ls back → Walk (CondFits names n c) (Ended names ls) back ahead rest
  cond_walk n ls (last_conj c) rest room calm e f = conj_walk n ls c rest room calm e f
  cond_walk n ls (or_else c d) rest room calm e f =
      walk_then (conj_walk n ls c (Mark kind.Or ∷ (cond_pieces d ++ rest)) room calm (e ∙ append_assoc (conj_pieces c) (Mark kind.Or ∷ cond_pieces d) rest) f) (λ past left spelled h.
      walk_or spelled h (λ there more joined g. cond_walk n ls d rest room calm joined g))

  conj_walk : {names : Names} {back ahead : List Word} (n : ℕ) (ls : List Level) (c : ConjText) (rest : List Piece) → Room n ls → without_negations ls ≡ ls → pieces ahead ≡ conj_pieces c ++ rest → Free names false ls back → Walk (ConjFits names n c) (Ended names ls) back ahead rest
  conj_walk n ls (last_unary u) rest room calm e f = unary_walk n ls ls u rest room calm e f
  conj_walk n ls (and_also u c) rest room calm e f =
      walk_then (unary_walk n ls ls u (Mark kind.And ∷ (conj_pieces c ++ rest)) room calm (e ∙ append_assoc (unary_pieces u) (Mark kind.And ∷ conj_pieces c) rest) f) (λ past left spelled h.
      walk_settled spelled h (λ there more joined g. conj_walk n ls c rest room calm joined g))

  unary_walk : {names : Names} {back ahead : List Word} (n : ℕ) (ls to : List Level) (u : UnaryText) (rest : List Piece) → Room n ls → without_negations ls ≡ to → pieces ahead ≡ unary_pieces u ++ rest → Free names false ls back → Walk (UnaryFits names n u) (Ended names to) back ahead rest
  unary_walk n ls to (negation u) rest room calm e f =
      walk_opening kind.Not n refl refl refl room e f.here (λ w left spelled is g.
      unary_walk (n - 1) (level.Negation ∷ ls) to u rest (omega (arith, room)) calm spelled g)
  unary_walk n ls to (in_parens c) rest room calm e f =
      walk_opening kind.OpenParen n refl refl refl room e f.here (λ w left spelled is g.
      walk_ending (cond_walk (n - 1) (level.Parens ∷ ls) c (Mark kind.CloseParen ∷ rest) (omega (arith, room)) refl (spelled ∙ append_assoc (cond_pieces c) (Mark kind.CloseParen ∷ []) rest) g) (λ past left spelled h.
      walk_as (λ t. t) (λ t. t) (λ there k. ended_of (settled_again ls ∙ calm) k) (walk_close spelled h)))
  unary_walk n ls to (relation r) rest room calm e f = walk_as (λ h. h) (λ h. h) (λ past g. ended_of calm g) (relation_walk r rest e f)

-- ---- tests

-- the same, where no `!` was open before
walk_calm : {names : Names} {ls : List Level} {back ahead : List Word} {rest : List Piece} → without_negations ls ≡ ls → pieces ahead ≡ Mark kind.CloseParen ∷ rest → Ended names (level.Parens ∷ ls) back → Walk (Unit {0}) (Free names false ls) back ahead rest
walk_calm {names = names} {back = back} {ahead = ahead} {rest = rest} calm e h = subst (λ (xs : List Level). Walk (Unit {0}) (Free names false xs) back ahead rest) calm (walk_close e h)

pub test_walk : {names : Names} {back ahead : List Word} (n : ℕ) (ls : List Level) (t : TestText) (rest : List Piece) → Room n ls → without_negations ls ≡ ls → pieces ahead ≡ test_pieces t ++ rest → Free names false ls back → Walk (TestFits names n t) (Free names false ls) back ahead rest
test_walk {back = back} n ls either rest room calm e f =
    walk_as (λ h. h.0) (λ h. (h, tt)) (λ past g. g)
    (walk_opening kind.OpenParen n refl refl refl room e f.here (λ w left opened is g.
    walk_star opened g.here (λ v more starred times h.
    walk_calm calm starred (ended_of refl (record { here = h; factor = (fresh_star {w = v} (w ∷ back) (ap (λ (j : TokenKind). is_kind j kind.Name) is) times).factor })))))
test_walk n ls (condition c) rest room calm e f =
    walk_opening kind.OpenParen n refl refl refl room e f.here (λ w left opened is g.
    walk_ending (cond_walk (n - 1) (level.Parens ∷ ls) c (Mark kind.CloseParen ∷ rest) (omega (arith, room)) refl (opened ∙ append_assoc (cond_pieces c) (Mark kind.CloseParen ∷ []) rest) g) (λ past left spelled h.
    walk_calm calm spelled h))
