-- Products, sums and relations whose words have no cause of a refusal: exactly those whose names are declared.
use Rattle.std.proofs.Common.{◌≡◌, Bool, true, false, List, [], ◌∷◌, ◌++◌, All, refl, ap, subst, ◌∙◌, append_assoc}
use Rattle.std.proofs.lemmas.List.Elements.{All-nil, All-cons, All-head, All-tail}
use Rattle.ps_token.specs.declared.token_kind.TokenKind.{TokenKind}
use Rattle.ps_token.specs.declared.token_kind.TokenKind.TheVariants as kind
use Rattle.ps_tree.specs.declared.relation.Sign.{Sign}
use Rattle.ps_tree.specs.declared.relation.Sign.TheVariants as sign
use Rattle.ps_grammar.specs.Fits.{ProductFits, SumTextFits, RelationFits}
use Rattle.ps_grammar.specs.Grammar.{ProductText, number, name, number_name, name_number, SumText, RelationText}
use Rattle.ps_grammar.specs.Names.{Names}
use Rattle.ps_grammar.specs.Spelling.{Piece, NumberPiece, Mark, pieces, product_pieces, minus_pieces, plus_or_minus, further_pieces, sum_pieces, sign_kind, relation_pieces}
use Rattle.ps_grammar.specs.Words.{Word}
use Rattle.ps_parse.specs.declared.level.Level.{Level}
use Rattle.ps_parse.specs.Causes.{levels_with}
use Rattle.ps_parse.specs.Kinds.{is_kind}
use Rattle.ps_parse.proofs.WordsAllowed.{has_causes, joins, fresh_star}
use Rattle.ps_parse.proofs.WordsClean.{Walk, walk_end, walk_as, walk_then, Here, Free, walk_piece, walk_star, walk_name}

-- ---- words that leave the levels as they are

-- no refusal has a cause at such a word, and nothing hangs on it
pub record IsPlain (k : TokenKind) : Type 0 where
  pub causes : has_causes k ≡ false
  pub joins : joins k ≡ false
  pub atomic : is_kind k kind.Atomic ≡ false
  pub level : (after : Bool) (ls : List Level) → levels_with after k ls ≡ ls

pub walk_mark : {F : Type 0} {P : List Word → Type 0} {names : Names} {after : Bool} {ls : List Level} {back ahead : List Word} {rest to : List Piece} (k : TokenKind) → IsPlain k → pieces ahead ≡ Mark k ∷ rest → Here names after ls back
    → ((past left : List Word) → pieces left ≡ rest → Free names false ls past → Walk F P past left to) → Walk F P back ahead to
walk_mark {names = names} {after = after} {ls = ls} {back = back} k p e h next =
    walk_piece (Mark k) p.causes p.joins e h (λ w left spelled is f.
    next (w ∷ back) left spelled (subst (λ (b : Bool). Free names b ls (w ∷ back)) p.atomic (subst (λ (xs : List Level). Free names (is_kind k kind.Atomic) xs (w ∷ back)) (p.level after ls) f)))

sign_plain : (s : Sign) → IsPlain (sign_kind s)
sign_plain sign.Less = record { causes = refl; joins = refl; atomic = refl; level = λ after ls. refl }
sign_plain s = record { causes = refl; joins = refl; atomic = refl; level = λ after ls. refl }

adding_plain : (b : Bool) → IsPlain (plus_or_minus b)
adding_plain true = record { causes = refl; joins = refl; atomic = refl; level = λ after ls. refl }
adding_plain false = record { causes = refl; joins = refl; atomic = refl; level = λ after ls. refl }

-- ---- products

pub product_walk : {names : Names} {after : Bool} {ls : List Level} {back ahead : List Word} (c : ProductText) (rest : List Piece) → pieces ahead ≡ product_pieces c ++ rest → Free names after ls back → Walk (ProductFits names c) (Free names false ls) back ahead rest
product_walk (number n) rest e f = walk_piece (NumberPiece n) refl refl e f.here (λ w left spelled is g. walk_end g spelled)
product_walk (name x) rest e f = walk_as (λ h. h.0) (λ h. (h, tt)) (λ past g. g) (walk_name x e f (λ w left spelled is g. walk_end g spelled))
product_walk {back = back} (number_name n x) rest e f =
    walk_as (λ h. h.0) (λ h. (h, tt)) (λ past g. g)
    (walk_piece (NumberPiece n) refl refl e f.here (λ v words numbered is g.
    walk_star numbered g.here (λ w more starred times h.
    walk_name x starred (record { here = h; factor = (fresh_star {w = w} (v ∷ back) (ap (λ (j : TokenKind). is_kind j kind.Name) is) times).factor }) (λ u left spelled named k. walk_end k spelled))))
product_walk (name_number x n) rest e f =
    walk_as (λ h. h.0) (λ h. (h, tt)) (λ past g. g)
    (walk_name x e f (λ v words named is g.
    walk_star named g.here (λ w more starred times h.
    walk_piece (NumberPiece n) refl refl starred h (λ u left spelled numbered k. walk_end k spelled))))

-- ---- sums

abbrev FurtherFits : Names → List (Bool × ProductText) → Type 0
FurtherFits names ps = All (λ (p : Bool × ProductText). ProductFits names p.1) ps

further_walk : {names : Names} {ls : List Level} {back ahead : List Word} (ps : List (Bool × ProductText)) (rest : List Piece) → pieces ahead ≡ further_pieces ps ++ rest → Free names false ls back → Walk (FurtherFits names ps) (Free names false ls) back ahead rest
further_walk {names = names} [] rest e f = walk_as (λ h. All-nil (λ (p : Bool × ProductText). ProductFits names p.1)) (λ h. tt) (λ past g. g) (walk_end f e)
further_walk {names = names} (p ∷ ps) rest e f =
    walk_as (λ h. All-cons (λ (q : Bool × ProductText). ProductFits names q.1) p ps h.0 h.1) (λ h. (All-head (λ (q : Bool × ProductText). ProductFits names q.1) p ps h, All-tail (λ (q : Bool × ProductText). ProductFits names q.1) p ps h)) (λ past g. g)
    (walk_mark (plus_or_minus p.0) (adding_plain p.0) (e ∙ ap (λ (qs : List Piece). Mark (plus_or_minus p.0) ∷ qs) (append_assoc (product_pieces p.1) (further_pieces ps) rest)) f.here (λ past left spelled g.
    walk_then (product_walk p.1 (further_pieces ps ++ rest) spelled g) (λ there more added k. further_walk ps rest added k)))

pub sum_walk : {names : Names} {after : Bool} {ls : List Level} {back ahead : List Word} (s : SumText) (rest : List Piece) → pieces ahead ≡ sum_pieces s ++ rest → Free names after ls back → Walk (SumTextFits names s) (Free names false ls) back ahead rest
sum_walk {names = names} {ls = ls} s rest e f =
    by_minus s.negative (e ∙ append_assoc (minus_pieces s.negative) (product_pieces s.first ++ further_pieces s.further) rest ∙ ap (λ (qs : List Piece). minus_pieces s.negative ++ qs) (append_assoc (product_pieces s.first) (further_pieces s.further) rest)) f
  where
    products : {after : Bool} {back ahead : List Word} → pieces ahead ≡ product_pieces s.first ++ (further_pieces s.further ++ rest) → Free names after ls back → Walk (SumTextFits names s) (Free names false ls) back ahead rest
    products e f = walk_then (product_walk s.first (further_pieces s.further ++ rest) e f) (λ past left spelled g. further_walk s.further rest spelled g)

    by_minus : {after : Bool} {back ahead : List Word} (b : Bool) → pieces ahead ≡ minus_pieces b ++ (product_pieces s.first ++ (further_pieces s.further ++ rest)) → Free names after ls back → Walk (SumTextFits names s) (Free names false ls) back ahead rest
    by_minus true e f = walk_mark kind.Minus (adding_plain true) e f.here (λ past left spelled g. products spelled g)
    by_minus false e f = products e f

-- ---- relations

pub relation_walk : {names : Names} {after : Bool} {ls : List Level} {back ahead : List Word} (r : RelationText) (rest : List Piece) → pieces ahead ≡ relation_pieces r ++ rest → Free names after ls back → Walk (RelationFits names r) (Free names false ls) back ahead rest
relation_walk r rest e f =
    walk_then (sum_walk r.left (Mark (sign_kind r.sign) ∷ (sum_pieces r.right ++ rest)) (e ∙ append_assoc (sum_pieces r.left) (Mark (sign_kind r.sign) ∷ sum_pieces r.right) rest) f) (λ past left spelled g.
    walk_mark (sign_kind r.sign) (sign_plain r.sign) spelled g.here (λ there more signed h. sum_walk r.right rest signed h))
