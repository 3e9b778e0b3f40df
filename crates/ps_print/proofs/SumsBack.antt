-- The text that is printed of the sum of a text is read as the same sum.
use Rattle.std.proofs.Common.{◌≡◌, ℕ, ◌^◌, ◌<◌, ℤ, pos, Bool, true, false, List, [], ◌∷◌, ◌++◌, map, Option, Some, None, refl, sym, ◌∙◌, ap, ap₂, subst, arith}
use Rattle.std.specs.Prelude.{All, decimal, unsigned_abs, ◌==◌, if◌then◌else◌}
use Rattle.std.specs.Str.Parse.{digits_value}
use Rattle.std.proofs.lemmas.List.Elements.{All-cons, All-head, All-nil, All-tail}
use Rattle.ps_term.specs.declared.var.Var.{Var}
use Rattle.ps_token.specs.Lexing.{IsName}
use Rattle.ps_tree.specs.declared.sum.Sum.{Sum}
use Rattle.ps_tree.specs.declared.relation.Relation.{Relation}
use Rattle.ps_tree.specs.declared.relation.Sign.{Sign}
use Rattle.ps_tree.specs.declared.relation.Sign.TheVariants as sign
use Rattle.ps_grammar.specs.Names.{Names}
use Rattle.ps_print.specs.Canonical.{is_negative, name_of, product_of, product_text, relation_text, sum_text}
use Rattle.ps_grammar.specs.Fits.{IsKnownName, ProductFits, RelationFits, SumTextFits}
use Rattle.ps_grammar.specs.Grammar.{ProductText, name, name_number, number, number_name, RelationText, SumText}
use Rattle.ps_grammar.specs.Spelling.{further_pieces, minus_pieces, plus_or_minus, product_pieces, relation_pieces, sign_kind, sum_pieces}
use Rattle.ps_grammar.specs.Numbers.{number_value, signed}
use Rattle.ps_grammar.specs.Trees.{product_tree, relation_tree, sum_tree, variable_named}
use Rattle.ps_grammar.specs.Texts.{ArePieces, IsMark}
use Rattle.ps_grammar.proofs.Texts.{joined, left, right, value_below}
use Rattle.ps_print.proofs.Spelled.{abs_signed, decimal_spelled, decimal_value, named, signed_abs}

-- ---- products

-- what is printed of the product fits, is spelled from words, and is read as the product
pub record GoodProduct (names : Names) (p : ℤ × Option Var) : Type 0 where
  pub fits : ProductFits names (product_of names p)
  pub spelled : ArePieces (product_pieces (product_of names p))
  pub back : signed (is_negative p.0) (product_tree names (product_of names p)) ≡ p

number_good : (names : Names) (z : ℤ) → unsigned_abs z < 10 ^ 18 → GoodProduct names (z, None)
number_good names z small = record {
  fits = tt;
  spelled = (decimal_spelled (unsigned_abs z) small, tt);
  back = ap (λ (m : ℤ). signed (is_negative z) (m, None)) (decimal_value (unsigned_abs z) small) ∙ signed_abs z None;
}

pub known_again : (names : Names) (x : List ℕ) → IsKnownName names x → IsKnownName names (name_of names (variable_named names x))
known_again names x known = subst (λ (y : List ℕ). IsKnownName names y) (sym (named names x known)) known

pub name_again : (names : Names) (x : List ℕ) → IsKnownName names x → IsName x → IsName (name_of names (variable_named names x))
name_again names x known is = subst (λ (y : List ℕ). IsName y) (sym (named names x known)) is

pub variable_again : (names : Names) (x : List ℕ) → IsKnownName names x → variable_named names (name_of names (variable_named names x)) ≡ variable_named names x
variable_again names x known = ap (variable_named names) (named names x known)

one_is : (m : ℕ) → (m == 1) ≡ true → m ≡ 1
one_is m e = grind (arith, e)

times_by : (names : Names) (z : ℤ) (x : List ℕ) → unsigned_abs z < 10 ^ 18 → IsKnownName names x → IsName x → (t : Bool) → (unsigned_abs z == 1) ≡ t
    → (p : ProductText) → p ≡ (if t then name (name_of names (variable_named names x)) else number_name (decimal (unsigned_abs z)) (name_of names (variable_named names x)))
    → ProductFits names p × ArePieces (product_pieces p) × (signed (is_negative z) (product_tree names p) ≡ (z, Some (variable_named names x)))
times_by names z x small known is true one p e =
    subst (λ (q : ProductText). ProductFits names q × ArePieces (product_pieces q) × (signed (is_negative z) (product_tree names q) ≡ (z, Some (variable_named names x)))) (sym e) (
      known_again names x known,
      (name_again names x known is, tt),
      ap₂ (λ (m : ℕ) (v : Var). signed (is_negative z) (pos m, Some v)) (sym (one_is (unsigned_abs z) one)) (variable_again names x known) ∙ signed_abs z (Some (variable_named names x)),
    )
times_by names z x small known is false other p e =
    subst (λ (q : ProductText). ProductFits names q × ArePieces (product_pieces q) × (signed (is_negative z) (product_tree names q) ≡ (z, Some (variable_named names x)))) (sym e) (
      known_again names x known,
      (decimal_spelled (unsigned_abs z) small, (tt, (name_again names x known is, tt))),
      ap₂ (λ (m : ℤ) (v : Var). signed (is_negative z) (m, Some v)) (decimal_value (unsigned_abs z) small) (variable_again names x known) ∙ signed_abs z (Some (variable_named names x)),
    )

times_good : (names : Names) (z : ℤ) (x : List ℕ) → unsigned_abs z < 10 ^ 18 → IsKnownName names x → IsName x → GoodProduct names (z, Some (variable_named names x))
times_good names z x small known is =
    let h = times_by names z x small known is (unsigned_abs z == 1) refl (product_text names (unsigned_abs z) (Some (variable_named names x))) refl in
    record { fits = h.0; spelled = h.1; back = h.2 }

signed_small : (b : Bool) (n : ℕ) (o : Option Var) → n < 10 ^ 18 → unsigned_abs (signed b (pos n, o)).0 < 10 ^ 18
signed_small b n o small = omega (arith, abs_signed b n o, small)

pub product_good : (names : Names) (b : Bool) (t : ProductText) → ProductFits names t → ArePieces (product_pieces t) → GoodProduct names (signed b (product_tree names t))
product_good names false (number n) fit h = number_good names (number_value n) (value_below n h.0)
product_good names true (number n) fit h = number_good names (signed true (number_value n, None)).0 (signed_small true (digits_value 10 n) None (value_below n h.0))
product_good names false (name x) fit h = times_good names (pos 1) x (omega arith) fit h.0
product_good names true (name x) fit h = times_good names (signed true (pos 1, None)).0 x (signed_small true 1 None (omega arith)) fit h.0
product_good names false (number_name n x) fit h = times_good names (number_value n) x (value_below n h.0) fit h.1.1.0
product_good names true (number_name n x) fit h = times_good names (signed true (number_value n, None)).0 x (signed_small true (digits_value 10 n) None (value_below n h.0)) fit h.1.1.0
product_good names false (name_number x n) fit h = times_good names (number_value n) x (value_below n h.1.1.0) fit h.0
product_good names true (name_number x n) fit h = times_good names (signed true (number_value n, None)).0 x (signed_small true (digits_value 10 n) None (value_below n h.1.1.0)) fit h.0

-- ---- sums

abbrev Term : Type 0
Term = ℤ × Option Var

abbrev further_text : Names → List Term → List (Bool × ProductText)
further_text names ps = map (λ (q : Term). (is_negative q.0, product_of names q)) ps

abbrev terms_of : Names → List (Bool × ProductText) → List Term
terms_of names fs = map (λ (p : Bool × ProductText). signed p.0 (product_tree names p.1)) fs

pub record GoodFurther (names : Names) (ps : List Term) : Type 0 where
  pub fits : All (λ (p : Bool × ProductText). ProductFits names p.1) (further_text names ps)
  pub spelled : ArePieces (further_pieces (further_text names ps))
  pub back : terms_of names (further_text names ps) ≡ ps

sum_mark : (b : Bool) → IsMark (plus_or_minus b)
sum_mark true = tt
sum_mark false = tt

sign_mark : (s : Sign) → IsMark (sign_kind s)
sign_mark sign.Less = tt
sign_mark sign.LessEq = tt
sign_mark sign.Greater = tt
sign_mark sign.GreaterEq = tt
sign_mark sign.Equal = tt
sign_mark sign.NotEqual = tt

further_good : (names : Names) (fs : List (Bool × ProductText)) → All (λ (p : Bool × ProductText). ProductFits names p.1) fs → ArePieces (further_pieces fs) → GoodFurther names (terms_of names fs)
further_good names [] fit h = record { fits = All-nil (λ (p : Bool × ProductText). ProductFits names p.1); spelled = tt; back = refl }
further_good names (f ∷ fs) fit h =
    let p = product_good names f.0 f.1 (All-head (λ (p : Bool × ProductText). ProductFits names p.1) f fs fit) (left (product_pieces f.1) (further_pieces fs) h.1) in
    let r = further_good names fs (All-tail (λ (p : Bool × ProductText). ProductFits names p.1) f fs fit) (right (product_pieces f.1) (further_pieces fs) h.1) in
    record {
      fits = All-cons (λ (q : Bool × ProductText). ProductFits names q.1) (is_negative (signed f.0 (product_tree names f.1)).0, product_of names (signed f.0 (product_tree names f.1))) (further_text names (terms_of names fs)) p.fits r.fits;
      spelled = (sum_mark (is_negative (signed f.0 (product_tree names f.1)).0), joined (product_pieces (product_of names (signed f.0 (product_tree names f.1)))) (further_pieces (further_text names (terms_of names fs))) p.spelled r.spelled);
      back = ap₂ (λ (q : Term) (qs : List Term). q ∷ qs) p.back r.back;
    }

pub record GoodSum (names : Names) (s : Sum) : Type 0 where
  pub fits : SumTextFits names (sum_text names s)
  pub spelled : ArePieces (sum_pieces (sum_text names s))
  pub back : sum_tree names (sum_text names s) ≡ s

pub minus_spelled : (b : Bool) → ArePieces (minus_pieces b)
minus_spelled true = (tt, tt)
minus_spelled false = tt

pub sum_good : (names : Names) (s : SumText) → SumTextFits names s → ArePieces (sum_pieces s) → GoodSum names (sum_tree names s)
sum_good names s fit h =
    let rest = right (minus_pieces s.negative) (product_pieces s.first ++ further_pieces s.further) h in
    let p = product_good names s.negative s.first fit.0 (left (product_pieces s.first) (further_pieces s.further) rest) in
    let r = further_good names s.further fit.1 (right (product_pieces s.first) (further_pieces s.further) rest) in
    let q = signed s.negative (product_tree names s.first) in
    record {
      fits = (p.fits, r.fits);
      spelled = joined (minus_pieces (is_negative q.0)) (product_pieces (product_of names q) ++ further_pieces (further_text names (terms_of names s.further))) (minus_spelled (is_negative q.0)) (joined (product_pieces (product_of names q)) (further_pieces (further_text names (terms_of names s.further))) p.spelled r.spelled);
      back = ap₂ (λ (q : Term) (qs : List Term). record { terms = q ∷ qs }) p.back r.back;
    }

-- ---- relations

pub record GoodRelation (names : Names) (r : Relation) : Type 0 where
  pub fits : RelationFits names (relation_text names r)
  pub spelled : ArePieces (relation_pieces (relation_text names r))
  pub back : relation_tree names (relation_text names r) ≡ r

pub relation_good : (names : Names) (r : RelationText) → RelationFits names r → ArePieces (relation_pieces r) → GoodRelation names (relation_tree names r)
relation_good names r fit h =
    let a = sum_good names r.left fit.0 (left (sum_pieces r.left) _ h) in
    let b = sum_good names r.right fit.1 (right (sum_pieces r.left) _ h).1 in
    record {
      fits = (a.fits, b.fits);
      spelled = joined (sum_pieces (sum_text names (sum_tree names r.left))) _ a.spelled (sign_mark r.sign, b.spelled);
      back = ap₂ (λ (x y : Sum). record { left = x; sign = r.sign; right = y }) a.back b.back;
    }
