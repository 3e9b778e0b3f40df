-- What is kept of the words that were passed: how it goes on with a word, and what refuses one.
use Rattle.std.proofs.Common.{◌≡◌, inl, inr, ℕ, ◌+◌, Bool, true, false, ◌&&◌, ◌||◌, List, [], ◌∷◌, ◌++◌, length, reverse, Option, Some, refl, sym, ap, subst, ◌∙◌, arith}
use Rattle.std.specs.Prelude.{Contains, if◌then◌else◌}
use Rattle.std.specs.Str.{bytes_eq}
use Rattle.std.proofs.lemmas.Bool.{and_parts, true≢false}
use Rattle.std.proofs.lemmas.Slice.Eq.{bytes_eq-Decides}
use Rattle.std.proofs.lemmas.Bool.Decides.{nat_tests}
use Rattle.std.proofs.lemmas.List.{reverse-append}
use Rattle.std.proofs.lemmas.List.Elements.{Contains-append_cases, Contains-append_left, Contains-append_right, Contains-push, Contains-push_cases}
use Rattle.ps_token.specs.Lexing.{IsName, IsNumber, IsSpelled, IsWord, is_digit, is_letter}
use Rattle.ps_lines.specs.Decimal.{are_digits}
use Rattle.ps_token.specs.declared.token_kind.TokenKind.{TokenKind}
use Rattle.ps_token.specs.declared.token_kind.TokenKind.TheVariants as kind
use Rattle.ps_grammar.specs.Words.{Word}
use Rattle.ps_parse.specs.Causes.{count_of, declared_in, is_after_factor, is_declaration, levels, levels_with, rows_passed}
use Rattle.ps_parse.specs.Kinds.{begins_with, is_kind}
use Rattle.ps_parse.specs.Inner.Passed.{IsSpelledWord, Tally, Tells, added, declares, has_atomic, has_name, is_declaring, is_kind_of, multiplies, nearest_kind, ones, row_weight, second_kind}
use Rattle.ps_parse.specs.declared.level.Level.{Level}
use Rattle.ps_parse.specs.declared.level.Level.TheVariants as level
use Rattle.ps_parse.proofs.NamesDeclared.{has_name-append}
use Rattle.ps_parse.proofs.Weights.{count_of_weight, rows_in_weight, weight}

-- ---- levels

has_atomic-append : (xs ys : List Level) → has_atomic (xs ++ ys) ≡ (has_atomic xs || has_atomic ys)
has_atomic-append [] ys = refl
has_atomic-append (level.AtomicBlock ∷ xs) ys = refl
has_atomic-append (x ∷ xs) ys = has_atomic-append xs ys

or_last : (b : Bool) (x : Level) (xs : List Level) → b ≡ has_atomic xs → (b || has_atomic (x ∷ [])) ≡ has_atomic (x ∷ xs)
or_last true level.AtomicBlock xs e = refl
or_last true x xs e = e
or_last false level.AtomicBlock xs e = refl
or_last false x xs e = e

pub atomic_turned : (xs : List Level) → has_atomic (reverse xs) ≡ has_atomic xs
atomic_turned [] = refl
atomic_turned (x ∷ xs) = ap has_atomic (reverse-append (x ∷ []) xs) ∙ has_atomic-append (reverse xs) (x ∷ []) ∙ or_last (has_atomic (reverse xs)) x xs (atomic_turned xs)

pub atomic_contained : (ls : List Level) → has_atomic ls ≡ true → Contains ls level.AtomicBlock
atomic_contained [] h = absurd cc
atomic_contained (level.AtomicBlock ∷ ls) h = Contains-append_left (level.AtomicBlock ∷ []) ls level.AtomicBlock (Contains-push [] level.AtomicBlock)
atomic_contained (l ∷ ls) h = Contains-append_right (l ∷ []) ls level.AtomicBlock (atomic_contained ls h)

atomic_more : (l : Level) (ls : List Level) → has_atomic ls ≡ true → has_atomic (l ∷ ls) ≡ true
atomic_more level.AtomicBlock ls h = refl
atomic_more l ls h = h

pub contained_atomic : (ls : List Level) → Contains ls level.AtomicBlock → has_atomic ls ≡ true
contained_atomic [] h = absurd (omega (arith, h.1))
contained_atomic (l ∷ ls) h =
    elim (Contains-append_cases (l ∷ []) ls level.AtomicBlock h) [
      | inl d ↦ elim (Contains-push_cases [] l level.AtomicBlock d) [ inl n ↦ absurd (omega (arith, n.1)) | inr e ↦ ap (λ (x : Level). has_atomic (x ∷ ls)) e ]
      | inr d ↦ atomic_more l ls (contained_atomic ls d)
    ]

-- ---- the nearest words

pub begins_is : (k : TokenKind) (back : List Word) → is_kind_of (nearest_kind back) k ≡ begins_with k back
begins_is k [] = refl
begins_is k (w ∷ back) = refl

factor_is : (back : List Word) → (is_kind_of (nearest_kind back) kind.Star && is_kind_of (second_kind back) kind.Name) ≡ is_after_factor back
factor_is [] = refl
factor_is (w ∷ []) = refl
factor_is (w ∷ v ∷ back) = refl

pub declares_is : {t : Tally} {back : List Word} → Tells t back → declares t ≡ is_declaration back
declares_is {t = t} {back = back} h =
    ap (λ (o : Option TokenKind). is_kind_of o kind.Global || is_kind_of o kind.Local) h.nearest
    ∙ ap (λ (b : Bool). b || is_kind_of (nearest_kind back) kind.Local) (begins_is kind.Global back)
    ∙ ap (λ (b : Bool). begins_with kind.Global back || b) (begins_is kind.Local back)

pub multiplies_is : {t : Tally} {back : List Word} → Tells t back → multiplies t ≡ is_after_factor back
multiplies_is {t = t} {back = back} h =
    ap (λ (o : Option TokenKind). is_kind_of o kind.Star && is_kind_of t.second kind.Name) h.nearest
    ∙ ap (λ (o : Option TokenKind). is_kind_of (nearest_kind back) kind.Star && is_kind_of o kind.Name) h.second
    ∙ factor_is back

-- ---- one word more

ones_more : (k : TokenKind) (w : Word) (back : List Word) (n : ℕ) → n ≡ count_of k back → n + ones k w.kind ≡ count_of k (w ∷ back)
ones_more k w back n e =
    let a : count_of k (w ∷ back) ≡ ones k w.kind + weight (ones k) back = count_of_weight k (w ∷ back) in
    let b : count_of k back ≡ weight (ones k) back = count_of_weight k back in
    omega (arith, a, b, e)

rows_more : (w : Word) (back : List Word) (n : ℕ) → n ≡ rows_passed back → n + row_weight w.kind ≡ rows_passed (w ∷ back)
rows_more w back n e =
    let a : rows_passed (w ∷ back) ≡ row_weight w.kind + weight row_weight back = rows_in_weight (w ∷ back) in
    let b : rows_passed back ≡ weight row_weight back = rows_in_weight back in
    omega (arith, a, b, e)

levels_more : {t : Tally} {back : List Word} (w : Word) → Tells t back → levels_with (is_kind_of t.nearest kind.Atomic) w.kind t.levels ≡ levels (w ∷ back)
levels_more {t = t} {back = back} w h =
    ap (λ (ls : List Level). levels_with (is_kind_of t.nearest kind.Atomic) w.kind ls) h.levels
    ∙ ap (λ (o : Option TokenKind). levels_with (is_kind_of o kind.Atomic) w.kind (levels back)) h.nearest
    ∙ ap (λ (b : Bool). levels_with b w.kind (levels back)) (begins_is kind.Atomic back)

-- only a name is spelled as one
no_letter : (b : ℕ) → is_digit b ≡ true → is_letter b ≡ false
no_letter b h = grind (arith, nat_tests)

no_word : (x : List ℕ) → IsNumber x → IsWord x → ⊥
no_word [] n w = w
no_word (b ∷ bs) n w = let p : (is_digit b ≡ true) × (are_digits bs ≡ true) = and_parts _ _ n.digits in true≢false (sym w.0 ∙ no_letter b p.0)

no_name : (k : TokenKind) (x y : List ℕ) → IsSpelled k x → is_kind k kind.Name ≡ false → IsName y → x ≡ y → ⊥
no_name kind.Name x y s n i e = true≢false n
no_name kind.Number x y s n i e = no_word x s (subst IsWord (sym e) i.word)
no_name k x y s n i e = i.free k (sym e ∙ s)

unequal : (x y : List ℕ) → (x ≡ y → ⊥) → bytes_eq x y ≡ false
unequal x y h = by_test (bytes_eq x y) refl
  where
    by_test : (t : Bool) → bytes_eq x y ≡ t → t ≡ false
    by_test true e = absurd (h ((bytes_eq-Decides x y).0 e))
    by_test false e = refl

turned : (a b : Bool) → (a || (b || false)) ≡ (b || a)
turned true true = refl
turned true false = refl
turned false true = refl
turned false false = refl

-- what is declared, with one more
named_more : (a b : Bool) (x y : List ℕ) (names list : List (List ℕ)) → has_name y names ≡ has_name y list → (b ≡ false → bytes_eq x y ≡ false)
    → has_name y (added (a && b) names x) ≡ has_name y (if a then x ∷ list else list)
named_more false b x y names list h other = h
named_more true true x y names list h other = has_name-append y names (x ∷ []) ∙ turned (has_name y names) (bytes_eq x y) ∙ ap (λ (t : Bool). bytes_eq x y || t) h
named_more true false x y names list h other = h ∙ ap (λ (t : Bool). t || has_name y list) (sym (other refl))

-- The tally after a word.
pub tells_more : (t : Tally) (back : List Word) (w : Word) (globals locals rows : ℕ) (names : List (List ℕ)) (ls : List Level) → Tells t back → IsSpelledWord w
    → globals ≡ ones kind.Global w.kind → locals ≡ ones kind.Local w.kind → rows ≡ row_weight w.kind
    → names ≡ added (is_declaring t.nearest && is_kind w.kind kind.Name) t.names w.text → ls ≡ levels_with (is_kind_of t.nearest kind.Atomic) w.kind t.levels
    → Tells (record { words = t.words + 1; nearest = Some w.kind; second = t.nearest; globals = t.globals + globals; locals = t.locals + locals; rows = t.rows + rows; names = names; levels = ls }) (w ∷ back)
tells_more t back w globals locals rows names ls h s g l r n e = record {
  words = let k : t.words ≡ length back = h.words in omega (arith, k);
  nearest = refl;
  second = h.nearest;
  globals = ap (λ (m : ℕ). t.globals + m) g ∙ ones_more kind.Global w back t.globals h.globals;
  locals = ap (λ (m : ℕ). t.locals + m) l ∙ ones_more kind.Local w back t.locals h.locals;
  rows = ap (λ (m : ℕ). t.rows + m) r ∙ rows_more w back t.rows h.rows;
  names = λ x i.
      ap (has_name x) n
      ∙ named_more (is_declaring t.nearest) (is_kind w.kind kind.Name) w.text x t.names (declared_in back) (h.names x i) (λ other. unequal w.text x (no_name w.kind w.text x s other i))
      ∙ ap (λ (b : Bool). has_name x (if b then w.text ∷ declared_in back else declared_in back)) (declares_is h);
  levels = e ∙ levels_more w h;
}
