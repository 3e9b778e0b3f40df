-- Kinds and pieces of words, what is taken of the words ahead, what a step finds, tests of the next word, and reading
-- functions that are made of others.
use Rattle.std.proofs.Common.{◌≡◌, ℕ, Bool, true, false, ◌||◌, List, [], ◌∷◌, ◌++◌, map, length, drop, get_or, Result, Ok, Err, refl, sym, ap, subst, ◌∙◌, append_assoc, eq-eqb}
use Rattle.std.specs.Prelude.{IfOk}
use Rattle.std.proofs.lemmas.Bool.{eqb-true}
use Rattle.std.proofs.lemmas.List.{map-append, length-map, drop_at, drop-map}
use Rattle.ps_token.specs.declared.place.Place.{Place}
use Rattle.ps_token.specs.declared.token_kind.TokenKind.{TokenKind}
use Rattle.ps_token.specs.declared.token_kind.TokenKind.TheVariants as kind
use Rattle.ps_parse.specs.declared.read_refusal.ReadRefusal.{ReadRefusal}
use Rattle.ps_grammar.specs.Words.{Word}
use Rattle.ps_parse.specs.Inner.Reading.{WordsAhead, ReadWords, next_is, next_word}
use Rattle.ps_parse.specs.Kinds.{kind_number, is_kind, begins_with}
use Rattle.ps_lines.specs.Steps.{and_then, ◌>>=◌}
use Rattle.ps_grammar.specs.Spelling.{Piece, NamePiece, NumberPiece, Mark, piece_of_kind, pieces}

-- ---- kinds

abbrev kinds : List TokenKind
kinds = kind.Name ∷ kind.Number ∷ kind.Global ∷ kind.Local ∷ kind.Init ∷ kind.Thread ∷ kind.Havoc ∷ kind.Assume ∷ kind.Assert ∷ kind.Skip ∷ kind.Atomic ∷ kind.If ∷ kind.Else ∷ kind.While ∷ kind.Becomes ∷ kind.LessEq ∷ kind.GreaterEq ∷ kind.EqualEqual ∷ kind.NotEqual ∷ kind.And ∷ kind.Or ∷ kind.Less ∷ kind.Greater ∷ kind.Not ∷ kind.Equal ∷ kind.Plus ∷ kind.Minus ∷ kind.Star ∷ kind.OpenParen ∷ kind.CloseParen ∷ kind.OpenBrace ∷ kind.CloseBrace ∷ kind.Semicolon ∷ []

numbered : (k : TokenKind) → get_or kinds (kind_number k) kind.Name ≡ k
numbered kind.Name = refl
numbered k = refl

pub one_kind : (a b : TokenKind) → is_kind a b ≡ true → a ≡ b
one_kind a b h = sym (numbered a) ∙ ap (λ (n : ℕ). get_or kinds n kind.Name) (eqb-true (kind_number a) (kind_number b) h) ∙ numbered b

pub same_kind : (a b : TokenKind) → a ≡ b → is_kind a b ≡ true
same_kind a b h = eq-eqb (kind_number a) (kind_number b) (ap kind_number h)

abbrev pub kind_of : Piece → TokenKind
kind_of (NamePiece t) = kind.Name
kind_of (NumberPiece t) = kind.Number
kind_of (Mark k) = k

pub kind_of_piece : (k : TokenKind) (t : List ℕ) → kind_of (piece_of_kind k t) ≡ k
kind_of_piece kind.Name t = refl
kind_of_piece kind.Number t = refl
kind_of_piece k t = refl

-- ---- the words ahead

abbrev pub places : List Word → List Place
places words = map (λ (w : Word). w.place) words

-- the words begin with ones spelled so, and then those are left
pub record Takes (before : List Word) (ps : List Piece) (after : List Word) : Type 0 where
  pub front : List Word
  pub split : before ≡ front ++ after
  pub spelled : pieces front ≡ ps

pub takes_then : {a b c : List Word} {ps qs : List Piece} → Takes a ps b → Takes b qs c → Takes a (ps ++ qs) c
takes_then {a = a} {b = b} {c = c} {ps = ps} {qs = qs} p q = record {
  front = p.front ++ q.front;
  split = p.split ∙ ap (λ (ws : List Word). p.front ++ ws) q.split ∙ sym (append_assoc p.front q.front c);
  spelled = map-append (λ (w : Word). piece_of_kind w.kind w.text) p.front q.front ∙ ap (λ (xs : List Piece). xs ++ pieces q.front) p.spelled ∙ ap (λ (xs : List Piece). ps ++ xs) q.spelled;
}

pub takes_so : {a b : List Word} {ps qs : List Piece} → ps ≡ qs → Takes a ps b → Takes a qs b
takes_so {a = a} {b = b} e p = subst (λ (xs : List Piece). Takes a xs b) e p

pub takes_pieces : {a b : List Word} {ps : List Piece} → Takes a ps b → pieces a ≡ ps ++ pieces b
takes_pieces {a = a} {b = b} {ps = ps} p = ap pieces p.split ∙ map-append (λ (w : Word). piece_of_kind w.kind w.text) p.front b ∙ ap (λ (xs : List Piece). xs ++ pieces b) p.spelled

pub takes_drop : {a b : List Word} {ps : List Piece} → Takes a ps b → b ≡ drop (length ps) a
takes_drop {a = a} {b = b} {ps = ps} p =
    let e : length p.front ≡ length ps = sym (length-map p.front (λ (w : Word). piece_of_kind w.kind w.text)) ∙ ap (λ (xs : List Piece). length xs) p.spelled in
    sym (ap (drop (length ps)) p.split ∙ drop_at p.front b (length ps) e)

pub takes_places : {a b : List Word} {ps : List Piece} → Takes a ps b → places b ≡ drop (length ps) (places a)
takes_places {a = a} {b = b} {ps = ps} p = ap places (takes_drop p) ∙ sym (drop-map (λ (w : Word). w.place) (length ps) a)

abbrev pub begins_piece : TokenKind → List Piece → Bool
begins_piece k [] = false
begins_piece k (p ∷ ps) = is_kind (kind_of p) k

pub begins_pieces : (k : TokenKind) (ws : List Word) → begins_with k ws ≡ begins_piece k (pieces ws)
begins_pieces k [] = refl
begins_pieces k (w ∷ ws) = ap (λ (j : TokenKind). is_kind j k) (sym (kind_of_piece w.kind w.text))

-- the next word isn't of the kind
abbrev pub Not : TokenKind → List Piece → Type 0
Not k ps = begins_piece k ps ≡ false

abbrev pub Always : {X : Type 0} → X → Type 0
Always x = Unit {0}

-- ---- steps

-- what a step that didn't fail found
pub record Finds {A : Type 0} (r : Result A ReadRefusal) (Q : A → Type 0) : Type 0 where
  pub is : IfOk r Q

-- a step doesn't fail
pub record Gets {A : Type 0} (r : Result A ReadRefusal) (Q : A → Type 0) : Type 0 where
  pub value : A
  pub ok : r ≡ Ok value
  pub is : Q value

pub found_bind : {A B : Type 0} (r : Result A ReadRefusal) (f : A → Result B ReadRefusal) (Q : A → Type 0) (R : B → Type 0) → Finds r Q → ((x : A) → Q x → Finds (f x) R) → Finds (r >>= f) R
unfolding and_then
found_bind (Ok x) f Q R h k = k x h.is
found_bind (Err e) f Q R h k = record { is = tt }

pub found_more : {A : Type 0} (r : Result A ReadRefusal) (Q R : A → Type 0) → Finds r Q → ((x : A) → Q x → R x) → Finds r R
found_more (Ok x) Q R h k = record { is = k x h.is }
found_more (Err e) Q R h k = record { is = tt }

pub gets_bind : {A B : Type 0} (r : Result A ReadRefusal) (f : A → Result B ReadRefusal) (Q : A → Type 0) (R : B → Type 0) → Gets r Q → ((x : A) → Q x → Gets (f x) R) → Gets (r >>= f) R
unfolding and_then
gets_bind r f Q R h k =
    let n = k h.value h.is in
    record { value = n.value; ok = ap (λ s. and_then s f) h.ok ∙ n.ok; is = n.is }

-- ---- tests of the next word

-- both begin with the same piece, or both are empty
abbrev pub Alike : List Piece → List Piece → Type 0
Alike [] [] = Unit {0}
Alike [] (q ∷ qs) = ⊥
Alike (p ∷ ps) [] = ⊥
Alike (p ∷ ps) (q ∷ qs) = p ≡ q

-- A test of the next word, on words and on pieces.
pub record IsTest (goes : WordsAhead → Bool) (begins : List Piece → Bool) : Type 0 where
  pub is : (at : WordsAhead) → goes at ≡ begins (pieces at.words)
  pub same : (ps qs : List Piece) → Alike ps qs → begins ps ≡ begins qs

alike_begins : (k : TokenKind) (ps qs : List Piece) → Alike ps qs → begins_piece k ps ≡ begins_piece k qs
alike_begins k [] [] h = refl
alike_begins k [] (q ∷ qs) h = absurd h
alike_begins k (p ∷ ps) [] h = absurd h
alike_begins k (p ∷ ps) (q ∷ qs) h = ap (λ (r : Piece). is_kind (kind_of r) k) h

pub next_test : (k : TokenKind) → IsTest (next_is k) (begins_piece k)
next_test k = record { is = λ at. begins_pieces k at.words; same = alike_begins k }

-- a test of two kinds
pub either_test : {goes more : WordsAhead → Bool} {begins goes_on : List Piece → Bool} → IsTest goes begins → IsTest more goes_on → IsTest (λ at. goes at || more at) (λ ps. begins ps || goes_on ps)
either_test {goes = goes} {more = more} {begins = begins} {goes_on = goes_on} a b = record {
  is = λ at. ap (λ (t : Bool). t || more at) (a.is at) ∙ ap (λ (t : Bool). begins (pieces at.words) || t) (b.is at);
  same = λ ps qs h. ap (λ (t : Bool). t || goes_on ps) (a.same ps qs h) ∙ ap (λ (t : Bool). begins qs || t) (b.same ps qs h);
}

-- a word that isn't a name or a number
abbrev pub IsMark : TokenKind → Type 0
IsMark k = (t : List ℕ) → piece_of_kind k t ≡ Mark k

-- ---- reading functions that are made of others

-- a value of what was read
abbrev pub mapped : {A B : Type 0} → (A → B) → ReadWords A → ReadWords B
mapped of read at = read at >>= λ x. Ok (of x.0, x.1)

-- one and then another
abbrev pub both : {A B X : Type 0} → (A → B → X) → ReadWords A → ReadWords B → ReadWords X
both of one two at = one at >>= λ x. two x.1 >>= λ y. Ok (of x.0 y.0, y.1)

-- three steps
abbrev pub three : {A B C X : Type 0} → (A → B → C → X) → ReadWords A → ReadWords B → ReadWords C → ReadWords X
three of a b c at = a at >>= λ x. b x.1 >>= λ y. c y.1 >>= λ z. Ok (of x.0 y.0 z.0, z.1)

abbrev pub pair_up : {B C : Type 0} → B → C → B × C
pair_up y z = (y, z)

abbrev pub of_pair : {A B C X : Type 0} → (A → B → C → X) → A → B × C → X
of_pair of x w = of x w.0 w.1

pub bind_same : {A B : Type 0} (r : Result A ReadRefusal) (f g : A → Result B ReadRefusal) → ((x : A) → f x ≡ g x) → (r >>= f) ≡ (r >>= g)
unfolding and_then
bind_same (Ok x) f g h = h x
bind_same (Err e) f g h = refl

pub bind_bind : {A B C : Type 0} (r : Result A ReadRefusal) (f : A → Result B ReadRefusal) (g : B → Result C ReadRefusal) → ((r >>= f) >>= g) ≡ (r >>= λ x. f x >>= g)
unfolding and_then
bind_bind (Ok x) f g = refl
bind_bind (Err e) f g = refl

pub bind_end : {A B : Type 0} (x : A) (f : A → Result B ReadRefusal) → (Ok x >>= f) ≡ f x
unfolding and_then
bind_end x f = refl

pub three_is : {A B C X : Type 0} (of : A → B → C → X) (a : ReadWords A) (b : ReadWords B) (c : ReadWords C) (at : WordsAhead) → both (of_pair of) a (both pair_up b c) at ≡ three of a b c at
three_is of a b c at =
    bind_same (a at) _ _ (λ x. bind_bind (b x.1) _ _ ∙ bind_same (b x.1) _ _ (λ y. bind_bind (c y.1) _ _ ∙ bind_same (c y.1) _ _ (λ z. bind_end ((y.0, z.0), z.1) _)))

-- what is read, and a word after it
abbrev pub closed : {A : Type 0} → TokenKind → ReadWords A → ReadWords A
closed k read = both (λ x w. x) read (next_word k)
