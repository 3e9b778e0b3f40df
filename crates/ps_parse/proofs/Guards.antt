-- The laws of reading, in steps. What is read is the tree of a text, and that text is the only one of the grammar that its
-- words and the next one begin. Where a reading is refused, some text begins with the words before that place, and none does
-- with the next one too.
use Rattle.std.proofs.Common.{◌≡◌, ℕ, ◌<◌, Bool, true, false, List, [], ◌∷◌, ◌++◌, length, drop, Result, Ok, Err, refl, sym, ap, subst, ◌∙◌, arith}
use Rattle.std.specs.Prelude.{if◌then◌else◌}
use Rattle.std.proofs.lemmas.Bool.{true≢false}
use Rattle.std.proofs.lemmas.List.{map-append}
use Rattle.ps_token.specs.declared.place.Place.{Place}
use Rattle.ps_token.specs.declared.token_kind.TokenKind.{TokenKind}
use Rattle.ps_token.specs.declared.token_kind.TokenKind.TheVariants as kind
use Rattle.ps_parse.specs.declared.read_refusal.ReadRefusal.{ReadRefusal}
use Rattle.ps_parse.specs.declared.read_refusal.ReadRefusal.TheVariants.{Grammar}
use Rattle.ps_grammar.specs.Words.{Word}
use Rattle.ps_parse.specs.Inner.Reading.{WordsAhead, ReadWords, word_from, next_word}
use Rattle.ps_parse.specs.Kinds.{is_kind, place_of_next}
use Rattle.ps_lines.specs.Steps.{and_then, ◌>>=◌}
use Rattle.ps_grammar.specs.Spelling.{Piece, NamePiece, NumberPiece, Mark, piece_of_kind, pieces}
use Rattle.ps_parse.specs.Reads.{BeginAlike}
use Rattle.ps_parse.proofs.Steps.{places, Takes, takes_places, Finds, found_more, Gets, one_kind, same_kind, kind_of, kind_of_piece, Always, Alike, IsTest, IsMark}

-- ---- answers

abbrev KeepsOf : {A : Type 0} → Result A ReadRefusal → (A → Type 0) → (ReadRefusal → Type 0) → Type 0
KeepsOf (Ok x) Q R = Q x
KeepsOf (Err e) Q R = R e

-- what holds of what it is, or of the refusal that it is
pub record Keeps {A : Type 0} (r : Result A ReadRefusal) (Q : A → Type 0) (R : ReadRefusal → Type 0) : Type 0 where
  pub is : KeepsOf r Q R

pub keeps_bind : {A B : Type 0} (r : Result A ReadRefusal) (f : A → Result B ReadRefusal) (Q : A → Type 0) (R : ReadRefusal → Type 0) (Q' : B → Type 0) (R' : ReadRefusal → Type 0)
    → Keeps r Q R → ((x : A) → Q x → Keeps (f x) Q' R') → ((e : ReadRefusal) → R e → R' e) → Keeps (r >>= f) Q' R'
unfolding and_then
keeps_bind (Ok x) f Q R Q' R' h k m = k x h.is
keeps_bind (Err e) f Q R Q' R' h k m = record { is = m e h.is }

pub keeps_end : {A : Type 0} (y : A) (Q : A → Type 0) (R : ReadRefusal → Type 0) → Q y → Keeps (Ok y) Q R
keeps_end y Q R h = record { is = h }

pub keeps_more : {A : Type 0} (r : Result A ReadRefusal) (Q : A → Type 0) (R : ReadRefusal → Type 0) (Q' : A → Type 0) (R' : ReadRefusal → Type 0) → Keeps r Q R → ((x : A) → Q x → Q' x) → ((e : ReadRefusal) → R e → R' e) → Keeps r Q' R'
keeps_more (Ok x) Q R Q' R' h k m = record { is = k x h.is }
keeps_more (Err e) Q R Q' R' h k m = record { is = m e h.is }

-- ---- beginnings

pub alike_itself : (ws : List Word) → BeginAlike ws ws
alike_itself [] = tt
alike_itself (w ∷ ws) = refl

pub alike_pieces : (ws vs : List Word) → BeginAlike ws vs → Alike (pieces ws) (pieces vs)
alike_pieces [] [] h = tt
alike_pieces [] (v ∷ vs) h = h
alike_pieces (w ∷ ws) [] h = h
alike_pieces (w ∷ ws) (v ∷ vs) h = h

alike_after : (front ps qs : List Piece) → Alike ps qs → Alike (front ++ ps) (front ++ qs)
alike_after [] ps qs h = h
alike_after (p ∷ front) ps qs h = refl

pub none_alike : (ps : List Piece) (q : Piece) (qs : List Piece) → Alike [] ps → ps ≡ q ∷ qs → ⊥
none_alike [] q qs h e = absurd cc
none_alike (p ∷ ps) q qs h e = h

pub first_alike : (p : Piece) (ps rs : List Piece) (q : Piece) (qs : List Piece) → Alike (p ∷ ps) rs → rs ≡ q ∷ qs → p ≡ q
first_alike p ps [] q qs h e = absurd h
first_alike p ps (r ∷ rs) q qs h e = h ∙ cc

pub pieces_both : (a b : List Word) → pieces (a ++ b) ≡ pieces a ++ pieces b
pieces_both a b = map-append (λ (w : Word). piece_of_kind w.kind w.text) a b

pub pieces_are : (a b : List Word) (ps qs : List Piece) → pieces a ≡ ps → pieces b ≡ qs → pieces (a ++ b) ≡ ps ++ qs
pieces_are a b ps qs p q = pieces_both a b ∙ ap (λ (xs : List Piece). xs ++ pieces b) p ∙ ap (λ (xs : List Piece). ps ++ xs) q

-- what follows a front goes on alike
pub alike_next : (ws front rest : List Word) (ps : List Piece) → ws ≡ front ++ rest → Alike (pieces rest) ps → Alike (pieces ws) (pieces front ++ ps)
alike_next ws front rest ps e h = subst (λ (qs : List Piece). Alike qs (pieces front ++ ps)) (sym (ap pieces e ∙ pieces_both front rest)) (alike_after (pieces front) (pieces rest) ps h)

-- the test tells how pieces begin that begin with the words of a front and go on alike
pub told : {goes : WordsAhead → Bool} {begins : List Piece → Bool} → IsTest goes begins → (at : WordsAhead) (front rest : List Word) (ps qs : List Piece) → at.words ≡ front ++ rest → Alike (pieces rest) ps → pieces front ++ ps ≡ qs → goes at ≡ begins qs
told {begins = begins} test at front rest ps qs split alike e = test.is at ∙ test.same _ _ (alike_next at.words front rest ps split alike) ∙ ap begins e

-- ---- the laws

-- anything may follow a text
abbrev pub Any : {C : Type 0} → C → List Piece → Type 0
Any c ps = Unit {0}

-- what may follow doesn't rest on the text
abbrev pub Then : {C : Type 0} → (List Piece → Type 0) → C → List Piece → Type 0
Then F c ps = F ps

-- What was read is spelled so, and any text that begins with these words, where they go on alike, is that one.
pub record Went {C : Type 0} (spell : C → List Piece) (okay : C → Type 0) (follows : C → List Piece → Type 0) (at after : WordsAhead) : Type 0 where
  pub text : C
  pub fine : okay text
  pub front : List Word
  pub split : at.words ≡ front ++ after.words
  pub ends : after.end ≡ at.end
  pub spelled : pieces front ≡ spell text
  pub only : (c : C) (ps tail : List Piece) → okay c → follows c tail → Alike (pieces after.words) ps → pieces front ++ ps ≡ spell c ++ tail → (c ≡ text) × (ps ≡ tail)

-- Where a refusal stands, the words before it go on as some text, and no text begins with them and goes on alike.
pub record Stood {C : Type 0} (spell : C → List Piece) (okay : C → Type 0) (follows : C → List Piece → Type 0) (at : WordsAhead) (refused : ReadRefusal) : Type 0 where
  pub text : C
  pub fine : okay text
  pub front : List Word
  pub rest : List Word
  pub more : List Word
  pub split : at.words ≡ front ++ rest
  pub fault : refused ≡ Grammar (place_of_next rest at.end)
  pub spelled : pieces (front ++ more) ≡ spell text
  pub none : (c : C) (ps tail : List Piece) → okay c → follows c tail → Alike (pieces rest) ps → pieces front ++ ps ≡ spell c ++ tail → ⊥

-- The value is the tree of what was read.
pub record Made {C A : Type 0} (spell : C → List Piece) (okay : C → Type 0) (tree : C → List Place → A) (follows : C → List Piece → Type 0) (at : WordsAhead) (y : A × WordsAhead) : Type 0 where
  pub went : Went spell okay follows at y.1
  pub is : y.0 ≡ tree went.text (places at.words)

-- The law of a reading function, where fewer words are left than this number.
pub record Guards {C A : Type 0} (n : ℕ) (read : ReadWords A) (spell : C → List Piece) (okay : C → Type 0) (tree : C → List Place → A) (follows : C → List Piece → Type 0) : Type 0 where
  pub stuck : (at : WordsAhead) → length at.words < n → Keeps (read at) (Made spell okay tree follows at) (Stood spell okay follows at)

-- no words are fewer than none
pub none_guards : {C A : Type 0} (read : ReadWords A) (spell : C → List Piece) (okay : C → Type 0) (tree : C → List Place → A) (follows : C → List Piece → Type 0) → Guards 0 read spell okay tree follows
none_guards read spell okay tree follows = record { stuck = λ at room. absurd (omega (arith, room)) }

-- the places of the words that are left
pub went_places : {C : Type 0} {spell : C → List Piece} {okay : C → Type 0} {follows : C → List Piece → Type 0} {at after : WordsAhead} (w : Went spell okay follows at after) → places after.words ≡ drop (length (spell w.text)) (places at.words)
went_places w = takes_places (record { front = w.front; split = w.split; spelled = w.spelled })

-- the same of texts of another sort
abbrev pub went_as : {C D : Type 0} {spell : C → List Piece} {okay : C → Type 0} {follows : C → List Piece → Type 0} {at after : WordsAhead} (spell' : D → List Piece) (okay' : D → Type 0) (follows' : D → List Piece → Type 0)
    (f : C → D) → ((c : C) → spell c ≡ spell' (f c)) → ((c : C) → okay c → okay' (f c)) → (p : Went spell okay follows at after)
    → ((d : D) (ps tail : List Piece) → okay' d → follows' d tail → Alike (pieces after.words) ps → pieces p.front ++ ps ≡ spell' d ++ tail → (d ≡ f p.text) × (ps ≡ tail)) → Went spell' okay' follows' at after
went_as spell' okay' follows' f spelled fine p only = record { text = f p.text; fine = fine p.text p.fine; front = p.front; split = p.split; ends = p.ends; spelled = p.spelled ∙ spelled p.text; only = only }

pub stood_as : {C D : Type 0} {spell : C → List Piece} {okay : C → Type 0} {follows : C → List Piece → Type 0} {at : WordsAhead} {e : ReadRefusal} (spell' : D → List Piece) (okay' : D → Type 0) (follows' : D → List Piece → Type 0)
    (f : C → D) → ((c : C) → spell c ≡ spell' (f c)) → ((c : C) → okay c → okay' (f c)) → (q : Stood spell okay follows at e)
    → ((d : D) (ps tail : List Piece) → okay' d → follows' d tail → Alike (pieces q.rest) ps → pieces q.front ++ ps ≡ spell' d ++ tail → ⊥) → Stood spell' okay' follows' at e
stood_as spell' okay' follows' f spelled fine q none = record {
  text = f q.text;
  fine = fine q.text q.fine;
  front = q.front;
  rest = q.rest;
  more = q.more;
  split = q.split;
  fault = q.fault;
  spelled = q.spelled ∙ spelled q.text;
  none = none;
}

-- ---- what the law says of a text that the words begin with

-- a step that keeps something found it
pub keeps_finds : {A : Type 0} (r : Result A ReadRefusal) (Q : A → Type 0) (R : ReadRefusal → Type 0) → Keeps r Q R → Finds r Q
keeps_finds (Ok x) Q R h = record { is = h.is }
keeps_finds (Err e) Q R h = record { is = tt }

alike_same : (ps : List Piece) → Alike ps ps
alike_same [] = tt
alike_same (p ∷ ps) = refl

-- a text that the words begin with is the one that was read
pub went_again : {C : Type 0} {spell : C → List Piece} {okay : C → Type 0} {follows : C → List Piece → Type 0} {at after : WordsAhead} (w : Went spell okay follows at after) (c : C) (rest : List Piece) → okay c → follows c rest → pieces at.words ≡ spell c ++ rest → (c ≡ w.text) × (pieces after.words ≡ rest)
went_again {after = after} w c rest fine stop e = w.only c (pieces after.words) rest fine stop (alike_same (pieces after.words)) (sym (pieces_both w.front after.words) ∙ sym (ap pieces w.split) ∙ e)

-- the words begin with no text where they are refused
pub stood_never : {C : Type 0} {spell : C → List Piece} {okay : C → Type 0} {follows : C → List Piece → Type 0} {at : WordsAhead} {e : ReadRefusal} (s : Stood spell okay follows at e) (c : C) (rest : List Piece) → okay c → follows c rest → pieces at.words ≡ spell c ++ rest → ⊥
stood_never s c rest fine stop e = s.none c (pieces s.rest) rest fine stop (alike_same (pieces s.rest)) (sym (pieces_both s.front s.rest) ∙ sym (ap pieces s.split) ∙ e)

-- A text is read as its tree, where what follows may.
pub again_of : {C A : Type 0} {n : ℕ} {read : ReadWords A} {spell : C → List Piece} {okay : C → Type 0} {tree : C → List Place → A} {follows : C → List Piece → Type 0} → Guards n read spell okay tree follows
    → (at : WordsAhead) (c : C) (rest : List Piece) → length at.words < n → okay c → pieces at.words ≡ spell c ++ rest → follows c rest → Gets (read at) (λ y. (y.0 ≡ tree c (places at.words)) × (pieces y.1.words ≡ rest))
again_of {C = C} {A = A} {read = read} {spell = spell} {okay = okay} {tree = tree} {follows = follows} g at c rest room fine e stop = by_answer (read at) refl (g.stuck at room)
  where
    by_answer : (r : Result (A × WordsAhead) ReadRefusal) → read at ≡ r → Keeps r (Made spell okay tree follows at) (Stood spell okay follows at) → Gets (read at) (λ y. (y.0 ≡ tree c (places at.words)) × (pieces y.1.words ≡ rest))
    by_answer (Ok y) same k =
        let m : Made spell okay tree follows at y = k.is in
        let one : (c ≡ m.went.text) × (pieces y.1.words ≡ rest) = went_again m.went c rest fine stop e in
        record { value = y; ok = same; is = (m.is ∙ ap (λ (d : C). tree d (places at.words)) (sym one.0), one.1) }
    by_answer (Err r) same k = absurd (stood_never k.is c rest fine stop e)

-- what was read, if something was
pub found_of : {C A : Type 0} {n : ℕ} {read : ReadWords A} {spell : C → List Piece} {okay : C → Type 0} {tree : C → List Place → A} {follows : C → List Piece → Type 0} → Guards n read spell okay tree follows
    → (at : WordsAhead) → length at.words < n → Finds (read at) (Made spell okay tree follows at)
found_of g at room = keeps_finds _ _ _ (g.stuck at room)

pub took : {C : Type 0} {spell : C → List Piece} {okay : C → Type 0} {follows : C → List Piece → Type 0} {at after : WordsAhead} (w : Went spell okay follows at after) → Takes at.words (spell w.text) after.words
took w = record { front = w.front; split = w.split; spelled = w.spelled }

-- ---- examples

-- some text, and words that spell it
pub record Example {C : Type 0} (spell : C → List Piece) (okay : C → Type 0) : Type 0 where
  pub text : C
  pub fine : okay text
  pub words : List Word
  pub spelled : pieces words ≡ spell text

abbrev word_of : TokenKind → List ℕ → Word
word_of k text = record { kind = k; text = text; place = record { line = 0; column = 0 } }

abbrev spelling_word : Piece → Word
spelling_word (NamePiece text) = word_of kind.Name text
spelling_word (NumberPiece text) = word_of kind.Number text
spelling_word (Mark k) = word_of k []

abbrev spelling_words : List Piece → List Word
spelling_words [] = []
spelling_words (p ∷ ps) = spelling_word p ∷ spelling_words ps

-- the text, and words of its pieces
abbrev pub example_of : {C : Type 0} {spell : C → List Piece} {okay : C → Type 0} (c : C) → okay c → pieces (spelling_words (spell c)) ≡ spell c → Example spell okay
example_of {spell = spell} c fine e = record { text = c; fine = fine; words = spelling_words (spell c); spelled = e }

-- a fault at the next word
pub stood_here : {C : Type 0} {spell : C → List Piece} {okay : C → Type 0} {follows : C → List Piece → Type 0} (at : WordsAhead) (e : ReadRefusal) → Example spell okay → e ≡ Grammar (place_of_next at.words at.end)
    → ((c : C) (ps tail : List Piece) → okay c → follows c tail → Alike (pieces at.words) ps → ps ≡ spell c ++ tail → ⊥) → Stood spell okay follows at e
stood_here at e example fault none = record {
  text = example.text;
  fine = example.fine;
  front = [];
  rest = at.words;
  more = example.words;
  split = refl;
  fault = fault;
  spelled = example.spelled;
  none = none;
}

-- ---- words

-- Texts of one word: each has one piece, which tells it.
pub record IsSort {C : Type 0} (k : TokenKind) (piece : C → Piece) (of : List ℕ → C) : Type 0 where
  pub spelled : (t : List ℕ) → piece_of_kind k t ≡ piece (of t)
  pub kinds : (c : C) → kind_of (piece c) ≡ k
  pub one : (c d : C) → piece c ≡ piece d → c ≡ d

one_name : (x y : List ℕ) → NamePiece x ≡ NamePiece y → x ≡ y
one_name x y e = cc

one_number : (x y : List ℕ) → NumberPiece x ≡ NumberPiece y → x ≡ y
one_number x y e = cc

pub name_sort : IsSort kind.Name NamePiece (λ t. t)
name_sort = record { spelled = λ t. refl; kinds = λ x. refl; one = one_name }

pub number_sort : IsSort kind.Number NumberPiece (λ t. t)
number_sort = record { spelled = λ t. refl; kinds = λ x. refl; one = one_number }

pub mark_sort : (k : TokenKind) → IsMark k → IsSort k (λ (u : Unit {0}). Mark k) (λ t. tt)
mark_sort k marked = record { spelled = marked; kinds = λ u. refl; one = λ u v e. refl }

abbrev pub one_piece : {C : Type 0} → (C → Piece) → C → List Piece
one_piece piece c = piece c ∷ []

-- a word that was read, with its place
pub record IsWord {C : Type 0} (piece : C → Piece) (of : List ℕ → C) (at : WordsAhead) (y : Word × WordsAhead) : Type 0 where
  pub went : Went (one_piece piece) Always Any at y.1
  pub text : went.text ≡ of y.0.text
  pub place : place_of_next at.words at.end ≡ y.0.place

pub word_example : {C : Type 0} (k : TokenKind) (piece : C → Piece) (of : List ℕ → C) → IsSort k piece of → Example (one_piece piece) Always
word_example k piece of sort = record { text = of []; fine = tt; words = word_of k [] ∷ []; spelled = ap (λ (p : Piece). p ∷ []) (sort.spelled []) }

abbrev head_or : Piece → List Piece → Piece
head_or p [] = p
head_or p (q ∷ qs) = q

word_stuck : {C : Type 0} (k : TokenKind) (piece : C → Piece) (of : List ℕ → C) → IsSort k piece of → (ws : List Word) (end : Place)
    → Keeps (word_from k ws end) (IsWord piece of (record { words = ws; end = end })) (Stood (one_piece piece) Always Any (record { words = ws; end = end }))
word_stuck k piece of sort [] end = record { is = stood_here (record { words = []; end = end }) (Grammar end) (word_example k piece of sort) refl (λ c ps tail fine stop alike e. none_alike ps _ _ alike e) }
word_stuck k piece of sort (w ∷ ws) end = by_test (is_kind w.kind k) refl
  where
    by_test : (t : Bool) → is_kind w.kind k ≡ t
        → Keeps {A = Word × WordsAhead} (if t then Ok (w, record { words = ws; end = end }) else Err (Grammar w.place)) (IsWord piece of (record { words = w ∷ ws; end = end })) (Stood (one_piece piece) Always Any (record { words = w ∷ ws; end = end }))
    by_test true e =
        let here : piece_of_kind w.kind w.text ≡ piece (of w.text) = ap (λ (j : TokenKind). piece_of_kind j w.text) (one_kind w.kind k e) ∙ sort.spelled w.text in
        record {
          is = record {
            went = record {
              text = of w.text;
              fine = tt;
              front = w ∷ [];
              split = refl;
              ends = refl;
              spelled = ap (λ (p : Piece). p ∷ []) here;
              only = λ c ps tail fine stop alike same. (sort.one c (of w.text) (sym (ap (head_or (Mark k)) same) ∙ here), ap (λ (qs : List Piece). drop 1 qs) same);
            };
            text = refl;
            place = refl;
          };
        }
    by_test false e = record {
      is = stood_here (record { words = w ∷ ws; end = end }) (Grammar w.place) (word_example k piece of sort) refl (λ c ps tail fine stop alike same.
          let piece_is : piece_of_kind w.kind w.text ≡ piece c = first_alike _ (pieces ws) ps _ tail alike same in
          true≢false (sym (same_kind w.kind k (sym (kind_of_piece w.kind w.text) ∙ ap kind_of piece_is ∙ sort.kinds c)) ∙ e));
    }

pub word_law : {C : Type 0} (k : TokenKind) (piece : C → Piece) (of : List ℕ → C) → IsSort k piece of → (at : WordsAhead) → Keeps (next_word k at) (IsWord piece of at) (Stood (one_piece piece) Always Any at)
unfolding next_word
word_law k piece of sort at = word_stuck k piece of sort at.words at.end

-- a value of the word
pub word_guards : {C A : Type 0} (n : ℕ) (k : TokenKind) (piece : C → Piece) (of : List ℕ → C) → IsSort k piece of → (value : C → A) → Guards n (λ at. next_word k at >>= λ w. Ok (value (of w.0.text), w.1)) (one_piece piece) Always (λ c ps. value c) Any
word_guards n k piece of sort value = record {
  stuck = λ at room.
      keeps_bind _ _ _ _ _ _ (word_law k piece of sort at)
      (λ w p. keeps_end _ _ _ (record { went = p.went; is = ap value (sym p.text) }))
      (λ e q. q);
}

pub word_again : {C : Type 0} (k : TokenKind) (piece : C → Piece) (of : List ℕ → C) → IsSort k piece of → (at : WordsAhead) (c : C) (rest : List Piece) → pieces at.words ≡ piece c ∷ rest → Gets (next_word k at) (λ y. pieces y.1.words ≡ rest)
word_again k piece of sort at c rest e = by_answer (next_word k at) refl (word_law k piece of sort at)
  where
    by_answer : (r : Result (Word × WordsAhead) ReadRefusal) → next_word k at ≡ r → Keeps r (IsWord piece of at) (Stood (one_piece piece) Always Any at) → Gets (next_word k at) (λ y. pieces y.1.words ≡ rest)
    by_answer (Ok y) same h = record { value = y; ok = same; is = (went_again h.is.went c rest tt tt e).1 }
    by_answer (Err f) same h = absurd (stood_never h.is c rest tt tt e)

pub mark_again : (k : TokenKind) → IsMark k → (at : WordsAhead) (rest : List Piece) → pieces at.words ≡ Mark k ∷ rest → Gets (next_word k at) (λ y. pieces y.1.words ≡ rest)
mark_again k marked at rest e = word_again k (λ (u : Unit {0}). Mark k) (λ t. tt) (mark_sort k marked) at tt rest e

pub mark_found : (k : TokenKind) → IsMark k → (at : WordsAhead) → Finds (next_word k at) (λ y. Takes at.words (Mark k ∷ []) y.1.words)
mark_found k marked at = found_more _ _ _ (keeps_finds _ _ _ (word_law k (λ (u : Unit {0}). Mark k) (λ t. tt) (mark_sort k marked) at)) (λ y p. took p.went)
