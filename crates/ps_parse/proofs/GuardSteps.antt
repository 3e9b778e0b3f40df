-- The laws of what is read of several steps.
use Rattle.std.proofs.Common.{◌≡◌, ℕ, suc, ◌+◌, ◌<◌, ◌≤◌, Bool, true, false, ◌⊎◌, inl, inr, List, [], ◌∷◌, ◌++◌, length, drop, Ok, Err, refl, sym, ap, subst, ◌∙◌, arith, append_assoc, length-append}
use Rattle.std.specs.Prelude.{if◌then◌else◌}
use Rattle.std.proofs.lemmas.Bool.{true≢false}
use Rattle.std.proofs.lemmas.List.{length-map}
use Rattle.ps_token.specs.declared.place.Place.{Place}
use Rattle.ps_token.specs.declared.token_kind.TokenKind.{TokenKind}
use Rattle.ps_parse.specs.declared.read_refusal.ReadRefusal.{ReadRefusal}
use Rattle.ps_parse.specs.declared.read_refusal.ReadRefusal.TheVariants.{Grammar}
use Rattle.ps_grammar.specs.Words.{Word}
use Rattle.ps_parse.specs.Inner.Reading.{WordsAhead, ReadWords, next_is, place_at, next_word, after_word}
use Rattle.ps_parse.specs.Kinds.{place_of_next}
use Rattle.ps_lines.specs.Steps.{◌>>=◌}
use Rattle.ps_grammar.specs.Spelling.{Piece, Mark, piece_of_kind, pieces}
use Rattle.ps_parse.proofs.Steps.{places, begins_piece, Always, Alike, IsTest, next_test, mapped, both, closed, IsMark}
use Rattle.ps_parse.proofs.Guards.{Keeps, keeps_bind, keeps_end, keeps_more, alike_next, pieces_both, pieces_are, told, Any, Went, Stood, Made, Guards, went_places, went_as, stood_as, Example, stood_here, mark_sort, one_piece, word_example, word_law}

-- fewer words are left after a front
pub room_left : (n m : ℕ) (ws front vs : List Word) (ps : List Piece) → length ws < n → ws ≡ front ++ vs → pieces front ≡ ps → n ≤ length ps + m → length vs < m
room_left n m ws front vs ps h e k le =
    let l : length ws ≡ length front + length vs = ap (λ (xs : List Word). length xs) e ∙ length-append front vs in
    let f : length front ≡ length ps = sym (length-map front (λ (w : Word). piece_of_kind w.kind w.text)) ∙ ap (λ (xs : List Piece). length xs) k in
    omega (arith, h, l, f, le)

-- ---- the same function, and the same texts otherwise

pub guards_same : {C A : Type 0} {n : ℕ} {read : ReadWords A} {spell : C → List Piece} {okay : C → Type 0} {tree : C → List Place → A} {follows : C → List Piece → Type 0} (other : ReadWords A) → ((at : WordsAhead) → read at ≡ other at) → Guards n read spell okay tree follows → Guards n other spell okay tree follows
guards_same {spell = spell} {okay = okay} {tree = tree} {follows = follows} other e g = record { stuck = λ at room. subst (λ r. Keeps r (Made spell okay tree follows at) (Stood spell okay follows at)) (e at) (g.stuck at room) }

pub fewer_guards : {C A : Type 0} {n : ℕ} {read : ReadWords A} {spell : C → List Piece} {okay : C → Type 0} {tree : C → List Place → A} {follows : C → List Piece → Type 0} → Guards (suc n) read spell okay tree follows → Guards n read spell okay tree follows
fewer_guards g = record { stuck = λ at room. g.stuck at (omega (arith, room)) }

-- between two sorts of texts that are the same ones
pub record IsSame {C D A : Type 0} (spell : C → List Piece) (okay : C → Type 0) (tree : C → List Place → A) (follows : C → List Piece → Type 0)
    (spell' : D → List Piece) (okay' : D → Type 0) (tree' : D → List Place → A) (follows' : D → List Piece → Type 0) (f : C → D) (g : D → C) : Type 0 where
  pub back : (d : D) → f (g d) ≡ d
  pub spelled : (c : C) → spell c ≡ spell' (f c)
  pub fine : (c : C) → okay c → okay' (f c)
  pub unfine : (d : D) → okay' d → okay (g d)
  pub said : (c : C) (ps : List Place) → tree c ps ≡ tree' (f c) ps
  pub stops : (d : D) (rest : List Piece) → follows' d rest → follows (g d) rest

pub guards_as : {C D A : Type 0} {n : ℕ} {read : ReadWords A} {spell : C → List Piece} {okay : C → Type 0} {tree : C → List Place → A} {follows : C → List Piece → Type 0}
    {spell' : D → List Piece} {okay' : D → Type 0} {tree' : D → List Place → A} {follows' : D → List Piece → Type 0} (f : C → D) (g : D → C)
    → IsSame spell okay tree follows spell' okay' tree' follows' f g → Guards n read spell okay tree follows → Guards n read spell' okay' tree' follows'
guards_as {D = D} {spell = spell} {spell' = spell'} {okay' = okay'} {follows' = follows'} f g same guards = record {
  stuck = λ at room. keeps_more _ _ _ _ _ (guards.stuck at room)
      (λ y p. record {
        went = went_as spell' okay' follows' f same.spelled same.fine p.went (λ d ps tail ok stop alike e.
            let one : (g d ≡ p.went.text) × (ps ≡ tail) = p.went.only (g d) ps tail (same.unfine d ok) (same.stops d tail stop) alike (e ∙ respelled d tail) in
            (sym (same.back d) ∙ ap f one.0, one.1));
        is = p.is ∙ same.said p.went.text _;
      })
      (λ r q. stood_as spell' okay' follows' f same.spelled same.fine q (λ d ps tail ok stop alike e. q.none (g d) ps tail (same.unfine d ok) (same.stops d tail stop) alike (e ∙ respelled d tail)));
}
  where
    respelled : (d : D) (tail : List Piece) → spell' d ++ tail ≡ spell (g d) ++ tail
    respelled d tail = ap (λ (ps : List Piece). ps ++ tail) (ap spell' (sym (same.back d)) ∙ sym (same.spelled (g d)))

-- the same texts, of which less may be asked
pub guards_so : {C A : Type 0} {n : ℕ} {read : ReadWords A} {spell : C → List Piece} {okay : C → Type 0} {tree : C → List Place → A} {follows : C → List Piece → Type 0}
    (okay' : C → Type 0) (follows' : C → List Piece → Type 0) → ((c : C) → okay c → okay' c) → ((c : C) → okay' c → okay c) → ((c : C) (rest : List Piece) → follows' c rest → follows c rest)
    → Guards n read spell okay tree follows → Guards n read spell okay' tree follows'
guards_so okay' follows' fine unfine stops guards =
    guards_as (λ c. c) (λ c. c) (record { back = λ c. refl; spelled = λ c. refl; fine = fine; unfine = unfine; said = λ c ps. refl; stops = stops }) guards

-- a value of what was read
pub mapped_guards : {C A B : Type 0} {n : ℕ} {read : ReadWords A} {spell : C → List Piece} {okay : C → Type 0} {tree : C → List Place → A} {follows : C → List Piece → Type 0} (of : A → B) → Guards n read spell okay tree follows → Guards n (mapped of read) spell okay (λ c ps. of (tree c ps)) follows
mapped_guards of g = record { stuck = λ at room. keeps_bind _ _ _ _ _ _ (g.stuck at room) (λ y p. keeps_end _ _ _ (record { went = p.went; is = ap of p.is })) (λ e q. q) }

-- nothing is read
pub nothing_guards : {A : Type 0} (n : ℕ) (x : A) (follows : Unit {0} → List Piece → Type 0) → Guards n (λ at. Ok (x, at)) (λ (u : Unit {0}). []) Always (λ u ps. x) follows
nothing_guards n x follows = record { stuck = λ at room. keeps_end _ _ _ (record { went = record { text = tt; fine = tt; front = []; split = refl; ends = refl; spelled = refl; only = λ c ps tail fine stop alike e. (refl, e) }; is = refl }) }

-- ---- one and then another

pub parted : (a b : List Word) (ps qs rs tail : List Piece) → pieces (a ++ b) ++ ps ≡ (qs ++ rs) ++ tail → pieces a ++ (pieces b ++ ps) ≡ qs ++ (rs ++ tail)
parted a b ps qs rs tail e = sym (append_assoc (pieces a) (pieces b) ps) ∙ ap (λ (xs : List Piece). xs ++ ps) (sym (pieces_both a b)) ∙ e ∙ append_assoc qs rs tail

abbrev pub pair_pieces : {C D : Type 0} → (C → List Piece) → (D → List Piece) → C × D → List Piece
pair_pieces spell spell' c = spell c.0 ++ spell' c.1

abbrev pub Both : {C D : Type 0} → (C → Type 0) → (D → Type 0) → C × D → Type 0
Both P Q c = P c.0 × Q c.1

abbrev pub pair_tree : {C D A B X : Type 0} → (A → B → X) → (C → List Piece) → (C → List Place → A) → (D → List Place → B) → C × D → List Place → X
pair_tree of spell tree tree' c ps = of (tree c.0 ps) (tree' c.1 (drop (length (spell c.0)) ps))

-- what may follow two texts may follow the second, and the second with that the first
pub record Joins {C D : Type 0} (spell' : D → List Piece) (follows : C → List Piece → Type 0) (follows' : D → List Piece → Type 0) (follows'' : C × D → List Piece → Type 0) : Type 0 where
  pub first : (c : C × D) (rest : List Piece) → follows'' c rest → follows c.0 (spell' c.1 ++ rest)
  pub second : (c : C × D) (rest : List Piece) → follows'' c rest → follows' c.1 rest

-- anything may follow the first
pub any_joins : {C D : Type 0} {spell' : D → List Piece} {follows' : D → List Piece → Type 0} → Joins {C = C} spell' Any follows' (λ c. follows' c.1)
any_joins = record { first = λ c rest h. tt; second = λ c rest h. h }

pub pair_is : {C D : Type 0} (c : C × D) (x : C) (y : D) → c.0 ≡ x → c.1 ≡ y → c ≡ (x, y)
pair_is (a, b) x y e f = ap (λ z. (z, b)) e ∙ ap (λ z. (x, z)) f

abbrev pub went_then : {C D : Type 0} {spell : C → List Piece} {spell' : D → List Piece} {okay : C → Type 0} {okay' : D → Type 0} {follows : C → List Piece → Type 0} {follows' : D → List Piece → Type 0} {follows'' : C × D → List Piece → Type 0} {at mid after : WordsAhead}
    → Joins spell' follows follows' follows'' → Went spell okay follows at mid → Went spell' okay' follows' mid after → Went (pair_pieces spell spell') (Both okay okay') follows'' at after
went_then {spell = spell} {spell' = spell'} {mid = mid} {after = after} joins p q = record {
  text = (p.text, q.text);
  fine = (p.fine, q.fine);
  front = p.front ++ q.front;
  split = p.split ∙ ap (λ (ws : List Word). p.front ++ ws) q.split ∙ sym (append_assoc p.front q.front after.words);
  ends = q.ends ∙ p.ends;
  spelled = pieces_are p.front q.front (spell p.text) (spell' q.text) p.spelled q.spelled;
  only = λ c ps tail fine stop alike e.
      let one : (c.0 ≡ p.text) × (pieces q.front ++ ps ≡ spell' c.1 ++ tail) =
      p.only c.0 (pieces q.front ++ ps) (spell' c.1 ++ tail) fine.0 (joins.first c tail stop) (alike_next mid.words q.front after.words ps q.split alike) (parted p.front q.front ps (spell c.0) (spell' c.1) tail e) in
      let two : (c.1 ≡ q.text) × (ps ≡ tail) = q.only c.1 ps tail fine.1 (joins.second c tail stop) alike one.1 in
      (pair_is c p.text q.text one.0 two.0, two.1);
}

-- a refusal in the second
pub stood_then : {C D : Type 0} {spell : C → List Piece} {spell' : D → List Piece} {okay : C → Type 0} {okay' : D → Type 0} {follows : C → List Piece → Type 0} {follows' : D → List Piece → Type 0} {follows'' : C × D → List Piece → Type 0} {at mid : WordsAhead} {e : ReadRefusal}
    → Joins spell' follows follows' follows'' → (p : Went spell okay follows at mid) → Stood spell' okay' follows' mid e → Stood (pair_pieces spell spell') (Both okay okay') follows'' at e
stood_then {spell = spell} {spell' = spell'} {mid = mid} joins p q = record {
  text = (p.text, q.text);
  fine = (p.fine, q.fine);
  front = p.front ++ q.front;
  rest = q.rest;
  more = q.more;
  split = p.split ∙ ap (λ (ws : List Word). p.front ++ ws) q.split ∙ sym (append_assoc p.front q.front q.rest);
  fault = q.fault ∙ ap (λ (o : Place). Grammar (place_of_next q.rest o)) p.ends;
  spelled = ap pieces (append_assoc p.front q.front q.more) ∙ pieces_are p.front (q.front ++ q.more) (spell p.text) (spell' q.text) p.spelled q.spelled;
  none = λ c ps tail fine stop alike h.
      let one : (c.0 ≡ p.text) × (pieces q.front ++ ps ≡ spell' c.1 ++ tail) =
      p.only c.0 (pieces q.front ++ ps) (spell' c.1 ++ tail) fine.0 (joins.first c tail stop) (alike_next mid.words q.front q.rest ps q.split alike) (parted p.front q.front ps (spell c.0) (spell' c.1) tail h) in
      q.none c.1 ps tail fine.1 (joins.second c tail stop) alike one.1;
}

-- a refusal in the first, where the second may be any
pub stood_first : {C D : Type 0} {spell : C → List Piece} {spell' : D → List Piece} {okay : C → Type 0} {okay' : D → Type 0} {follows : C → List Piece → Type 0} {follows' : D → List Piece → Type 0} {follows'' : C × D → List Piece → Type 0} {at : WordsAhead} {e : ReadRefusal}
    → Joins spell' follows follows' follows'' → Example spell' okay' → Stood spell okay follows at e → Stood (pair_pieces spell spell') (Both okay okay') follows'' at e
stood_first {spell = spell} {spell' = spell'} joins example q = record {
  text = (q.text, example.text);
  fine = (q.fine, example.fine);
  front = q.front;
  rest = q.rest;
  more = q.more ++ example.words;
  split = q.split;
  fault = q.fault;
  spelled = ap pieces (sym (append_assoc q.front q.more example.words)) ∙ pieces_are (q.front ++ q.more) example.words (spell q.text) (spell' example.text) q.spelled example.spelled;
  none = λ c ps tail fine stop alike e. q.none c.0 ps (spell' c.1 ++ tail) fine.0 (joins.first c tail stop) alike (e ∙ append_assoc (spell c.0) (spell' c.1) tail);
}

pub both_guards_more : {C D A B X : Type 0} {n m : ℕ} {one : ReadWords A} {two : ReadWords B} {spell : C → List Piece} {spell' : D → List Piece} {okay : C → Type 0} {okay' : D → Type 0} {tree : C → List Place → A} {tree' : D → List Place → B}
    {follows : C → List Piece → Type 0} {follows' : D → List Piece → Type 0} {follows'' : C × D → List Piece → Type 0} (of : A → B → X) → Joins spell' follows follows' follows'' → ((c : C) → n ≤ length (spell c) + m) → Example spell' okay'
    → Guards n one spell okay tree follows → Guards m two spell' okay' tree' follows' → Guards n (both of one two) (pair_pieces spell spell') (Both okay okay') (pair_tree of spell tree tree') follows''
both_guards_more {n = n} {m = m} {spell = spell} {tree = tree} {tree' = tree'} of joins short example g g' = record {
  stuck = λ at room.
      keeps_bind _ _ _ _ _ _ (g.stuck at room)
      (λ x p. keeps_bind _ _ _ _ _ _ (g'.stuck x.1 (room_left n m at.words p.went.front x.1.words (spell p.went.text) room p.went.split p.went.spelled (short p.went.text)))
      (λ y q. keeps_end _ _ _ (record {
        went = went_then joins p.went q.went;
        is = ap (λ a. of a y.0) p.is ∙ ap (of (tree p.went.text (places at.words))) (q.is ∙ ap (tree' q.went.text) (went_places p.went));
      }))
      (λ e q. stood_then joins p.went q))
      (λ e q. stood_first joins example q);
}

pub both_guards : {C D A B X : Type 0} {n : ℕ} {one : ReadWords A} {two : ReadWords B} {spell : C → List Piece} {spell' : D → List Piece} {okay : C → Type 0} {okay' : D → Type 0} {tree : C → List Place → A} {tree' : D → List Place → B}
    {follows : C → List Piece → Type 0} {follows' : D → List Piece → Type 0} {follows'' : C × D → List Piece → Type 0} (of : A → B → X) → Joins spell' follows follows' follows'' → Example spell' okay'
    → Guards n one spell okay tree follows → Guards n two spell' okay' tree' follows' → Guards n (both of one two) (pair_pieces spell spell') (Both okay okay') (pair_tree of spell tree tree') follows''
both_guards of joins example g g' = both_guards_more of joins (λ c. omega arith) example g g'

-- ---- a word, and then what is read

abbrev pub mark_pieces : TokenKind → Unit {0} → List Piece
mark_pieces k = one_piece (λ (u : Unit {0}). Mark k)

marked_went : {C : Type 0} {spell : C → List Piece} {okay : C → Type 0} {follows : C → List Piece → Type 0} {at mid after : WordsAhead} (k : TokenKind) → Went (mark_pieces k) Always Any at mid → Went spell okay follows mid after → Went (λ c. Mark k ∷ spell c) okay follows at after
marked_went {spell = spell} {okay = okay} {follows = follows} k p q =
    let r : Went (pair_pieces (mark_pieces k) spell) (Both Always okay) (λ c. follows c.1) _ _ = went_then any_joins p q in
    went_as (λ c. Mark k ∷ spell c) okay follows (λ c. c.1) (λ c. refl) (λ c h. h.1) r (λ d ps tail ok stop alike e.
    let one : ((tt, d) ≡ r.text) × (ps ≡ tail) = r.only (tt, d) ps tail (tt, ok) stop alike e in
    (ap (λ c. c.1) one.0, one.1))

marked_stood : {C : Type 0} {spell : C → List Piece} {okay : C → Type 0} {follows : C → List Piece → Type 0} {at : WordsAhead} {e : ReadRefusal} (k : TokenKind) → Stood (pair_pieces (mark_pieces k) spell) (Both Always okay) (λ c. follows c.1) at e → Stood (λ c. Mark k ∷ spell c) okay follows at e
marked_stood {spell = spell} {okay = okay} {follows = follows} k q = stood_as (λ c. Mark k ∷ spell c) okay follows (λ c. c.1) (λ c. refl) (λ c h. h.1) q (λ d ps tail ok stop alike h. q.none (tt, d) ps tail (tt, ok) stop alike h)

pub after_guards_more : {C A : Type 0} {n : ℕ} {read : ReadWords A} {spell : C → List Piece} {okay : C → Type 0} {tree : C → List Place → A} {follows : C → List Piece → Type 0} (k : TokenKind) → IsMark k → Example spell okay → Guards n read spell okay tree follows
    → Guards (suc n) (after_word k read) (λ c. Mark k ∷ spell c) okay (λ c ps. tree c (drop 1 ps)) follows
unfolding after_word marked_went
after_guards_more {C = C} {n = n} {tree = tree} k marked example g = record {
  stuck = λ at room.
      keeps_bind _ _ _ _ _ _ (word_law k (λ (u : Unit {0}). Mark k) (λ t. tt) (mark_sort k marked) at)
      (λ w p. keeps_more _ _ _ _ _ (g.stuck w.1 (room_left (suc n) n at.words p.went.front w.1.words (Mark k ∷ []) room p.went.split p.went.spelled (omega arith)))
      (λ y q. record { went = marked_went k p.went q.went; is = q.is ∙ ap (tree q.went.text) (went_places p.went) })
      (λ e q. marked_stood k (stood_then any_joins p.went q)))
      (λ e q. marked_stood k (stood_first any_joins example q));
}

pub after_guards : {C A : Type 0} {n : ℕ} {read : ReadWords A} {spell : C → List Piece} {okay : C → Type 0} {tree : C → List Place → A} {follows : C → List Piece → Type 0} (k : TokenKind) → IsMark k → Example spell okay → Guards n read spell okay tree follows
    → Guards n (after_word k read) (λ c. Mark k ∷ spell c) okay (λ c ps. tree c (drop 1 ps)) follows
after_guards k marked example g = fewer_guards (after_guards_more k marked example g)

-- a word alone, and a value of it
pub alone_guards : {A : Type 0} (n : ℕ) (k : TokenKind) → IsMark k → (x : A) → Guards n (λ at. next_word k at >>= λ w. Ok (x, w.1)) (mark_pieces k) Always (λ u ps. x) Any
alone_guards n k marked x = record {
  stuck = λ at room.
      keeps_bind _ _ _ _ _ _ (word_law k (λ (u : Unit {0}). Mark k) (λ t. tt) (mark_sort k marked) at)
      (λ w p. keeps_end _ _ _ (record { went = p.went; is = refl }))
      (λ e q. q);
}

pub closed_guards : {C A : Type 0} {n : ℕ} {read : ReadWords A} {spell : C → List Piece} {okay : C → Type 0} {tree : C → List Place → A} {follows : C → List Piece → Type 0} (k : TokenKind) → IsMark k → ((c : C) (rest : List Piece) → follows c (Mark k ∷ rest)) → Guards n read spell okay tree follows
    → Guards n (closed k read) (λ c. spell c ++ Mark k ∷ []) okay tree Any
closed_guards {C = C} {n = n} {spell = spell} {okay = okay} {tree = tree} {follows = follows} k marked ends g = record {
  stuck = λ at room.
      keeps_bind _ _ _ _ _ _ (g.stuck at room)
      (λ x p. keeps_bind _ _ _ _ _ _ (word_law k (λ (u : Unit {0}). Mark k) (λ t. tt) (mark_sort k marked) x.1)
      (λ w q. keeps_end _ _ _ (record { went = went (went_then joins p.went q.went); is = p.is }))
      (λ e q. stood (stood_then joins p.went q)))
      (λ e q. stood (stood_first joins (word_example k (λ (u : Unit {0}). Mark k) (λ t. tt) (mark_sort k marked)) q));
}
  where
    joins : Joins {C = C} (mark_pieces k) follows Any Any
    joins = record { first = λ c rest h. ends c.0 rest; second = λ c rest h. tt }

    went : {at after : WordsAhead} → Went (pair_pieces spell (mark_pieces k)) (Both okay Always) Any at after → Went (λ c. spell c ++ Mark k ∷ []) okay Any at after
    went r = went_as _ okay Any (λ c. c.0) (λ c. refl) (λ c h. h.0) r (λ d ps tail ok stop alike e.
        let one : ((d, tt) ≡ r.text) × (ps ≡ tail) = r.only (d, tt) ps tail (ok, tt) tt alike e in
        (ap (λ c. c.0) one.0, one.1))

    stood : {at : WordsAhead} {e : ReadRefusal} → Stood (pair_pieces spell (mark_pieces k)) (Both okay Always) Any at e → Stood (λ c. spell c ++ Mark k ∷ []) okay Any at e
    stood r = stood_as _ okay Any (λ c. c.0) (λ c. refl) (λ c h. h.0) r (λ d ps tail ok stop alike h. r.none (d, tt) ps tail (ok, tt) tt alike h)

-- ---- a test of the next word

-- The text is of this sort, and its pieces tell the test.
pub record OfSort {C E : Type 0} (begins : List Piece → Bool) (t : Bool) (spell : E → List Piece) (follows : E → List Piece → Type 0) (f : C → E) (okay : C → Type 0) (e : E) : Type 0 where
  pub text : C
  pub same : f text ≡ e
  pub fine : okay text
  pub tells : (rest : List Piece) → follows e rest → begins (spell e ++ rest) ≡ t

-- one sort of texts is read where the test passes
sort_went : {C E : Type 0} {begins : List Piece → Bool} {t : Bool} {okay : C → Type 0} {follows : C → List Piece → Type 0} {at after : WordsAhead} (spell'' : E → List Piece) (follows'' : E → List Piece → Type 0) (f : C → E) → ((c : C) (rest : List Piece) → follows'' (f c) rest → follows c rest)
    → (p : Went (λ c. spell'' (f c)) okay follows at after) (c : E) (ps tail : List Piece) → OfSort begins t spell'' follows'' f okay c → follows'' c tail → Alike (pieces after.words) ps → pieces p.front ++ ps ≡ spell'' c ++ tail → (c ≡ f p.text) × (ps ≡ tail)
sort_went spell'' follows'' f stops p c ps tail s stop alike h =
    let one : (s.text ≡ p.text) × (ps ≡ tail) = p.only s.text ps tail s.fine (stops s.text tail (subst (λ e. follows'' e tail) (sym s.same) stop)) alike (h ∙ ap (λ e. spell'' e ++ tail) (sym s.same)) in
    (sym s.same ∙ ap f one.0, one.1)

sort_none : {C E : Type 0} {begins : List Piece → Bool} {t : Bool} {okay : C → Type 0} {follows : C → List Piece → Type 0} {at : WordsAhead} {e : ReadRefusal} (spell'' : E → List Piece) (follows'' : E → List Piece → Type 0) (f : C → E) → ((c : C) (rest : List Piece) → follows'' (f c) rest → follows c rest)
    → (q : Stood (λ c. spell'' (f c)) okay follows at e) (c : E) (ps tail : List Piece) → OfSort begins t spell'' follows'' f okay c → follows'' c tail → Alike (pieces q.rest) ps → pieces q.front ++ ps ≡ spell'' c ++ tail → ⊥
sort_none spell'' follows'' f stops q c ps tail s stop alike h =
    q.none s.text ps tail s.fine (stops s.text tail (subst (λ e. follows'' e tail) (sym s.same) stop)) alike (h ∙ ap (λ e. spell'' e ++ tail) (sym s.same))

-- a choice by a test
pub choice_guards : {C D E A : Type 0} {n : ℕ} {one two : ReadWords A} {okay : C → Type 0} {okay' : D → Type 0} {follows : C → List Piece → Type 0} {follows' : D → List Piece → Type 0} {goes : WordsAhead → Bool} {begins : List Piece → Bool}
    (spell'' : E → List Piece) (okay'' : E → Type 0) (tree'' : E → List Place → A) (follows'' : E → List Piece → Type 0) → IsTest goes begins
    → (f : C → E) → ((c : C) → okay c → okay'' (f c)) → (g : D → E) → ((d : D) → okay' d → okay'' (g d))
    → ((e : E) → okay'' e → OfSort begins true spell'' follows'' f okay e ⊎ OfSort begins false spell'' follows'' g okay' e)
    → ((c : C) (rest : List Piece) → follows'' (f c) rest → follows c rest) → ((d : D) (rest : List Piece) → follows'' (g d) rest → follows' d rest)
    → Guards n one (λ c. spell'' (f c)) okay (λ c. tree'' (f c)) follows → Guards n two (λ d. spell'' (g d)) okay' (λ d. tree'' (g d)) follows'
    → Guards n (λ at. if goes at then one at else two at) spell'' okay'' tree'' follows''
choice_guards {n = n} {one = one} {two = two} {goes = goes} spell'' okay'' tree'' follows'' test f fine g fine' sort stops stops' a b = record { stuck = λ at room. by_test at room (goes at) refl }
  where
    by_test : (at : WordsAhead) → length at.words < n → (t : Bool) → goes at ≡ t → Keeps (if t then one at else two at) (Made spell'' okay'' tree'' follows'' at) (Stood spell'' okay'' follows'' at)
    by_test at room true e =
        keeps_more _ _ _ _ _ (a.stuck at room)
        (λ y p. record {
          went = went_as spell'' okay'' follows'' f (λ c. refl) fine p.went (λ c ps tail ok stop alike h.
              elim (sort c ok) [
                | inl s ↦ sort_went spell'' follows'' f stops p.went c ps tail s stop alike h
                | inr s ↦ absurd (true≢false (sym e ∙ told test at p.went.front y.1.words ps (spell'' c ++ tail) p.went.split alike h ∙ s.tells tail stop))
              ]);
          is = p.is;
        })
        (λ r q. stood_as spell'' okay'' follows'' f (λ c. refl) fine q (λ c ps tail ok stop alike h.
        elim (sort c ok) [
          | inl s ↦ sort_none spell'' follows'' f stops q c ps tail s stop alike h
          | inr s ↦ absurd (true≢false (sym e ∙ told test at q.front q.rest ps (spell'' c ++ tail) q.split alike h ∙ s.tells tail stop))
        ]))
    by_test at room false e =
        keeps_more _ _ _ _ _ (b.stuck at room)
        (λ y p. record {
          went = went_as spell'' okay'' follows'' g (λ d. refl) fine' p.went (λ c ps tail ok stop alike h.
              elim (sort c ok) [
                | inl s ↦ absurd (true≢false (sym (told test at p.went.front y.1.words ps (spell'' c ++ tail) p.went.split alike h ∙ s.tells tail stop) ∙ e))
                | inr s ↦ sort_went spell'' follows'' g stops' p.went c ps tail s stop alike h
              ]);
          is = p.is;
        })
        (λ r q. stood_as spell'' okay'' follows'' g (λ d. refl) fine' q (λ c ps tail ok stop alike h.
        elim (sort c ok) [
          | inl s ↦ absurd (true≢false (sym (told test at q.front q.rest ps (spell'' c ++ tail) q.split alike h ∙ s.tells tail stop) ∙ e))
          | inr s ↦ sort_none spell'' follows'' g stops' q c ps tail s stop alike h
        ]))

-- a last sort: where the next word isn't its own, that is a fault
pub last_guards : {C A : Type 0} {n : ℕ} {one : ReadWords A} {spell : C → List Piece} {okay : C → Type 0} {tree : C → List Place → A} {follows : C → List Piece → Type 0}
    (k : TokenKind) → ((c : C) (rest : List Piece) → okay c → begins_piece k (spell c ++ rest) ≡ true) → Example spell okay → Guards n one spell okay tree follows
    → Guards n (λ at. if next_is k at then one at else Err (Grammar (place_at at))) spell okay tree follows
last_guards {n = n} {one = one} {spell = spell} {okay = okay} {tree = tree} {follows = follows} k starts example a = record { stuck = λ at room. by_test at room (next_is k at) refl }
  where
    by_test : (at : WordsAhead) → length at.words < n → (t : Bool) → next_is k at ≡ t → Keeps (if t then one at else Err (Grammar (place_at at))) (Made spell okay tree follows at) (Stood spell okay follows at)
    by_test at room true e = a.stuck at room
    by_test at room false e = record {
      is = stood_here at (Grammar (place_at at)) example refl (λ c ps tail ok stop alike h.
          true≢false (sym (starts c tail ok) ∙ sym (told (next_test k) at [] at.words ps (spell c ++ tail) refl alike h) ∙ e));
    }
