-- Words ahead that have no cause of a refusal, in steps: a word has none exactly where what is asked of it holds, so a text
-- has none exactly where what is asked of its parts holds.
use Rattle.std.proofs.Common.{◌≡◌, ◌≢◌, ℕ, ◌-◌, ◌<◌, ◌≤◌, ◌⊎◌, inl, inr, Bool, true, false, ◌||◌, List, [], ◌∷◌, length, Option, Some, None, refl, sym, ap, subst, ◌∙◌, arith}
use Rattle.std.specs.Prelude.{Contains}
use Rattle.std.proofs.lemmas.Bool.{cases_lt, cond-false}
use Rattle.ps_token.specs.declared.token_kind.TokenKind.{TokenKind}
use Rattle.ps_token.specs.declared.token_kind.TokenKind.TheVariants as kind
use Rattle.ps_term.specs.declared.var.Var.{Var}
use Rattle.ps_tree.specs.declared.limit_name.LimitName.TheVariants as limit
use Rattle.ps_grammar.specs.Declarations.{most_levels}
use Rattle.ps_grammar.specs.Fits.{IsKnownName}
use Rattle.ps_grammar.specs.Names.{Names, variable_of_name}
use Rattle.ps_grammar.specs.Spelling.{Piece, NamePiece, Mark, piece_of_kind, pieces}
use Rattle.ps_grammar.specs.Words.{Word}
use Rattle.ps_parse.specs.declared.read_refusal.ReadRefusal.{ReadRefusal}
use Rattle.ps_parse.specs.declared.read_refusal.ReadRefusal.TheVariants as refusal
use Rattle.ps_parse.specs.declared.level.Level.{Level}
use Rattle.ps_parse.specs.Causes.{words_at, is_declaration, declared_in, is_after_factor, levels_with, levels, opens_level, IsCauseAt, IsCause, HasNoCause}
use Rattle.ps_parse.specs.Kinds.{is_kind, begins_with}
use Rattle.ps_parse.proofs.Steps.{kind_of, kind_of_piece}
use Rattle.ps_parse.proofs.NamesDeclared.{Knows, contains_known, is_there, not_contains}
use Rattle.ps_parse.proofs.WordsAllowed.{opens_item, Allows, no_cause, has_causes, plain, opening, naming, Fresh, joins, fresh_word, level_word}

-- ---- no word ahead has a cause

abbrev pub StaysClean : List Word → List Word → Type 0
StaysClean back [] = Unit {0}
StaysClean back (w ∷ ahead) = ((other : ReadRefusal) → ¬ IsCauseAt back w ahead other) × StaysClean (w ∷ back) ahead

stays_at : (back ahead : List Word) → StaysClean [] (words_at back ahead) → StaysClean back ahead
stays_at [] ahead h = h
stays_at (w ∷ back) ahead h = (stays_at back (w ∷ ahead) h).1

none_next : (back ahead : List Word) → StaysClean back ahead → (e : ReadRefusal) → ¬ IsCause back ahead e
none_next back [] h e c = c
none_next back (w ∷ ahead) h e c = h.0 e c

pub stays_none : (words : List Word) → StaysClean [] words → HasNoCause words
stays_none words h = λ back ahead split e c. none_next back ahead (stays_at back ahead (subst (StaysClean []) split h)) e c

pub none_stays : (back ahead : List Word) → HasNoCause (words_at back ahead) → StaysClean back ahead
none_stays back [] h = tt
none_stays back (w ∷ ahead) h = (λ e c. h back (w ∷ ahead) refl e c, none_stays (w ∷ back) ahead h)

-- ---- walks

-- Words were passed, up to ones that are spelled so, and it holds of all that were passed. Those of the walk have no cause
-- exactly where F holds.
pub record Walk (F : Type 0) (P : List Word → Type 0) (back ahead : List Word) (rest : List Piece) : Type 0 where
  pub past : List Word
  pub left : List Word
  pub whole : words_at past left ≡ words_at back ahead
  pub spelled : pieces left ≡ rest
  pub so : P past
  pub fits : StaysClean back ahead → F × StaysClean past left
  pub clean : F → StaysClean past left → StaysClean back ahead

pub walk_end : {P : List Word → Type 0} {back ahead : List Word} {rest : List Piece} → P back → pieces ahead ≡ rest → Walk (Unit {0}) P back ahead rest
walk_end {back = back} {ahead = ahead} so e = record { past = back; left = ahead; whole = refl; spelled = e; so = so; fits = λ c. (tt, c); clean = λ f c. c }

-- the same, otherwise said
pub walk_as : {F G : Type 0} {P Q : List Word → Type 0} {back ahead : List Word} {rest : List Piece} → (F → G) → (G → F) → ((past : List Word) → P past → Q past) → Walk F P back ahead rest → Walk G Q back ahead rest
walk_as to from so w = record {
  past = w.past;
  left = w.left;
  whole = w.whole;
  spelled = w.spelled;
  so = so w.past w.so;
  fits = λ c. let f = w.fits c in (to f.0, f.1);
  clean = λ g c. w.clean (from g) c;
}

-- one walk and then another
pub walk_then : {F G : Type 0} {P Q : List Word → Type 0} {back ahead : List Word} {mid rest : List Piece} → Walk F P back ahead mid
    → ((past left : List Word) → pieces left ≡ mid → P past → Walk G Q past left rest) → Walk (F × G) Q back ahead rest
walk_then {G = G} {Q = Q} {rest = rest} w next =
    let v : Walk G Q w.past w.left rest = next w.past w.left w.spelled w.so in
    record {
      past = v.past;
      left = v.left;
      whole = v.whole ∙ w.whole;
      spelled = v.spelled;
      so = v.so;
      fits = λ c. let f = w.fits c in let g = v.fits f.1 in ((f.0, g.0), g.1);
      clean = λ f c. w.clean f.0 (v.clean f.1 c);
    }

-- the second asks nothing
pub walk_ending : {F : Type 0} {P Q : List Word → Type 0} {back ahead : List Word} {mid rest : List Piece} → Walk F P back ahead mid
    → ((past left : List Word) → pieces left ≡ mid → P past → Walk (Unit {0}) Q past left rest) → Walk F Q back ahead rest
walk_ending w next = walk_as (λ f. f.0) (λ f. (f, tt)) (λ past so. so) (walk_then w next)

-- ---- one word

-- what is asked of a word
pub record Asks (F : Type 0) (back : List Word) (w : Word) (ahead : List Word) : Type 0 where
  pub fits : ((other : ReadRefusal) → ¬ IsCauseAt back w ahead other) → F
  pub allows : F → Allows back w ahead

pub walk_word : {F G : Type 0} {P : List Word → Type 0} {back ahead : List Word} {w : Word} {rest : List Piece} → Asks F back w ahead → Walk G P (w ∷ back) ahead rest → Walk (F × G) P back (w ∷ ahead) rest
walk_word asks v = record {
  past = v.past;
  left = v.left;
  whole = v.whole;
  spelled = v.spelled;
  so = v.so;
  fits = λ c. let g = v.fits c.1 in ((asks.fits c.0, g.0), g.1);
  clean = λ f c. (no_cause (asks.allows f.0), v.clean f.1 c);
}

pub walk_plain : {G : Type 0} {P : List Word → Type 0} {back ahead : List Word} {w : Word} {rest : List Piece} → Allows back w ahead → Walk G P (w ∷ back) ahead rest → Walk G P back (w ∷ ahead) rest
walk_plain {back = back} {ahead = ahead} {w = w} allows v =
    let none : Asks (Unit {0}) back w ahead = record { fits = λ none. tt; allows = λ f. allows } in
    walk_as (λ f. f.1) (λ g. (tt, g)) (λ past so. so) (walk_word none v)

first_piece : (p q : Piece) (ps qs : List Piece) → p ∷ ps ≡ q ∷ qs → p ≡ q
first_piece p q ps qs e = cc

further_pieces_are : (p q : Piece) (ps qs : List Piece) → p ∷ ps ≡ q ∷ qs → ps ≡ qs
further_pieces_are p q ps qs e = cc

-- what holds of words that begin with one that is spelled so
pub by_word : (C : List Word → Type 0) (p : Piece) (rest : List Piece) (ahead : List Word) → pieces ahead ≡ p ∷ rest → ((w : Word) (left : List Word) → piece_of_kind w.kind w.text ≡ p → pieces left ≡ rest → C (w ∷ left)) → C ahead
by_word C p rest [] e k = absurd cc
by_word C p rest (w ∷ left) e k = k w left (first_piece _ _ _ _ e) (further_pieces_are _ _ _ _ e)

pub spelled_kind : (w : Word) (p : Piece) → piece_of_kind w.kind w.text ≡ p → w.kind ≡ kind_of p
spelled_kind w p e = sym (kind_of_piece w.kind w.text) ∙ ap kind_of e

abbrev text_of_piece : Piece → List ℕ
text_of_piece (NamePiece x) = x
text_of_piece p = []

pub spelled_name : (w : Word) (x : List ℕ) → piece_of_kind w.kind w.text ≡ NamePiece x → w.text ≡ x
spelled_name w x e = ap (λ (k : TokenKind). text_of_piece (piece_of_kind k w.text)) (sym (spelled_kind w (NamePiece x) e)) ∙ ap text_of_piece e

-- ---- between two words

-- These levels are open, the names are those that were declared, and the nearest word declares none; it is `atomic` or not.
pub record Here (names : Names) (after : Bool) (ls : List Level) (back : List Word) : Type 0 where
  pub declaration : is_declaration back ≡ false
  pub atomic : begins_with kind.Atomic back ≡ after
  pub level : levels back ≡ ls
  pub known : Knows names (declared_in back)

-- and it is no `*` after a name
pub record Free (names : Names) (after : Bool) (ls : List Level) (back : List Word) : Type 0 where
  pub here : Here names after ls back
  pub factor : is_after_factor back ≡ false

pub here_after : {names : Names} {after : Bool} {ls : List Level} {w : Word} {back : List Word} (k : TokenKind) → (is_kind k kind.Global || is_kind k kind.Local) ≡ false → w.kind ≡ k → Here names after ls back → Here names (is_kind k kind.Atomic) (levels_with after k ls) (w ∷ back)
here_after {names = names} {after = after} {ls = ls} {w = w} {back = back} k apart e h = record {
  declaration = ap (λ (j : TokenKind). is_kind j kind.Global || is_kind j kind.Local) e ∙ apart;
  atomic = ap (λ (j : TokenKind). is_kind j kind.Atomic) e;
  level = level_word w k back after ls e h.atomic h.level;
  known = subst (Knows names) (sym (cond-false _ _ _ h.declaration)) h.known;
}

pub free_after : {names : Names} {after : Bool} {ls : List Level} {w : Word} {back : List Word} (k : TokenKind) → joins k ≡ false → w.kind ≡ k → Here names after ls back → Free names (is_kind k kind.Atomic) (levels_with after k ls) (w ∷ back)
free_after {w = w} {back = back} k apart e h =
    let f : Fresh (is_kind k kind.Atomic) (w ∷ back) = fresh_word k back apart e in
    let same : Here _ (is_kind k kind.Atomic) (levels_with _ k _) (w ∷ back) = record {
      declaration = f.declaration;
      atomic = f.atomic;
      level = level_word w k back _ _ e h.atomic h.level;
      known = subst (Knows _) (sym (cond-false _ _ _ h.declaration)) h.known;
    } in
    record { here = same; factor = f.factor }

-- a word that has no cause, and that the next doesn't rest on
pub walk_piece : {F : Type 0} {P : List Word → Type 0} {names : Names} {after : Bool} {ls : List Level} {back ahead : List Word} {rest to : List Piece} (p : Piece) → has_causes (kind_of p) ≡ false → joins (kind_of p) ≡ false
    → pieces ahead ≡ p ∷ rest → Here names after ls back
    → ((w : Word) (left : List Word) → pieces left ≡ rest → w.kind ≡ kind_of p → Free names (is_kind (kind_of p) kind.Atomic) (levels_with after (kind_of p) ls) (w ∷ back) → Walk F P (w ∷ back) left to) → Walk F P back ahead to
walk_piece {F = F} {P = P} {back = back} {ahead = ahead} {rest = rest} {to = to} p c j e h next =
    by_word (λ ws. Walk F P back ws to) p rest ahead e (λ w left same spelled.
    walk_plain (plain back w left (kind_of p) c (spelled_kind w p same)) (next w left spelled (spelled_kind w p same) (free_after (kind_of p) j (spelled_kind w p same) h)))

-- `*`
pub walk_star : {F : Type 0} {P : List Word → Type 0} {names : Names} {after : Bool} {ls : List Level} {back ahead : List Word} {rest to : List Piece} → pieces ahead ≡ Mark kind.Star ∷ rest → Here names after ls back
    → ((w : Word) (left : List Word) → pieces left ≡ rest → w.kind ≡ kind.Star → Here names false ls (w ∷ back) → Walk F P (w ∷ back) left to) → Walk F P back ahead to
walk_star {F = F} {P = P} {back = back} {ahead = ahead} {rest = rest} {to = to} e h next =
    by_word (λ ws. Walk F P back ws to) (Mark kind.Star) rest ahead e (λ w left same spelled.
    walk_plain (plain back w left kind.Star refl (spelled_kind w (Mark kind.Star) same)) (next w left spelled (spelled_kind w (Mark kind.Star) same) (here_after kind.Star refl (spelled_kind w (Mark kind.Star) same) h)))

-- ---- names

some_variable : (o : Option Var) → o ≢ None → is_there o ≡ true
some_variable None h = absurd (h refl)
some_variable (Some v) h = refl

asks_name : {names : Names} {after : Bool} {ls : List Level} (back : List Word) (w : Word) (ahead : List Word) (x : List ℕ) → w.kind ≡ kind.Name → w.text ≡ x → Free names after ls back → Asks (IsKnownName names x) back w ahead
asks_name {names = names} back w ahead x e same f = record {
  fits = λ none unknown.
      none (refusal.UnknownName w.place) (e, f.here.declaration, λ c. not_contains names (declared_in back) x f.here.known (ap is_there unknown) (subst (Contains (declared_in back)) same c));
  allows = λ known.
      naming back w ahead f.here.declaration f.factor
      (subst (Contains (declared_in back)) (sym same) (contains_known names (declared_in back) x f.here.known (some_variable (variable_of_name names x) known))) e;
}

-- a name that is used
pub walk_name : {F : Type 0} {P : List Word → Type 0} {names : Names} {after : Bool} {ls : List Level} {back ahead : List Word} {rest to : List Piece} (x : List ℕ) → pieces ahead ≡ NamePiece x ∷ rest → Free names after ls back
    → ((w : Word) (left : List Word) → pieces left ≡ rest → w.kind ≡ kind.Name → Free names false ls (w ∷ back) → Walk F P (w ∷ back) left to) → Walk (IsKnownName names x × F) P back ahead to
walk_name {F = F} {P = P} {names = names} {back = back} {ahead = ahead} {rest = rest} {to = to} x e f next =
    by_word (λ ws. Walk (IsKnownName names x × F) P back ws to) (NamePiece x) rest ahead e (λ w left same spelled.
    let named : w.kind ≡ kind.Name = spelled_kind w (NamePiece x) same in
    walk_word (asks_name back w left x named (spelled_name w x same) f) (next w left spelled named (free_after kind.Name refl named f.here)))

-- ---- levels

-- so many levels may be opened where these are open
abbrev pub Room : ℕ → List Level → Type 0
Room n ls = n ≡ most_levels - length ls

asks_level : (back : List Word) (w : Word) (ahead : List Word) (k : TokenKind) (n : ℕ) (ls : List Level) → (is_kind k kind.Name || is_kind k kind.While || opens_item k) ≡ false → opens_level k ≡ true → Room n ls → levels back ≡ ls → w.kind ≡ k → Asks (1 ≤ n) back w ahead
asks_level back w ahead k n ls c o room level e =
    let same : length (levels back) ≡ length ls = ap (λ (xs : List Level). length xs) level in
    record {
      fits = λ none. by_order none same (cases_lt (length (levels back)) most_levels);
      allows = λ some. opening back w ahead k c (omega (arith, some, room, same)) e;
    }
  where
    by_order : ((other : ReadRefusal) → ¬ IsCauseAt back w ahead other) → length (levels back) ≡ length ls → (length (levels back) < most_levels) ⊎ (most_levels ≤ length (levels back)) → 1 ≤ n
    by_order none same (inl few) = omega (arith, few, room, same)
    by_order none same (inr many) = absurd (none (refusal.Limit w.place limit.Depth) (ap opens_level e ∙ o, many))

-- a word that opens a level
pub walk_opening : {F : Type 0} {P : List Word → Type 0} {names : Names} {after : Bool} {ls : List Level} {back ahead : List Word} {rest to : List Piece} (k : TokenKind) (n : ℕ) → (is_kind k kind.Name || is_kind k kind.While || opens_item k) ≡ false → opens_level k ≡ true → joins k ≡ false
    → Room n ls → pieces ahead ≡ Mark k ∷ rest → Here names after ls back
    → ((w : Word) (left : List Word) → pieces left ≡ rest → w.kind ≡ k → Free names (is_kind k kind.Atomic) (levels_with after k ls) (w ∷ back) → Walk F P (w ∷ back) left to) → Walk ((1 ≤ n) × F) P back ahead to
walk_opening {F = F} {P = P} {ls = ls} {back = back} {ahead = ahead} {rest = rest} {to = to} k n c o j room e h next =
    by_word (λ ws. Walk ((1 ≤ n) × F) P back ws to) (Mark k) rest ahead e (λ w left same spelled.
    let opens : w.kind ≡ k = spelled_kind w (Mark k) same in
    walk_word (asks_level back w left k n ls c o room h.level opens) (next w left spelled opens (free_after k j opens h)))
