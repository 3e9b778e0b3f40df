-- What allows a word: that none of the causes of a refusal holds at it; and which cause goes first.
use Rattle.std.proofs.Common.{◌≡◌, ◌⊎◌, ℕ, suc, ◌+◌, ◌<◌, ◌≤◌, Bool, true, false, ◌&&◌, ◌||◌, List, [], ◌∷◌, ◌++◌, length, inl, inr, refl, sym, ap, ◌∙◌, arith}
use Rattle.std.specs.Prelude.{Contains}
use Rattle.std.proofs.lemmas.Bool.{cond-true, or_parts, true≢false}
use Rattle.ps_token.specs.declared.token_kind.TokenKind.{TokenKind}
use Rattle.ps_token.specs.declared.token_kind.TokenKind.TheVariants as kind
use Rattle.ps_tree.specs.declared.limit_name.LimitName.TheVariants as limit
use Rattle.ps_grammar.specs.Declarations.{most_globals, most_levels, most_locals, most_rows}
use Rattle.ps_grammar.specs.Spelling.{Piece, Mark, pieces}
use Rattle.ps_grammar.specs.Words.{Word}
use Rattle.ps_parse.specs.Causes.{is_declaration, declared_in, is_after_factor, count_of, rows_passed, levels_with, levels, opens_level, GivesRows, IsCauseAt, IsCause, rank}
use Rattle.ps_parse.specs.Inner.Passed.{ones}
use Rattle.ps_parse.specs.Kinds.{is_kind, begins_with}
use Rattle.ps_parse.specs.Parts.{is_second_name}
use Rattle.ps_parse.specs.declared.level.Level.{Level}
use Rattle.ps_parse.specs.declared.level.Level.TheVariants as level
use Rattle.ps_parse.specs.declared.read_refusal.ReadRefusal.{ReadRefusal}
use Rattle.ps_parse.specs.declared.read_refusal.ReadRefusal.TheVariants as refusal
use Rattle.ps_parse.proofs.Steps.{one_kind, same_kind, Takes, takes_pieces, begins_piece, begins_pieces}
use Rattle.ps_parse.proofs.Weights.{count_of_weight, weight}

-- ---- words without a cause

-- `global`, `local` or `init`
abbrev pub opens_item : TokenKind → Bool
opens_item k = is_kind k kind.Global || is_kind k kind.Local || is_kind k kind.Init

spelled_first : (k : TokenKind) (ps : List Piece) (w : Word) (ahead front rest : List Word) → w ∷ ahead ≡ front ++ rest → pieces front ≡ Mark k ∷ ps → w.kind ≡ k
spelled_first k ps w ahead front rest split spelled =
    let taken : Takes (w ∷ ahead) (Mark k ∷ ps) rest = record { front = front; split = split; spelled = spelled } in
    one_kind w.kind k (begins_pieces k (w ∷ ahead) ∙ ap (begins_piece k) (takes_pieces taken) ∙ same_kind k k refl)

-- where words give rows, a declared value or an `init` begins
pub rows_begin : (w : Word) (ahead : List Word) (rows : ℕ) → GivesRows (w ∷ ahead) rows → (w.kind ≡ kind.Global) ⊎ (w.kind ≡ kind.Init)
rows_begin w ahead rows (inl h) = inl (spelled_first kind.Global _ w ahead h.0.front h.0.rest h.0.split h.0.spelled)
rows_begin w ahead rows (inr h) = inr (spelled_first kind.Init _ w ahead h.0.front h.0.rest h.0.split h.0.spelled)

-- so an item does
rows_open : (w : Word) (ahead : List Word) (rows : ℕ) → GivesRows (w ∷ ahead) rows → opens_item w.kind ≡ true
rows_open w ahead rows h = by_kind (rows_begin w ahead rows h)
  where
    by_kind : (w.kind ≡ kind.Global) ⊎ (w.kind ≡ kind.Init) → opens_item w.kind ≡ true
    by_kind (inl e) = ap opens_item e
    by_kind (inr e) = ap opens_item e

-- what rules out each cause of a refusal at a word
pub record Allows (back : List Word) (w : Word) (ahead : List Word) : Type 0 where
  pub known : w.kind ≡ kind.Name → is_declaration back ≡ false → Contains (declared_in back) w.text
  pub new : w.kind ≡ kind.Name → is_declaration back ≡ true → ¬ Contains (declared_in back) w.text
  pub linear : w.kind ≡ kind.Name → is_after_factor back ≡ false
  pub globals : w.kind ≡ kind.Name → begins_with kind.Global back ≡ true → count_of kind.Global back ≤ most_globals
  pub locals : w.kind ≡ kind.Name → begins_with kind.Local back ≡ true → count_of kind.Local back ≤ most_locals
  pub loops : w.kind ≡ kind.While → ¬ Contains (levels back) level.AtomicBlock
  pub rows : opens_item w.kind ≡ true → (rows : ℕ) → GivesRows (w ∷ ahead) rows → rows_passed back + rows ≤ most_rows
  pub depth : opens_level w.kind ≡ true → length (levels back) < most_levels

pub no_cause : {back : List Word} {w : Word} {ahead : List Word} → Allows back w ahead → (other : ReadRefusal) → ¬ IsCauseAt back w ahead other
no_cause a (refusal.UnknownName p) h = h.2 (a.known h.0 h.1)
no_cause a (refusal.Twice p) h = a.new h.0 h.1 h.2
no_cause a (refusal.NotLinear p) h = true≢false (sym h.1 ∙ a.linear h.0)
no_cause a (refusal.LoopInAtomic p) h = a.loops h.0 h.1
no_cause a (refusal.Limit p limit.Globals) h = let b = a.globals h.0 h.1 in omega (arith, b, h.2)
no_cause a (refusal.Limit p limit.Locals) h = let b = a.locals h.0 h.1 in omega (arith, b, h.2)
no_cause {w = w} {ahead = ahead} a (refusal.Limit p limit.Init) h = let b = a.rows (rows_open w ahead h.0 h.1) h.0 h.1 in omega (arith, b, h.2)
no_cause a (refusal.Limit p limit.Depth) h = let b = a.depth h.0 in omega (arith, b, h.1)
no_cause a (refusal.Limit p what) h = h
no_cause a (refusal.Token p) h = h
no_cause a (refusal.Grammar p) h = h
no_cause a (refusal.Memory e) h = h

-- a word of the one kind isn't one of the other
pub kind_clash : {A : Type 0} (w : Word) {k j : TokenKind} → w.kind ≡ k → is_kind k j ≡ false → w.kind ≡ j → A
kind_clash w {k = k} {j = j} e no' h = absurd (true≢false (sym (same_kind k j (sym e ∙ h)) ∙ no'))

pub test_clash : {A : Type 0} (w : Word) {k : TokenKind} (f : TokenKind → Bool) → w.kind ≡ k → f k ≡ false → f w.kind ≡ true → A
test_clash w f e no' h = absurd (true≢false (sym h ∙ ap f e ∙ no'))

-- some words of the kind have a cause of a refusal
abbrev pub has_causes : TokenKind → Bool
has_causes k = (is_kind k kind.Name || is_kind k kind.While) || (opens_item k || opens_level k)

-- a word that is neither a name nor `while`
pub marked : (back : List Word) (w : Word) (ahead : List Word) (k : TokenKind) → (is_kind k kind.Name || is_kind k kind.While) ≡ false → w.kind ≡ k
    → (opens_item w.kind ≡ true → (rows : ℕ) → GivesRows (w ∷ ahead) rows → rows_passed back + rows ≤ most_rows) → (opens_level w.kind ≡ true → length (levels back) < most_levels) → Allows back w ahead
marked back w ahead k h e rows depth =
    let a : (is_kind k kind.Name ≡ false) × (is_kind k kind.While ≡ false) = or_parts _ _ h in
    record {
      known = λ i. kind_clash w e a.0 i;
      new = λ i. kind_clash w e a.0 i;
      linear = λ i. kind_clash w e a.0 i;
      globals = λ i. kind_clash w e a.0 i;
      locals = λ i. kind_clash w e a.0 i;
      loops = λ i. kind_clash w e a.1 i;
      rows = rows;
      depth = depth;
    }

pub plain : (back : List Word) (w : Word) (ahead : List Word) (k : TokenKind) → has_causes k ≡ false → w.kind ≡ k → Allows back w ahead
plain back w ahead k h e =
    let a : ((is_kind k kind.Name || is_kind k kind.While) ≡ false) × ((opens_item k || opens_level k) ≡ false) = or_parts _ _ h in
    let b : (opens_item k ≡ false) × (opens_level k ≡ false) = or_parts _ _ a.1 in
    marked back w ahead k a.0 e (λ i. test_clash w opens_item e b.0 i) (λ i. test_clash w opens_level e b.1 i)

-- `{`, `(` and `!`, where fewer levels are open than may be
pub opening : (back : List Word) (w : Word) (ahead : List Word) (k : TokenKind) → (is_kind k kind.Name || is_kind k kind.While || opens_item k) ≡ false → length (levels back) < most_levels → w.kind ≡ k → Allows back w ahead
opening back w ahead k h few e =
    let a : ((is_kind k kind.Name || is_kind k kind.While) ≡ false) × (opens_item k ≡ false) = or_parts _ _ h in
    marked back w ahead k a.0 e (λ i. test_clash w opens_item e a.1 i) (λ i. few)

-- `while`, where no atomic block is open
pub looping : (back : List Word) (w : Word) (ahead : List Word) → ¬ Contains (levels back) level.AtomicBlock → w.kind ≡ kind.While → Allows back w ahead
looping back w ahead out e = record {
  known = λ i. kind_clash w e refl i;
  new = λ i. kind_clash w e refl i;
  linear = λ i. kind_clash w e refl i;
  globals = λ i. kind_clash w e refl i;
  locals = λ i. kind_clash w e refl i;
  loops = λ i. out;
  rows = λ i. test_clash w opens_item e refl i;
  depth = λ i. test_clash w opens_level e refl i;
}

-- a name that was declared
pub naming : (back : List Word) (w : Word) (ahead : List Word) → is_declaration back ≡ false → is_after_factor back ≡ false → Contains (declared_in back) w.text → w.kind ≡ kind.Name → Allows back w ahead
naming back w ahead outside linear known e =
    let b : (begins_with kind.Global back ≡ false) × (begins_with kind.Local back ≡ false) = or_parts _ _ outside in
    record {
      known = λ i h. known;
      new = λ i h. absurd (true≢false (sym h ∙ outside));
      linear = λ i. linear;
      globals = λ i h. absurd (true≢false (sym h ∙ b.0));
      locals = λ i h. absurd (true≢false (sym h ∙ b.1));
      loops = λ i. kind_clash w e refl i;
      rows = λ i. test_clash w opens_item e refl i;
      depth = λ i. test_clash w opens_level e refl i;
    }

-- ---- names that are declared, and items

-- the limits of names that are kept
pub record HasRoom (back : List Word) : Type 0 where
  pub globals : begins_with kind.Global back ≡ true → count_of kind.Global back ≤ most_globals
  pub locals : begins_with kind.Local back ≡ true → count_of kind.Local back ≤ most_locals

pub new_allows : (back : List Word) (w : Word) (ahead : List Word) → w.kind ≡ kind.Name → is_declaration back ≡ true → is_after_factor back ≡ false → ¬ Contains (declared_in back) w.text → HasRoom back → Allows back w ahead
new_allows back w ahead e declares factor new room = record {
  known = λ i h. absurd (true≢false (sym declares ∙ h));
  new = λ i h. new;
  linear = λ i. factor;
  globals = λ i h. room.globals h;
  locals = λ i h. room.locals h;
  loops = λ i. kind_clash w e refl i;
  rows = λ i. test_clash w opens_item e refl i;
  depth = λ i. test_clash w opens_level e refl i;
}

-- whatever rows the words ahead give, they are within the limit
pub record RowsFit (back ws : List Word) : Type 0 where
  pub is : (rows : ℕ) → GivesRows ws rows → rows_passed back + rows ≤ most_rows

pub item_allows : (back : List Word) (w : Word) (ahead : List Word) (k : TokenKind) → (is_kind k kind.Name || is_kind k kind.While || opens_level k) ≡ false → RowsFit back (w ∷ ahead) → w.kind ≡ k → Allows back w ahead
item_allows back w ahead k h fit e =
    let a : ((is_kind k kind.Name || is_kind k kind.While) ≡ false) × (opens_level k ≡ false) = or_parts _ _ h in
    marked back w ahead k a.0 e (λ i. fit.is) (λ i. test_clash w opens_level e a.1 i)

pub count_more : (k : TokenKind) (w : Word) (back : List Word) → w.kind ≡ k → is_kind k k ≡ true → count_of k (w ∷ back) ≡ suc (count_of k back)
count_more k w back e itself =
    let a : count_of k (w ∷ back) ≡ ones k w.kind + weight (ones k) back = count_of_weight k (w ∷ back) in
    let b : ones k w.kind ≡ 1 = ap (ones k) e ∙ cond-true _ _ _ itself in
    let c : count_of k back ≡ weight (ones k) back = count_of_weight k back in
    omega (arith, a, b, c)

-- a word that was passed is of one kind
pub not_begins : {A : Type 0} (w : Word) (back : List Word) (k j : TokenKind) → w.kind ≡ k → is_kind k j ≡ false → begins_with j (w ∷ back) ≡ true → A
not_begins w back k j e no' h = absurd (true≢false (sym h ∙ ap (λ (i : TokenKind). is_kind i j) e ∙ no'))

-- ---- after a word

-- what the nearest word is none of: `global`, `local`, `*` after a name, and `atomic` where it isn't asked for
pub record Fresh (after : Bool) (back : List Word) : Type 0 where
  pub declaration : is_declaration back ≡ false
  pub factor : is_after_factor back ≡ false
  pub atomic : begins_with kind.Atomic back ≡ after

-- what follows a word of the kind rests on it
abbrev pub joins : TokenKind → Bool
joins k = is_kind k kind.Star || (is_kind k kind.Global || is_kind k kind.Local)

pub fresh_word : {w : Word} (k : TokenKind) (back : List Word) → joins k ≡ false → w.kind ≡ k → Fresh (is_kind k kind.Atomic) (w ∷ back)
fresh_word {w = w} k back h e =
    let a : (is_kind k kind.Star ≡ false) × ((is_kind k kind.Global || is_kind k kind.Local) ≡ false) = or_parts _ _ h in
    record {
      declaration = ap (λ (j : TokenKind). is_kind j kind.Global || is_kind j kind.Local) e ∙ a.1;
      factor = ap (λ (j : TokenKind). is_kind j kind.Star && begins_with kind.Name back) e ∙ ap (λ (b : Bool). b && begins_with kind.Name back) a.0;
      atomic = ap (λ (j : TokenKind). is_kind j kind.Atomic) e;
    }

-- `*`, but not after a name
pub fresh_star : {w : Word} (back : List Word) → begins_with kind.Name back ≡ false → w.kind ≡ kind.Star → Fresh false (w ∷ back)
fresh_star {w = w} back h e = record {
  declaration = ap (λ (j : TokenKind). is_kind j kind.Global || is_kind j kind.Local) e;
  factor = ap (λ (j : TokenKind). is_kind j kind.Star && begins_with kind.Name back) e ∙ h;
  atomic = ap (λ (j : TokenKind). is_kind j kind.Atomic) e;
}

-- the levels after a word
pub level_word : (w : Word) (k : TokenKind) (back : List Word) (atomic : Bool) (ls : List Level) → w.kind ≡ k → begins_with kind.Atomic back ≡ atomic → levels back ≡ ls → levels (w ∷ back) ≡ levels_with atomic k ls
level_word w k back atomic ls e a h =
    ap (λ (j : TokenKind). levels_with (begins_with kind.Atomic back) j (levels back)) e
    ∙ ap (λ (b : Bool). levels_with b k (levels back)) a
    ∙ ap (λ (xs : List Level). levels_with atomic k xs) h

-- ---- which cause goes first

-- a fault of the grammar goes before all but a second name of a product
pub least_grammar : (back ws : List Word) → is_second_name back ws ≡ false → (other : ReadRefusal) → IsCause back ws other → 1 ≤ rank other
least_grammar back [] l other h = absurd h
least_grammar back (w ∷ ws) l (refusal.NotLinear p) h =
    absurd (true≢false (sym (ap (λ (b : Bool). b && is_kind w.kind kind.Name) h.1 ∙ same_kind w.kind kind.Name h.0) ∙ l))
least_grammar back (w ∷ ws) l other h = omega arith

-- at a word that is neither a name nor `while`, only limits have a cause
pub least_limit : (back : List Word) (w : Word) (ws : List Word) (k : TokenKind) → w.kind ≡ k → (is_kind k kind.Name || is_kind k kind.While) ≡ false → (other : ReadRefusal) → IsCauseAt back w ws other → 5 ≤ rank other
least_limit back w ws k e c (refusal.UnknownName p) h = kind_clash w e (or_parts _ _ c).0 h.0
least_limit back w ws k e c (refusal.Twice p) h = kind_clash w e (or_parts _ _ c).0 h.0
least_limit back w ws k e c (refusal.NotLinear p) h = kind_clash w e (or_parts _ _ c).0 h.0
least_limit back w ws k e c (refusal.LoopInAtomic p) h = kind_clash w e (or_parts _ _ c).1 h.0
least_limit back w ws k e c (refusal.Grammar p) h = absurd h
least_limit back w ws k e c other h = omega arith

pub least_loop : (back : List Word) (w : Word) (ws : List Word) → w.kind ≡ kind.While → (other : ReadRefusal) → IsCauseAt back w ws other → 4 ≤ rank other
least_loop back w ws e (refusal.UnknownName p) h = kind_clash w e refl h.0
least_loop back w ws e (refusal.Twice p) h = kind_clash w e refl h.0
least_loop back w ws e (refusal.NotLinear p) h = kind_clash w e refl h.0
least_loop back w ws e (refusal.Grammar p) h = absurd h
least_loop back w ws e other h = omega arith

pub least_unknown : (back : List Word) (w : Word) (ws : List Word) → is_after_factor back ≡ false → (other : ReadRefusal) → IsCauseAt back w ws other → 2 ≤ rank other
least_unknown back w ws l (refusal.NotLinear p) h = absurd (true≢false (sym h.1 ∙ l))
least_unknown back w ws l (refusal.Grammar p) h = absurd h
least_unknown back w ws l other h = omega arith

pub least_twice : (back : List Word) (w : Word) (ws : List Word) → is_declaration back ≡ true → is_after_factor back ≡ false → (other : ReadRefusal) → IsCauseAt back w ws other → 3 ≤ rank other
least_twice back w ws d f (refusal.UnknownName p) h = absurd (true≢false (sym d ∙ h.1))
least_twice back w ws d f (refusal.NotLinear p) h = absurd (true≢false (sym h.1 ∙ f))
least_twice back w ws d f (refusal.Grammar p) h = absurd h
least_twice back w ws d f other h = omega arith

pub least_full : (back : List Word) (w : Word) (ws : List Word) → w.kind ≡ kind.Name → is_declaration back ≡ true → is_after_factor back ≡ false → ¬ Contains (declared_in back) w.text → (other : ReadRefusal) → IsCauseAt back w ws other → 5 ≤ rank other
least_full back w ws e d f new (refusal.UnknownName p) h = absurd (true≢false (sym d ∙ h.1))
least_full back w ws e d f new (refusal.NotLinear p) h = absurd (true≢false (sym h.1 ∙ f))
least_full back w ws e d f new (refusal.Grammar p) h = absurd h
least_full back w ws e d f new (refusal.Twice p) h = absurd (new h.2)
least_full back w ws e d f new (refusal.LoopInAtomic p) h = kind_clash w e refl h.0
least_full back w ws e d f new other h = omega arith
