-- Reading declarations one after the other, and counting rows, as loops do.
use Rattle.std.proofs.Common.{◌≡◌, ℕ, zero, suc, ◌-◌, ◌+◌, ◌≤◌, ◌<◌, true, false, List, ◌++◌, Option, Some, None, Result, Ok, Err, refl, sym, ap, ◌∙◌, arith}
use Rattle.ps_token.specs.declared.token_kind.TokenKind.TheVariants as kind
use Rattle.ps_parse.specs.declared.read_refusal.ReadRefusal.{ReadRefusal}
use Rattle.ps_tree.specs.declared.relation.Relation.{Relation}
use Rattle.ps_parse.specs.Inner.Reading.{WordsAhead, next_word, after_word, next_is, words_while, with_front}
use Rattle.ps_parse.specs.Promises.{Refuses}
use Rattle.ps_lines.specs.Steps.{and_then}
use Rattle.ps_grammar.specs.Words.{Word}
use Rattle.ps_grammar.specs.Names.{Names}
use Rattle.ps_parse.specs.Inner.Blocks.{ended_at}
use Rattle.ps_parse.specs.Inner.Sums.{relation_at, init_sign_of}
use Rattle.ps_parse.specs.Inner.Steps.{passed, rows_then, relations_at}
use Rattle.ps_grammar.specs.Declarations.{Declared, names_of, nothing_declared, rows_of_sign}
use Rattle.ps_parse.specs.Inner.Items.{item_at, items_at, has_item, rows_from, rows_counted_on}
use Rattle.ps_parse.proofs.Repeated.{refuses_same}

-- a step of the declarations, in a loop that may go on `left` times
pub record Declares (n left : ℕ) (d : Declared) (at : WordsAhead) (total : Result (Declared × WordsAhead) ReadRefusal) : Type 0 where
  pub same : items_at n d left at ≡ total

pub items_stop : (n left : ℕ) (d : Declared) (at : WordsAhead) (total : Result (Declared × WordsAhead) ReadRefusal) → Declares n left d at total → has_item at ≡ false → total ≡ Ok (d, at)
unfolding items_at
items_stop n zero d at total h stop = sym h.same
items_stop n (suc left) d at total h stop = let one : items_at n d (suc left) at ≡ Ok (d, at) = rw stop refl in sym h.same ∙ one

pub items_all : (n i : ℕ) (d : Declared) (at : WordsAhead) (total : Result (Declared × WordsAhead) ReadRefusal) → Declares n (n - i) d at total → n ≤ i → total ≡ Ok (d, at)
unfolding items_at
items_all n i d at total h le =
    let k : n - i ≡ 0 = omega arith in
    let one : items_at n d (n - i) at ≡ Ok (d, at) = rw k refl in
    sym h.same ∙ one

pub items_more : (n i : ℕ) (d next : Declared) (at after : WordsAhead) (total : Result (Declared × WordsAhead) ReadRefusal) → Declares n (n - i) d at total → i < n → has_item at ≡ true → item_at d n at ≡ Ok (next, after) → Declares n (n - (i + 1)) next after total
unfolding items_at and_then
items_more n i d next at after total h lt more e =
    let k : n - i ≡ suc (n - (i + 1)) = omega arith in
    let one : items_at n d (n - i) at ≡ items_at n next (n - (i + 1)) after = rw (k, more, e) refl in
    record { same = sym one ∙ h.same }

pub items_fails : (n i : ℕ) (d : Declared) (at : WordsAhead) (r : ReadRefusal) (total : Result (Declared × WordsAhead) ReadRefusal) → Declares n (n - i) d at total → i < n → has_item at ≡ true → Refuses r (item_at d n at) → Refuses r total
unfolding items_at and_then
items_fails n i d at r total h lt more =
    refuses_same r (item_at d n at) total (λ e.
    let k : n - i ≡ suc (n - (i + 1)) = omega arith in
    let one : items_at n d (n - i) at ≡ Err r = rw (k, more, e) refl in
    sym h.same ∙ one)

-- ---- rows

-- the rows of the next relation and of what follows
abbrev pub NextRows : ℕ → WordsAhead → Option ℕ → WordsAhead → Type 0
NextRows n at rows next = (rest : WordsAhead → ℕ) → rows_counted_on (λ (r : Relation). rows_of_sign r.sign) rest (relation_at init_sign_of (names_of nothing_declared) n at) ≡ rows_then rows (rest next)

-- the rows counted so far, in a loop that may go on `left` times
pub record Counts (n left rows : ℕ) (at : WordsAhead) (total : ℕ) : Type 0 where
  pub same : rows + rows_from n left at ≡ total

pub counts_all : (n i rows : ℕ) (at : WordsAhead) (total : ℕ) → Counts n (n - i) rows at total → n ≤ i → rows ≡ total
unfolding rows_from
counts_all n i rows at total h le =
    let k : n - i ≡ 0 = omega arith in
    let one : rows_from n (n - i) at ≡ 0 = rw k refl in
    omega (arith, one, h.same)

step : (n i : ℕ) (at : WordsAhead) → i < n → rows_from n (n - i) at ≡ rows_counted_on (λ (r : Relation). rows_of_sign r.sign) (λ next. passed (rows_from n (n - (i + 1))) (next_word kind.And next)) (relation_at init_sign_of (names_of nothing_declared) n at)
unfolding rows_from
step n i at lt = let k : n - i ≡ suc (n - (i + 1)) = omega arith in rw k refl

pub counts_none : (n i rows : ℕ) (at next : WordsAhead) (total : ℕ) → Counts n (n - i) rows at total → i < n → NextRows n at None next → rows ≡ total
counts_none n i rows at next total h lt none =
    let one : rows_from n (n - i) at ≡ 0 = step n i at lt ∙ none (λ next. passed (rows_from n (n - (i + 1))) (next_word kind.And next)) in
    omega (arith, one, h.same)

pub counts_stop : (n i rows more : ℕ) (at next after : WordsAhead) (total : ℕ) → Counts n (n - i) rows at total → i < n → NextRows n at (Some more) next → ((rest : WordsAhead → ℕ) → passed rest (next_word kind.And next) ≡ 0) → rows + more ≡ total
counts_stop n i rows more at next after total h lt some stop =
    let one : rows_from n (n - i) at ≡ more + passed (rows_from n (n - (i + 1))) (next_word kind.And next) = step n i at lt ∙ some (λ next. passed (rows_from n (n - (i + 1))) (next_word kind.And next)) in
    omega (arith, one, stop (rows_from n (n - (i + 1))), h.same)

pub counts_more : (n i rows more : ℕ) (at next after : WordsAhead) (total : ℕ) → Counts n (n - i) rows at total → i < n → NextRows n at (Some more) next → ((rest : WordsAhead → ℕ) → passed rest (next_word kind.And next) ≡ rest after) → Counts n (n - (i + 1)) (rows + more) after total
counts_more n i rows more at next after total h lt some goes =
    let one : rows_from n (n - i) at ≡ more + passed (rows_from n (n - (i + 1))) (next_word kind.And next) = step n i at lt ∙ some (λ next. passed (rows_from n (n - (i + 1))) (next_word kind.And next)) in
    record { same = omega (arith, one, goes (rows_from n (n - (i + 1))), h.same) }

-- ---- the relations of an `init` item that doesn't end

abbrev read_of : {A : Type 0} → A × WordsAhead → Result (A × WordsAhead) ReadRefusal
read_of x = Ok x

read_is : {A : Type 0} (x y : A × WordsAhead) → read_of x ≡ read_of y → x ≡ y
read_is x y e = cc

unended : {A : Type 0} (front list : List A) (after : WordsAhead) (r : ReadRefusal) (read : Result (List A × WordsAhead) ReadRefusal) → with_front front read ≡ Ok (list, after) → next_word kind.Semicolon after ≡ Err r → and_then read (λ x. and_then (next_word kind.Semicolon x.1) (λ w. read_of (x.0, w.1))) ≡ Err r
unfolding and_then
unended {A = A} front list after r (Ok x) e stop =
    let same : x.1 ≡ after = ap (λ (q : List A × WordsAhead). q.1) (read_is (front ++ x.0, x.1) (list, after) e) in
    rw (same, stop) refl
unended front list after r (Err f) e stop = absurd cc

pub relations_unended : (names : Names) (n : ℕ) (at first next after : WordsAhead) (w : Word) (x : Relation) (front list : List Relation) (r : ReadRefusal)
    → next_word kind.Init at ≡ Ok (w, first)
    → relation_at init_sign_of names n first ≡ Ok (x, next)
    → with_front front (words_while (next_is kind.And) (after_word kind.And (relation_at init_sign_of names n)) n next) ≡ Ok (list, after)
    → Refuses r (next_word kind.Semicolon after) → Refuses r (relations_at names n at)
unfolding relations_at ended_at after_word and_then
relations_unended names n at first next after w x front list r init one more =
    refuses_same r (next_word kind.Semicolon after) (relations_at names n at) (λ stop.
    let left = unended front list after r (words_while (next_is kind.And) (after_word kind.And (relation_at init_sign_of names n)) n next) more stop in
    rw (init, one, left) refl)
