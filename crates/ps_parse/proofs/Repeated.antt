-- Reading one after the other, as loops do: what was read, with what is still read, is all.
use Rattle.std.proofs.Common.{◌≡◌, ℕ, zero, suc, ◌-◌, ◌+◌, ◌≤◌, ◌<◌, Bool, true, false, List, [], ◌∷◌, ◌++◌, Result, Ok, Err, refl, sym, ap, ◌∙◌, append_assoc, arith}
use Rattle.std.proofs.lemmas.List.{append-nil}
use Rattle.ps_token.specs.declared.token_kind.TokenKind.{TokenKind}
use Rattle.ps_parse.specs.declared.read_refusal.ReadRefusal.{ReadRefusal}
use Rattle.ps_parse.specs.declared.read_refusal.ReadRefusal.TheVariants as refusal
use Rattle.ps_parse.specs.Inner.Reading.{WordsAhead, next_word, after_word, ReadWords, words_while, with_front}
use Rattle.ps_parse.specs.Promises.{Refuses}
use Rattle.ps_lines.specs.Steps.{and_then, ◌>>=◌}
use Rattle.ps_grammar.specs.Words.{Word}

pub with_front-none : {A : Type 0} (read : Result (List A × WordsAhead) ReadRefusal) → with_front [] read ≡ read
unfolding and_then
with_front-none (Ok x) = refl
with_front-none (Err f) = refl

pub with_front-more : {A : Type 0} (front : List A) (x : A) (read : Result (List A × WordsAhead) ReadRefusal) → with_front front (read >>= λ y. Ok (x ∷ y.0, y.1)) ≡ with_front (front ++ x ∷ []) read
unfolding and_then
with_front-more {A = A} front x (Ok y) = ap (λ (ns : List A). Ok (ns, y.1)) (sym (append_assoc front (x ∷ []) y.0))
with_front-more front x (Err f) = refl

-- a step, in a loop that may go on `left` times
pub record Repeats {A : Type 0} (goes : WordsAhead → Bool) (read : ReadWords A) (front : List A) (left : ℕ) (at : WordsAhead) (total : Result (List A × WordsAhead) ReadRefusal) : Type 0 where
  pub same : with_front front (words_while goes read left at) ≡ total

pub repeats_none : {A : Type 0} (goes : WordsAhead → Bool) (read : ReadWords A) (front : List A) (n : ℕ) (at : WordsAhead) → Repeats goes read front n at (with_front front (words_while goes read n at))
repeats_none goes read front n at = record { same = refl }

none_goes : {A : Type 0} (goes : WordsAhead → Bool) (read : ReadWords A) (n : ℕ) (at : WordsAhead) → goes at ≡ false → words_while goes read n at ≡ Ok ([], at)
unfolding words_while
none_goes goes read zero at h = refl
none_goes goes read (suc n) at h = rw h refl

pub repeats_stop : {A : Type 0} (goes : WordsAhead → Bool) (read : ReadWords A) (front : List A) (n : ℕ) (at : WordsAhead) (total : Result (List A × WordsAhead) ReadRefusal) → Repeats goes read front n at total → goes at ≡ false → total ≡ Ok (front, at)
unfolding and_then
repeats_stop {A = A} goes read front n at total h stop = sym h.same ∙ ap (with_front front) (none_goes goes read n at stop) ∙ ap (λ (ns : List A). Ok (ns, at)) (append-nil front)

pub repeats_all : {A : Type 0} (goes : WordsAhead → Bool) (read : ReadWords A) (front : List A) (n i : ℕ) (at : WordsAhead) (total : Result (List A × WordsAhead) ReadRefusal) → Repeats goes read front (n - i) at total → n ≤ i → total ≡ Ok (front, at)
unfolding and_then words_while
repeats_all {A = A} goes read front n i at total h le =
    let k : n - i ≡ 0 = omega arith in
    let one : with_front front (words_while goes read (n - i) at) ≡ Ok (front, at) = rw k (ap (λ (ns : List A). Ok (ns, at)) (append-nil front)) in
    sym h.same ∙ one

pub repeats_more : {A : Type 0} (goes : WordsAhead → Bool) (read : ReadWords A) (front : List A) (n i : ℕ) (at after : WordsAhead) (x : A) (total : Result (List A × WordsAhead) ReadRefusal) → Repeats goes read front (n - i) at total → i < n → goes at ≡ true → read at ≡ Ok (x, after) → Repeats goes read (front ++ x ∷ []) (n - (i + 1)) after total
unfolding and_then words_while
repeats_more goes read front n i at after x total h lt more e =
    let k : n - i ≡ suc (n - (i + 1)) = omega arith in
    let one : with_front front (words_while goes read (n - i) at) ≡ with_front (front ++ x ∷ []) (words_while goes read (n - (i + 1)) after) = rw (k, more, e) (with_front-more front x (words_while goes read (n - (i + 1)) after)) in
    record { same = sym one ∙ h.same }

err_stays : {A : Type 0} (goes : WordsAhead → Bool) (read : ReadWords A) (front : List A) (n i : ℕ) (at : WordsAhead) (r : ReadRefusal) → i < n → goes at ≡ true → read at ≡ Err r → with_front front (words_while goes read (n - i) at) ≡ Err r
unfolding and_then words_while
err_stays goes read front n i at r lt more e =
    let k : n - i ≡ suc (n - (i + 1)) = omega arith in
    rw (k, more, e) refl

-- one refusal is the other
pub refuses_same : {A B : Type 0} (r : ReadRefusal) (x : Result A ReadRefusal) (y : Result B ReadRefusal) → (x ≡ Err r → y ≡ Err r) → Refuses r x → Refuses r y
refuses_same (refusal.Memory m) x y same h = tt
refuses_same r x y same h = same h

pub repeats_fails : {A : Type 0} (goes : WordsAhead → Bool) (read : ReadWords A) (front : List A) (n i : ℕ) (at : WordsAhead) (r : ReadRefusal) (total : Result (List A × WordsAhead) ReadRefusal) → Repeats goes read front (n - i) at total → i < n → goes at ≡ true → Refuses r (read at) → Refuses r total
repeats_fails goes read front n i at r total h lt more =
    refuses_same r (read at) total (λ e. sym h.same ∙ err_stays goes read front n i at r lt more e)

-- a refusal at the word that a step begins with, or after it
pub word_refuses : {A : Type 0} (k : TokenKind) (read : ReadWords A) (at : WordsAhead) (r : ReadRefusal) → Refuses r (next_word k at) → Refuses r (after_word k read at)
unfolding after_word and_then
word_refuses k read at r = refuses_same r (next_word k at) (after_word k read at) (λ e. rw e refl)

pub then_refuses : {A : Type 0} (k : TokenKind) (read : ReadWords A) (at next : WordsAhead) (w : Word) (r : ReadRefusal) → next_word k at ≡ Ok (w, next) → Refuses r (read next) → Refuses r (after_word k read at)
unfolding after_word and_then
then_refuses k read at next w r first = refuses_same r (read next) (after_word k read at) (λ e. rw (first, e) refl)

pub repeats_first : {A : Type 0} (goes : WordsAhead → Bool) (read : ReadWords A) (n : ℕ) (at : WordsAhead) → Repeats goes read [] n at (words_while goes read n at)
repeats_first goes read n at = record { same = with_front-none (words_while goes read n at) }
