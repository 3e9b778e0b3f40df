-- Going over the words of a text to the first one that has a cause of a refusal.
use Rattle.std.proofs.Common.{◌≡◌, ℕ, ◌+◌, ◌*◌, ◌<◌, ◌≤◌, List, [], ◌∷◌, length, Option, Some, None, refl, sym, ap, subst, ◌∙◌, arith}
use Rattle.std.specs.List.{AllByRecursion}
use Rattle.ps_token.specs.declared.place.Place.{Place}
use Rattle.ps_token.specs.declared.token_kind.TokenKind.{TokenKind}
use Rattle.ps_token.specs.declared.token_kind.TokenKind.TheVariants as kind
use Rattle.ps_grammar.specs.Words.{Word}
use Rattle.ps_parse.specs.Causes.{HasCauseOf, GivesRows, HasNoCause, IsCauseAt, IsClean, rows_passed, words_at}
use Rattle.ps_parse.specs.Inner.Items.{item_rows}
use Rattle.ps_parse.specs.Inner.Passed.{Blames, Finds, IsChecked, IsSpelledWord, IsSpot, MostRows, Tally, Tells, row_weight}
use Rattle.ps_parse.specs.Inner.Reading.{WordsAhead}
use Rattle.ps_parse.specs.declared.read_refusal.ReadRefusal.{ReadRefusal}
use Rattle.ps_parse.specs.declared.read_refusal.ReadRefusal.TheVariants as refusal
use Rattle.ps_parse.proofs.Weights.{rows_in_weight, weight}
use Rattle.ps_parse.proofs.RowLaws.{rows_counted, rows_given}
use Rattle.ps_parse.specs.declared.spot.Spot.{Spot}
use Rattle.ps_parse.proofs.Spots.{length_at, no_cause_in}
use Rattle.ps_parse.proofs.WordCauses.{word_found}

-- What holds before each word: the words that were passed have no cause, and those ahead end where the text does.
pub record Goes (words : List Word) (end : Place) (t : Tally) (at : WordsAhead) : Type 0 where
  pub checked : IsChecked words t at.words
  pub ends : at.end ≡ end

-- ---- counts

light : (k : TokenKind) → row_weight k ≤ 2
light kind.Equal = omega arith
light kind.Init = omega arith
light kind.And = omega arith
light kind.EqualEqual = omega arith
light k = omega arith

all_light : (back : List Word) → weight row_weight back ≤ 2 * length back
all_light [] = omega arith
all_light (w ∷ back) = omega (arith, light w.kind, all_light back)

checked_length : {words : List Word} {t : Tally} {ahead : List Word} → IsChecked words t ahead → t.words + length ahead ≡ length words
checked_length {words = words} {t = t} {ahead = ahead} h =
    let a : length (words_at h.back ahead) ≡ length h.back + length ahead = length_at h.back ahead in
    let b : length (words_at h.back ahead) ≡ length words = ap (λ (ws : List Word). length ws) h.whole in
    let c : t.words ≡ length h.back = h.tells.words in
    omega (arith, a, b, c)

-- no more than the words of a text, and two rows for each
pub few_ahead : {words : List Word} {end : Place} {t : Tally} {at : WordsAhead} → Goes words end t at → length at.words ≤ length words
few_ahead h = omega (arith, checked_length h.checked)

pub few_passed : {words : List Word} {end : Place} {t : Tally} {at : WordsAhead} (w : Word) (after : WordsAhead) → Goes words end t at → at ≡ record { words = w ∷ after.words; end = after.end } → t.words < length words
few_passed {at = at} w after h taken =
    let next : length at.words ≡ length (w ∷ after.words) = ap (λ (a : WordsAhead). length a.words) taken in
    omega (arith, next, checked_length h.checked)

pub few_rows : {words : List Word} {end : Place} {t : Tally} {at : WordsAhead} → Goes words end t at → t.rows ≤ 2 * length words
few_rows {t = t} h =
    let back : List Word = h.checked.back in
    let a : t.rows ≡ rows_passed back = h.checked.tells.rows in
    let b : rows_passed back ≡ weight row_weight back = rows_in_weight back in
    let c : t.words ≡ length back = h.checked.tells.words in
    omega (arith, a, b, c, all_light back, checked_length h.checked)

most_rows_ahead : (n rows : ℕ) (at : WordsAhead) → length at.words ≤ n → rows ≡ item_rows n at → MostRows at.words rows
most_rows_ahead n rows at room e = record {
  given = λ some. subst (GivesRows at.words) (sym e) (rows_given n at room (omega (arith, some, e)));
  most = λ other g. let k : other ≤ item_rows n at = rows_counted n at other room g in omega (arith, k, e);
}

-- ---- the words, from the first to the last

pub goes_first : (at : WordsAhead) (t : Tally) → Tells t [] → Goes at.words at.end t at
goes_first at t h = record { checked = record { back = []; whole = refl; clean = tt; tells = h }; ends = refl }

pub goes_last : (words : List Word) (end : Place) (t : Tally) (at : WordsAhead) → Goes words end t at → at.words ≡ [] → HasNoCause words
goes_last words end t at h none =
    no_cause_in words h.checked.back (subst (λ (ws : List Word). words_at h.checked.back ws ≡ words) none h.checked.whole) (subst (λ (ws : List Word). IsClean h.checked.back ws) none h.checked.clean)

-- what is found at a word, from what is kept of those before
abbrev pub Finding : Tally → Word → ℕ → Option ReadRefusal → Type 0
Finding t w rows found = (back ahead : List Word) → Tells t back → IsSpelledWord w → MostRows (w ∷ ahead) rows → Blames back w ahead found

cause_of : (back : List Word) (w : Word) (ahead : List Word) (e : ReadRefusal) → IsCauseAt back w ahead e → HasCauseOf back (w ∷ ahead) e
cause_of back w ahead (refusal.Grammar p) c = absurd c
cause_of back w ahead e c = c

-- the next word, with what is found there
record At (words : List Word) (end : Place) (t : Tally) (w : Word) (after : WordsAhead) (found : Option ReadRefusal) : Type 0 where
  pub checked : IsChecked words t (w ∷ after.words)
  pub ends : after.end ≡ end
  pub blames : Blames checked.back w after.words found

at_word : (words : List Word) (end : Place) (t : Tally) (n rows : ℕ) (at after : WordsAhead) (w : Word) (found : Option ReadRefusal) → Goes words end t at → length words ≤ n → rows ≡ item_rows n at → at ≡ record { words = w ∷ after.words; end = after.end } → IsSpelledWord w → Finding t w rows found
    → At words end t w after found
at_word words end t n rows at after w found h room e taken s f =
    let next : at.words ≡ w ∷ after.words = ap (λ (a : WordsAhead). a.words) taken in
    let checked : IsChecked words t (w ∷ after.words) = subst (IsChecked words t) next h.checked in
    record {
      checked = checked;
      ends = sym (ap (λ (a : WordsAhead). a.end) taken) ∙ h.ends;
      blames = f checked.back after.words checked.tells s (subst (λ (ws : List Word). MostRows ws rows) next (most_rows_ahead n rows at (omega (arith, few_ahead h, room)) e));
    }

pub goes_spot : (words : List Word) (end : Place) (t : Tally) (n rows : ℕ) (at after : WordsAhead) (w : Word) (e : ReadRefusal) → Goes words end t at → length words ≤ n → rows ≡ item_rows n at → at ≡ record { words = w ∷ after.words; end = after.end } → IsSpelledWord w → Finding t w rows (Some e)
    → IsSpot words end (record { before = t.words; place = w.place; refusal = e })
goes_spot words end t n rows at after w e h room counted taken s f =
    let here : At words end t w after (Some e) = at_word words end t n rows at after w (Some e) h room counted taken s f in
    record {
      cause = record {
        first = record {
          back = here.checked.back;
          ahead = w ∷ after.words;
          split = sym here.checked.whole;
          place_is = here.blames.place_is;
          cause = cause_of here.checked.back w after.words e here.blames.cause;
          first_here = here.blames.least;
          first = here.checked.clean;
        };
        own = here.blames.cause;
      };
      before_is = here.checked.tells.words;
      place_is = here.blames.place_is;
    }

pub goes_on : (words : List Word) (end : Place) (t u : Tally) (n rows : ℕ) (at after : WordsAhead) (w : Word) → Goes words end t at → length words ≤ n → rows ≡ item_rows n at → at ≡ record { words = w ∷ after.words; end = after.end } → IsSpelledWord w → Finding t w rows None
    → ((back : List Word) → Tells t back → IsSpelledWord w → Tells u (w ∷ back)) → Goes words end u after
goes_on words end t u n rows at after w h room counted taken s f more =
    let here : At words end t w after None = at_word words end t n rows at after w None h room counted taken s f in
    record {
      checked = record {
        back = w ∷ here.checked.back;
        whole = here.checked.whole;
        clean = (here.blames, here.checked.clean);
        tells = more here.checked.back here.checked.tells s;
      };
      ends = here.ends;
    }

-- ---- that each text has a first cause or none

abbrev AllSpelled : List Word → Type 0
AllSpelled = AllByRecursion IsSpelledWord

found_from : (words : List Word) (end : Place) (back ahead : List Word) → words_at back ahead ≡ words → IsClean back ahead → AllSpelled ahead → (spot : Option Spot) × Finds words end spot
found_from words end back [] whole clean s = (None, no_cause_in words back whole clean)
found_from words end back (w ∷ ahead) whole clean s = by_found (word_found back w ahead rows s.0 (most_rows_ahead (length (w ∷ ahead)) rows at (omega arith) refl)) (λ none. found_from words end (w ∷ back) ahead whole (none, clean) s.1)
  where
    at : WordsAhead
    at = record { words = w ∷ ahead; end = end }

    rows : ℕ
    rows = item_rows (length (w ∷ ahead)) at

    by_found : ((found : Option ReadRefusal) × Blames back w ahead found) → (Blames back w ahead None → (spot : Option Spot) × Finds words end spot) → (spot : Option Spot) × Finds words end spot
    by_found (None, b) next = next b
    by_found (Some e, b) next = (
      Some (record { before = length back; place = w.place; refusal = e }),
      record {
        cause = record {
          first = record { back = back; ahead = w ∷ ahead; split = sym whole; place_is = b.place_is; cause = cause_of back w ahead e b.cause; first_here = b.least; first = clean };
          own = b.cause;
        };
        before_is = refl;
        place_is = b.place_is;
      },
    )

-- Of the words of a text, one is the first with a cause, or none has one.
pub finds : (words : List Word) (end : Place) → AllSpelled words → (spot : Option Spot) × Finds words end spot
finds words end s = found_from words end [] words refl tt s
