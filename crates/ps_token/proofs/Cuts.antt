-- The pass over a whole text: what is done so far, and its steps.
use Rattle.std.proofs.Common.{◌≡◌, ℕ, suc, ◌+◌, ◌-◌, ◌<◌, ◌≤◌, Bool, true, false, eqb, cond, List, [], ◌∷◌, ◌++◌, length, take, drop, get_or, Some, None, refl, sym, ◌∙◌, ap, subst, arith}
use Rattle.std.specs.Prelude.{slice_range}
use Rattle.std.proofs.lemmas.List.{length-take, take-append-drop, length-drop, drop-drop, take_more, get_or-take, get_or-drop}
use Rattle.ps_token.specs.declared.place.Place.{Place}
use Rattle.ps_token.specs.declared.token.Token.{Token}
use Rattle.ps_token.specs.declared.token_kind.TokenKind.{TokenKind}
use Rattle.ps_token.specs.Lexing.{next_place, place_after, text_begin, place_of, IsTokenOf, IsGapBetween, AreUpTo, AreTokens, IsBadAt, StartsNoToken}
use Rattle.ps_token.specs.inner.Scanning.{gap_len, token_at, IsFrom}
use Rattle.ps_token.proofs.Gaps.{gap_is, gap_stops, starts_no_gap}
use Rattle.ps_token.proofs.Front.{IsAhead, Ahead, token_ahead, token_found}

-- ---- places

place_push : (place : Place) (bytes : List ℕ) (b : ℕ) → place_after place (bytes ++ b ∷ []) ≡ next_place (place_after place bytes) b
place_push place [] b = refl
place_push place (c ∷ bytes) b = place_push (next_place place c) bytes b

pub place_more : (bytes : List ℕ) (at : ℕ) → at < length bytes → place_of bytes (at + 1) ≡ next_place (place_of bytes at) (get_or bytes at 0)
place_more bytes at h = ap (place_after text_begin) (take_more bytes at 0 h) ∙ place_push text_begin (take at bytes) (get_or bytes at 0)

-- Both numbers of a place are at most this one.
pub record IsBelow (most : ℕ) (place : Place) : Type 0 where
  pub line : place.line ≤ most
  pub column : place.column ≤ most

next_below : (most : ℕ) (place : Place) (b : ℕ) (t : Bool) → IsBelow most place → IsBelow (suc most) (cond t (record { line = place.line + 1; column = 1 }) (record { line = place.line; column = place.column + 1 }))
next_below most place b true h = record { line = omega arith; column = omega arith }
next_below most place b false h = record { line = omega arith; column = omega arith }

place_below : (most : ℕ) (place : Place) (bytes : List ℕ) → IsBelow most place → IsBelow (most + length bytes) (place_after place bytes)
place_below most place [] h = record { line = omega arith; column = omega arith }
place_below most place (b ∷ bytes) h =
    let k = place_below (suc most) (next_place place b) bytes (next_below most place b (eqb b 10) h) in
    record { line = omega arith; column = omega arith }

pub place_of_below : (bytes : List ℕ) (at : ℕ) → IsBelow (at + 1) (place_of bytes at)
place_of_below bytes at =
    let k = place_below 1 text_begin (take at bytes) (record { line = omega arith; column = omega arith }) in
    record { line = omega (arith, length-take at bytes); column = omega (arith, length-take at bytes) }

pub place_is_below : (bytes : List ℕ) (at : ℕ) (place : Place) → place ≡ place_of bytes at → IsBelow (at + 1) place
place_is_below bytes at place e = rw e (place_of_below bytes at)

pub moved_more : (bytes : List ℕ) (from to i : ℕ) (place after : Place) → to ≤ length bytes → i < length (slice_range bytes from to) → place ≡ place_of bytes (from + i) → after ≡ next_place place (get_or (slice_range bytes from to) i 0) → after ≡ place_of bytes (from + (i + 1))
moved_more bytes from to i place after inside h is e =
    let short : i < to - from = omega (arith, length-take (to - from) (drop from bytes)) in
    let same : get_or (slice_range bytes from to) i 0 ≡ get_or bytes (from + i) 0 = get_or-take (to - from) (drop from bytes) i 0 short ∙ get_or-drop from bytes i 0 in
    let within : from + i < length bytes = omega arith in
    let next : from + (i + 1) ≡ from + i + 1 = omega arith in
    e ∙ ap (next_place place) same ∙ ap (λ (p : Place). next_place p (get_or bytes (from + i) 0)) is ∙ sym (place_more bytes (from + i) within) ∙ ap (place_of bytes) (sym next)

-- ---- parts of a text

pub split_range : (bytes : List ℕ) (from to : ℕ) → from ≤ to → slice_range bytes from to ++ drop to bytes ≡ drop from bytes
split_range bytes from to h =
    let same : from + (to - from) ≡ to = omega arith in
    let after : drop (to - from) (drop from bytes) ≡ drop to bytes = drop-drop (to - from) from bytes ∙ ap (λ (n : ℕ). drop n bytes) same in
    ap (λ (rest : List ℕ). slice_range bytes from to ++ rest) (sym after) ∙ take-append-drop (to - from) (drop from bytes)

pub range_len : (bytes : List ℕ) (from to : ℕ) → from ≤ to → to ≤ length bytes → from + length (slice_range bytes from to) ≡ to
range_len bytes from to h k = omega (arith, length-take (to - from) (drop from bytes), length-drop from bytes)

pub gap_between : (bytes : List ℕ) (at : ℕ) → IsGapBetween bytes at (at + gap_len (drop at bytes))
gap_between bytes at =
    let n = gap_len (drop at bytes) in
    let taken : at + n - at ≡ n = omega arith in
    record { ordered = omega arith; gap = rw (taken, ← drop-drop n at bytes) (gap_is (drop at bytes)) }

pub from_ahead : (bytes : List ℕ) (start : ℕ) (kind : TokenKind) (len : ℕ) → start < length bytes → token_at (drop start bytes) ≡ Some (kind, len) → (start + len ≤ length bytes) × IsFrom bytes start (Some (kind, start + len))
from_ahead bytes start kind len h e =
    let a : IsAhead (drop start bytes) kind len = subst (Ahead (drop start bytes)) e (token_ahead (drop start bytes)) in
    let within : start + len ≤ length bytes = omega (arith, a.within, length-drop start bytes) in
    let taken : start + len - start ≡ len = omega arith in
    (within, (omega (arith, a.some), within, rw (taken, ← drop-drop len start bytes) a.token))

-- ---- what is done so far

pub record Cut (bytes : List ℕ) (at : ℕ) (tokens : List Token) (place : Place) : Type 0 where
  pub inside : at ≤ length bytes
  pub cut : AreUpTo bytes 0 tokens at
  pub is : place ≡ place_of bytes at

up_to_push : (bytes : List ℕ) (tokens : List Token) (from mid : ℕ) (token : Token) → AreUpTo bytes from tokens mid → IsGapBetween bytes mid token.start → IsTokenOf bytes token → AreUpTo bytes from (tokens ++ token ∷ []) token.end
up_to_push bytes [] from mid token h gap is = (rw h gap, is, refl)
up_to_push bytes (t ∷ ts) from mid token h gap is = (h.0, h.1, up_to_push bytes ts t.end mid token h.2 gap is)

pub cut_more : (bytes : List ℕ) (at start end : ℕ) (tokens : List Token) (before place after : Place) (kind : TokenKind) → Cut bytes at tokens before → start ≡ at + gap_len (drop at bytes) → place ≡ place_of bytes start → IsFrom bytes start (Some (kind, end)) → after ≡ place_of bytes end
    → Cut bytes end (tokens ++ record { kind = kind; start = start; end = end; place = place } ∷ []) after
cut_more bytes at start end tokens before place after kind done s p is q =
    let gap : IsGapBetween bytes at start = rw s (gap_between bytes at) in
    record {
      inside = is.1;
      cut = up_to_push bytes tokens 0 at (record { kind = kind; start = start; end = end; place = place }) done.cut gap (record { inside = is.1; text = is.2; place = p });
      is = q;
    }

pub cut_all : (bytes : List ℕ) (at start : ℕ) (tokens : List Token) (before : Place) → Cut bytes at tokens before → start ≡ at + gap_len (drop at bytes) → start ≡ length bytes → AreTokens bytes tokens
cut_all bytes at start tokens before done s e =
    record { to = at; cut = done.cut; rest = (let end : length bytes ≡ at + gap_len (drop at bytes) = sym e ∙ s in rw end (gap_between bytes at)) }

pub starts_no_token : (bytes : List ℕ) → token_at bytes ≡ None → StartsNoToken bytes
starts_no_token bytes h kind text after token e = (let found : token_at bytes ≡ Some (kind, length text) = ap token_at e ∙ token_found kind text after token.spelled token.whole in cc)

pub cut_bad : (bytes : List ℕ) (at start : ℕ) (tokens : List Token) (before place : Place) → Cut bytes at tokens before → start ≡ at + gap_len (drop at bytes) → start < length bytes → place ≡ place_of bytes start → token_at (drop start bytes) ≡ None → IsBadAt bytes place
cut_bad bytes at start tokens before place done s inside p none =
    let no_gap : gap_len (drop start bytes) ≡ 0 = ap (λ (n : ℕ). gap_len (drop n bytes)) s ∙ ap gap_len (sym (drop-drop (gap_len (drop at bytes)) at bytes)) ∙ gap_stops (drop at bytes) in
    record {
      tokens = tokens;
      to = at;
      at = start;
      cut = done.cut;
      gap = rw s (gap_between bytes at);
      inside = inside;
      no_token = starts_no_token (drop start bytes) none;
      no_gap = starts_no_gap (drop start bytes) no_gap;
      is = p;
    }
