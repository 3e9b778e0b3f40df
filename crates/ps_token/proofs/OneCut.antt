-- A text has one list of tokens, or is bad at one place, and never both.
use Rattle.std.proofs.Common.{◌≡◌, ℕ, ◌+◌, ◌-◌, ◌<◌, ◌≤◌, Bool, true, false, ◌||◌, eqb, cond, List, [], ◌∷◌, ◌++◌, length, take, drop, Option, Some, None, refl, sym, ◌∙◌, ap, ap₂, subst, arith, eq-eqb}
use Rattle.std.specs.Prelude.{slice_range, All}
use Rattle.std.proofs.lemmas.List.Elements.{All-nil, All-cons, All-weaker}
use Rattle.std.proofs.lemmas.Bool.{eqb-true}
use Rattle.std.proofs.lemmas.List.{length-take, take-append-drop}
use Rattle.std.proofs.Math.Seq.{drop-length}
use Rattle.ps_token.specs.declared.place.Place.{Place}
use Rattle.ps_token.specs.declared.token.Token.{Token}
use Rattle.ps_token.specs.declared.token_kind.TokenKind.{TokenKind}
use Rattle.ps_token.specs.Lexing.{is_blank, place_of, IsToken, IsTokenOf, IsInside, IsGapBetween, AreUpTo, AreTokens, IsBadAt, StartsNoToken, StartsNoGap}
use Rattle.ps_token.specs.inner.Scanning.{gap_len, token_at}
use Rattle.ps_token.proofs.Gaps.{gap_counted, counts_no_gap, no_gap_at}
use Rattle.ps_token.proofs.Front.{IsAhead, Ahead, token_ahead, token_found}
use Rattle.ps_token.proofs.Cuts.{split_range, range_len}

-- ---- a token isn't the beginning of a gap

no_token_at : (b c : ℕ) (bs : List ℕ) (o : Option (TokenKind × ℕ)) → eqb b c ≡ true → token_at (c ∷ bs) ≡ None → token_at (b ∷ bs) ≡ None
no_token_at b c bs o e h = ap (λ (x : ℕ). token_at (x ∷ bs)) (eqb-true b c e) ∙ h

-- A blank begins no token, and neither does `/`.
gap_byte_by : (b : ℕ) (bs : List ℕ) (blank tab return feed slash : Bool) → eqb b 32 ≡ blank → eqb b 9 ≡ tab → eqb b 13 ≡ return → eqb b 10 ≡ feed → eqb b 47 ≡ slash
    → (blank || tab || return || feed || slash) ≡ true → token_at (b ∷ bs) ≡ None
gap_byte_by b bs true tab return feed slash e f g h i t = ap (λ (x : ℕ). token_at (x ∷ bs)) (eqb-true b 32 e)
gap_byte_by b bs false true return feed slash e f g h i t = ap (λ (x : ℕ). token_at (x ∷ bs)) (eqb-true b 9 f)
gap_byte_by b bs false false true feed slash e f g h i t = ap (λ (x : ℕ). token_at (x ∷ bs)) (eqb-true b 13 g)
gap_byte_by b bs false false false true slash e f g h i t = ap (λ (x : ℕ). token_at (x ∷ bs)) (eqb-true b 10 h)
gap_byte_by b bs false false false false true e f g h i t = ap (λ (x : ℕ). token_at (x ∷ bs)) (eqb-true b 47 i)
gap_byte_by b bs false false false false false e f g h i t = cc

no_gap_by : (b : ℕ) (bs : List ℕ) (t : Bool) (p : TokenKind × ℕ) → (is_blank b || eqb b 47) ≡ t → token_at (b ∷ bs) ≡ Some p → gap_len (b ∷ bs) ≡ 0
no_gap_by b bs true p e h = (let none : token_at (b ∷ bs) ≡ None = gap_byte_by b bs (eqb b 32) (eqb b 9) (eqb b 13) (eqb b 10) (eqb b 47) refl refl refl refl refl e in cc)
no_gap_by b bs false p e h = no_gap_at b bs e

no_gap : (bytes : List ℕ) (p : TokenKind × ℕ) → token_at bytes ≡ Some p → gap_len bytes ≡ 0
no_gap [] p h = refl
no_gap (b ∷ bs) p h = no_gap_by b bs (is_blank b || eqb b 47) p refl h

-- ---- what follows an index is determined

-- A gap from one index to another, where no gap goes on.
pub gap_ends_at : (bytes : List ℕ) (from to : ℕ) → IsGapBetween bytes from to → to ≤ length bytes → gap_len (drop to bytes) ≡ 0 → from + gap_len (drop from bytes) ≡ to
gap_ends_at bytes from to gap inside stops =
    let counted : gap_len (drop from bytes) ≡ length (slice_range bytes from to) = ap gap_len (sym (split_range bytes from to gap.ordered)) ∙ gap_counted (drop to bytes) (slice_range bytes from to) gap.gap stops in
    omega (arith, range_len bytes from to gap.ordered inside)

pub token_some : (kind : TokenKind) (text after : List ℕ) → IsToken kind text after → 0 < length text
token_some kind text after h =
    let ahead : IsAhead (text ++ after) kind (length text) = subst (Ahead (text ++ after)) (token_found kind text after h.spelled h.whole) (token_ahead (text ++ after)) in
    ahead.some

-- A token of the text: what the pass finds at its start, and where it ends.
pub record IsFound (bytes : List ℕ) (token : Token) : Type 0 where
  pub len : ℕ
  pub is : token_at (drop token.start bytes) ≡ Some (token.kind, len)
  pub end : token.start + len ≡ token.end
  pub inside : token.start < length bytes
  pub no_gap : gap_len (drop token.start bytes) ≡ 0

pub token_is_found : (bytes : List ℕ) (token : Token) → IsTokenOf bytes token → IsFound bytes token
token_is_found bytes token h =
    let text = slice_range bytes token.start token.end in
    let some : 0 < length text = token_some token.kind text (drop token.end bytes) h.text in
    let ordered : token.start < token.end = omega (arith, length-take (token.end - token.start) (drop token.start bytes)) in
    let weak : token.start ≤ token.end = omega arith in
    let inside : token.end ≤ length bytes = h.inside in
    let found : token_at (drop token.start bytes) ≡ Some (token.kind, length text) = ap token_at (sym (split_range bytes token.start token.end weak)) ∙ token_found token.kind text (drop token.end bytes) h.text.spelled h.text.whole in
    record {
      len = length text;
      is = found;
      end = range_len bytes token.start token.end weak h.inside;
      inside = omega arith;
      no_gap = no_gap (drop token.start bytes) (token.kind, length text) found;
    }

pub token_starts_at : (bytes : List ℕ) (from : ℕ) (token : Token) → IsGapBetween bytes from token.start → IsTokenOf bytes token → from + gap_len (drop from bytes) ≡ token.start
token_starts_at bytes from token gap h =
    let found = token_is_found bytes token h in
    let inside : token.start ≤ length bytes = (let k = found.inside in omega arith) in
    gap_ends_at bytes from token.start gap inside found.no_gap

same_pair : (a b : TokenKind) (m n : ℕ) → ◌≡◌ {A = Option (TokenKind × ℕ)} (Some (a, m)) (Some (b, n)) → (a ≡ b) × (m ≡ n)
same_pair a b m n e =
    let pair : ◌≡◌ {A = TokenKind × ℕ} (a, m) (b, n) = cc in
    (ap (λ (p : TokenKind × ℕ). p.0) pair, ap (λ (p : TokenKind × ℕ). p.1) pair)

-- Two tokens of the text that begin at one index are one.
same_token : (bytes : List ℕ) (t u : Token) → IsTokenOf bytes t → IsTokenOf bytes u → t.start ≡ u.start → t ≡ u
same_token bytes t u h k e =
    let f = token_is_found bytes t h in
    let g = token_is_found bytes u k in
    let one : token_at (drop t.start bytes) ≡ Some (u.kind, g.len) = ap (λ (n : ℕ). token_at (drop n bytes)) e ∙ g.is in
    let both = same_pair t.kind u.kind f.len g.len (sym f.is ∙ one) in
    let kind : t.kind ≡ u.kind = both.0 in
    let len : f.len ≡ g.len = both.1 in
    let end : t.end ≡ u.end = (let a = f.end in let b = g.end in omega arith) in
    let place : t.place ≡ u.place = h.place ∙ ap (place_of bytes) e ∙ sym k.place in
    let make : TokenKind → ℕ → ℕ → Place → Token = λ a b c d. record { kind = a; start = b; end = c; place = d } in
    ap (λ (a : TokenKind). make a t.start t.end t.place) kind ∙ ap (λ (b : ℕ). make u.kind b t.end t.place) e ∙ ap (λ (c : ℕ). make u.kind u.start c t.place) end ∙ ap (make u.kind u.start u.end) place

-- ---- how a text goes out: at its end, or at a bad byte

pub record IsBadFrom (bytes : List ℕ) (to : ℕ) (place : Place) : Type 0 where
  pub at : ℕ
  pub gap : IsGapBetween bytes to at
  pub inside : at < length bytes
  pub no_token : StartsNoToken (drop at bytes)
  pub no_gap : StartsNoGap (drop at bytes)
  pub is : place ≡ place_of bytes at

abbrev pub GoesOut : List ℕ → ℕ → Option Place → Type 0
GoesOut bytes to None = IsGapBetween bytes to (length bytes)
GoesOut bytes to (Some place) = IsBadFrom bytes to place

abbrev outcome_at : List ℕ → ℕ → Option Place
outcome_at bytes at = cond (eqb at (length bytes)) None (Some (place_of bytes at))

record IsOutcome (bytes : List ℕ) (to : ℕ) (o : Option Place) : Type 0 where
  no_token : token_at (drop (to + gap_len (drop to bytes)) bytes) ≡ None
  is : o ≡ outcome_at bytes (to + gap_len (drop to bytes))

no_token_found : (bytes : List ℕ) (o : Option (TokenKind × ℕ)) → token_at bytes ≡ o → StartsNoToken bytes → token_at bytes ≡ None
no_token_found bytes None e h = e
no_token_found bytes (Some p) e h =
    let ahead : IsAhead bytes p.0 p.1 = subst (Ahead bytes) e (token_ahead bytes) in
    absurd (h p.0 (take p.1 bytes) (drop p.1 bytes) ahead.token (sym (take-append-drop p.1 bytes)))

unequal : (a b : ℕ) (t : Bool) → a < b → eqb a b ≡ t → eqb a b ≡ false
unequal a b true h e = absurd (let f = eqb-true a b e in omega arith)
unequal a b false h e = e

outcome_is : (bytes : List ℕ) (to : ℕ) (o : Option Place) → GoesOut bytes to o → IsOutcome bytes to o
outcome_is bytes to None gap =
    let at : to + gap_len (drop to bytes) ≡ length bytes = gap_ends_at bytes to (length bytes) gap (omega arith) (rw (drop-length bytes) refl) in
    record { no_token = rw (at, drop-length bytes) refl; is = rw at (ap (λ (t : Bool). cond t None (Some (place_of bytes (length bytes)))) (sym (eq-eqb (length bytes) (length bytes) refl))) }
outcome_is bytes to (Some place) bad =
    let weak : bad.at ≤ length bytes = (let k = bad.inside in omega arith) in
    let at : to + gap_len (drop to bytes) ≡ bad.at = gap_ends_at bytes to bad.at bad.gap weak (counts_no_gap (drop bad.at bytes) bad.no_gap) in
    record {
      no_token = rw at (no_token_found (drop bad.at bytes) (token_at (drop bad.at bytes)) refl bad.no_token);
      is = ap (λ (p : Place). Some p) bad.is ∙ sym (ap (λ (t : Bool). cond t None (Some (place_of bytes bad.at))) (unequal bad.at (length bytes) (eqb bad.at (length bytes)) bad.inside refl)) ∙ sym (ap (outcome_at bytes) at);
    }

-- From one index on there is one list of tokens, and one way out.
record IsOneWay (ts us : List Token) (o p : Option Place) : Type 0 where
  tokens : ts ≡ us
  out : o ≡ p

no_more : (bytes : List ℕ) (from : ℕ) (o : Option Place) (t : Token) → GoesOut bytes from o → IsGapBetween bytes from t.start → IsTokenOf bytes t → ⊥
no_more bytes from o t out gap h =
    let n = (outcome_is bytes from o out).no_token in
    let found = token_is_found bytes t h in
    let same : token_at (drop (from + gap_len (drop from bytes)) bytes) ≡ token_at (drop t.start bytes) = ap (λ (k : ℕ). token_at (drop k bytes)) (token_starts_at bytes from t gap h) in
    (let a = found.is in cc)

one_way : (bytes : List ℕ) (ts us : List Token) (from to end : ℕ) (o p : Option Place) → AreUpTo bytes from ts to → GoesOut bytes to o → AreUpTo bytes from us end → GoesOut bytes end p → IsOneWay ts us o p
one_way bytes [] [] from to end o p e h f k =
    let a : GoesOut bytes from o = subst (λ (n : ℕ). GoesOut bytes n o) (sym e) h in
    let b : GoesOut bytes from p = subst (λ (n : ℕ). GoesOut bytes n p) (sym f) k in
    record { tokens = refl; out = (outcome_is bytes from o a).is ∙ sym (outcome_is bytes from p b).is }
one_way bytes [] (u ∷ us) from to end o p e h f k =
    let a : GoesOut bytes from o = subst (λ (n : ℕ). GoesOut bytes n o) (sym e) h in
    absurd (no_more bytes from o u a f.0 f.1)
one_way bytes (t ∷ ts) [] from to end o p e h f k =
    let b : GoesOut bytes from p = subst (λ (n : ℕ). GoesOut bytes n p) (sym f) k in
    absurd (no_more bytes from p t b e.0 e.1)
one_way bytes (t ∷ ts) (u ∷ us) from to end o p e h f k =
    let start : t.start ≡ u.start = sym (token_starts_at bytes from t e.0 e.1) ∙ token_starts_at bytes from u f.0 f.1 in
    let same : t ≡ u = same_token bytes t u e.1 f.1 start in
    let rest : AreUpTo bytes t.end us end = subst (λ (x : Token). AreUpTo bytes x.end us end) (sym same) f.2 in
    let one = one_way bytes ts us t.end to end o p e.2 h rest k in
    record { tokens = ap₂ (λ (x : Token) (xs : List Token). x ∷ xs) same one.tokens; out = one.out }

pub one_list : (bytes : List ℕ) (ts us : List Token) → AreTokens bytes ts → AreTokens bytes us → ts ≡ us
one_list bytes ts us h k = (one_way bytes ts us 0 h.to k.to None None h.cut h.rest k.cut k.rest).tokens

bad_from : (bytes : List ℕ) (place : Place) (h : IsBadAt bytes place) → IsBadFrom bytes h.to place
bad_from bytes place h = record { at = h.at; gap = h.gap; inside = h.inside; no_token = h.no_token; no_gap = h.no_gap; is = h.is }

pub not_both : (bytes : List ℕ) (ts : List Token) (place : Place) → AreTokens bytes ts → IsBadAt bytes place → ⊥
not_both bytes ts place h k = (let e = (one_way bytes ts k.tokens 0 h.to k.to None (Some place) h.cut h.rest k.cut (bad_from bytes place k)).out in cc)

pub one_place : (bytes : List ℕ) (place other : Place) → IsBadAt bytes place → IsBadAt bytes other → place ≡ other
one_place bytes place other h k = (let e = (one_way bytes h.tokens k.tokens 0 h.to k.to (Some place) (Some other) h.cut (bad_from bytes place h) k.cut (bad_from bytes other k)).out in cc)

-- ---- each token

each_from : (bytes : List ℕ) (ts : List Token) (from to : ℕ) → AreUpTo bytes from ts to → All (IsTokenOf bytes) ts
each_from bytes [] from to h = All-nil (IsTokenOf bytes)
each_from bytes (t ∷ ts) from to h = All-cons (IsTokenOf bytes) t ts h.1 (each_from bytes ts t.end to h.2)

pub each_token : (bytes : List ℕ) (ts : List Token) → AreTokens bytes ts → All (IsTokenOf bytes) ts
each_token bytes ts h = each_from bytes ts 0 h.to h.cut

token_inside : (bytes : List ℕ) (token : Token) → IsTokenOf bytes token → IsInside (length bytes) token
token_inside bytes token h =
    let some = token_some token.kind (slice_range bytes token.start token.end) (drop token.end bytes) h.text in
    record { ordered = omega (arith, length-take (token.end - token.start) (drop token.start bytes)); inside = h.inside }

pub each_inside : (bytes : List ℕ) (ts : List Token) → AreTokens bytes ts → All (IsInside (length bytes)) ts
each_inside bytes ts h = All-weaker (IsTokenOf bytes) (IsInside (length bytes)) (token_inside bytes) ts (each_token bytes ts h)
