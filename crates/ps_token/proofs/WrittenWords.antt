-- Texts that are written word by word are cut into these words.
use Rattle.std.proofs.Common.{◌≡◌, ℕ, ◌+◌, ◌-◌, ◌≤◌, Bool, true, false, cond, List, [], ◌∷◌, ◌++◌, length, take, drop, map, refl, sym, ◌∙◌, ap, ap₂, arith, append_assoc}
use Rattle.std.specs.Prelude.{slice_range}
use Rattle.std.specs.Prelude.{All}
use Rattle.std.specs.List.{flat_map}
use Rattle.std.proofs.lemmas.List.Elements.{All-head, All-tail}
use Rattle.std.proofs.lemmas.List.{length-append, length-drop, drop-drop}
use Rattle.std.proofs.Math.Seq.{take-append_seam, drop-append_seam}
use Rattle.ps_token.specs.declared.token.Token.{Token}
use Rattle.ps_token.specs.declared.token_kind.TokenKind.{TokenKind}
use Rattle.ps_token.specs.declared.token_kind.TokenKind.TheVariants.{Name, Number, Global, Local, Init, Thread, Havoc, Assume, Assert, Skip, Atomic, If, Else, While, Becomes, LessEq, GreaterEq, EqualEqual, NotEqual, And, Or, Less, Greater, Not, Equal, Plus, Minus, Star, OpenParen, CloseParen, OpenBrace, CloseBrace, Semicolon}
use Rattle.ps_token.specs.Lexing.{place_of, carries_on, IsGap, Nothing, Blank, IsGapBetween, AreUpTo, Written, IsWritten, word_bytes, kind_and_text, word_parts, HasTokens}

-- What follows a word.
abbrev separator : Bool → ℕ
separator ends_line = cond ends_line 10 32

-- Neither a blank nor a line feed carries a token on.
ends_token : (kind : TokenKind) (ends_line : Bool) → carries_on kind (separator ends_line) ≡ false
ends_token Name true = refl
ends_token Name false = refl
ends_token Number true = refl
ends_token Number false = refl
ends_token Global true = refl
ends_token Global false = refl
ends_token Local true = refl
ends_token Local false = refl
ends_token Init true = refl
ends_token Init false = refl
ends_token Thread true = refl
ends_token Thread false = refl
ends_token Havoc true = refl
ends_token Havoc false = refl
ends_token Assume true = refl
ends_token Assume false = refl
ends_token Assert true = refl
ends_token Assert false = refl
ends_token Skip true = refl
ends_token Skip false = refl
ends_token Atomic true = refl
ends_token Atomic false = refl
ends_token If true = refl
ends_token If false = refl
ends_token Else true = refl
ends_token Else false = refl
ends_token While true = refl
ends_token While false = refl
ends_token Becomes true = refl
ends_token Becomes false = refl
ends_token LessEq true = refl
ends_token LessEq false = refl
ends_token GreaterEq true = refl
ends_token GreaterEq false = refl
ends_token EqualEqual true = refl
ends_token EqualEqual false = refl
ends_token NotEqual true = refl
ends_token NotEqual false = refl
ends_token And true = refl
ends_token And false = refl
ends_token Or true = refl
ends_token Or false = refl
ends_token Less true = refl
ends_token Less false = refl
ends_token Greater true = refl
ends_token Greater false = refl
ends_token Not true = refl
ends_token Not false = refl
ends_token Equal true = refl
ends_token Equal false = refl
ends_token Plus true = refl
ends_token Plus false = refl
ends_token Minus true = refl
ends_token Minus false = refl
ends_token Star true = refl
ends_token Star false = refl
ends_token OpenParen true = refl
ends_token OpenParen false = refl
ends_token CloseParen true = refl
ends_token CloseParen false = refl
ends_token OpenBrace true = refl
ends_token OpenBrace false = refl
ends_token CloseBrace true = refl
ends_token CloseBrace false = refl
ends_token Semicolon true = refl
ends_token Semicolon false = refl

-- What is left of the separator of the word before: none, or one byte.
data IsLeft : List ℕ → Type 0 where
  First : IsLeft []
  After : (ends_line : Bool) → IsLeft (separator ends_line ∷ [])

left_is_gap : (after left : List ℕ) → IsLeft left → IsGap after left
left_is_gap after left First = Nothing
left_is_gap after left (After true) = Blank 10 [] refl Nothing
left_is_gap after left (After false) = Blank 32 [] refl Nothing

-- What stands between two indices, from what stands from each of them on.
range_is : (bytes part rest : List ℕ) (from to : ℕ) → drop from bytes ≡ part ++ rest → to ≡ from + length part → slice_range bytes from to ≡ part
range_is bytes part rest from to e n =
    let len : to - from ≡ length part = omega arith in
    ap₂ (λ (k : ℕ) (xs : List ℕ). take k xs) len e ∙ take-append_seam part rest

rest_is : (bytes part rest : List ℕ) (from to : ℕ) → drop from bytes ≡ part ++ rest → to ≡ from + length part → drop to bytes ≡ rest
rest_is bytes part rest from to e n = ap (λ (k : ℕ). drop k bytes) n ∙ sym (drop-drop (length part) from bytes) ∙ ap (drop (length part)) e ∙ drop-append_seam part rest

range_end : (bytes part rest : List ℕ) (from to : ℕ) → from ≤ length bytes → drop from bytes ≡ part ++ rest → to ≡ from + length part → to ≤ length bytes
range_end bytes part rest from to inside e n = omega (arith, ap length e, length-append part rest, length-drop from bytes)

-- From one index on the text is cut into these words.
record WordsFrom (bytes : List ℕ) (from : ℕ) (words : List Written) : Type 0 where
  tokens : List Token
  to : ℕ
  cut : AreUpTo bytes from tokens to
  rest : IsGapBetween bytes to (length bytes)
  parts : map (kind_and_text bytes) tokens ≡ map word_parts words

no_words : (bytes left : List ℕ) (from : ℕ) → IsLeft left → from ≤ length bytes → drop from bytes ≡ left ++ [] → WordsFrom bytes from []
no_words bytes left from is inside e =
    let end : length bytes ≡ from + length left = (let none : List ℕ = [] in omega (arith, ap length e, length-append left none, length-drop from bytes)) in
    record {
      tokens = [];
      to = from;
      cut = refl;
      rest = record { ordered = inside; gap = rw (range_is bytes left [] from (length bytes) e end) (left_is_gap (drop (length bytes) bytes) left is) };
      parts = refl;
    }

one_word : (bytes left rest : List ℕ) (from start end : ℕ) (word : Written) (words : List Written) → IsLeft left → from ≤ length bytes → drop from bytes ≡ left ++ (word.text ++ (separator word.ends_line ∷ rest)) → start ≡ from + length left → end ≡ start + length word.text → IsWritten word
    → WordsFrom bytes end words → WordsFrom bytes from (word ∷ words)
one_word bytes left rest from start end word words is inside e s n spelled later =
    let after = separator word.ends_line ∷ rest in
    let at_start : drop start bytes ≡ word.text ++ after = rest_is bytes left (word.text ++ after) from start e s in
    let at_end : drop end bytes ≡ after = rest_is bytes word.text after start end at_start n in
    let start_inside : start ≤ length bytes = range_end bytes left (word.text ++ after) from start inside e s in
    let text : slice_range bytes start end ≡ word.text = range_is bytes word.text after start end at_start n in
    let token : Token = record { kind = word.kind; start = start; end = end; place = place_of bytes start } in
    record {
      tokens = token ∷ later.tokens;
      to = later.to;
      cut = (
        record { ordered = omega arith; gap = rw (range_is bytes left (word.text ++ after) from start e s) (left_is_gap (drop start bytes) left is) },
        record { inside = range_end bytes word.text after start end start_inside at_start n; text = rw (text, at_end) (record { spelled = spelled; whole = ends_token word.kind word.ends_line }); place = refl },
        later.cut,
      );
      rest = later.rest;
      parts = ap₂ (λ (t : List ℕ) (ps : List (TokenKind × List ℕ)). (word.kind, t) ∷ ps) text later.parts;
    }

-- A text that goes on with these words, from an index on or after the separator of the word before it.
words_from : (bytes : List ℕ) (words : List Written) (left : List ℕ) (from : ℕ) → IsLeft left → from ≤ length bytes → drop from bytes ≡ left ++ flat_map word_bytes words → All IsWritten words → WordsFrom bytes from words
words_from bytes [] left from is inside e all = no_words bytes left from is inside e
words_from bytes (word ∷ words) left from is inside e all =
    let rest = flat_map word_bytes words in
    let start = from + length left in
    let end = start + length word.text in
    let ahead : drop from bytes ≡ left ++ (word.text ++ (separator word.ends_line ∷ rest)) = e ∙ ap (λ (t : List ℕ). left ++ t) (append_assoc word.text (separator word.ends_line ∷ []) rest) in
    let at_start : drop start bytes ≡ word.text ++ (separator word.ends_line ∷ rest) = rest_is bytes left (word.text ++ (separator word.ends_line ∷ rest)) from start ahead refl in
    let at_end : drop end bytes ≡ separator word.ends_line ∷ rest = rest_is bytes word.text (separator word.ends_line ∷ rest) start end at_start refl in
    let start_inside : start ≤ length bytes = range_end bytes left (word.text ++ (separator word.ends_line ∷ rest)) from start inside ahead refl in
    let end_inside : end ≤ length bytes = range_end bytes word.text (separator word.ends_line ∷ rest) start end start_inside at_start refl in
    one_word bytes left rest from start end word words is inside ahead refl refl (All-head IsWritten word words all)
    (words_from bytes words (separator word.ends_line ∷ []) end (After word.ends_line) end_inside at_end (All-tail IsWritten word words all))

pub words_are_tokens : (bytes : List ℕ) (words : List Written) → All IsWritten words → bytes ≡ flat_map word_bytes words → HasTokens bytes (map word_parts words)
words_are_tokens bytes words all e =
    let cut = words_from bytes words [] 0 First (omega arith) e all in
    record { tokens = cut.tokens; are = record { to = cut.to; cut = cut.cut; rest = cut.rest }; parts = cut.parts }
