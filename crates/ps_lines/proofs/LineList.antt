-- Cutting a text into lines and fields, from left to right.
use Rattle.std.proofs.Common.{◌≡◌, ℕ, suc, ◌+◌, ◌-◌, ◌<◌, ◌≤◌, Bool, true, false, List, [], ◌∷◌, ◌++◌, map, length, get_or, take, drop, Some, None, refl, sym, ap, subst, ◌∙◌, arith, append_assoc, eqb, drop-cons, length-drop}
use Rattle.std.specs.Prelude.{All}
use Rattle.std.proofs.lemmas.List.{append-nil, map-append, drop-drop, nil_from_length}
use Rattle.std.proofs.lemmas.List.Elements.{All-push, All-nil}
use Rattle.ps_lines.specs.declared.span.Span.{Span}
use Rattle.ps_lines.specs.declared.line.Line.{Line}
use Rattle.ps_lines.specs.Tokens.{LinePart, Field, Newline, line_parts, ahead}
use Rattle.ps_lines.specs.inner.Ahead.{field_len}
use Rattle.ps_lines.specs.Lines.{onto_line, lines_of, numbered, span_text, numbered_fields, IsSpanWithin, IsLineWithin}
use Rattle.ps_lines.specs.inner.Ahead.{IsLineAhead}
use Rattle.ps_lines.proofs.Ahead.{behind, cut_tokens}

-- fields before what they stand before
abbrev pub onto_lines : List (List ℕ) → List (List (List ℕ)) → List (List (List ℕ))
onto_lines fields [] = []
onto_lines fields (line ∷ lines) = (fields ++ line) ∷ lines

onto_lines-none : (ls : List (List (List ℕ))) → onto_lines [] ls ≡ ls
onto_lines-none [] = refl
onto_lines-none (l ∷ ls) = refl

onto_lines-more : (fs : List (List ℕ)) (f : List ℕ) (ls : List (List (List ℕ))) → onto_lines fs (onto_line f ls) ≡ onto_lines (fs ++ f ∷ []) ls
onto_lines-more fs f [] = refl
onto_lines-more fs f (l ∷ ls) = ap (λ (r : List (List ℕ)). r ∷ ls) (sym (append_assoc fs (f ∷ []) l))

-- a line of which the spans so far were cut, up to `at`
pub record Spanning (bytes : List ℕ) (start at : ℕ) (spans : List Span) : Type 0 where
  pub same : onto_lines (map (span_text bytes) spans) (lines_of (line_parts (drop at bytes))) ≡ lines_of (line_parts (drop start bytes))
  pub within : All (IsSpanWithin (length bytes)) spans
  pub from : start ≤ at
  pub inside : at ≤ length bytes

pub spanning_none : (bytes : List ℕ) (start : ℕ) → start ≤ length bytes → Spanning bytes start start []
spanning_none bytes start le = record { same = onto_lines-none (lines_of (line_parts (drop start bytes))); within = All-nil (IsSpanWithin (length bytes)); from = omega arith; inside = le }

abbrev pub new_span : ℕ → ℕ → Span
new_span at end = record { start = at; end = end }

-- the tokens from a field on that ends inside the text
field_ahead : (bytes : List ℕ) (at end : ℕ) → end ≡ at + field_len (drop at bytes) → end < length bytes → line_parts (drop at bytes) ≡ Field (span_text bytes (new_span at end)) ∷ ahead (eqb (get_or bytes end 0) 10) (drop (end + 1) bytes)
field_ahead bytes at end is lt =
    let len : ℕ = end - at in
    let same : len ≡ field_len (drop at bytes) = omega (arith, is) in
    let place : at + len ≡ end = omega (arith, is) in
    let next : suc end ≡ end + 1 = omega arith in
    let size : length (drop at bytes) ≡ length bytes - at = length-drop at bytes in
    let cut : line_parts (drop at bytes) ≡ Field (take len (drop at bytes)) ∷ behind (drop len (drop at bytes)) = subst (λ (n : ℕ). line_parts (drop at bytes) ≡ Field (take n (drop at bytes)) ∷ behind (drop n (drop at bytes))) (sym same) (cut_tokens (drop at bytes) (omega (arith, size, lt, is))) in
    let tail : drop len (drop at bytes) ≡ get_or bytes end 0 ∷ drop (end + 1) bytes = drop-drop len at bytes ∙ ap (λ (n : ℕ). drop n bytes) place ∙ drop-cons bytes end 0 lt ∙ ap (λ (n : ℕ). get_or bytes end 0 ∷ drop n bytes) next in
    cut ∙ ap (λ (t : List ℕ). Field (take len (drop at bytes)) ∷ behind t) tail

texts_more : (bytes : List ℕ) (spans : List Span) (span : Span) → map (span_text bytes) spans ++ span_text bytes span ∷ [] ≡ map (span_text bytes) (spans ++ span ∷ [])
texts_more bytes spans span = sym (map-append (span_text bytes) spans (span ∷ []))

within_more : (bytes : List ℕ) (at end : ℕ) (spans : List Span) → end ≡ at + field_len (drop at bytes) → end < length bytes → All (IsSpanWithin (length bytes)) spans → All (IsSpanWithin (length bytes)) (spans ++ new_span at end ∷ [])
within_more bytes at end spans is lt h = All-push (IsSpanWithin (length bytes)) spans (new_span at end) h (record { ordered = omega (arith, is); inside = omega (arith, lt) })

-- a further field of the line
pub spanning_more : (bytes : List ℕ) (start at end : ℕ) (spans : List Span) → Spanning bytes start at spans → end ≡ at + field_len (drop at bytes) → end < length bytes → eqb (get_or bytes end 0) 10 ≡ false → Spanning bytes start (end + 1) (spans ++ new_span at end ∷ [])
spanning_more bytes start at end spans h is lt test =
    let texts : List (List ℕ) = map (span_text bytes) spans in
    let ahead-is : line_parts (drop at bytes) ≡ Field (span_text bytes (new_span at end)) ∷ line_parts (drop (end + 1) bytes) = field_ahead bytes at end is lt ∙ ap (λ (t : Bool). Field (span_text bytes (new_span at end)) ∷ ahead t (drop (end + 1) bytes)) test in
    record {
      same = ap (λ (fs : List (List ℕ)). onto_lines fs (lines_of (line_parts (drop (end + 1) bytes)))) (sym (texts_more bytes spans (new_span at end)))
          ∙ sym (onto_lines-more texts (span_text bytes (new_span at end)) (lines_of (line_parts (drop (end + 1) bytes))))
          ∙ ap (λ (ts : List LinePart). onto_lines texts (lines_of ts)) (sym ahead-is) ∙ h.same;
      within = within_more bytes at end spans is lt h.within;
      from = omega (arith, h.from, is);
      inside = omega (arith, lt);
    }

-- the line's last field
pub spanning_all : (bytes : List ℕ) (start at end : ℕ) (spans : List Span) → Spanning bytes start at spans → end ≡ at + field_len (drop at bytes) → end < length bytes → eqb (get_or bytes end 0) 10 ≡ true → IsLineAhead bytes start (Some (spans ++ new_span at end ∷ [], end + 1))
spanning_all bytes start at end spans h is lt test =
    let texts : List (List ℕ) = map (span_text bytes) spans in
    let text : List ℕ = span_text bytes (new_span at end) in
    let ahead-is : line_parts (drop at bytes) ≡ Field text ∷ (Newline ∷ line_parts (drop (end + 1) bytes)) = field_ahead bytes at end is lt ∙ ap (λ (t : Bool). Field text ∷ ahead t (drop (end + 1) bytes)) test in (
      sym h.same ∙ ap (λ (ts : List LinePart). onto_lines texts (lines_of ts)) ahead-is ∙ ap (λ (fs : List (List ℕ)). fs ∷ lines_of (line_parts (drop (end + 1) bytes))) (texts_more bytes spans (new_span at end)),
      within_more bytes at end spans is lt h.within,
      omega (arith, h.from, is),
      omega (arith, lt),
    )

-- one field, with nothing behind it
alone : (bs : List ℕ) → field_len bs ≡ length bs → lines_of (line_parts bs) ≡ []
alone [] e = refl
alone (b ∷ bs) e =
    let cut : line_parts (b ∷ bs) ≡ Field (take (field_len (b ∷ bs)) (b ∷ bs)) ∷ behind (drop (field_len (b ∷ bs)) (b ∷ bs)) = cut_tokens (b ∷ bs) (omega arith) in
    let none : drop (field_len (b ∷ bs)) (b ∷ bs) ≡ [] = nil_from_length _ (length-drop (field_len (b ∷ bs)) (b ∷ bs) ∙ omega (arith, e)) in
    ap lines_of (cut ∙ ap (λ (t : List ℕ). Field (take (field_len (b ∷ bs)) (b ∷ bs)) ∷ behind t) none)

-- the text ends before the line does
pub spanning_ends : (bytes : List ℕ) (start at : ℕ) (spans : List Span) → Spanning bytes start at spans → at + field_len (drop at bytes) ≡ length bytes → IsLineAhead bytes start None
spanning_ends bytes start at spans h is =
    let size : field_len (drop at bytes) ≡ length (drop at bytes) = omega (arith, is, length-drop at bytes) in
    sym h.same ∙ ap (onto_lines (map (span_text bytes) spans)) (alone (drop at bytes) size)

-- the lines so far, with those ahead, are all
pub record Going (bytes : List ℕ) (first start number : ℕ) (lines : List Line) : Type 0 where
  pub same : map (numbered_fields bytes) lines ++ numbered number (lines_of (line_parts (drop start bytes))) ≡ numbered first (lines_of (line_parts bytes))
  pub within : All (IsLineWithin (length bytes)) lines
  pub counts : number ≤ first + start
  pub inside : start ≤ length bytes

pub going_none : (bytes : List ℕ) (first : ℕ) → Going bytes first 0 first []
going_none bytes first = record { same = refl; within = All-nil (IsLineWithin (length bytes)); counts = omega arith; inside = omega arith }

pub going_more : (bytes : List ℕ) (first start number : ℕ) (lines : List Line) (fields : List Span) (after : ℕ) → Going bytes first start number lines → IsLineAhead bytes start (Some (fields, after)) → Going bytes first after (number + 1) (lines ++ (record { number = number; fields = fields }) ∷ [])
going_more bytes first start number lines fields after h p =
    let line : Line = record { number = number; fields = fields } in
    let rest : List (ℕ × List (List ℕ)) = numbered (number + 1) (lines_of (line_parts (drop after bytes))) in
    record {
      same = ap (λ r. r ++ rest) (map-append (numbered_fields bytes) lines (line ∷ []))
          ∙ append_assoc (map (numbered_fields bytes) lines) (numbered_fields bytes line ∷ []) rest
          ∙ ap (λ r. map (numbered_fields bytes) lines ++ numbered number r) (sym p.0) ∙ h.same;
      within = All-push (IsLineWithin (length bytes)) lines line h.within p.1;
      counts = omega (arith, h.counts, p.2);
      inside = p.3;
    }

pub going_all : (bytes : List ℕ) (first start number : ℕ) (lines : List Line) → Going bytes first start number lines → IsLineAhead bytes start None → map (numbered_fields bytes) lines ≡ numbered first (lines_of (line_parts bytes))
going_all bytes first start number lines h none =
    sym (append-nil (map (numbered_fields bytes) lines)) ∙ ap (λ r. map (numbered_fields bytes) lines ++ numbered number r) (sym none) ∙ h.same
