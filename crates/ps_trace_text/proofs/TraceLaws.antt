-- The two laws of traces: what is read is spelled so, and what is spelled so is read.
use Rattle.std.proofs.Common.{◌≡◌, ℕ, ◌^◌, ◌<◌, List, [], ◌∷◌, ◌++◌, map, length, refl, sym, ap, ap₂, subst, ◌∙◌, arith, append_assoc}
use Rattle.std.specs.Prelude.{decimal, codes}
use Rattle.std.specs.List.{flat_map, AllByRecursion}
use Rattle.std.proofs.lemmas.List.{append-nil}
use Rattle.ps_lines.specs.Tokens.{LinePart, Field, Newline, line_bytes, text_bytes, parts_of_line, parts_of_text}
use Rattle.ps_lines.specs.Reading.{Position, leaf_at, natural32, times_at}
use Rattle.ps_lines.proofs.Bytes.{IsPlain, IsClean, AreClean, IsClean-append, plain_word, spread_mapped}
use Rattle.ps_lines.proofs.Decimals.{natural32_is_leaf}
use Rattle.ps_lines.proofs.Exact.{Finds, Gets, found_bind, found_end, gets_bind, gets_end, Exact, Always, leaf_exact, line_exact, end_exact, ended-append}
use Rattle.ps_lines.proofs.Forms.{only_exact, header_tokens, header_exact, times_exact, done_found, done_again, IsFormat}
use Rattle.ps_trace.specs.declared.trace.IndexedTrace.{IndexedTrace}
use Rattle.ps_trace.specs.declared.trace.Letter.{Letter}
use Rattle.ps_trace_text.specs.TraceReading.{letter_at, trace_at}
use Rattle.ps_trace_text.specs.TraceSpelling.{letter_line, LetterFits, trace_lines, TraceFits}

-- ---- a letter

abbrev letter_tokens : Letter → List LinePart
letter_tokens l = parts_of_line (letter_line l)

step_plain : IsPlain (codes "step")
step_plain = plain_word (codes "step") refl

number_exact : Exact (leaf_at natural32) (λ n. Field (decimal n) ∷ []) (λ n. n < 2 ^ 32) Always
number_exact = leaf_exact natural32 decimal (λ n. n < 2 ^ 32) natural32_is_leaf

letter_found : (at : Position) → Finds (letter_at at) (λ y. (at.tokens ≡ letter_tokens y.0 ++ y.1.tokens) × LetterFits y.0)
unfolding letter_at
letter_found at =
    found_bind _ _ _ _ ((line_exact (codes "step") step_plain).found at) (λ w p.
    found_bind _ _ _ _ (number_exact.found w.1) (λ t q.
    found_bind _ _ _ _ (number_exact.found t.1) (λ d r.
    found_bind _ _ _ _ (end_exact.found d.1) (λ e s.
    found_end _ _ (
      p.0 ∙ ap (λ (ts : List LinePart). Field (codes "step") ∷ ts) (q.0 ∙ ap (λ (ts : List LinePart). Field (decimal t.0) ∷ ts) (r.0 ∙ ap (λ (ts : List LinePart). Field (decimal d.0) ∷ ts) s.0)),
      record { thread = q.1; edge = r.1 },
    )))))

letter_again : (at : Position) (l : Letter) (rest : List LinePart) → LetterFits l → at.tokens ≡ letter_tokens l ++ rest → Unit {0} → Gets (letter_at at) (λ y. (y.0 ≡ l) × (y.1.tokens ≡ rest))
unfolding letter_at
letter_again at l rest fit e h =
    gets_bind _ _ _ _ ((line_exact (codes "step") step_plain).again at tt (Field (decimal l.thread) ∷ Field (decimal l.edge) ∷ Newline ∷ rest) tt e (ended-append (Field (decimal l.thread) ∷ Field (decimal l.edge) ∷ []) rest)) (λ w p.
    gets_bind _ _ _ _ (number_exact.again w.1 l.thread (Field (decimal l.edge) ∷ Newline ∷ rest) fit.thread p.1 tt) (λ t q.
    gets_bind _ _ _ _ (number_exact.again t.1 l.edge (Newline ∷ rest) fit.edge q.1 tt) (λ d r.
    gets_bind _ _ _ _ (end_exact.again d.1 tt rest tt r.1 tt) (λ e' s.
    gets_end _ _ (ap₂ (λ (a b : ℕ). let m : Letter = record { thread = a; edge = b } in m) q.0 r.0, s.1)))))

letter_exact : Exact letter_at letter_tokens LetterFits Always
letter_exact = record {
  found = letter_found;
  again = letter_again;
  clean = λ l fit. (
    step_plain,
    IsClean-append (Field (decimal l.thread) ∷ []) (Field (decimal l.edge) ∷ Newline ∷ []) (number_exact.clean l.thread fit.thread)
        (IsClean-append (Field (decimal l.edge) ∷ []) (Newline ∷ []) (number_exact.clean l.edge fit.edge) tt),
  );
}

-- ---- the whole text

end_plain : IsPlain (codes "end")
end_plain = plain_word (codes "end") refl

trace_plain : IsPlain (codes "trace")
trace_plain = plain_word (codes "trace") refl

abbrev end_tokens : List LinePart
end_tokens = Field (codes "end") ∷ (Newline ∷ [])

abbrev tail_tokens : List Letter → List LinePart
tail_tokens ls = flat_map letter_tokens ls ++ end_tokens

trace_tokens : (trace : IndexedTrace) → parts_of_text (trace_lines trace) ≡ header_tokens (codes "trace") (length trace.letters) ++ tail_tokens trace.letters
trace_tokens trace =
    ap (λ (ts : List LinePart). header_tokens (codes "trace") (length trace.letters) ++ ts) (spread_mapped parts_of_line letter_line trace.letters ((codes "end", []) ∷ []))

letters_exact : (n : ℕ) → Exact (times_at letter_at n) (flat_map letter_tokens) (λ ls. (length ls ≡ n) × AllByRecursion LetterFits ls) Always
letters_exact n = times_exact letter_at letter_tokens LetterFits letter_exact n

trace_found : (at : Position) → Finds (trace_at at) (λ trace. (at.tokens ≡ parts_of_text (trace_lines trace)) × TraceFits trace)
unfolding trace_at
trace_found at =
    found_bind _ _ _ _ ((header_exact (codes "trace") 1048576 trace_plain (omega arith)).found at) (λ n p.
    found_bind _ _ _ _ ((letters_exact n.0).found n.1) (λ ls q.
    found_bind _ _ _ _ ((only_exact (codes "end") end_plain).found ls.1) (λ e s.
    found_bind _ _ _ _ (done_found e.1) (λ d t.
    let trace : IndexedTrace = record { letters = ls.0 } in
    let all : at.tokens ≡ header_tokens (codes "trace") n.0 ++ tail_tokens ls.0 =
    p.0 ∙ ap (λ (ts : List LinePart). header_tokens (codes "trace") n.0 ++ ts) (q.0 ∙ ap (λ (ts : List LinePart). flat_map letter_tokens ls.0 ++ ts) (s.0 ∙ ap (λ (ts : List LinePart). end_tokens ++ ts) t)) in
    found_end _ _ (
      all ∙ ap (λ k. header_tokens (codes "trace") k ++ tail_tokens ls.0) (sym q.1.0) ∙ sym (trace_tokens trace),
      record { few = omega (arith, q.1.0, p.1); letters = q.1.1 },
    )))))

trace_again : (at : Position) (trace : IndexedTrace) → TraceFits trace → at.tokens ≡ parts_of_text (trace_lines trace) → Gets (trace_at at) (λ t. t ≡ trace)
unfolding trace_at
trace_again at trace fit e =
    gets_bind _ _ _ _ ((header_exact (codes "trace") 1048576 trace_plain (omega arith)).again at (length trace.letters) (tail_tokens trace.letters) fit.few (e ∙ trace_tokens trace) tt) (λ n p.
    gets_bind _ _ _ _ ((letters_exact n.0).again n.1 trace.letters end_tokens (sym p.0, fit.letters) p.1 tt) (λ ls q.
    gets_bind _ _ _ _ ((only_exact (codes "end") end_plain).again ls.1 tt [] tt q.1 tt) (λ e' s.
    gets_bind _ _ (λ _. Unit {0}) _ (record { value = tt; ok = done_again e'.1 s.1; is = tt }) (λ d t.
    gets_end _ _ (ap (λ (xs : List Letter). let u : IndexedTrace = record { letters = xs } in u) q.0)))))

trace_clean : (trace : IndexedTrace) → TraceFits trace → AreClean (trace_lines trace)
trace_clean trace fit =
    let parts : IsClean (header_tokens (codes "trace") (length trace.letters) ++ tail_tokens trace.letters) =
    IsClean-append (header_tokens (codes "trace") (length trace.letters)) (tail_tokens trace.letters) ((header_exact (codes "trace") 1048576 trace_plain (omega arith)).clean (length trace.letters) fit.few)
    (IsClean-append (flat_map letter_tokens trace.letters) end_tokens ((letters_exact (length trace.letters)).clean trace.letters (refl, fit.letters)) (end_plain, tt)) in
    subst IsClean (sym (trace_tokens trace)) parts

pub trace_is_format : IsFormat trace_at trace_lines TraceFits
trace_is_format = record { found = trace_found; again = trace_again; clean = trace_clean }

-- ---- printing

-- a whole text, put in pieces
pub printed_text : (first last : List ℕ × List (List ℕ)) (ls : List Letter) (head_done letters_done done : List ℕ) → head_done ≡ line_bytes first → letters_done ≡ head_done ++ flat_map (λ l. line_bytes (letter_line l)) ls →
    done ≡ letters_done ++ line_bytes last → done ≡ text_bytes (first ∷ (map letter_line ls ++ (last ∷ [])))
printed_text first last ls head_done letters_done done a b d =
    let lines : List ℕ = flat_map (λ l. line_bytes (letter_line l)) ls in
    d ∙ ap (λ (m : List ℕ). m ++ line_bytes last) (b ∙ ap (λ (m : List ℕ). m ++ lines) a)
    ∙ append_assoc (line_bytes first) lines (line_bytes last)
    ∙ ap (λ (r : List ℕ). line_bytes first ++ (lines ++ r)) (sym (append-nil (line_bytes last)))
    ∙ ap (λ (r : List ℕ). line_bytes first ++ r) (sym (spread_mapped line_bytes letter_line ls (last ∷ [])))
