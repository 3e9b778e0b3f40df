-- The two laws of rows with their multipliers: what is read is spelled so, and what is spelled so is read.
use Rattle.std.proofs.Common.{◌≡◌, ℕ, ◌^◌, ◌<◌, List, [], ◌∷◌, ◌++◌, map, length, refl, sym, ap, subst, ◌∙◌, arith, append_assoc}
use Rattle.std.specs.Prelude.{decimal, codes}
use Rattle.std.specs.List.{flat_map, AllByRecursion}
use Rattle.std.proofs.lemmas.List.{append-nil}
use Rattle.ps_term.specs.declared.row.Row.{Row}
use Rattle.ps_lines.specs.Tokens.{LinePart, Field, Newline, after_blank, line_bytes, text_bytes, parts_of_line, parts_of_text}
use Rattle.ps_lines.specs.Reading.{Position, leaf_at, natural, times_at}
use Rattle.ps_lines.proofs.Bytes.{IsPlain, IsClean, AreClean, IsClean-append, plain_word, spread_mapped, flat_map-map}
use Rattle.ps_lines.proofs.Decimals.{natural_is_leaf}
use Rattle.ps_lines.proofs.Exact.{Finds, Gets, found_bind, found_end, gets_bind, gets_end, Exact, Always, leaf_exact, line_exact, end_exact, ended-append}
use Rattle.ps_lines.proofs.Forms.{only_exact, header_tokens, header_exact, times_exact, done_found, done_again, IsFormat}
use Rattle.ps_term_text.proofs.Exact.{term_tokens, term_exact}
use Rattle.ps_rows.specs.declared.reading.TheConstants.{MOST_ROWS}
use Rattle.ps_rows.specs.declared.claim.Claim.{Claim}
use Rattle.ps_rows.specs.Spelling.{row_line, multipliers_line, claim_lines, RowHasSpelling, ClaimHasSpelling}
use Rattle.ps_rows.specs.Reading.{row_at, multipliers_at, claim_at}

-- ---- a row

abbrev row_tokens : Row → List LinePart
row_tokens r = parts_of_line (row_line r)

row_plain : IsPlain (codes "row")
row_plain = plain_word (codes "row") refl

row_found : (at : Position) → Finds (row_at at) (λ y. (at.tokens ≡ row_tokens y.0 ++ y.1.tokens) × RowHasSpelling y.0)
unfolding row_at
row_found at =
    found_bind _ _ _ _ ((line_exact (codes "row") row_plain).found at) (λ w p.
    found_bind _ _ _ _ (term_exact.found w.1) (λ t q.
    found_bind _ _ _ _ (end_exact.found t.1) (λ e r.
    found_end _ _ (p.0 ∙ ap (λ (ts : List LinePart). Field (codes "row") ∷ ts) (q.0 ∙ ap (λ (ts : List LinePart). term_tokens t.0 ++ ts) r.0 ∙ sym (append_assoc (term_tokens t.0) (Newline ∷ []) e.1.tokens)), q.1))))

row_split : (r : Row) (rest : List LinePart) → row_tokens r ++ rest ≡ Field (codes "row") ∷ (term_tokens r.term ++ Newline ∷ rest)
row_split r rest = ap (λ (ts : List LinePart). Field (codes "row") ∷ ts) (append_assoc (term_tokens r.term) (Newline ∷ []) rest)

row_again : (at : Position) (r : Row) (rest : List LinePart) → RowHasSpelling r → at.tokens ≡ row_tokens r ++ rest → Unit {0} → Gets (row_at at) (λ y. (y.0 ≡ r) × (y.1.tokens ≡ rest))
unfolding row_at
row_again at r rest fit e h =
    gets_bind _ _ _ _ ((line_exact (codes "row") row_plain).again at tt (term_tokens r.term ++ Newline ∷ rest) tt (e ∙ row_split r rest) (ended-append (term_tokens r.term) rest)) (λ w p.
    gets_bind _ _ _ _ (term_exact.again w.1 r.term (Newline ∷ rest) fit p.1 tt) (λ t q.
    gets_bind _ _ _ _ (end_exact.again t.1 tt rest tt q.1 tt) (λ e' s.
    gets_end _ _ (ap (λ t'. record { term = t' }) q.0, s.1))))

row_exact : Exact row_at row_tokens RowHasSpelling Always
row_exact = record {
  found = row_found;
  again = row_again;
  clean = λ r fit. (row_plain, IsClean-append (term_tokens r.term) (Newline ∷ []) (term_exact.clean r.term fit) tt);
}

-- ---- multipliers

abbrev FitAll : List ℕ → Type 0
FitAll ns = AllByRecursion (λ n. n < 2 ^ 128) ns

numbers_tokens : (ns : List ℕ) → flat_map (λ n. Field (decimal n) ∷ []) ns ≡ map Field (map decimal ns)
numbers_tokens [] = refl
numbers_tokens (n ∷ ns) = ap (λ (ts : List LinePart). Field (decimal n) ∷ ts) (numbers_tokens ns)

number_exact : Exact (leaf_at natural) (λ n. Field (decimal n) ∷ []) (λ n. n < 2 ^ 128) Always
number_exact = leaf_exact natural decimal (λ n. n < 2 ^ 128) natural_is_leaf

by_plain : IsPlain (codes "by")
by_plain = plain_word (codes "by") refl

numbers_exact : (n : ℕ) → Exact (times_at (leaf_at natural) n) (flat_map (λ n. Field (decimal n) ∷ [])) (λ ns. (length ns ≡ n) × FitAll ns) Always
numbers_exact n = times_exact (leaf_at natural) (λ n. Field (decimal n) ∷ []) (λ n. n < 2 ^ 128) number_exact n

multipliers_found : (n : ℕ) (at : Position) → Finds (multipliers_at n at) (λ y. (at.tokens ≡ parts_of_line (multipliers_line y.0) ++ y.1.tokens) × ((length y.0 ≡ n) × FitAll y.0))
unfolding multipliers_at
multipliers_found n at =
    found_bind _ _ _ _ ((line_exact (codes "by") by_plain).found at) (λ w p.
    found_bind _ _ _ _ ((numbers_exact n).found w.1) (λ ns q.
    found_bind _ _ _ _ (end_exact.found ns.1) (λ e r.
    found_end _ _ (p.0 ∙ ap (λ (ts : List LinePart). Field (codes "by") ∷ ts) (q.0 ∙ ap (λ (ts : List LinePart). ts ++ ns.1.tokens) (numbers_tokens ns.0) ∙ ap (λ (ts : List LinePart). map Field (map decimal ns.0) ++ ts) r.0 ∙ sym (append_assoc (map Field (map decimal ns.0)) (Newline ∷ []) e.1.tokens)), q.1))))

multipliers_split : (ns : List ℕ) (rest : List LinePart) → parts_of_line (multipliers_line ns) ++ rest ≡ Field (codes "by") ∷ (flat_map (λ n. Field (decimal n) ∷ []) ns ++ Newline ∷ rest)
multipliers_split ns rest =
    ap (λ (ts : List LinePart). Field (codes "by") ∷ ts) (append_assoc (map Field (map decimal ns)) (Newline ∷ []) rest ∙ ap (λ (ts : List LinePart). ts ++ Newline ∷ rest) (sym (numbers_tokens ns)))

multipliers_again : (n : ℕ) (at : Position) (ns : List ℕ) (rest : List LinePart) → (length ns ≡ n) × FitAll ns → at.tokens ≡ parts_of_line (multipliers_line ns) ++ rest → Unit {0} → Gets (multipliers_at n at) (λ y. (y.0 ≡ ns) × (y.1.tokens ≡ rest))
unfolding multipliers_at
multipliers_again n at ns rest fit e h =
    gets_bind _ _ _ _ ((line_exact (codes "by") by_plain).again at tt (flat_map (λ n. Field (decimal n) ∷ []) ns ++ Newline ∷ rest) tt (e ∙ multipliers_split ns rest) (ended-append (flat_map (λ n. Field (decimal n) ∷ []) ns) rest)) (λ w p.
    gets_bind _ _ _ _ ((numbers_exact n).again w.1 ns (Newline ∷ rest) fit p.1 tt) (λ ms q.
    gets_bind _ _ _ _ (end_exact.again ms.1 tt rest tt q.1 tt) (λ e' s.
    gets_end _ _ (q.0, s.1))))

multipliers_exact : (n : ℕ) → Exact (multipliers_at n) (λ ns. parts_of_line (multipliers_line ns)) (λ ns. (length ns ≡ n) × FitAll ns) Always
multipliers_exact n = record {
  found = multipliers_found n;
  again = multipliers_again n;
  clean = λ ns fit. (by_plain, IsClean-append (map Field (map decimal ns)) (Newline ∷ []) (subst IsClean (numbers_tokens ns) ((numbers_exact n).clean ns fit)) tt);
}

-- ---- the whole text

end_plain : IsPlain (codes "end")
end_plain = plain_word (codes "end") refl

rows_plain : IsPlain (codes "rows")
rows_plain = plain_word (codes "rows") refl

abbrev end_tokens : List LinePart
end_tokens = Field (codes "end") ∷ (Newline ∷ [])

abbrev tail_tokens : List Row → List ℕ → List LinePart → List LinePart
tail_tokens rows ns rest = flat_map row_tokens rows ++ (parts_of_line (multipliers_line ns) ++ rest)

claim_tokens : (claim : Claim) → parts_of_text (claim_lines claim) ≡ header_tokens (codes "rows") (length claim.rows) ++ tail_tokens claim.rows claim.multipliers end_tokens
claim_tokens claim =
    ap (λ (ts : List LinePart). header_tokens (codes "rows") (length claim.rows) ++ ts) (spread_mapped parts_of_line row_line claim.rows (multipliers_line claim.multipliers ∷ ((codes "end", []) ∷ [])))

rows_exact : (n : ℕ) → Exact (times_at row_at n) (flat_map row_tokens) (λ rows. (length rows ≡ n) × AllByRecursion RowHasSpelling rows) Always
rows_exact n = times_exact row_at row_tokens RowHasSpelling row_exact n

claim_found : (at : Position) → Finds (claim_at at) (λ claim. (at.tokens ≡ parts_of_text (claim_lines claim)) × ClaimHasSpelling claim)
unfolding claim_at
claim_found at =
    found_bind _ _ _ _ ((header_exact (codes "rows") MOST_ROWS rows_plain (omega arith)).found at) (λ n p.
    found_bind _ _ _ _ ((rows_exact n.0).found n.1) (λ rows q.
    found_bind _ _ _ _ ((multipliers_exact n.0).found rows.1) (λ ns r.
    found_bind _ _ _ _ ((only_exact (codes "end") end_plain).found ns.1) (λ e s.
    found_bind _ _ _ _ (done_found e.1) (λ d t.
    let claim : Claim = record { rows = rows.0; multipliers = ns.0 } in
    let all : at.tokens ≡ header_tokens (codes "rows") n.0 ++ tail_tokens rows.0 ns.0 end_tokens =
    p.0 ∙ ap (λ (ts : List LinePart). header_tokens (codes "rows") n.0 ++ ts) (q.0 ∙ ap (λ (ts : List LinePart). flat_map row_tokens rows.0 ++ ts) (r.0 ∙ ap (λ (ts : List LinePart). parts_of_line (multipliers_line ns.0) ++ ts) (s.0 ∙ ap (λ (ts : List LinePart). end_tokens ++ ts) t))) in
    found_end _ _ (
      all ∙ ap (λ k. header_tokens (codes "rows") k ++ tail_tokens rows.0 ns.0 end_tokens) (sym q.1.0) ∙ sym (claim_tokens claim),
      record { few = omega (arith, q.1.0, p.1); rows = q.1.1; as_many = r.1.0 ∙ sym q.1.0; multipliers = r.1.1 },
    ))))))

abbrev make_claim : List Row → List ℕ → Claim
make_claim rows ns = record { rows = rows; multipliers = ns }

same_claim : (rows rows' : List Row) (ns ns' : List ℕ) → rows ≡ rows' → ns ≡ ns' → make_claim rows ns ≡ make_claim rows' ns'
same_claim rows rows' ns ns' p q = ap (λ (r : List Row). make_claim r ns) p ∙ ap (make_claim rows') q

claim_again : (at : Position) (claim : Claim) → ClaimHasSpelling claim → at.tokens ≡ parts_of_text (claim_lines claim) → Gets (claim_at at) (λ c. c ≡ claim)
unfolding claim_at
claim_again at claim fit e =
    gets_bind _ _ _ _ ((header_exact (codes "rows") MOST_ROWS rows_plain (omega arith)).again at (length claim.rows) (tail_tokens claim.rows claim.multipliers end_tokens) fit.few (e ∙ claim_tokens claim) tt) (λ n p.
    gets_bind _ _ _ _ ((rows_exact n.0).again n.1 claim.rows (parts_of_line (multipliers_line claim.multipliers) ++ end_tokens) (sym p.0, fit.rows) p.1 tt) (λ rows q.
    gets_bind _ _ _ _ ((multipliers_exact n.0).again rows.1 claim.multipliers end_tokens (fit.as_many ∙ sym p.0, fit.multipliers) q.1 tt) (λ ns r.
    gets_bind _ _ _ _ ((only_exact (codes "end") end_plain).again ns.1 tt [] tt r.1 tt) (λ e' s.
    gets_bind _ _ (λ _. Unit {0}) _ (record { value = tt; ok = done_again e'.1 s.1; is = tt }) (λ d t.
    gets_end _ _ (same_claim rows.0 claim.rows ns.0 claim.multipliers q.0 r.0))))))

claim_clean : (claim : Claim) → ClaimHasSpelling claim → AreClean (claim_lines claim)
claim_clean claim fit =
    let parts : IsClean (header_tokens (codes "rows") (length claim.rows) ++ tail_tokens claim.rows claim.multipliers end_tokens) =
    IsClean-append (header_tokens (codes "rows") (length claim.rows)) (tail_tokens claim.rows claim.multipliers end_tokens) ((header_exact (codes "rows") MOST_ROWS rows_plain (omega arith)).clean (length claim.rows) fit.few)
    (IsClean-append (flat_map row_tokens claim.rows) (parts_of_line (multipliers_line claim.multipliers) ++ end_tokens) ((rows_exact (length claim.rows)).clean claim.rows (refl, fit.rows))
    (IsClean-append (parts_of_line (multipliers_line claim.multipliers)) end_tokens ((multipliers_exact (length claim.rows)).clean claim.multipliers (fit.as_many, fit.multipliers)) (end_plain, tt))) in
    subst IsClean (sym (claim_tokens claim)) parts

pub claim_is_format : IsFormat claim_at claim_lines ClaimHasSpelling
claim_is_format = record { found = claim_found; again = claim_again; clean = claim_clean }

-- ---- printing

-- a line of numbers, put in pieces
pub printed_numbers : (out word word_done numbers_done : List ℕ) (ns : List ℕ) → word_done ≡ out ++ word → numbers_done ≡ word_done ++ flat_map (λ n. after_blank (decimal n)) ns → numbers_done ++ 10 ∷ [] ≡ out ++ line_bytes (word, map decimal ns)
printed_numbers out word word_done numbers_done ns a b =
    ap (λ (m : List ℕ). m ++ 10 ∷ []) (b ∙ ap (λ (m : List ℕ). m ++ flat_map (λ n. after_blank (decimal n)) ns) a)
    ∙ append_assoc (out ++ word) (flat_map (λ n. after_blank (decimal n)) ns) (10 ∷ [])
    ∙ append_assoc out word (flat_map (λ n. after_blank (decimal n)) ns ++ 10 ∷ [])
    ∙ ap (λ (r : List ℕ). out ++ (word ++ (r ++ 10 ∷ []))) (sym (flat_map-map after_blank decimal ns))

-- a whole text, put in pieces
pub printed_text : (first by last : List ℕ × List (List ℕ)) (rows : List Row) (head_done rows_done by_done done : List ℕ) → head_done ≡ line_bytes first → rows_done ≡ head_done ++ flat_map (λ r. line_bytes (row_line r)) rows → by_done ≡ rows_done ++ line_bytes by → done ≡ by_done ++ line_bytes last → done ≡ text_bytes (first ∷ (map row_line rows ++ (by ∷ (last ∷ []))))
printed_text first by last rows head_done rows_done by_done done a b c d =
    let lines : List ℕ = flat_map (λ r. line_bytes (row_line r)) rows in
    d ∙ ap (λ (m : List ℕ). m ++ line_bytes last) (c ∙ ap (λ (m : List ℕ). m ++ line_bytes by) (b ∙ ap (λ (m : List ℕ). m ++ lines) a))
    ∙ append_assoc (line_bytes first ++ lines) (line_bytes by) (line_bytes last)
    ∙ append_assoc (line_bytes first) lines (line_bytes by ++ line_bytes last)
    ∙ ap (λ (r : List ℕ). line_bytes first ++ (lines ++ (line_bytes by ++ r))) (sym (append-nil (line_bytes last)))
    ∙ ap (λ (r : List ℕ). line_bytes first ++ r) (sym (spread_mapped line_bytes row_line rows (by ∷ (last ∷ []))))
