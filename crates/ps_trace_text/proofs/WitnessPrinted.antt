-- Witnesses, printed in pieces.
use Rattle.std.proofs.Common.{◌≡◌, ℕ, suc, ℤ, ◌+◌, List, [], ◌∷◌, ◌++◌, drop, map, refl, sym, ap, ◌∙◌, append_assoc}
use Rattle.std.specs.Prelude.{Some, codes, decimal, option_map, slice_get}
use Rattle.std.specs.Fmt.{signed_decimal}
use Rattle.std.specs.List.{flat_map}
use Rattle.std.proofs.lemmas.List.{append-nil}
use Rattle.std.proofs.lemmas.List.Concat.{flat_map-append}
use Rattle.ps_lines.specs.Tokens.{after_blank, line_bytes, text_bytes}
use Rattle.ps_lines.proofs.Bytes.{flat_map-map, spread_mapped}
use Rattle.ps_trace.proofs.Columns.{next_step}
use Rattle.ps_trace.specs.declared.step.Step.{Step}
use Rattle.ps_trace_text.specs.WitnessSpelling.{locals_lines, step_line}

abbrev values_bytes : List ℤ → List ℕ
values_bytes vs = flat_map (λ n. after_blank (signed_decimal n)) vs

-- a line of a word and a field
pub printed_field : (out word field word_done done : List ℕ) → word_done ≡ out ++ word → done ≡ word_done ++ after_blank field → done ++ 10 ∷ [] ≡ out ++ line_bytes (word, field ∷ [])
printed_field out word field word_done done a b =
    ap (λ (m : List ℕ). m ++ 10 ∷ []) (b ∙ ap (λ (m : List ℕ). m ++ after_blank field) a)
    ∙ append_assoc (out ++ word) (after_blank field) (10 ∷ [])
    ∙ append_assoc out word (after_blank field ++ 10 ∷ [])
    ∙ ap (λ (r : List ℕ). out ++ (word ++ (r ++ 10 ∷ []))) (sym (append-nil (after_blank field)))

-- a line of a word and values
pub printed_values : (out word word_done done : List ℕ) (vs : List ℤ) → word_done ≡ out ++ word → done ≡ word_done ++ flat_map (λ n. after_blank (signed_decimal n)) vs → done ++ 10 ∷ [] ≡ out ++ line_bytes (word, map signed_decimal vs)
printed_values out word word_done done vs a b =
    ap (λ (m : List ℕ). m ++ 10 ∷ []) (b ∙ ap (λ (m : List ℕ). m ++ values_bytes vs) a)
    ∙ append_assoc (out ++ word) (values_bytes vs) (10 ∷ [])
    ∙ append_assoc out word (values_bytes vs ++ 10 ∷ [])
    ∙ ap (λ (r : List ℕ). out ++ (word ++ (r ++ 10 ∷ []))) (sym (flat_map-map after_blank signed_decimal vs))

-- a line of a word, a number and values
pub printed_numbered : (out word word_done number_done done : List ℕ) (n : ℕ) (vs : List ℤ) → word_done ≡ out ++ word → number_done ≡ word_done ++ after_blank (decimal n) →
    done ≡ number_done ++ flat_map (λ n. after_blank (signed_decimal n)) vs → done ++ 10 ∷ [] ≡ out ++ line_bytes (word, decimal n ∷ map signed_decimal vs)
printed_numbered out word word_done number_done done n vs a b c =
    ap (λ (m : List ℕ). m ++ 10 ∷ []) (c ∙ ap (λ (m : List ℕ). m ++ values_bytes vs) (b ∙ ap (λ (m : List ℕ). m ++ after_blank (decimal n)) a))
    ∙ append_assoc ((out ++ word) ++ after_blank (decimal n)) (values_bytes vs) (10 ∷ [])
    ∙ append_assoc (out ++ word) (after_blank (decimal n)) (values_bytes vs ++ 10 ∷ [])
    ∙ append_assoc out word (after_blank (decimal n) ++ (values_bytes vs ++ 10 ∷ []))
    ∙ ap (λ (r : List ℕ). out ++ (word ++ r)) (sym (append_assoc (after_blank (decimal n)) (values_bytes vs) (10 ∷ [])))
    ∙ ap (λ (r : List ℕ). out ++ (word ++ ((after_blank (decimal n) ++ r) ++ 10 ∷ []))) (sym (flat_map-map after_blank signed_decimal vs))

-- one step more
pub printed_step : (ss : List Step) (n t : ℕ) (cs : List ℤ) (all out done : List ℕ) → option_map (λ (s : Step). s.thread) (slice_get ss n) ≡ Some t → option_map (λ (s : Step). s.choices) (slice_get ss n) ≡ Some cs →
    done ≡ out ++ line_bytes (step_line (record { thread = t; choices = cs })) → out ++ flat_map (λ s. line_bytes (step_line s)) (drop n ss) ≡ all → done ++ flat_map (λ s. line_bytes (step_line s)) (drop (n + 1) ss) ≡ all
printed_step ss n t cs all out done a b is h =
    let line : List ℕ = line_bytes (step_line (record { thread = t; choices = cs })) in
    let rest : List ℕ = flat_map (λ s. line_bytes (step_line s)) (drop (n + 1) ss) in
    ap (λ (m : List ℕ). m ++ rest) is ∙ append_assoc out line rest ∙ ap (λ (xs : List Step). out ++ flat_map (λ s. line_bytes (step_line s)) xs) (sym (next_step ss n t cs a b)) ∙ h

-- a whole text
pub printed_text : (first second third last : List ℕ × List (List ℕ)) (vss : List (List ℤ)) (ss : List Step) (a b c d e f : List ℕ) → a ≡ line_bytes first → b ≡ a ++ line_bytes second → c ≡ b ++ line_bytes third →
    d ≡ c ++ flat_map line_bytes (locals_lines 0 vss) → e ≡ d ++ flat_map (λ s. line_bytes (step_line s)) ss → f ≡ e ++ line_bytes last →
    f ≡ text_bytes (first ∷ second ∷ third ∷ (locals_lines 0 vss ++ (map step_line ss ++ (last ∷ []))))
printed_text first second third last vss ss a b c d e f pa pb pc pd pe pf =
    let ls : List ℕ = flat_map line_bytes (locals_lines 0 vss) in
    let ts : List ℕ = flat_map (λ s. line_bytes (step_line s)) ss in
    pf ∙ ap (λ (m : List ℕ). m ++ line_bytes last) (pe ∙ ap (λ (m : List ℕ). m ++ ts) (pd ∙ ap (λ (m : List ℕ). m ++ ls) (pc ∙ ap (λ (m : List ℕ). m ++ line_bytes third) (pb ∙ ap (λ (m : List ℕ). m ++ line_bytes second) pa))))
    ∙ append_assoc (((line_bytes first ++ line_bytes second) ++ line_bytes third) ++ ls) ts (line_bytes last)
    ∙ append_assoc ((line_bytes first ++ line_bytes second) ++ line_bytes third) ls (ts ++ line_bytes last)
    ∙ append_assoc (line_bytes first ++ line_bytes second) (line_bytes third) (ls ++ (ts ++ line_bytes last))
    ∙ append_assoc (line_bytes first) (line_bytes second) (line_bytes third ++ (ls ++ (ts ++ line_bytes last)))
    ∙ ap (λ (r : List ℕ). line_bytes first ++ (line_bytes second ++ (line_bytes third ++ (ls ++ (ts ++ r))))) (sym (append-nil (line_bytes last)))
    ∙ ap (λ (r : List ℕ). line_bytes first ++ (line_bytes second ++ (line_bytes third ++ (ls ++ r)))) (sym (spread_mapped line_bytes step_line ss (last ∷ [])))
    ∙ ap (λ (r : List ℕ). line_bytes first ++ (line_bytes second ++ (line_bytes third ++ r))) (sym (flat_map-append line_bytes (locals_lines 0 vss) (map step_line ss ++ (last ∷ []))))
