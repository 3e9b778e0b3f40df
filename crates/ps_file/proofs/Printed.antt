-- Texts that are put in pieces.
use Rattle.std.proofs.Common.{◌≡◌, ℕ, List, [], ◌∷◌, ◌++◌, length, sym, ap, ◌∙◌, append_assoc}
use Rattle.std.specs.Prelude.{decimal}
use Rattle.std.specs.List.{flat_map}
use Rattle.std.proofs.lemmas.Grind.{flat_map-append}
use Rattle.std.proofs.lemmas.List.{append-nil}
use Rattle.ps_file.specs.Spelling.{listed}
use Rattle.ps_lines.specs.Tokens.{line_bytes, text_bytes}
use Rattle.ps_lines.proofs.Bytes.{flat_map-map}

-- a count and a line for each member
pub printed_list : {A : Type 0} (word : List ℕ) (line : A → List ℕ × List (List ℕ)) (xs : List A) (out counted done : List ℕ) → counted ≡ out ++ line_bytes (word, decimal (length xs) ∷ []) → done ≡ counted ++ flat_map (λ x. line_bytes (line x)) xs →
    done ≡ out ++ text_bytes (listed word line xs)
printed_list word line xs out counted done a b =
    b ∙ ap (λ (m : List ℕ). m ++ flat_map (λ x. line_bytes (line x)) xs) a
    ∙ append_assoc out (line_bytes (word, decimal (length xs) ∷ [])) (flat_map (λ x. line_bytes (line x)) xs)
    ∙ ap (λ (m : List ℕ). out ++ (line_bytes (word, decimal (length xs) ∷ []) ++ m)) (sym (flat_map-map line_bytes line xs))

-- pieces of a text, one after the other
pub then_lines : (out done new : List ℕ) (ls ms : List (List ℕ × List (List ℕ))) → done ≡ out ++ text_bytes ls → new ≡ done ++ text_bytes ms → new ≡ out ++ text_bytes (ls ++ ms)
then_lines out done new ls ms a b =
    b ∙ ap (λ (m : List ℕ). m ++ text_bytes ms) a
    ∙ append_assoc out (text_bytes ls) (text_bytes ms)
    ∙ ap (λ (m : List ℕ). out ++ m) (sym (flat_map-append line_bytes ls ms))

-- the whole text
pub printed_proof : (first last : List ℕ × List (List ℕ)) (ps xs cs : List (List ℕ × List (List ℕ))) (a b c d e : List ℕ) → a ≡ line_bytes first → b ≡ a ++ text_bytes ps → c ≡ b ++ text_bytes xs → d ≡ c ++ text_bytes cs → e ≡ d ++ line_bytes last →
    e ≡ text_bytes (first ∷ (ps ++ (xs ++ (cs ++ last ∷ []))))
printed_proof first last ps xs cs a b c d e pa pb pc pd pe =
    let end : e ≡ c ++ text_bytes (cs ++ last ∷ []) = then_lines c d e cs (last ∷ []) pd (pe ∙ ap (λ (m : List ℕ). d ++ m) (sym (append-nil (line_bytes last)))) in
    let later : e ≡ b ++ text_bytes (xs ++ (cs ++ last ∷ [])) = then_lines b c e xs (cs ++ last ∷ []) pc end in
    let all : e ≡ a ++ text_bytes (ps ++ (xs ++ (cs ++ last ∷ []))) = then_lines a b e ps (xs ++ (cs ++ last ∷ [])) pb later in
    all ∙ ap (λ (m : List ℕ). m ++ text_bytes (ps ++ (xs ++ (cs ++ last ∷ [])))) pa
