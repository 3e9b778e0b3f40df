-- What stands between commas.
use Rattle.std.proofs.Common.{◌≡◌, ℕ, ◌+◌, ◌^◌, ◌<◌, ◌≤◌, ◌==◌, Bool, true, false, cond, List, [], ◌∷◌, ◌++◌, map, length, Option, Some, None, refl, sym, ap, ◌∙◌, arith}
use Rattle.std.specs.Prelude.{decimal, option_map, if◌then◌else◌}
use Rattle.std.specs.Char.{digit_value}
use Rattle.std.specs.List.{flat_map, join_with_byte, onto_first, AllByRecursion, count_by}
use Rattle.std.proofs.lemmas.List.{append-nil}
use Rattle.std.proofs.lemmas.List.Splits.{join_with_byte-slice_split, length-slice_split}
use Rattle.ps_atom_text.specs.Reading.{between_commas}
use Rattle.ps_lines.specs.Parts.{cut_at}
use Rattle.ps_lines.proofs.Cutting.{IsFree, cut_again, decimal_free}

-- a list that is cut at its first comma, if it has one
abbrev pub cut_off : Option (List ℕ × List ℕ) → List ℕ → List (List ℕ)
cut_off None bytes = bytes ∷ []
cut_off (Some parts) bytes = parts.0 ∷ between_commas parts.1

longer_cut : (b : ℕ) (bs : List ℕ) (r : Option (List ℕ × List ℕ)) → onto_first b (cut_off r bs) ≡ cut_off (option_map (λ (p : List ℕ × List ℕ). (b ∷ p.0, p.1)) r) (b ∷ bs)
longer_cut b bs None = refl
longer_cut b bs (Some p) = refl

pub commas_cut : (bs : List ℕ) → between_commas bs ≡ cut_off (cut_at 44 bs) bs
commas_cut [] = refl
commas_cut (b ∷ bs) = by_test (b == 44) (commas_cut bs)
  where
    by_test : (t : Bool) → between_commas bs ≡ cut_off (cut_at 44 bs) bs → cond t ([] ∷ between_commas bs) (onto_first b (between_commas bs)) ≡ cut_off (if t then Some ([], bs) else option_map (λ (p : List ℕ × List ℕ). (b ∷ p.0, p.1)) (cut_at 44 bs)) (b ∷ bs)
    by_test true rest = refl
    by_test false rest = ap (onto_first b) rest ∙ longer_cut b bs (cut_at 44 bs)

-- ---- decimals between commas

-- a comma before each of the numbers
abbrev pub after_commas : List ℕ → List ℕ
after_commas ts = flat_map (λ u. 44 ∷ decimal u) ts

abbrev pub AreSmall : List ℕ → Type 0
AreSmall ts = AllByRecursion (λ (t : ℕ). t < 2 ^ 32) ts

free_none : (byte : ℕ) (bs : List ℕ) → IsFree byte bs → cut_at byte bs ≡ None
free_none byte [] free = refl
free_none byte (b ∷ bs) free = rw (free.0, free_none byte bs free.1) refl

pub decimal_free_of : (byte t : ℕ) → 10 ≤ digit_value byte → t < 2 ^ 32 → IsFree byte (decimal t)
decimal_free_of byte t no_digit small = decimal_free byte t no_digit (omega (arith, small))

pub decimal_uncut : (byte t : ℕ) → 10 ≤ digit_value byte → t < 2 ^ 32 → cut_at byte (decimal t) ≡ None
decimal_uncut byte t no_digit small = free_none byte (decimal t) (decimal_free_of byte t no_digit small)

pub commas_again : (t : ℕ) (ts : List ℕ) → AreSmall (t ∷ ts) → between_commas (decimal t ++ after_commas ts) ≡ map decimal (t ∷ ts)
commas_again t [] small =
    ap between_commas (append-nil (decimal t)) ∙ commas_cut (decimal t) ∙ ap (λ (r : Option (List ℕ × List ℕ)). cut_off r (decimal t)) (decimal_uncut 44 t (omega arith) small.0)
commas_again t (u ∷ us) small =
    let rest : List ℕ = decimal u ++ after_commas us in
    commas_cut (decimal t ++ 44 ∷ rest)
    ∙ ap (λ (r : Option (List ℕ × List ℕ)). cut_off r (decimal t ++ 44 ∷ rest)) (cut_again 44 (decimal t) rest (decimal_free_of 44 t (omega arith) small.0))
    ∙ ap (λ (fs : List (List ℕ)). decimal t ∷ fs) (commas_again u us small.1)

joined : (t : ℕ) (ts : List ℕ) → join_with_byte 44 (map decimal (t ∷ ts)) ≡ decimal t ++ after_commas ts
joined t [] = sym (append-nil (decimal t))
joined t (u ∷ us) = ap (λ (bs : List ℕ). decimal t ++ 44 ∷ bs) (joined u us)

pub commas_found : (bs : List ℕ) (t : ℕ) (ts : List ℕ) → between_commas bs ≡ map decimal (t ∷ ts) → bs ≡ decimal t ++ after_commas ts
commas_found bs t ts e = sym (join_with_byte-slice_split 44 bs) ∙ ap (join_with_byte 44) e ∙ joined t ts

pub commas_some : (bs : List ℕ) → between_commas bs ≡ [] → ⊥
commas_some bs e =
    let long : length (between_commas bs) ≡ count_by (λ (b : ℕ). b == 44) bs + 1 = length-slice_split (λ (b : ℕ). b == 44) bs in
    let none : length (between_commas bs) ≡ 0 = ap length e in
    omega (arith, long, none)

-- the part before the first comma, and what follows it
pub first_of : (list first rest : List ℕ) → Some (first, rest) ≡ cut_at 44 list → between_commas list ≡ first ∷ between_commas rest
first_of list first rest e = commas_cut list ∙ ap (λ (r : Option (List ℕ × List ℕ)). cut_off r list) (sym e)

pub only_part : (list : List ℕ) → None ≡ cut_at 44 list → between_commas list ≡ list ∷ []
only_part list e = commas_cut list ∙ ap (λ (r : Option (List ℕ × List ℕ)). cut_off r list) (sym e)
