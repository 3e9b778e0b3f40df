-- The loops over what stands between commas.
use Rattle.std.proofs.Common.{◌≡◌, ℕ, ◌&&◌, Bool, true, false, List, [], ◌∷◌, ◌++◌, Option, Some, None, refl, sym, ap, ◌∙◌, append_assoc}
use Rattle.std.specs.Prelude.{option_map, option_and_then}
use Rattle.std.specs.List.{list_all}
use Rattle.std.proofs.lemmas.List.{append-nil}
use Rattle.ps_atom_text.specs.Reading.{number_up_to, numbers_up_to}
use Rattle.ps_lines.specs.Decimal.{counts_as_decimal}

-- the parts that are left decide whether all are decimals
pub record Counted (left all : List (List ℕ)) : Type 0 where
  pub same : list_all counts_as_decimal left ≡ list_all counts_as_decimal all

pub counted_none : (all : List (List ℕ)) → Counted all all
counted_none all = record { same = refl }

pub counted_more : (first : List ℕ) (left rest all : List (List ℕ)) → Counted left all → left ≡ first ∷ rest → counts_as_decimal first ≡ true → Counted rest all
counted_more first left rest all h e test =
    let one : list_all counts_as_decimal (first ∷ rest) ≡ list_all counts_as_decimal rest = ap (λ (t : Bool). t && list_all counts_as_decimal rest) test in
    record { same = sym one ∙ ap (list_all counts_as_decimal) (sym e) ∙ h.same }

pub counted_not : (first : List ℕ) (left rest all : List (List ℕ)) → Counted left all → left ≡ first ∷ rest → counts_as_decimal first ≡ false → false ≡ list_all counts_as_decimal all
counted_not first left rest all h e test = sym (ap (λ (t : Bool). t && list_all counts_as_decimal rest) test) ∙ ap (list_all counts_as_decimal) (sym e) ∙ h.same

pub counted_all : (left all : List (List ℕ)) → Counted left all → left ≡ [] → true ≡ list_all counts_as_decimal all
counted_all left all h e = ap (list_all counts_as_decimal) (sym e) ∙ h.same

-- the numbers that were read, with those that are left, are all
abbrev pub with_numbers : List ℕ → Option (List ℕ) → Option (List ℕ)
with_numbers front ns = option_map (λ (more : List ℕ). front ++ more) ns

pub record Numbered (most : ℕ) (front : List ℕ) (left all : List (List ℕ)) : Type 0 where
  pub same : with_numbers front (numbers_up_to most left) ≡ numbers_up_to most all

with_none : (o : Option (List ℕ)) → with_numbers [] o ≡ o
with_none None = refl
with_none (Some ns) = refl

with_one : (front : List ℕ) (n : ℕ) (o : Option (List ℕ)) → with_numbers front (option_map (λ (ns : List ℕ). n ∷ ns) o) ≡ with_numbers (front ++ n ∷ []) o
with_one front n None = refl
with_one front n (Some ns) = ap (λ (ms : List ℕ). Some ms) (sym (append_assoc front (n ∷ []) ns))

abbrev then_numbers : ℕ → List (List ℕ) → Option ℕ → Option (List ℕ)
then_numbers most rest o = option_and_then (λ (n : ℕ). option_map (λ (ns : List ℕ). n ∷ ns) (numbers_up_to most rest)) o

pub numbered_none : (most : ℕ) (all : List (List ℕ)) → Numbered most [] all all
numbered_none most all = record { same = with_none (numbers_up_to most all) }

pub numbered_more : (most : ℕ) (front : List ℕ) (first : List ℕ) (n : ℕ) (left rest all : List (List ℕ)) → Numbered most front left all → left ≡ first ∷ rest → Some n ≡ number_up_to most first → Numbered most (front ++ n ∷ []) rest all
numbered_more most front first n left rest all h e is =
    record { same = sym (with_one front n (numbers_up_to most rest)) ∙ ap (λ (o : Option ℕ). with_numbers front (then_numbers most rest o)) is ∙ ap (λ (fs : List (List ℕ)). with_numbers front (numbers_up_to most fs)) (sym e) ∙ h.same }

pub numbered_not : (most : ℕ) (front : List ℕ) (first : List ℕ) (left rest all : List (List ℕ)) → Numbered most front left all → left ≡ first ∷ rest → None ≡ number_up_to most first → None ≡ numbers_up_to most all
numbered_not most front first left rest all h e is = ap (λ (o : Option ℕ). with_numbers front (then_numbers most rest o)) is ∙ ap (λ (fs : List (List ℕ)). with_numbers front (numbers_up_to most fs)) (sym e) ∙ h.same

pub numbered_all : (most : ℕ) (front : List ℕ) (left all : List (List ℕ)) → Numbered most front left all → left ≡ [] → Some front ≡ numbers_up_to most all
numbered_all most front left all h e = ap (λ (ms : List ℕ). Some ms) (sym (append-nil front)) ∙ ap (λ (fs : List (List ℕ)). with_numbers front (numbers_up_to most fs)) (sym e) ∙ h.same
