-- Lemmas on marks.
use Rattle.std.proofs.Common.{◌≡◌, ℕ, ◌+◌, ◌≤◌, List, [], ◌∷◌, ◌++◌, cond, length, take, drop, refl, sym, ap, ◌∙◌, arith, append_assoc, length-drop, length-append, length-take-le, take-append-drop, drop-drop}
use Rattle.std.proofs.Math.Seq.{take-append_seam}
use Rattle.std.specs.Prelude.{◌==◌, count_by}
use Rattle.std.proofs.lemmas.List.Sums.{sum_by-append}
use Rattle.ps_parts.specs.Cuts.{AreThreeParts, IsMarkAt, IsFirstMark, IsCut, IsNumbered, program_before}
use Rattle.ps_parts.specs.declared.mark.TheConstants.{MARK}

-- a mark stands inside the input
pub mark_inside : (input : List ℕ) (place : ℕ) → IsMarkAt input place → place + 3 ≤ length input
mark_inside input place mark =
    let split = ap length (take-append-drop 3 (drop place input)) in
    let joined = length-append (take 3 (drop place input)) (drop 3 (drop place input)) in
    let three = ap length mark.line in
    omega (arith, split, joined, three, length-drop place input)

-- the input is cut at its first mark
pub cut_at : (input : List ℕ) (place : ℕ) → IsFirstMark input place → IsCut input (take place input) (drop (place + 3) input)
cut_at input place first =
    let rest : drop place input ≡ MARK.now ++ drop (place + 3) input =
    sym (take-append-drop 3 (drop place input)) ∙ (ap (λ xs. xs ++ drop 3 (drop place input)) first.mark.line
    ∙ ap (λ xs. MARK.now ++ xs) (drop-drop 3 place input)) in
    let long : length (take place input) ≡ place = length-take-le place input (omega (arith, mark_inside input place first.mark)) in
    record {
      whole = sym (take-append-drop place input) ∙ ap (λ xs. take place input ++ xs) rest;
      first = rw long first;
    }

-- the whole input begins at line 1
pub numbered_whole : (input : List ℕ) → IsNumbered input input 1
numbered_whole input = ([], refl, refl)

-- how many line feeds there are in two texts, one after the other
feeds-append : (xs ys : List ℕ) → count_by (λ b. b == 10) (xs ++ ys) ≡ count_by (λ b. b == 10) xs + count_by (λ b. b == 10) ys
feeds-append xs ys = sum_by-append (λ (b : ℕ). cond (b == 10) 1 0) xs ys

-- what comes after a mark begins at the line after it
pub numbered_after : (input rest before after : List ℕ) (n line : ℕ) → IsNumbered input rest n → IsCut rest before after
    → line ≡ n + count_by (λ b. b == 10) before + 1 → IsNumbered input after line
numbered_after input rest before after n line numbered cut e =
    let front = numbered.0 in
    let marked = before ++ MARK.now in
    let here : rest ≡ marked ++ after = cut.whole ∙ sym (append_assoc before MARK.now after) in
    let counted = feeds-append front marked in
    let more = feeds-append before MARK.now in (
      front ++ marked,
      numbered.1 ∙ ap (λ xs. front ++ xs) here ∙ sym (append_assoc front marked after),
      omega (arith, e, numbered.2, counted, more),
    )

-- two cuts, one after the other, make three parts
pub cut_again : (input before rest program middle last : List ℕ) → IsCut input before rest → program ≡ program_before before
    → IsCut rest middle last → AreThreeParts input program middle last
cut_again input before rest program middle last cut e next = (rest, (before, cut, e), next)

drop_front : (xs ys : List ℕ) → drop (length xs) (xs ++ ys) ≡ ys
drop_front [] ys = refl
drop_front (x ∷ xs) ys = drop_front xs ys

-- an input is cut in one way
pub one_cut : (input before after front rest : List ℕ) → IsCut input before after → IsCut input front rest
    → (before ≡ front) × (after ≡ rest)
one_cut input before after front rest cut other =
    let long : length before ≡ length front =
    omega (arith, cut.first.first (length front) other.first.mark, other.first.first (length before) cut.first.mark) in
    let same : before ++ (MARK.now ++ after) ≡ front ++ (MARK.now ++ rest) = sym cut.whole ∙ other.whole in
    let ends : MARK.now ++ after ≡ MARK.now ++ rest =
    sym (drop_front before (MARK.now ++ after)) ∙ (ap (drop (length before)) same
    ∙ (ap (λ n. drop n (front ++ (MARK.now ++ rest))) long ∙ drop_front front (MARK.now ++ rest))) in (
      sym (take-append_seam before (MARK.now ++ after)) ∙ (ap (take (length before)) same
          ∙ (ap (λ n. take n (front ++ (MARK.now ++ rest))) long ∙ take-append_seam front (MARK.now ++ rest))),
      ap (drop 3) ends,
    )
