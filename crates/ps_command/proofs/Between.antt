-- A list with one element in place of another, made of the parts before and after it.
use Rattle.std.proofs.Common.{◌≡◌, ℕ, suc, ◌<◌, ◌+◌, ◌-◌, List, [], ◌∷◌, ◌++◌, length, take, drop, sym, ap, ◌∙◌, append_assoc, arith}
use Rattle.std.specs.Prelude.{slice_set}
use Rattle.std.proofs.lemmas.List.{set_split, take_rest}

pub between : {A : Type 0} (l : List A) (i : ℕ) (a : A) → i < length l → ((take i l ++ a ∷ []) ++ take (length l - (i + 1)) (drop (i + 1) l)) ≡ slice_set l i a
between {A = A} l i a h =
    let next : i + 1 ≡ suc i = omega arith in
    ap (λ (r : List A). (take i l ++ a ∷ []) ++ r) (take_rest l (i + 1))
    ∙ (append_assoc (take i l) (a ∷ []) (drop (i + 1) l)
    ∙ (ap (λ (n : ℕ). take i l ++ a ∷ drop n l) next ∙ sym (set_split l i a h)))
