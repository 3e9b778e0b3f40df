-- How the covers change as one more number is chosen.
use Rattle.std.proofs.Common.{◌≡◌, ℕ, suc, zero, ◌+◌, ◌<◌, ◌≤◌, Bool, true, false, List, [], ◌∷◌, ◌++◌, length, get_or, drop, sym, subst, refl, inl, inr, Contains, arith, append_assoc}
use Rattle.std.specs.Prelude.{◌==◌}
use Rattle.std.specs.List.{list_any, AllZip}
use Rattle.std.specs.declared.vec.Vec.{Vec}
use Rattle.std.proofs.lemmas.Bool.{both_ways}
use Rattle.std.proofs.lemmas.List.{drop_more}
use Rattle.std.proofs.lemmas.List.Elements.{Contains-append_left, Contains-push, Contains-push_cases}
use Rattle.ps_hit.specs.declared.cover.Cover.{Cover}
use Rattle.ps_hit.specs.declared.cover.Cover.TheVariants.{Unmet, Once, Again}
use Rattle.ps_hit.specs.Hitting.{numbers_of}
use Rattle.ps_hit.specs.inner.Covers.{IsCover, cover_with, covers_with, unmet}
use Rattle.ps_list.proofs.Numbers.{has_from, has_to}

-- one more set is done
pub covers_more : {A : Type 0} (n : ℕ) (sets : List (Vec ℕ A)) (covers : List Cover) (i : ℕ) (set : Vec ℕ A) (d : Cover) (done all : List Cover) (cover : Cover) (has : Bool)
    → i < length sets → length covers ≡ length sets → set ≡ get_or sets i set → has ≡ list_any (λ m. m == n) set.items → cover ≡ cover_with (get_or covers i d) n has
    → done ++ covers_with n (numbers_of (drop i sets)) (drop i covers) ≡ all
    → (done ++ cover ∷ []) ++ covers_with n (numbers_of (drop (i + 1) sets)) (drop (i + 1) covers) ≡ all
covers_more n sets covers i set d done all cover has inside same read is becomes so_far =
    let inside' : i < length covers = omega arith in
    let before = rw (drop_more sets i set inside, drop_more covers i d inside', ← read) at so_far in
    rw (append_assoc, becomes, is) before

-- ---- the covers stay right

lacks_more : (chosen set : List ℕ) (n m : ℕ) → (¬ Contains set n) → Contains (chosen ++ n ∷ []) m → Contains set m → Contains chosen m
lacks_more chosen set n m lacks h in_set = elim (Contains-push_cases chosen n m h) [
  | inl old ↦ old
  | inr is ↦ absurd (lacks (subst (λ (k : ℕ). Contains set k) (sym is) in_set))
]

still : (chosen : List ℕ) (n m : ℕ) → Contains chosen m → Contains (chosen ++ n ∷ []) m
still chosen n m h = Contains-append_left chosen (n ∷ []) m h

cover_lacks : (chosen set : List ℕ) (n : ℕ) (c : Cover) → (¬ Contains set n) → IsCover chosen set c → IsCover (chosen ++ n ∷ []) set c
cover_lacks chosen set n Unmet lacks is = λ h. is (h.0, lacks_more chosen set n h.0 lacks h.1 h.2, h.2)
cover_lacks chosen set n (Once k) lacks is = (still chosen n k is.0, is.1, λ m h in_set. is.2 m (lacks_more chosen set n m lacks h in_set) in_set)
cover_lacks chosen set n Again lacks is = (is.0, is.1, is.2, still chosen n is.0 is.3, still chosen n is.1 is.4, is.5, is.6)

cover_has : (chosen set : List ℕ) (n : ℕ) (c : Cover) → (¬ Contains chosen n) → Contains set n → IsCover chosen set c → IsCover (chosen ++ n ∷ []) set (cover_with c n true)
cover_has chosen set n Unmet new has is =
    (Contains-push chosen n, has, λ m h in_set. elim (Contains-push_cases chosen n m h) [ inl old ↦ absurd (is (m, old, in_set)) | inr same ↦ sym same ])
cover_has chosen set n (Once k) new has is =
    (k, n, λ same. new (subst (λ (m : ℕ). Contains chosen m) same is.0), still chosen n k is.0, Contains-push chosen n, is.1, has)
cover_has chosen set n Again new has is = (is.0, is.1, is.2, still chosen n is.0 is.3, still chosen n is.1 is.4, is.5, is.6)

cover_step : (chosen set : List ℕ) (n : ℕ) (c : Cover) (t : Bool) → list_any (λ m. m == n) set ≡ t → (¬ Contains chosen n) → IsCover chosen set c → IsCover (chosen ++ n ∷ []) set (cover_with c n t)
cover_step chosen set n c true e new is = cover_has chosen set n c new (has_from set n e) is
cover_step chosen set n c false e new is = cover_lacks chosen set n c (λ h. both_ways (list_any (λ m. m == n) set) e (has_to set n h)) is

pub covers_step : (chosen : List ℕ) (n : ℕ) → (¬ Contains chosen n) → (sets : List (List ℕ)) (covers : List Cover)
    → AllZip (IsCover chosen) sets covers → AllZip (IsCover (chosen ++ n ∷ [])) sets (covers_with n sets covers)
covers_step chosen n new [] [] is = is
covers_step chosen n new [] (c ∷ cs) is = absurd is
covers_step chosen n new (set ∷ sets) [] is = absurd is
covers_step chosen n new (set ∷ sets) (c ∷ cs) is = (cover_step chosen set n c (list_any (λ m. m == n) set) refl new is.0, covers_step chosen n new sets cs is.1)

-- ---- fewer sets are unmet

unmet_cover : (c : Cover) (cs : List Cover) (n : ℕ) (t : Bool) (ds : List Cover) → unmet ds ≤ unmet cs → unmet (cover_with c n t ∷ ds) ≤ unmet (c ∷ cs)
unmet_cover Unmet cs n true ds h = omega arith
unmet_cover Unmet cs n false ds h = omega arith
unmet_cover (Once k) cs n true ds h = omega arith
unmet_cover (Once k) cs n false ds h = omega arith
unmet_cover Again cs n true ds h = omega arith
unmet_cover Again cs n false ds h = omega arith

unmet_less : (c : Cover) (cs : List Cover) (n : ℕ) (t : Bool) (ds : List Cover) → unmet ds + 1 ≤ unmet cs → unmet (cover_with c n t ∷ ds) + 1 ≤ unmet (c ∷ cs)
unmet_less Unmet cs n true ds h = omega arith
unmet_less Unmet cs n false ds h = omega arith
unmet_less (Once k) cs n true ds h = omega arith
unmet_less (Once k) cs n false ds h = omega arith
unmet_less Again cs n true ds h = omega arith
unmet_less Again cs n false ds h = omega arith

unmet_le : (n : ℕ) (sets : List (List ℕ)) (cs : List Cover) → unmet (covers_with n sets cs) ≤ unmet cs
unmet_le n [] cs = omega arith
unmet_le n (set ∷ sets) [] = omega arith
unmet_le n (set ∷ sets) (c ∷ cs) = unmet_cover c cs n (list_any (λ m. m == n) set) (covers_with n sets cs) (unmet_le n sets cs)

pub unmet_falls : (n : ℕ) (sets : List (List ℕ)) (cs : List Cover) (place : ℕ) (d : Cover) → place < length sets → length cs ≡ length sets
    → get_or cs place d ≡ Unmet → Contains (get_or sets place []) n → unmet (covers_with n sets cs) + 1 ≤ unmet cs
unmet_falls n [] cs place d within same is has = absurd (omega arith)
unmet_falls n (set ∷ sets) [] place d within same is has = absurd (omega (arith, same))
unmet_falls n (set ∷ sets) (c ∷ cs) zero d within same is has =
    rw (is, has_to set n has) (omega (arith, unmet_le n sets cs))
unmet_falls n (set ∷ sets) (c ∷ cs) (suc place) d within same is has =
    unmet_less c cs n (list_any (λ m. m == n) set) (covers_with n sets cs) (unmet_falls n sets cs place d (omega arith) (omega (arith, same)) is has)
