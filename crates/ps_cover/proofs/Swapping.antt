-- Threads of the larger configuration that can be swapped are alike.
use Rattle.std.proofs.Common.{◌≡◌, ◌≢◌, ℕ, Bool, true, false, not, ◌&&◌, ◌||◌, ◌==◌, List, [], ◌∷◌, ◌++◌, length, map, refl, sym, ap, ap₂, ◌∙◌, subst, inl, inr, Contains, if◌then◌else◌, arith}
use Rattle.std.specs.List.{list_any, list_all}
use Rattle.std.proofs.lemmas.Bool.{and_parts, cases_eq, eqb-true, eq-eqb, ne_eqb, false≢true, or_cases, or_left, or_right, both_ways}
use Rattle.ps_atom.specs.Atoms.{renamed}
use Rattle.ps_atom.specs.declared.atom.Atom.{Atom}
use Rattle.ps_list.proofs.Members.{here, there}
use Rattle.ps_config.specs.Configurations.{Configuration, IsAt, Embeds}
use Rattle.ps_list.proofs.Numbers.{has_to}
use Rattle.ps_config.proofs.Occurring.{renamed_twice, renamed_stays}
use Rattle.ps_cover.specs.inner.Rests.{NoWay}
use Rattle.ps_cover.specs.inner.Swaps.{swapped, place_swaps, maps_swapped, swap_maps, atom_swaps, swap_keeps}
use Rattle.ps_cover.specs.inner.Tests.{is_listed, is_placed}
use Rattle.ps_config.proofs.Tested.{all_from, any_from}
use Rattle.ps_cover.proofs.Testing.{placed_from}
use Rattle.ps_cover.proofs.Ways.{map_last, map_push}

-- ---- steps of a loop

pub swapped_long : (w v : ℕ) (xs ys : List ℕ) → length xs ≢ length ys → false ≡ maps_swapped w v xs ys
swapped_long w v [] [] n = absurd (n refl)
swapped_long w v [] (y ∷ ys) n = refl
swapped_long w v (x ∷ xs) [] n = refl
swapped_long w v (x ∷ xs) (y ∷ ys) n = at (swapped w v x == y) (swapped_long w v xs ys (λ e. n (omega (arith, e))))
  where
    at : (b : Bool) → false ≡ maps_swapped w v xs ys → false ≡ (b && maps_swapped w v xs ys)
    at true rest = rest
    at false rest = refl

-- ---- the swap

swapped_first : (w v t : ℕ) → t ≡ w → swapped w v t ≡ v
swapped_first w v t e = at (t == w) (eq-eqb t w e)
  where
    at : (b : Bool) → b ≡ true → (if b then v else (if t == v then w else t)) ≡ v
    at true h = refl
    at false h = absurd (false≢true h)

swapped_second : (w v t : ℕ) → t ≢ w → t ≡ v → swapped w v t ≡ w
swapped_second w v t n e = at (t == w) (t == v) (ne_eqb t w n) (eq-eqb t v e)
  where
    at : (a b : Bool) → a ≡ false → b ≡ true → (if a then v else (if b then w else t)) ≡ w
    at false true h k = refl
    at false false h k = absurd (false≢true k)
    at true b h k = absurd (false≢true (sym h))

swapped_third : (w v t : ℕ) → t ≢ w → t ≢ v → swapped w v t ≡ t
swapped_third w v t n m = at (t == w) (t == v) (ne_eqb t w n) (ne_eqb t v m)
  where
    at : (a b : Bool) → a ≡ false → b ≡ false → (if a then v else (if b then w else t)) ≡ t
    at false false h k = refl
    at false true h k = absurd (false≢true (sym k))
    at true b h k = absurd (false≢true (sym h))

swapped_back : (w v t : ℕ) → swapped w v (swapped w v t) ≡ t
swapped_back w v t = elim (cases_eq t w) [
  | inl is ↦ elim (cases_eq v w) [
    | inl same ↦ ap (swapped w v) (swapped_first w v t is) ∙ (swapped_first w v v same ∙ (same ∙ sym is))
    | inr other ↦ ap (swapped w v) (swapped_first w v t is) ∙ (swapped_second w v v other refl ∙ sym is)
  ]
  | inr not_first ↦ elim (cases_eq t v) [
    | inl is ↦ ap (swapped w v) (swapped_second w v t not_first is) ∙ (swapped_first w v w refl ∙ sym is)
    | inr not_second ↦ ap (swapped w v) (swapped_third w v t not_first not_second) ∙ swapped_third w v t not_first not_second
  ]
]

swapped_apart : (w v s t : ℕ) → swapped w v s ≡ swapped w v t → s ≡ t
swapped_apart w v s t e = sym (swapped_back w v s) ∙ (ap (swapped w v) e ∙ swapped_back w v t)

-- ---- what has them stays

keeps_places : (large : Configuration) (w v : ℕ) → list_all (place_swaps large.at w v) large.at ≡ true → (t l : ℕ) → IsAt large t l → IsAt large (swapped w v t) l
keeps_places large w v h t l c = elim (or_cases (swapped w v t == t) (is_placed large.at (swapped w v t) l) (all_from (place_swaps large.at w v) large.at h (t, l) c)) [
  | inl same ↦ subst (λ (s : ℕ). IsAt large s l) (sym (eqb-true (swapped w v t) t same)) c
  | inr placed ↦ placed_from large.at (swapped w v t) l placed
]

maps_from : (w v : ℕ) (xs ys : List ℕ) → maps_swapped w v xs ys ≡ true → map (swapped w v) xs ≡ ys
maps_from w v [] [] h = refl
maps_from w v [] (y ∷ ys) h = absurd (false≢true h)
maps_from w v (x ∷ xs) [] h = absurd (false≢true h)
maps_from w v (x ∷ xs) (y ∷ ys) h =
    let both = and_parts (swapped w v x == y) (maps_swapped w v xs ys) h in
    ap₂ (λ (z : ℕ) (zs : List ℕ). z ∷ zs) (eqb-true (swapped w v x) y both.0) (maps_from w v xs ys both.1)

swap_from : (w v : ℕ) (q r : Atom) → swap_maps w v q r ≡ true → renamed (swapped w v) q ≡ r
swap_from w v q r h =
    let both = and_parts (q.predicate == r.predicate) (maps_swapped w v q.threads r.threads) h in
    ap₂ (λ (p : ℕ) (ts : List ℕ). let a : Atom = record { predicate = p; threads = ts } in a) (eqb-true q.predicate r.predicate both.0) (maps_from w v q.threads r.threads both.1)

not_or : (a b : Bool) → not a ≡ true → (a ≡ true → ⊥)
not_or a b h k = both_ways (not a) (ap not k) h

keeps_atoms : (large : Configuration) (w v : ℕ) → list_all (atom_swaps large.atoms w v) large.atoms ≡ true → (q : Atom) → Contains large.atoms q → Contains large.atoms (renamed (swapped w v) q)
keeps_atoms large w v h q c =
    elim (or_cases (not (is_listed q.threads w || is_listed q.threads v)) (list_any (swap_maps w v q) large.atoms) (all_from (atom_swaps large.atoms w v) large.atoms h q c)) [
      | inl neither ↦
          let no : (is_listed q.threads w || is_listed q.threads v) ≡ true → ⊥ = not_or (is_listed q.threads w || is_listed q.threads v) true neither in
          subst (λ (r : Atom). Contains large.atoms r) (sym (renamed_stays (swapped w v) q (λ t k. swapped_third w v t
          (λ e. no (or_left (is_listed q.threads w) (is_listed q.threads v) (has_to q.threads w (subst (λ (s : ℕ). Contains q.threads s) e k))))
          (λ e. no (or_right (is_listed q.threads w) (is_listed q.threads v) (has_to q.threads v (subst (λ (s : ℕ). Contains q.threads s) e k))))))) c
      | inr some ↦ (let r = any_from (swap_maps w v q) large.atoms some in subst (λ (r : Atom). Contains large.atoms r) (sym (swap_from w v q r.0 r.2)) r.1)
    ]

embeds_swapped : (small large : Configuration) (w v : ℕ) (f : ℕ → ℕ) → swap_keeps large.at large.atoms w v ≡ true → Embeds small large f → Embeds small large (λ t. swapped w v (f t))
embeds_swapped small large w v f h e =
    let both = and_parts (list_all (place_swaps large.at w v) large.at) (list_all (atom_swaps large.atoms w v) large.atoms) h in
    record {
      apart = λ s t hs ht same. e.apart s t hs ht (swapped_apart w v (f s) (f t) same);
      located = λ t l at. keeps_places large w v both.0 (f t) l (e.located t l at);
      atoms = λ q c. subst (λ (r : Atom). Contains large.atoms r) (renamed_twice f (swapped w v) q) (keeps_atoms large w v both.1 (renamed f q) (e.atoms q c));
    }

stays : (w v : ℕ) (us : List ℕ) → (¬ Contains us w) → (¬ Contains us v) → map (swapped w v) us ≡ us
stays w v [] n m = refl
stays w v (u ∷ us) n m =
    ap₂ (λ (z : ℕ) (zs : List ℕ). z ∷ zs)
    (swapped_third w v u (λ e. n (subst (λ (x : ℕ). Contains (u ∷ us) x) e (here u us))) (λ e. m (subst (λ (x : ℕ). Contains (u ∷ us) x) e (here u us))))
    (stays w v us (λ h. n (there u us w h)) (λ h. m (there u us v h)))

maps_twice : (f g : ℕ → ℕ) (ss us : List ℕ) → map f ss ≡ us → map (λ t. g (f t)) ss ≡ map g us
maps_twice f g ss us e = each ss ∙ ap (map g) e
  where
    each : (xs : List ℕ) → map (λ t. g (f t)) xs ≡ map g (map f xs)
    each [] = refl
    each (x ∷ xs) = ap (λ (zs : List ℕ). g (f x) ∷ zs) (each xs)

-- an image that is swapped with one that has no way has none
pub no_way_swapped : (small large : Configuration) (ss us : List ℕ) (t w v : ℕ) → length us ≡ length ss → swap_keeps large.at large.atoms w v ≡ true → (¬ Contains us w) → (¬ Contains us v)
    → NoWay small large (ss ++ t ∷ []) (us ++ w ∷ []) → NoWay small large (ss ++ t ∷ []) (us ++ v ∷ [])
no_way_swapped small large ss us t w v long h n m none f e is =
    let last = map_last f ss us t v long is in
    let back : swapped w v v ≡ w = elim (cases_eq v w) [ inl same ↦ swapped_first w v v same ∙ same | inr other ↦ swapped_second w v v other refl ] in
    none (λ x. swapped w v (f x)) (embeds_swapped small large w v f h e)
    (map_push (λ x. swapped w v (f x)) ss us t w (maps_twice f (swapped w v) ss us last.0 ∙ stays w v us n m) (ap (swapped w v) last.1 ∙ back))
