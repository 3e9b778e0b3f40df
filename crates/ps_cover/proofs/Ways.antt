-- Embeddings that begin with given images.
use Rattle.std.proofs.Common.{◌≡◌, ℕ, true, false, not, ◌&&◌, ◌==◌, List, [], ◌∷◌, ◌++◌, length, map, refl, sym, ap, ap₂, ◌∙◌, subst, inl, inr, Contains, arith}
use Rattle.std.specs.List.{list_any, list_all}
use Rattle.std.proofs.lemmas.Bool.{and_from, both_ways, eqb-true}
use Rattle.std.proofs.lemmas.List.Elements.{Contains-append_left, Contains-append_right}
use Rattle.ps_atom.specs.Atoms.{renamed}
use Rattle.ps_list.proofs.Members.{nothing, cons_cases}
use Rattle.ps_config.specs.Configurations.{Configuration, threads_at, Embeds}
use Rattle.ps_config.specs.Forms.{AreThreads}
use Rattle.ps_config.specs.Sent.{sent}
use Rattle.ps_config.proofs.Covering.{image_occurs}
use Rattle.ps_config.proofs.Bounded.{once_ascending}
use Rattle.ps_list.proofs.Mapped.{from_mapped, same_map}
use Rattle.ps_config.proofs.Once.{IsOnce}
use Rattle.ps_config.proofs.Sent.{sent_first, sent_later}
use Rattle.ps_cover.specs.inner.Agreeing.{atom_agrees}
use Rattle.ps_cover.specs.inner.Rests.{Fits, NoWay}
use Rattle.ps_cover.specs.inner.Tests.{is_listed, is_placed, place_kept, atom_kept, can_go}
use Rattle.ps_cover.proofs.Fitting.{covering_from_fits}
use Rattle.ps_config.proofs.Tested.{all_to, any_to}
use Rattle.ps_cover.proofs.Testing.{atom_image, listed_not, placed_to, unless_to}

-- there is no way to go on, by lists of images
abbrev pub HasNoRest : Configuration → Configuration → List ℕ → List ℕ → List ℕ → Type 0
HasNoRest small large threads to left = (other : List ℕ) → ¬ Fits small large (threads ++ left) (to ++ other)

-- ---- images under a function

cons_is : (x y : ℕ) (xs ys : List ℕ) → x ∷ xs ≡ y ∷ ys → (x ≡ y) × (xs ≡ ys)
cons_is x y xs ys e = ((let first : x ≡ y = cc in first), (let rest : xs ≡ ys = cc in rest))

pub map_sent : (ss us : List ℕ) → IsOnce ss → length us ≡ length ss → map (sent ss us) ss ≡ us
map_sent [] [] once long = refl
map_sent [] (u ∷ us) once long = absurd (omega (arith, long))
map_sent (s ∷ ss) [] once long = absurd (omega (arith, long))
map_sent (s ∷ ss) (u ∷ us) once long =
    ap₂ (λ (z : ℕ) (zs : List ℕ). z ∷ zs) (sent_first s u s ss us refl)
    (same_map (sent (s ∷ ss) (u ∷ us)) (sent ss us) ss (λ x h. sent_later s u x ss us (λ e. once.0 (subst (λ (y : ℕ). Contains ss y) (sym e) h))) ∙ map_sent ss us once.1 (omega (arith, long)))

front_map : (f : ℕ → ℕ) (ss us ts rest : List ℕ) → length us ≡ length ss → map f (ss ++ ts) ≡ us ++ rest → map f ss ≡ us
front_map f [] [] ts rest long e = refl
front_map f [] (u ∷ us) ts rest long e = absurd (omega (arith, long))
front_map f (s ∷ ss) [] ts rest long e = absurd (omega (arith, long))
front_map f (s ∷ ss) (u ∷ us) ts rest long e =
    let both = cons_is (f s) u (map f (ss ++ ts)) (us ++ rest) e in
    ap₂ (λ (z : ℕ) (zs : List ℕ). z ∷ zs) both.0 (front_map f ss us ts rest (omega (arith, long)) both.1)

pub map_last : (f : ℕ → ℕ) (ss us : List ℕ) (t u : ℕ) → length us ≡ length ss → map f (ss ++ t ∷ []) ≡ us ++ u ∷ [] → (map f ss ≡ us) × (f t ≡ u)
map_last f [] [] t u long e = (refl, (cons_is (f t) u [] [] e).0)
map_last f [] (v ∷ us) t u long e = absurd (omega (arith, long))
map_last f (s ∷ ss) [] t u long e = absurd (omega (arith, long))
map_last f (s ∷ ss) (v ∷ us) t u long e =
    let both = cons_is (f s) v (map f (ss ++ t ∷ [])) (us ++ u ∷ []) e in
    let rest = map_last f ss us t u (omega (arith, long)) both.1 in
    (ap₂ (λ (z : ℕ) (zs : List ℕ). z ∷ zs) both.0 rest.0, rest.1)

pub map_push : (f : ℕ → ℕ) (ss us : List ℕ) (t u : ℕ) → map f ss ≡ us → f t ≡ u → map f (ss ++ t ∷ []) ≡ us ++ u ∷ []
map_push f ss us t u e last = map_append f ss (t ∷ []) ∙ ap₂ (λ (xs : List ℕ) (x : ℕ). xs ++ x ∷ []) e last
  where
    map_append : (f : ℕ → ℕ) (xs ys : List ℕ) → map f (xs ++ ys) ≡ map f xs ++ map f ys
    map_append f [] ys = refl
    map_append f (x ∷ xs) ys = ap (λ (zs : List ℕ). f x ∷ zs) (map_append f xs ys)

-- ---- no way by functions is none by lists

pub no_rest : (small large : Configuration) (ss us ts : List ℕ) → AreThreads small (ss ++ ts) → length us ≡ length ss → NoWay small large ss us → HasNoRest small large ss us ts
no_rest small large ss us ts are long none other fits =
    let c = covering_from_fits small large (ss ++ ts) (us ++ other) are fits in
    none (sent (ss ++ ts) (us ++ other)) c.embeds (front_map (sent (ss ++ ts) (us ++ other)) ss us ts other long (map_sent (ss ++ ts) (us ++ other) (once_ascending (ss ++ ts) are.ascend) fits.long))

-- ---- the threads that are left

once_apart : (ss ts : List ℕ) (s : ℕ) → IsOnce (ss ++ ts) → Contains ts s → ¬ Contains ss s
once_apart [] ts s once h k = nothing s k
once_apart (x ∷ ss) ts s once h k = elim (cons_cases x ss s k) [
  | inl is ↦ once.0 (subst (λ (y : ℕ). Contains (ss ++ ts) y) (sym is) (Contains-append_right ss ts s h))
  | inr later ↦ once_apart ss ts s once.1 h later
]

-- these threads have images, and the later ones none; all of them occur
pub record AreLeft (small : Configuration) (threads later : List ℕ) : Type 0 where
  pub occur : (s : ℕ) → Contains threads s → Contains (threads_at small) s
  pub wait : (s : ℕ) → Contains later s → Contains (threads_at small) s × (¬ Contains threads s)

pub left_of : (small : Configuration) (ss ts : List ℕ) → AreThreads small (ss ++ ts) → AreLeft small ss ts
left_of small ss ts are = record {
  occur = λ s h. (are.occurring s).0 (Contains-append_left ss ts s h);
  wait = λ s h. ((are.occurring s).0 (Contains-append_right ss ts s h), once_apart ss ts s (once_ascending (ss ++ ts) are.ascend) h);
}

-- ---- where a thread goes

-- an embedding that gives the images so far takes a further thread where it can go
pub goes : (small large : Configuration) (ss us : List ℕ) (t : ℕ) (f : ℕ → ℕ) → Embeds small large f → map f ss ≡ us → ((s : ℕ) → Contains ss s → Contains (threads_at small) s) → Contains (threads_at small) t → (¬ Contains ss t)
    → can_go small.at small.atoms large.at large.atoms ss us t (f t) ≡ true
goes small large ss us t f e is occur occurs new =
    let xs : List ℕ = ss ++ t ∷ [] in
    let ys : List ℕ = us ++ f t ∷ [] in
    and_from (not (is_listed us (f t))) (list_all (place_kept large.at t (f t)) small.at && list_all (atom_kept large.atoms t xs ys) small.atoms)
    (listed_not us (f t) (λ h.
    let w = from_mapped f ss (f t) (subst (λ (zs : List ℕ). Contains zs (f t)) (sym is) h) in
    new (subst (λ (s : ℕ). Contains ss s) (e.apart w.0 t (occur w.0 w.1) occurs w.2) w.1)))
    (and_from (list_all (place_kept large.at t (f t)) small.at) (list_all (atom_kept large.atoms t xs ys) small.atoms)
    (all_to (place_kept large.at t (f t)) small.at (λ p c. unless_to (p.0 == t) (is_placed large.at (f t) p.1)
    (λ same. placed_to large.at (f t) p.1 (e.located t p.1 (subst (λ (s : ℕ). Contains small.at (s, p.1)) (eqb-true p.0 t same) c)))))
    (all_to (atom_kept large.atoms t xs ys) small.atoms (λ q c. unless_to (is_listed q.threads t) (list_any (atom_agrees xs ys q) large.atoms)
    (λ named. any_to (atom_agrees xs ys q) large.atoms (renamed f q) (e.atoms q c) (atom_image f xs ys q (map_push f ss us t (f t) is refl))))))

-- nor does it go where it can't
pub goes_not : (small large : Configuration) (ss us : List ℕ) (t u : ℕ) → length us ≡ length ss → ((s : ℕ) → Contains ss s → Contains (threads_at small) s) → Contains (threads_at small) t → (¬ Contains ss t)
    → can_go small.at small.atoms large.at large.atoms ss us t u ≡ false → NoWay small large (ss ++ t ∷ []) (us ++ u ∷ [])
goes_not small large ss us t u long occur occurs new no_go f e is =
    let w = map_last f ss us t u long is in
    both_ways (can_go small.at small.atoms large.at large.atoms ss us t u) no_go
    (subst (λ (v : ℕ). can_go small.at small.atoms large.at large.atoms ss us t v ≡ true) w.1 (goes small large ss us t f e w.0 occur occurs new))

-- or to a thread that doesn't occur
pub goes_absent : (small large : Configuration) (ss us : List ℕ) (t u : ℕ) → length us ≡ length ss → Contains (threads_at small) t → (¬ Contains (threads_at large) u) → NoWay small large (ss ++ t ∷ []) (us ++ u ∷ [])
goes_absent small large ss us t u long occurs absent f e is =
    absent (subst (λ (v : ℕ). Contains (threads_at large) v) (map_last f ss us t u long is).1 (image_occurs small large f e t occurs))
