-- The search for the first injection, thread by thread and image by image.
use Rattle.std.proofs.Common.{◌≡◌, ◌≢◌, ◌<◌, ◌+◌, ℕ, List, [], ◌∷◌, ◌++◌, length, map, refl, sym, ap, subst, Contains, arith}
use Rattle.std.specs.Cmp.Lexicographic.{slice_cmp}
use Rattle.std.specs.Ordering.{nat_cmp, ordering_then}
use Rattle.std.specs.declared.cmp.Ordering.{Ordering}
use Rattle.std.specs.declared.cmp.Ordering.TheVariants.{Less, Equal, Greater}
use Rattle.std.proofs.lemmas.Cmp.{ranked}
use Rattle.std.proofs.lemmas.List.{length-append, append_assoc, append-nil}
use Rattle.ps_atom.specs.Atoms.{renamed}
use Rattle.ps_atom.specs.declared.atom.Atom.{Atom}
use Rattle.ps_list.proofs.Members.{nothing, here}
use Rattle.ps_config.specs.Configurations.{Configuration, Covers}
use Rattle.ps_config.specs.Sent.{sent}
use Rattle.ps_config.specs.Forms.{AreThreads}
use Rattle.ps_cover.specs.inner.Counts.{HasBare}
use Rattle.ps_cover.specs.Coverings.{IsFirstCovering}
use Rattle.ps_cover.specs.inner.Rests.{Fits, IsFirstRest}
use Rattle.ps_cover.proofs.Fitting.{covering_from_fits, fits_from_covering}
use Rattle.ps_cover.proofs.Ways.{HasNoRest}

-- ---- one thread more

moves : (xs : List ℕ) (x : ℕ) (ys : List ℕ) → (xs ++ x ∷ []) ++ ys ≡ xs ++ x ∷ ys
moves xs x ys = append_assoc xs (x ∷ []) ys

fits_moved : (small large : Configuration) (ss us ts rest : List ℕ) (t u : ℕ) → Fits small large ((ss ++ t ∷ []) ++ ts) ((us ++ u ∷ []) ++ rest) → Fits small large (ss ++ t ∷ ts) (us ++ u ∷ rest)
fits_moved small large ss us ts rest t u f = subst (λ (xs : List ℕ). Fits small large (ss ++ t ∷ ts) xs) (moves us u rest) (subst (λ (xs : List ℕ). Fits small large xs ((us ++ u ∷ []) ++ rest)) (moves ss t ts) f)

fits_back : (small large : Configuration) (ss us ts rest : List ℕ) (t u : ℕ) → Fits small large (ss ++ t ∷ ts) (us ++ u ∷ rest) → Fits small large ((ss ++ t ∷ []) ++ ts) ((us ++ u ∷ []) ++ rest)
fits_back small large ss us ts rest t u f = subst (λ (xs : List ℕ). Fits small large ((ss ++ t ∷ []) ++ ts) xs) (sym (moves us u rest)) (subst (λ (xs : List ℕ). Fits small large xs (us ++ u ∷ rest)) (sym (moves ss t ts)) f)

too_short : (small large : Configuration) (ss us ts : List ℕ) (t : ℕ) → length us ≡ length ss → Fits small large (ss ++ t ∷ ts) (us ++ []) → ⊥
too_short small large ss us ts t long f =
    let l : length (us ++ []) ≡ length (ss ++ t ∷ ts) = f.long in
    let a : length (us ++ []) ≡ length us = ap length (append-nil us) in
    let b : length (ss ++ t ∷ ts) ≡ length ss + length (t ∷ ts) = length-append ss (t ∷ ts) in
    let c : length (t ∷ ts) ≡ length ts + 1 = omega arith in
    omega (arith, l, a, b, c, long)

not_after : (small large : Configuration) (ss us ts rest others : List ℕ) (t u v : ℕ) → IsFirstRest small large (ss ++ t ∷ []) (us ++ u ∷ []) ts rest → ((w : ℕ) → w < u → HasNoRest small large (ss ++ t ∷ []) (us ++ w ∷ []) ts)
    → Fits small large (ss ++ t ∷ ts) (us ++ v ∷ others) → (o : Ordering) → nat_cmp u v ≡ o → ordering_then o (slice_cmp nat_cmp rest others) ≢ Greater
not_after small large ss us ts rest others t u v is none f Less e h = absurd (let g : ⊥ = cc in g)
not_after small large ss us ts rest others t u v is none f Equal e h =
    let same : u ≡ v = ranked u v Equal (sym e) in
    is.first others (subst (λ (x : ℕ). Fits small large ((ss ++ t ∷ []) ++ ts) ((us ++ x ∷ []) ++ others)) (sym same) (fits_back small large ss us ts others t v f)) h
not_after small large ss us ts rest others t u v is none f Greater e h =
    let below : v < u = ranked u v Greater (sym e) in
    none v below others (fits_back small large ss us ts others t v f)

-- the first image with a way to go on begins the first way
pub first_at : (small large : Configuration) (ss us ts rest : List ℕ) (t u : ℕ) → length us ≡ length ss → IsFirstRest small large (ss ++ t ∷ []) (us ++ u ∷ []) ts rest
    → ((v : ℕ) → v < u → HasNoRest small large (ss ++ t ∷ []) (us ++ v ∷ []) ts) → IsFirstRest small large ss us (t ∷ ts) (u ∷ rest)
first_at small large ss us ts rest t u long is none = record {
  fits = fits_moved small large ss us ts rest t u is.fits;
  first = λ other f. at other f;
}
  where
    at : (other : List ℕ) → Fits small large (ss ++ t ∷ ts) (us ++ other) → slice_cmp nat_cmp (u ∷ rest) other ≢ Greater
    at [] f = absurd (too_short small large ss us ts t long f)
    at (v ∷ others) f = not_after small large ss us ts rest others t u v is none f (nat_cmp u v) refl

-- ---- the beginning and the end

empty_from : (xs : List ℕ) → length xs ≡ 0 → xs ≡ []
empty_from [] h = refl
empty_from (x ∷ xs) h = absurd (omega (arith, h))

pub first_done : (small large : Configuration) (ss us : List ℕ) → Fits small large ss us → IsFirstRest small large ss us [] []
first_done small large ss us f = record {
  fits = subst (λ (xs : List ℕ). Fits small large (ss ++ []) xs) (sym (append-nil us)) (subst (λ (xs : List ℕ). Fits small large xs us) (sym (append-nil ss)) f);
  first = λ other g.
      let l : length (us ++ other) ≡ length (ss ++ []) = g.long in
      let a : length (us ++ other) ≡ length us + length other = length-append us other in
      let b : length (ss ++ []) ≡ length ss = ap length (append-nil ss) in
      let none : other ≡ [] = empty_from other (omega (arith, l, a, b, f.long)) in
      subst (λ (xs : List ℕ). slice_cmp nat_cmp [] xs ≢ Greater) (sym none) (λ h. (let e : Equal ≡ Greater = h in let g : ⊥ = cc in g));
}

no_threads : (xs : List ℕ) → ((t : ℕ) → Contains xs t → Contains [] t) → xs ≡ []
no_threads [] h = refl
no_threads (x ∷ xs) h = absurd (nothing x (h x (here x xs)))

pub fits_none : (small large : Configuration) → HasBare small large → Fits small large [] []
fits_none small large bare = record {
  long = refl;
  apart = λ s t hs ht e. absurd (nothing s hs);
  located = λ t l h at. absurd (nothing t h);
  atoms = λ q has all. bare_at q has (no_threads q.threads all);
}
  where
    bare_at : (q : Atom) → Contains small.atoms q → q.threads ≡ [] → Contains large.atoms (renamed (sent [] []) q)
    bare_at q has e = subst (λ (ts : List ℕ). let a : Atom = record { predicate = q.predicate; threads = map (sent [] []) ts } in Contains large.atoms a) (sym e)
        (subst (λ (ts : List ℕ). let a : Atom = record { predicate = q.predicate; threads = ts } in Contains large.atoms a) e (bare q has e))

pub bare_there : (small large : Configuration) → Covers small large → HasBare small large
bare_there small large c q has e =
    subst (λ (ts : List ℕ). let a : Atom = record { predicate = q.predicate; threads = ts } in Contains large.atoms a) (sym e)
    (subst (λ (ts : List ℕ). let a : Atom = record { predicate = q.predicate; threads = map c.0 ts } in Contains large.atoms a) e (c.1.atoms q has))

pub first_covering : (small large : Configuration) (threads to : List ℕ) → AreThreads small threads → IsFirstRest small large [] [] threads to → IsFirstCovering small large threads to
first_covering small large threads to are is = record {
  covering = covering_from_fits small large threads to are is.fits;
  first = λ other c. is.first other (fits_from_covering small large threads other are c);
}
