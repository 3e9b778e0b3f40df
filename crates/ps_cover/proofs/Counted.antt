-- What the counts tell: a covering takes no more threads to a location than are there, and no more atoms to a predicate.
use Rattle.std.proofs.Common.{◌≡◌, ◌≤◌, ℕ, Bool, true, false, cond, ◌==◌, List, [], ◌∷◌, length, map, refl, ap, ap₂, subst, Contains, arith}
use Rattle.std.specs.List.{filter}
use Rattle.std.proofs.lemmas.List.{length-map}
use Rattle.ps_atom.specs.Atoms.{renamed}
use Rattle.ps_atom.specs.declared.atom.Atom.{Atom}
use Rattle.ps_config.proofs.Once.{IsOnce, no_longer, once_mapped, once_kept}
use Rattle.ps_config.specs.Forms.{IsConfig}
use Rattle.ps_config.proofs.Bounded.{once_located}
use Rattle.ps_cover.specs.Within.{times, IsWithinList}
use Rattle.ps_cover.specs.inner.Counts.{those_at, those_of}
use Rattle.ps_list.proofs.Members.{here, there}
use Rattle.ps_config.specs.Configurations.{Configuration, Covers}
use Rattle.ps_list.proofs.Mapped.{from_mapped, kept, from_kept}
use Rattle.ps_config.proofs.Occurring.{located_occurs, named_occurs}

-- no more threads of the small one are at a location
pub fewer_at : (small large : Configuration) → Covers small large → IsOnce small.at → (l : ℕ) → length (those_at l small.at) ≤ length (those_at l large.at)
fewer_at small large c once l =
    let f : ℕ × ℕ → ℕ × ℕ = λ p. (c.0 p.0, p.1) in
    let xs : List (ℕ × ℕ) = those_at l small.at in
    let test : ℕ × ℕ → Bool = λ p. p.1 == l in
    let of : (p : ℕ × ℕ) → Contains xs p → Contains small.at p = λ p h. (from_kept test small.at p h).0 in
    let apart : (p q : ℕ × ℕ) → Contains xs p → Contains xs q → f p ≡ f q → p ≡ q =
    λ p q hp hq e.
    let first : p.0 ≡ q.0 = c.1.apart p.0 q.0 (located_occurs small p.0 p.1 (of p hp)) (located_occurs small q.0 q.1 (of q hq)) (ap (λ (r : ℕ × ℕ). r.0) e) in
    ap₂ (λ (a b : ℕ). let r : ℕ × ℕ = (a, b) in r) first (ap (λ (r : ℕ × ℕ). r.1) e) in
    let long : length (map f xs) ≡ length xs = length-map xs f in
    let le : length (map f xs) ≤ length (those_at l large.at) = no_longer (map f xs) (those_at l large.at) (once_mapped f xs (once_kept test small.at once) apart)
    (λ r h. (let w = from_mapped f xs r h in
    subst (λ (z : ℕ × ℕ). Contains (those_at l large.at) z) w.2 (kept test large.at (f w.0) (c.1.located w.0.0 w.0.1 (of w.0 w.1)) (from_kept test small.at w.0 w.1).1))) in
    omega (arith, long, le)

-- renamings that keep the threads of two atoms apart keep the atoms apart
same_lists : (f : ℕ → ℕ) (xs ys : List ℕ) → ((s t : ℕ) → Contains xs s → Contains ys t → f s ≡ f t → s ≡ t) → map f xs ≡ map f ys → xs ≡ ys
same_lists f [] [] apart e = refl
same_lists f [] (y ∷ ys) apart e = absurd (let g : ⊥ = cc in g)
same_lists f (x ∷ xs) [] apart e = absurd (let g : ⊥ = cc in g)
same_lists f (x ∷ xs) (y ∷ ys) apart e =
    let first : f x ≡ f y = cc in
    let rest : map f xs ≡ map f ys = cc in
    ap₂ (λ (z : ℕ) (zs : List ℕ). z ∷ zs) (apart x y (here x xs) (here y ys) first) (same_lists f xs ys (λ s t hs ht. apart s t (there x xs s hs) (there y ys t ht)) rest)

-- no more atoms of the small one are of a predicate
pub fewer_of : (small large : Configuration) → Covers small large → IsOnce small.atoms → (n : ℕ) → length (those_of n small.atoms) ≤ length (those_of n large.atoms)
fewer_of small large c once n =
    let f : Atom → Atom = renamed c.0 in
    let test : Atom → Bool = λ q. q.predicate == n in
    let xs : List Atom = those_of n small.atoms in
    let of : (q : Atom) → Contains xs q → Contains small.atoms q = λ q h. (from_kept test small.atoms q h).0 in
    let apart : (p q : Atom) → Contains xs p → Contains xs q → f p ≡ f q → p ≡ q =
    λ p q hp hq e.
    let threads : p.threads ≡ q.threads = same_lists c.0 p.threads q.threads (λ s t hs ht same. c.1.apart s t (named_occurs small p s (of p hp) hs) (named_occurs small q t (of q hq) ht) same) (ap (λ (a : Atom). a.threads) e) in
    ap₂ (λ (m : ℕ) (ts : List ℕ). let a : Atom = record { predicate = m; threads = ts } in a) (ap (λ (a : Atom). a.predicate) e) threads in
    let long : length (map f xs) ≡ length xs = length-map xs f in
    let le : length (map f xs) ≤ length (those_of n large.atoms) = no_longer (map f xs) (those_of n large.atoms) (once_mapped f xs (once_kept test small.atoms once) apart)
    (λ r h. (let w = from_mapped f xs r h in
    subst (λ (z : Atom). Contains (those_of n large.atoms) z) w.2 (kept test large.atoms (f w.0) (c.1.atoms w.0 (of w.0 w.1)) (from_kept test small.atoms w.0 w.1).1))) in
    omega (arith, long, le)

-- ---- locations by themselves

times_located : (l : ℕ) (at : List (ℕ × ℕ)) → times l (map (λ (p : ℕ × ℕ). p.1) at) ≡ length (those_at l at)
times_located l [] = refl
times_located l (p ∷ at) = by_test (p.1 == l) (times_located l at)
  where
    by_test : (b : Bool) → times l (map (λ (q : ℕ × ℕ). q.1) at) ≡ length (those_at l at)
        → length (cond b (p.1 ∷ filter (λ m. m == l) (map (λ (q : ℕ × ℕ). q.1) at)) (filter (λ m. m == l) (map (λ (q : ℕ × ℕ). q.1) at))) ≡ length (cond b (p ∷ those_at l at) (those_at l at))
    by_test true h = omega (arith, h)
    by_test false h = h

pub locations_within : (small large : Configuration) → IsConfig small → Covers small large → IsWithinList (map (λ (p : ℕ × ℕ). p.1) small.at) (map (λ (p : ℕ × ℕ). p.1) large.at)
locations_within small large is c l =
    let le : length (those_at l small.at) ≤ length (those_at l large.at) = fewer_at small large c (once_located small is) l in
    let a : times l (map (λ (p : ℕ × ℕ). p.1) small.at) ≡ length (those_at l small.at) = times_located l small.at in
    let b : times l (map (λ (p : ℕ × ℕ). p.1) large.at) ≡ length (those_at l large.at) = times_located l large.at in
    omega (arith, le, a, b)
