-- The threads that occur in a configuration, and renamed atoms.
use Rattle.std.proofs.Common.{◌≡◌, ℕ, List, map, ap, subst, inl, inr, ◌⊎◌, Contains}
use Rattle.std.proofs.lemmas.List.Elements.{Contains-append_left, Contains-append_right, Contains-append_cases}
use Rattle.ps_atom.specs.Atoms.{renamed, threads_of}
use Rattle.ps_atom.specs.declared.atom.Atom.{Atom}
use Rattle.ps_config.specs.Configurations.{Configuration, IsAt, threads_at}
use Rattle.ps_list.proofs.Mapped.{mapped, from_mapped, flat_mapped, from_flat_mapped, same_map, map_map, map_same}

pub located_occurs : (c : Configuration) (t l : ℕ) → IsAt c t l → Contains (threads_at c) t
located_occurs c t l h =
    let p : ℕ × ℕ = (t, l) in
    Contains-append_left (map (λ (p : ℕ × ℕ). p.0) c.at) (threads_of c.atoms) t (mapped (λ (p : ℕ × ℕ). p.0) c.at p h)

pub named_occurs : (c : Configuration) (q : Atom) (t : ℕ) → Contains c.atoms q → Contains q.threads t → Contains (threads_at c) t
named_occurs c q t h k = Contains-append_right (map (λ (p : ℕ × ℕ). p.0) c.at) (threads_of c.atoms) t (flat_mapped (λ (q : Atom). q.threads) c.atoms q t h k)

pub occurs_cases : (c : Configuration) (t : ℕ) → Contains (threads_at c) t → ((l : ℕ) × IsAt c t l) ⊎ ((q : Atom) × Contains c.atoms q × Contains q.threads t)
occurs_cases c t h = elim (Contains-append_cases (map (λ (p : ℕ × ℕ). p.0) c.at) (threads_of c.atoms) t h) [
  | inl first ↦ (let w = from_mapped (λ (p : ℕ × ℕ). p.0) c.at t first in inl (w.0.1, subst (λ (s : ℕ). let p : ℕ × ℕ = (s, w.0.1) in Contains c.at p) w.2 w.1))
  | inr later ↦ inr (from_flat_mapped (λ (q : Atom). q.threads) c.atoms t later)
]

-- ---- renamed atoms

pub renamed_same : (f g : ℕ → ℕ) (q : Atom) → ((t : ℕ) → Contains q.threads t → f t ≡ g t) → renamed f q ≡ renamed g q
renamed_same f g q h = ap (λ (ts : List ℕ). let a : Atom = record { predicate = q.predicate; threads = ts } in a) (same_map f g q.threads h)

pub renamed_twice : (f g : ℕ → ℕ) (q : Atom) → renamed g (renamed f q) ≡ renamed (λ t. g (f t)) q
renamed_twice f g q = ap (λ (ts : List ℕ). let a : Atom = record { predicate = q.predicate; threads = ts } in a) (map_map f g q.threads)

pub renamed_stays : (f : ℕ → ℕ) (q : Atom) → ((t : ℕ) → Contains q.threads t → f t ≡ t) → renamed f q ≡ q
renamed_stays f q h = ap (λ (ts : List ℕ). let a : Atom = record { predicate = q.predicate; threads = ts } in a) (map_same f q.threads h)

-- the threads of a renamed atom
pub of_renamed : (f : ℕ → ℕ) (q : Atom) (u : ℕ) → Contains (renamed f q).threads u → (t : ℕ) × Contains q.threads t × (f t ≡ u)
of_renamed f q u h = from_mapped f q.threads u h
