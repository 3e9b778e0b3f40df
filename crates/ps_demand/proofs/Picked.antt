-- Members of a list of what a function picks, and atoms renamed twice.
use Rattle.std.proofs.Common.{◌≡◌, ℕ, List, [], ◌∷◌, map, refl, ap, ◌∙◌, subst, inl, inr, ◌⊎◌, Contains, Option, Some, None}
use Rattle.std.specs.List.{filter_map, cons_option}
use Rattle.ps_atom.specs.Atoms.{renamed}
use Rattle.ps_atom.specs.declared.atom.Atom.{Atom}
use Rattle.ps_list.proofs.Mapped.{same_map, map_map}
use Rattle.ps_config.proofs.Occurring.{renamed_twice}
use Rattle.ps_list.proofs.Members.{nothing, cons_cases, here, there}

picked_at : {X Y : Type 0} (h : X → Option Y) (ys : List X) (y : Y) (o : Option Y) → (o ≡ Some y) ⊎ Contains (filter_map h ys) y → Contains (cons_option o (filter_map h ys)) y
picked_at h ys y None (inl is) = absurd (let f : ⊥ = cc in f)
picked_at h ys y None (inr later) = later
picked_at {X} {Y} h ys y (Some z) (inl is) = (let same : z ≡ y = cc in subst (λ (w : Y). Contains (z ∷ filter_map h ys) w) same (here z (filter_map h ys)))
picked_at h ys y (Some z) (inr later) = there z (filter_map h ys) y later

pub picked : {X Y : Type 0} (h : X → Option Y) (xs : List X) (x : X) (y : Y) → Contains xs x → h x ≡ Some y → Contains (filter_map h xs) y
picked h [] x y c e = absurd (nothing x c)
picked {X} {Y} h (z ∷ zs) x y c e = picked_at h zs y (h z) (elim (cons_cases z zs x c) [ inl is ↦ inl (ap h is ∙ e) | inr later ↦ inr (picked h zs x y later e) ])

from_picked_at : {X Y : Type 0} (h : X → Option Y) (z : X) (zs : List X) (y : Y) (o : Option Y) → h z ≡ o → (Contains (filter_map h zs) y → (x : X) × Contains zs x × (h x ≡ Some y))
    → Contains (cons_option o (filter_map h zs)) y → (x : X) × Contains (z ∷ zs) x × (h x ≡ Some y)
from_picked_at h z zs y None e rest c = (let w = rest c in (w.0, there z zs w.0 w.1, w.2))
from_picked_at h z zs y (Some v) e rest c = elim (cons_cases v (filter_map h zs) y c) [
  | inl is ↦ (z, here z zs, e ∙ ap Some is)
  | inr later ↦ (let w = rest later in (w.0, there z zs w.0 w.1, w.2))
]

pub from_picked : {X Y : Type 0} (h : X → Option Y) (xs : List X) (y : Y) → Contains (filter_map h xs) y → (x : X) × Contains xs x × (h x ≡ Some y)
from_picked h [] y c = absurd (nothing y c)
from_picked h (z ∷ zs) y c = from_picked_at h z zs y (h z) refl (from_picked h zs y) c

pub twice_all : (f g : ℕ → ℕ) (qs : List Atom) → map (renamed f) (map (renamed g) qs) ≡ map (renamed (λ t. f (g t))) qs
twice_all f g qs = map_map (renamed g) (renamed f) qs ∙ same_map (λ q. renamed f (renamed g q)) (renamed (λ t. f (g t))) qs (λ q h. renamed_twice g f q)
