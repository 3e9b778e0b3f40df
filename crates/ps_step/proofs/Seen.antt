-- The tests of an accepting configuration, member by member.
use Rattle.std.proofs.Common.{◌≡◌, ◌<◌, ◌≤◌, ◌+◌, ℕ, List, length, get_or, take, sym, subst, inl, inr, Contains}
use Rattle.std.proofs.lemmas.List.{take_all, take_more}
use Rattle.std.proofs.lemmas.List.Elements.{Contains-get_or, Contains-push_cases}
use Rattle.ps_list.proofs.Members.{nothing}

-- what holds of each member so far
pub none_yet : {X : Type 0} (P : X → Type 0) (xs : List X) (x : X) → Contains (take 0 xs) x → P x
none_yet P xs x h = absurd (nothing x h)

pub one_more : {X : Type 0} (P : X → Type 0) (xs : List X) (i : ℕ) (d : X) → i < length xs → P (get_or xs i d) → ((x : X) → Contains (take i xs) x → P x) → (x : X) → Contains (take (i + 1) xs) x → P x
one_more {X} P xs i d h p all x c = elim (Contains-push_cases (take i xs) (get_or xs i d) x (subst (λ (ys : List X). Contains ys x) (take_more xs i d h) c)) [
  | inl earlier ↦ all x earlier
  | inr is ↦ subst P is p
]

pub all_seen : {X : Type 0} (P : X → Type 0) (xs : List X) (i : ℕ) → length xs ≤ i → ((x : X) → Contains (take i xs) x → P x) → (x : X) → Contains xs x → P x
all_seen {X} P xs i past all x c = all x (subst (λ (ys : List X). Contains ys x) (sym (take_all i xs past)) c)

-- a member as it is read
pub read_in : {X : Type 0} (xs : List X) (i : ℕ) (x : X) → i < length xs → x ≡ get_or xs i x → Contains xs x
read_in {X} xs i x h is = subst (λ (y : X). Contains xs y) (sym is) (Contains-get_or xs i x h)
