-- Members of lists without those that stand already.
use Rattle.std.proofs.Common.{◌≡◌, refl, ◌∙◌, ap, append_assoc, sym, subst, List, [], ◌∷◌, ◌++◌, inl, inr, ◌⊎◌, Contains}
use Rattle.std.proofs.lemmas.List.{append-nil}
use Rattle.std.proofs.lemmas.List.Elements.{Contains-push_cases}
use Rattle.ps_list.proofs.Members.{nothing, cons_cases, here, there}
use Rattle.ps_interp.specs.Firsts.{AreFirst}

-- each member is seen, or among the first ones
pub first_has : {X : Type 0} (seen xs first : List X) (x : X) → AreFirst seen xs first → Contains xs x → Contains seen x ⊎ Contains first x
first_has seen [] first x h c = absurd (nothing x c)
first_has {X} seen (y ∷ ys) first x (inl old) c = elim (cons_cases y ys x c) [
  | inl is ↦ inl (subst (λ (z : X). Contains seen z) is old.0)
  | inr later ↦ first_has seen ys first x old.1 later
]
first_has {X} seen (y ∷ ys) first x (inr new) c = elim (cons_cases y ys x c) [
  | inl is ↦ inr (subst (λ (zs : List X). Contains zs x) (sym new.1.1) (subst (λ (z : X). Contains (y ∷ new.1.0) z) is (here y new.1.0)))
  | inr later ↦ at (first_has (seen ++ y ∷ []) ys new.1.0 x new.1.2 later)
]
  where
    in_first : Contains new.1.0 x → Contains seen x ⊎ Contains first x
    in_first h = inr (subst (λ (zs : List X). Contains zs x) (sym new.1.1) (there y new.1.0 x h))

    at : Contains (seen ++ y ∷ []) x ⊎ Contains new.1.0 x → Contains seen x ⊎ Contains first x
    at (inl h) = elim (Contains-push_cases seen y x h) [
      | inl old ↦ inl old
      | inr is ↦ inr (subst (λ (zs : List X). Contains zs x) (sym new.1.1) (subst (λ (z : X). Contains (y ∷ new.1.0) z) is (here y new.1.0)))
    ]
    at (inr h) = in_first h

-- and no other is among them
pub first_from : {X : Type 0} (seen xs first : List X) (x : X) → AreFirst seen xs first → Contains first x → Contains xs x
first_from {X} seen [] first x h c = subst (λ (zs : List X). Contains zs x) h c
first_from seen (y ∷ ys) first x (inl old) c = there y ys x (first_from seen ys first x old.1 c)
first_from {X} seen (y ∷ ys) first x (inr new) c = elim (cons_cases y new.1.0 x (subst (λ (zs : List X). Contains zs x) new.1.1 c)) [
  | inl is ↦ subst (λ (z : X). Contains (y ∷ ys) z) is (here y ys)
  | inr later ↦ there y ys x (first_from (seen ++ y ∷ []) ys new.1.0 x new.1.2 later)
]

-- what comes after some list, without those that stood before or in the list
pub first_append : {X : Type 0} (seen xs first ys more : List X) → AreFirst seen xs first → AreFirst (seen ++ first) ys more → AreFirst seen (xs ++ ys) (first ++ more)
first_append {X} seen [] first ys more h k =
    subst (λ (zs : List X). AreFirst seen ys (zs ++ more)) (sym h)
    (subst (λ (zs : List X). AreFirst zs ys more) (ap (λ (zs : List X). seen ++ zs) h ∙ append-nil seen) k)
first_append seen (x ∷ xs) first ys more (inl old) k = inl (old.0, first_append seen xs first ys more old.1 k)
first_append {X} seen (x ∷ xs) first ys more (inr new) k = inr (
  new.0,
  (
    new.1.0 ++ more,
    ap (λ (zs : List X). zs ++ more) new.1.1,
    first_append (seen ++ x ∷ []) xs new.1.0 ys more new.1.2
        (subst (λ (zs : List X). AreFirst zs ys more) (ap (λ (zs : List X). seen ++ zs) new.1.1 ∙ sym (append_assoc seen (x ∷ []) new.1.0)) k),
  ),
)

-- they are determined
pub same_first : {X : Type 0} (seen xs first other : List X) → AreFirst seen xs first → AreFirst seen xs other → first ≡ other
same_first seen [] first other h k = h ∙ sym k
same_first seen (x ∷ xs) first other (inl h) (inl k) = same_first seen xs first other h.1 k.1
same_first seen (x ∷ xs) first other (inl h) (inr k) = absurd (k.0 h.0)
same_first seen (x ∷ xs) first other (inr h) (inl k) = absurd (h.0 k.0)
same_first {X} seen (x ∷ xs) first other (inr h) (inr k) =
    h.1.1 ∙ (ap (λ (zs : List X). x ∷ zs) (same_first (seen ++ x ∷ []) xs h.1.0 k.1.0 h.1.2 k.1.2) ∙ sym k.1.1)

-- those of two lists, one after the other, are those of the first and then those that the second adds
pub record FirstParts {X : Type 0} (seen xs ys first : List X) : Type 0 where
  pub old : List X
  pub more : List X
  pub before : AreFirst seen xs old
  pub after : AreFirst (seen ++ old) ys more
  pub all : first ≡ old ++ more

pub first_parts : {X : Type 0} (seen xs ys first : List X) → AreFirst seen (xs ++ ys) first → FirstParts seen xs ys first
first_parts {X} seen [] ys first h = record {
  old = [];
  more = first;
  before = refl;
  after = subst (λ (zs : List X). AreFirst zs ys first) (sym (append-nil seen)) h;
  all = refl;
}
first_parts {X} seen (x ∷ xs) ys first (inl h) =
    let p : FirstParts seen xs ys first = first_parts seen xs ys first h.1 in
    record { old = p.old; more = p.more; before = inl (h.0, p.before); after = p.after; all = p.all }
first_parts {X} seen (x ∷ xs) ys first (inr h) =
    let p : FirstParts (seen ++ x ∷ []) xs ys h.1.0 = first_parts (seen ++ x ∷ []) xs ys h.1.0 h.1.2 in
    record {
      old = x ∷ p.old;
      more = p.more;
      before = inr (h.0, (p.old, refl, p.before));
      after = subst (λ (zs : List X). AreFirst zs ys p.more) (append_assoc seen (x ∷ []) p.old) p.after;
      all = h.1.1 ∙ ap (λ (zs : List X). x ∷ zs) p.all;
    }
