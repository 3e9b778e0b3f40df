-- A node's children, and the work that is left below nodes.
use Rattle.std.proofs.Common.{◌≡◌, ℕ, zero, suc, ◌+◌, ◌<◌, ◌≤◌, Bool, true, false, List, [], ◌∷◌, ◌++◌, length, get_or, sym, ap, ◌∙◌, subst, refl, inl, inr, Contains, All, arith, eqb}
use Rattle.std.specs.List.{list_any, AllZip}
use Rattle.std.specs.Cmp.{nat_eq_equiv}
use Rattle.std.specs.declared.vec.Vec.{Vec}
use Rattle.std.proofs.lemmas.Bool.{both_ways, false≢true, eqb-true, or_cases, false_from_ne_true}
use Rattle.std.proofs.lemmas.List.Elements.{Contains-push_cases, Contains-get_or}
use Rattle.std.proofs.lemmas.Map.Keys.{IsDistinct-push}
use Rattle.std.proofs.Math.Nat.{mul-le-mul_left}
use Rattle.ps_hit.specs.declared.cover.Cover.{Cover}
use Rattle.ps_hit.specs.declared.cover.Cover.TheVariants.{Unmet}
use Rattle.ps_hit.specs.declared.node.Node.{Node}
use Rattle.ps_hit.specs.Hitting.{numbers_of, Meets, IsSubset, IsMinimalHit}
use Rattle.ps_hit.specs.inner.Covers.{IsCover, HasOwn, covers_with, unmet}
use Rattle.ps_hit.specs.inner.Searching.{IsNode, IsUnderNode, IsChild, HasNoChild, AddsChild, work, works}
use Rattle.ps_list.proofs.Members.{here, there}
use Rattle.ps_hit.proofs.CoverSteps.{covers_step}
use Rattle.ps_hit.proofs.Critical.{has_own_below}

-- ---- nodes

pub length-numbers_of : {A : Type 0} (sets : List (Vec ℕ A)) → length (numbers_of sets) ≡ length sets
length-numbers_of [] = refl
length-numbers_of (x ∷ xs) = ap suc (length-numbers_of xs)

pub zip_length : (chosen : List ℕ) (sets : List (List ℕ)) (covers : List Cover) → AllZip (IsCover chosen) sets covers → length covers ≡ length sets
zip_length chosen [] [] are = refl
zip_length chosen [] (c ∷ cs) are = absurd are
zip_length chosen (s ∷ ss) [] are = absurd are
zip_length chosen (s ∷ ss) (c ∷ cs) are = ap suc (zip_length chosen ss cs are.1)

zip_at : (chosen : List ℕ) (sets : List (List ℕ)) (covers : List Cover) → AllZip (IsCover chosen) sets covers → (place : ℕ) (d : Cover) → place < length sets
    → IsCover chosen (get_or sets place []) (get_or covers place d)
zip_at chosen [] cs are place d within = absurd (omega arith)
zip_at chosen (s ∷ ss) [] are place d within = absurd are
zip_at chosen (s ∷ ss) (c ∷ cs) are zero d within = are.0
zip_at chosen (s ∷ ss) (c ∷ cs) are (suc place) d within = zip_at chosen ss cs are.1 place d (omega arith)

pub covers_length : {A : Type 0} (chosen : List ℕ) (sets : List (Vec ℕ A)) (covers : List Cover) → AllZip (IsCover chosen) (numbers_of sets) covers → length covers ≡ length sets
covers_length chosen sets covers are = zip_length chosen (numbers_of sets) covers are ∙ length-numbers_of sets

eq_from : (xs : List ℕ) (n : ℕ) → list_any (eqb n) xs ≡ true → Contains xs n
eq_from [] n h = absurd (false≢true h)
eq_from (x ∷ xs) n h = elim (or_cases (eqb n x) (list_any (eqb n) xs) h) [
  | inl is ↦ subst (λ (m : ℕ). Contains (x ∷ xs) m) (sym (eqb-true n x is)) (here x xs)
  | inr later ↦ there x xs n (eq_from xs n later)
]

pub child_node : (sets : List (List ℕ)) (node : Node) (number : ℕ) (passed : List ℕ) (child : Node) → IsNode sets node → (¬ Contains node.chosen.items number)
    → IsChild sets node number passed child → IsNode sets child
child_node sets node number passed child is new made = record {
  covers = rw (made.chosen, made.covers) (covers_step node.chosen.items number new sets node.covers.items is.covers);
  own = made.own;
  distinct = rw made.chosen (IsDistinct-push nat_eq_equiv node.chosen.items number is.distinct (false_from_ne_true (list_any (eqb number) node.chosen.items) (λ h. new (eq_from node.chosen.items number h))));
}

-- a number of an unmet set is not chosen yet
pub not_chosen : (sets : List (List ℕ)) (node : Node) → IsNode sets node → (place : ℕ) (d : Cover) → place < length sets → get_or node.covers.items place d ≡ Unmet
    → (n : ℕ) → Contains (get_or sets place []) n → ¬ Contains node.chosen.items n
not_chosen sets node is place d within unmet_there n has = λ h.
    let cover : IsCover node.chosen.items (get_or sets place []) (get_or node.covers.items place d) = zip_at node.chosen.items sets node.covers.items is.covers place d within in
    (subst (λ (c : Cover). IsCover node.chosen.items (get_or sets place []) c) unmet_there cover) (n, h, has)

chosen_more : (chosen hit : List ℕ) (number : ℕ) → IsSubset chosen hit → Contains hit number → IsSubset (chosen ++ number ∷ []) hit
chosen_more chosen hit number below has n h = elim (Contains-push_cases chosen number n h) [
  | inl old ↦ below n old
  | inr is ↦ subst (λ (m : ℕ). Contains hit m) is has
]

pub below_child : (sets : List (List ℕ)) (node : Node) (number : ℕ) (passed : List ℕ) (child : Node) (hit : List ℕ) → IsUnderNode node hit → (¬ Meets passed hit) → Contains hit number
    → IsChild sets node number passed child → IsUnderNode child hit
below_child sets node number passed child hit below misses has made = record {
  chosen = rw made.chosen (chosen_more node.chosen.items hit number below.chosen has);
  barred = rw made.barred misses;
}

pub no_child : (sets : List (List ℕ)) (node : Node) (number : ℕ) (hit : List ℕ) → IsNode sets node → (¬ Contains node.chosen.items number) → HasNoChild sets node number
    → IsMinimalHit sets hit → IsUnderNode node hit → Contains hit number → ⊥
no_child sets node number hit is new none minimal below has =
    let more = chosen_more node.chosen.items hit number below.chosen has in
    let covers = covers_step node.chosen.items number new sets node.covers.items is.covers in
    none (λ k d inside. has_own_below sets (node.chosen.items ++ number ∷ []) hit (covers_with number sets node.covers.items) covers minimal more
    _ (Contains-get_or (node.chosen.items ++ number ∷ []) k d inside))

-- ---- what `add_child` leaves

pub adds_none : (sets : List (List ℕ)) (node : Node) (number : ℕ) (passed : List ℕ) (before : List Node) (covers : List Cover) (chosen : List ℕ) (t : Bool)
    → covers ≡ covers_with number sets node.covers.items → chosen ≡ node.chosen.items ++ number ∷ [] → (All (HasOwn covers) chosen → t ≡ true) → t ≡ false
    → AddsChild sets node number passed before before
adds_none sets node number passed before covers chosen t covers_are chosen_are back no_own =
    inl (refl, λ own. both_ways t no_own (back (rw (covers_are, chosen_are) own)))

pub adds_one : (sets : List (List ℕ)) (node : Node) (number : ℕ) (passed : List ℕ) (before after : List Node) (child : Node)
    → child.covers.items ≡ covers_with number sets node.covers.items → child.chosen.items ≡ node.chosen.items ++ number ∷ [] → child.barred.items ≡ passed
    → All (HasOwn child.covers.items) child.chosen.items → after ≡ before ++ child ∷ [] → AddsChild sets node number passed before after
adds_one sets node number passed before after child covers_are chosen_are barred_are own added =
    inr (child, added, record { chosen = chosen_are; barred = barred_are; covers = covers_are; own = own })

-- ---- work

pub work_some : (most u : ℕ) → 1 ≤ most → 1 ≤ work most u
work_some most zero h = omega arith
work_some most (suc u) h = omega (arith, mul-le-mul_left most (work_some most u h))

pub work_more : (most u v : ℕ) → 1 ≤ most → u ≤ v → work most u ≤ work most v
work_more most zero v h below = work_some most v h
work_more most (suc u) zero h below = absurd (omega arith)
work_more most (suc u) (suc v) h below = mul-le-mul_left most (work_more most u v h (omega arith))

pub works-append : (most : ℕ) (nodes : List Node) (node : Node) → works most (nodes ++ node ∷ []) ≡ works most nodes + work most (unmet node.covers.items)
works-append most [] node = omega arith
works-append most (x ∷ xs) node = omega (arith, works-append most xs node)
