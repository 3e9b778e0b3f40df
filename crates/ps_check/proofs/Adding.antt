-- Branches that are added, and atoms that are compared.
use Rattle.std.proofs.Common.{◌≡◌, ◌<◌, ◌≤◌, ◌+◌, ℕ, Bool, true, List, [], ◌∷◌, ◌++◌, length, get_or, take, refl, sym, ap, subst, ◌∙◌, inl, inr, Option, Some, Global, append_assoc, length-append, arith}
use Rattle.std.specs.Prelude.{slice_get, option_map}
use Rattle.std.specs.Ordering.{is_eq, ordering_then}
use Rattle.std.specs.declared.cmp.Ordering.{Ordering}
use Rattle.std.specs.declared.cmp.Ordering.TheVariants.{Less, Equal, Greater}
use Rattle.std.specs.declared.vec.Vec.{Vec}
use Rattle.std.proofs.lemmas.List.{append-nil, length-map, take_all, take_more}
use Rattle.std.proofs.lemmas.List.Elements.{Contains-append_left, Contains-push, Contains-push_cases}
use Rattle.std.proofs.lemmas.Bool.{cases_lt}
use Rattle.std.proofs.lemmas.Option.{same_Some, slice_get-map, slice_get_read, slice_get_within}
use Rattle.ps_atom.specs.Atoms.{atom_cmp}
use Rattle.ps_atom.specs.declared.atom.Atom.{Atom}
use Rattle.ps_check.specs.declared.branches.Branch.{Branch}
use Rattle.ps_check.specs.inner.Branches.{AddsBranches, IsChild, MeetsFrom}
use Rattle.ps_config.specs.Configurations.{Configuration}
use Rattle.ps_config.proofs.Comparing.{same_by_order}
use Rattle.ps_demand.specs.Hitting.{MeetsSet}
use Rattle.ps_demand.specs.Pools.{lists_of}
use Rattle.ps_list.proofs.Members.{nothing}

pub adds_none : (chosen : List Atom) (next : ℕ) (old : List Branch) → AddsBranches chosen next [] old old
adds_none chosen next old = record {
  more = [];
  added = sym (append-nil old);
  many = refl;
  each = λ atom h. absurd (nothing atom h);
  only = λ b h. absurd (nothing b h);
}

pub adds_more : (chosen some : List Atom) (next : ℕ) (atom : Atom) (b : Branch) (old mid new : List Branch) → AddsBranches chosen next some old mid → new ≡ mid ++ b ∷ []
    → b.chosen.items ≡ chosen ++ atom ∷ [] → b.next ≡ next → AddsBranches chosen next (some ++ atom ∷ []) old new
adds_more chosen some next atom b old mid new a is has at = record {
  more = a.more ++ b ∷ [];
  added = is ∙ (ap (λ (bs : List Branch). bs ++ b ∷ []) a.added ∙ append_assoc old a.more (b ∷ []));
  many = (let one : length (a.more ++ b ∷ []) ≡ length a.more + 1 = length-append a.more (b ∷ []) in
      let other : length (some ++ atom ∷ []) ≡ length some + 1 = length-append some (atom ∷ []) in
      let same : length a.more ≡ length some = a.many in
      omega (arith, one, other, same));
  each = λ q h. elim (Contains-push_cases some atom q h) [
    | inl earlier ↦ (let w = a.each q earlier in (w.0, Contains-append_left a.more (b ∷ []) w.0 w.1, w.2))
    | inr same ↦ (b, Contains-push a.more b, (has ∙ ap (λ (r : Atom). chosen ++ r ∷ []) same, at))
  ];
  only = λ c h. elim (Contains-push_cases a.more b c h) [
    | inl earlier ↦ (let w = a.only c earlier in (w.0, Contains-append_left some (atom ∷ []) w.0 w.1, w.2))
    | inr same ↦ (atom, Contains-push some atom, subst (IsChild chosen next atom) same (has, at))
  ];
}

-- the set of a place as a list
pub list_at : {X : Type 0} (sets : List (Vec X Global)) (n : ℕ) (v : Vec X Global) (slice : List X) → n < length sets → v ≡ get_or sets n v → slice ≡ v.items → slice_get (lists_of sets) n ≡ Some slice
list_at {X} sets n v slice inside is viewed =
    slice_get-map (λ (set : Vec X Global). set.items) sets n
    ∙ (ap (option_map (λ (set : Vec X Global). set.items)) (slice_get_read sets (length sets) n v refl inside is) ∙ ap (λ (qs : List X). let o : Option (List X) = Some qs in o) (sym viewed))

-- ---- atoms that compare equal are one

then_nothing : (o : Ordering) → ordering_then o Equal ≡ o
then_nothing Less = refl
then_nothing Equal = refl
then_nothing Greater = refl

pub atoms_same : (a b : Atom) (r : Bool) (o : Ordering) → r ≡ is_eq o → o ≡ atom_cmp a b → (r ≡ true → a ≡ b) × (a ≡ b → r ≡ true)
atoms_same a b r o is told =
    let w = same_by_order (record { at = []; atoms = a ∷ [] }) (record { at = []; atoms = b ∷ [] }) r o is (told ∙ sym (then_nothing (atom_cmp a b))) in (
      (λ h. let same : a ∷ [] ≡ b ∷ [] = ap (λ (c : Configuration). c.atoms) (w.0 h) in let e : a ≡ b = cc in e),
      (λ e. w.1 (ap (λ (q : Atom). let c : Configuration = record { at = []; atoms = q ∷ [] } in c) e)),
    )

-- ---- the sets from one place to another are met

abbrev pub MetBetween : List (Vec Atom Global) → List Atom → ℕ → ℕ → Type 0
MetBetween sets atoms from place = (k : ℕ) (set : List Atom) → from ≤ k → k < place → slice_get (lists_of sets) k ≡ Some set → MeetsSet atoms set

pub met_more : (sets : List (Vec Atom Global)) (atoms : List Atom) (from place : ℕ) (v : Vec Atom Global) (slice : List Atom) → place < length sets → v ≡ get_or sets place v → slice ≡ v.items → MeetsSet atoms slice
    → MetBetween sets atoms from place → MetBetween sets atoms from (place + 1)
met_more sets atoms from place v slice inside is viewed meets met k set past less at = elim (cases_lt k place) [
  | inl earlier ↦ met k set past earlier at
  | inr last ↦
      let same : place ≡ k = omega (arith, less, last) in
      subst (MeetsSet atoms) (same_Some slice set (sym (list_at sets place v slice inside is viewed) ∙ subst (λ (n : ℕ). slice_get (lists_of sets) n ≡ Some set) (sym same) at)) meets
]

pub all_met : (sets : List (Vec Atom Global)) (atoms : List Atom) (from place : ℕ) → length sets ≤ place → MetBetween sets atoms from place → MeetsFrom (lists_of sets) from atoms
all_met sets atoms from place past met k set le at =
    let inside : k < length (lists_of sets) = slice_get_within (lists_of sets) k set at in
    let as_long : length (lists_of sets) ≡ length sets = length-map sets (λ (s : Vec Atom Global). s.items) in
    met k set le (omega (arith, inside, as_long, past)) at

pub adds_next : (chosen set : List Atom) (next i : ℕ) (atom : Atom) (b : Branch) (old mid new : List Branch) → i < length set → atom ≡ get_or set i atom → AddsBranches chosen next (take i set) old mid → new ≡ mid ++ b ∷ []
    → b.chosen.items ≡ chosen ++ atom ∷ [] → b.next ≡ next → AddsBranches chosen next (take (i + 1) set) old new
adds_next chosen set next i atom b old mid new inside is a added has at =
    subst (λ (some : List Atom). AddsBranches chosen next some old new) (ap (λ (q : Atom). take i set ++ q ∷ []) is ∙ sym (take_more set i atom inside)) (adds_more chosen (take i set) next atom b old mid new a added has at)

pub adds_all : (chosen set : List Atom) (next i : ℕ) (old new : List Branch) → length set ≤ i → AddsBranches chosen next (take i set) old new → AddsBranches chosen next set old new
adds_all chosen set next i old new past a = subst (λ (some : List Atom). AddsBranches chosen next some old new) (take_all i set past) a
