-- The first set that is too great.
use Rattle.std.proofs.Common.{◌≡◌, ◌<◌, ◌≤◌, ◌+◌, ℕ, List, [], ◌∷◌, ◌++◌, Some, None, length, take, drop, get_or, map, sym, ap, ◌∙◌, subst, inl, inr, Contains}
use Rattle.std.specs.Prelude.{IfErr, OnOk}
use Rattle.std.specs.List.Sorted.{IsStrictlyIncreasing, IsStrictlySortedBy}
use Rattle.std.specs.declared.result.Result.{Result}
use Rattle.std.specs.declared.result.Result.TheVariants.{Ok, Err}
use Rattle.std.specs.declared.vec.Vec.{Vec}
use Rattle.ps_atom.specs.Atoms.{atom_cmp}
use Rattle.ps_config.specs.Forms.{IsConfig}
use Rattle.ps_config.specs.declared.config.TheConstants.{MOST_ATOMS, MOST_THREADS}
use Rattle.ps_config.specs.declared.wide.WideName.{WideName}
use Rattle.ps_config.specs.declared.wide.WideName.TheVariants.{Atoms, Threads}
use Rattle.ps_config.specs.declared.wide.WideStep.{WideStep}
use Rattle.ps_step.specs.Wide.{StepEndsBy}
use Rattle.ps_step.specs.declared.expand_end.ExpandEnd.{ExpandEnd}
use Rattle.ps_step.specs.declared.expand_end.ExpandEnd.TheVariants.{Wide, Memory}
use Rattle.ps_step.specs.declared.expansion.Successor.{Successor}
use Rattle.std.proofs.lemmas.List.{append_assoc, drop_more, map-append, map_more, take_all, take-append-drop}
use Rattle.std.proofs.lemmas.List.Elements.{Contains-push_cases}
use Rattle.ps_atom.specs.declared.atom.Atom.{Atom}
use Rattle.ps_list.proofs.Members.{nothing}
use Rattle.ps_demand.specs.Pools.{lists_of}
use Rattle.ps_step.specs.inner.Sets.{HasLength, HasThreadsWith, IsFirstOver, IsNamed, IsPastBy, IsWithin}

-- each of the first sets has a size within the most
abbrev pub AreFine : ℕ → (List Atom → ℕ → Type 0) → List (List Atom) → Type 0
AreFine most HasSize sets = (set : List Atom) → Contains sets set → (n : ℕ) × HasSize set n × (n ≤ most)

pub fine_none : (most : ℕ) (HasSize : List Atom → ℕ → Type 0) → AreFine most HasSize []
fine_none most HasSize set h = absurd (nothing set h)

pub fine_more : {A : Type 0} (most : ℕ) (HasSize : List Atom → ℕ → Type 0) (sets : List (Vec Atom A)) (i n : ℕ) (set : Vec Atom A) → i < length sets → set ≡ get_or sets i set → HasSize set.items n → n ≤ most
    → AreFine most HasSize (lists_of (take i sets)) → AreFine most HasSize (lists_of (take (i + 1) sets))
fine_more {A} most HasSize sets i n set inside is has within fine other h =
    elim (Contains-push_cases (lists_of (take i sets)) ((get_or sets i set).items) other (subst (λ (xs : List (List Atom)). Contains xs other) (map_more (λ (v : Vec Atom A). v.items) sets i set inside) h)) [
      | inl earlier ↦ fine other earlier
      | inr same ↦ (n, subst (λ (xs : List Atom). HasSize xs n) (ap (λ (v : Vec Atom A). v.items) is ∙ same) has, within)
    ]

pub fine_all : {A : Type 0} (most : ℕ) (HasSize : List Atom → ℕ → Type 0) (sets : List (Vec Atom A)) (i : ℕ) → length sets ≤ i → AreFine most HasSize (lists_of (take i sets)) → AreFine most HasSize (lists_of sets)
fine_all {A} most HasSize sets i past fine = subst (λ (vs : List (Vec Atom A)). AreFine most HasSize (lists_of vs)) (take_all i sets past) fine

pub first_over : {A : Type 0} (most : ℕ) (HasSize : List Atom → ℕ → Type 0) (sets : List (Vec Atom A)) (i n : ℕ) (set : Vec Atom A) → i < length sets → set ≡ get_or sets i set → HasSize set.items n → most < n
    → AreFine most HasSize (lists_of (take i sets)) → IsFirstOver most HasSize (lists_of sets) (Some n)
first_over {A} most HasSize sets i n set inside is has above fine =
    let items : Vec Atom A → List Atom = λ v. v.items in
    let parts : lists_of (take i sets) ++ set.items ∷ lists_of (drop (i + 1) sets) ≡ lists_of sets =
    ap (λ (v : Vec Atom A). lists_of (take i sets) ++ v.items ∷ lists_of (drop (i + 1) sets)) is
    ∙ (ap (λ (vs : List (Vec Atom A)). lists_of (take i sets) ++ lists_of vs) (sym (drop_more sets i set inside))
    ∙ (sym (map-append items (take i sets) (drop i sets)) ∙ ap lists_of (take-append-drop i sets))) in
    (lists_of (take i sets), set.items, lists_of (drop (i + 1) sets), parts, has, above, fine)

-- ---- sets as successors

-- what holds anyway holds of a success
pub ok_always : {T E P : Type 0} (r : Result T E) → P → OnOk r P
ok_always (Ok x) p = p
ok_always (Err e) p = tt

-- what follows of a step that is too wide
pub ends_weaker : (P Q : WideStep → Type 0) → ((w : WideStep) → P w → Q w) → (end : ExpandEnd) → StepEndsBy P end → StepEndsBy Q end
ends_weaker P Q f (Wide w) h = f w h
ends_weaker P Q f (Memory e) h = tt

pub pushed : (f : List Atom → Successor) (old new : List Successor) (s : Successor) (set : List Atom) (before rest : List (List Atom)) (whole : List Successor) → new ≡ old ++ s ∷ [] → s ≡ f set → before ≡ set ∷ rest → old ++ map f before ≡ whole → new ++ map f rest ≡ whole
pushed f old new s set before rest whole added is first all =
    ap (λ (xs : List Successor). xs ++ map f rest) added ∙ (append_assoc old (s ∷ []) (map f rest)
    ∙ (ap (λ (x : Successor). old ++ x ∷ map f rest) is ∙ (ap (λ (sets : List (List Atom)). old ++ map f sets) (sym first) ∙ all)))

pub past_threads : (at : List (ℕ × ℕ)) (number thread n : ℕ) (sets one two : List (List Atom)) → one ≡ sets → two ≡ sets → IsFirstOver MOST_ATOMS HasLength one None → IsFirstOver MOST_THREADS (HasThreadsWith at) two (Some n)
    → (w : WideStep) → (w.edge ≡ number) × (w.thread ≡ thread) × (w.what ≡ Threads) × (w.count ≡ n) → IsNamed number thread (IsPastBy at sets) w
past_threads at number thread n sets one two is_one is_two few over w is = (
  is.0,
  is.1,
  subst (λ (what : WideName). IsPastBy at sets what w.count) (sym is.2) (subst (λ (count : ℕ). IsPastBy at sets Threads count) (sym is.3)
      (subst (λ (xs : List (List Atom)). IsFirstOver MOST_ATOMS HasLength xs None) is_one few, subst (λ (xs : List (List Atom)). IsFirstOver MOST_THREADS (HasThreadsWith at) xs (Some n)) is_two over)),
)

pub past_atoms : (at : List (ℕ × ℕ)) (number thread n : ℕ) (sets one : List (List Atom)) → one ≡ sets → IsFirstOver MOST_ATOMS HasLength one (Some n)
    → (w : WideStep) → (w.edge ≡ number) × (w.thread ≡ thread) × (w.what ≡ Atoms) × (w.count ≡ n) → IsNamed number thread (IsPastBy at sets) w
past_atoms at number thread n sets one is_one over w is = (
  is.0,
  is.1,
  subst (λ (what : WideName). IsPastBy at sets what w.count) (sym is.2) (subst (λ (count : ℕ). IsPastBy at sets Atoms count) (sym is.3)
      (subst (λ (xs : List (List Atom)). IsFirstOver MOST_ATOMS HasLength xs (Some n)) is_one over)),
)

-- sets that ascend and pass no limit make configurations
pub are_configs : (at : List (ℕ × ℕ)) (sets one two : List (List Atom)) → one ≡ sets → two ≡ sets → IsStrictlyIncreasing (map (λ (p : ℕ × ℕ). p.0) at) → ((set : List Atom) → Contains sets set → IsStrictlySortedBy atom_cmp set)
    → IsFirstOver MOST_ATOMS HasLength one None → IsFirstOver MOST_THREADS (HasThreadsWith at) two None → (set : List Atom) → Contains sets set → IsConfig (record { at = at; atoms = set })
are_configs at sets one two is_one is_two located ascend few_atoms few_threads set h =
    let a = few_atoms set (subst (λ (xs : List (List Atom)). Contains xs set) (sym is_one) h) in
    record {
      located = located;
      ordered = ascend set h;
      few_threads = few_threads set (subst (λ (xs : List (List Atom)). Contains xs set) (sym is_two) h);
      few_atoms = subst (λ (n : ℕ). n ≤ MOST_ATOMS) (sym a.1) a.2;
    }

pub are_within : (at : List (ℕ × ℕ)) (sets one two : List (List Atom)) → one ≡ sets → two ≡ sets → IsFirstOver MOST_ATOMS HasLength one None → IsFirstOver MOST_THREADS (HasThreadsWith at) two None → IsWithin at sets
are_within at sets one two is_one is_two few_atoms few_threads =
    (subst (λ (xs : List (List Atom)). IsFirstOver MOST_ATOMS HasLength xs None) is_one few_atoms, subst (λ (xs : List (List Atom)). IsFirstOver MOST_THREADS (HasThreadsWith at) xs None) is_two few_threads)

pub ok_weaker : {T E P Q : Type 0} → (P → Q) → (r : Result T E) → OnOk r P → OnOk r Q
ok_weaker f (Ok x) h = f h
ok_weaker f (Err e) h = tt

pub err_so : {T E : Type 0} (P Q : E → Type 0) → ((e : E) → P e → Q e) → (r : Result T E) → IfErr r P → IfErr r Q
err_so P Q f (Ok x) h = tt
err_so P Q f (Err e) h = f e h
