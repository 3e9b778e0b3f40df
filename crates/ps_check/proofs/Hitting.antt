-- Branches of the search for a hitting set that isn't covered.
use Rattle.std.proofs.Common.{◌≡◌, ◌<◌, ◌≤◌, ◌+◌, ℕ, List, [], ◌∷◌, ◌++◌, refl, sym, subst, ◌∙◌, inl, inr, Contains, Some, None, arith}
use Rattle.std.specs.Prelude.{slice_get}
use Rattle.std.proofs.lemmas.Bool.{cases_lt}
use Rattle.std.proofs.lemmas.List.Elements.{Contains-append_cases, Contains-append_left, Contains-append_right, Contains-push, Contains-push_cases}
use Rattle.std.proofs.lemmas.Option.{same_Some}
use Rattle.ps_atom.specs.declared.atom.Atom.{Atom}
use Rattle.ps_check.specs.declared.branches.Branch.{Branch}
use Rattle.ps_check.specs.inner.Branches.{AddsBranches, AreHitsCovered, HasUncoveredHit, IsChild, IsNextUnmet, MeetsBefore, MeetsFrom}
use Rattle.ps_check.proofs.Before.{at_place_in, place_in}
use Rattle.ps_config.specs.Configurations.{Configuration}
use Rattle.ps_config.proofs.Covering.{covers_more, covers_twice}
use Rattle.ps_demand.specs.Hitting.{HitsAll, MeetsSet}
use Rattle.ps_list.proofs.Members.{nothing}
use Rattle.ps_step.specs.Closed.{IsCovered}

abbrev pub AreIn : List Atom → List Atom → Type 0
AreIn some all = (q : Atom) → Contains some q → Contains all q

with_atoms : List (ℕ × ℕ) → List Atom → Configuration
with_atoms at atoms = record { at = at; atoms = atoms }

-- more atoms are covered too
pub covered_more : (configurations : List Configuration) (at : List (ℕ × ℕ)) (few many : List Atom) → AreIn few many
    → IsCovered configurations (record { at = at; atoms = few }) → IsCovered configurations (record { at = at; atoms = many })
covered_more configurations at few many sub (c, h, covers) =
    (c, h, covers_twice c (record { at = at; atoms = few }) (record { at = at; atoms = many }) covers (covers_more (record { at = at; atoms = few }) (record { at = at; atoms = many }) (λ t l i. i) sub))

module _ (configurations : List Configuration) (at : List (ℕ × ℕ)) (sets : List (List Atom)) where
  -- what has the chosen atoms and meets the sets from this one on is covered
  abbrev pub IsClear : List Atom → ℕ → Type 0
  IsClear chosen next = (atoms : List Atom) → AreIn chosen atoms → MeetsFrom sets next atoms → IsCovered configurations (record { at = at; atoms = atoms })

  abbrev pub AreClear : List Branch → Type 0
  AreClear waiting = (b : Branch) → Contains waiting b → IsClear b.chosen.items b.next

  -- where all that waits is clear everything is, and what waits meets the sets before it
  pub record Searching (waiting : List Branch) : Type 0 where
    pub all : AreClear waiting → AreHitsCovered configurations at sets
    pub met : (b : Branch) → Contains waiting b → MeetsBefore sets b.next b.chosen.items

  from_hits : (atoms : List Atom) → HitsAll sets atoms → MeetsFrom sets 0 atoms
  from_hits atoms h k set past is = h set (at_place_in sets k set is)

  pub searching_first : (b : Branch) (none waiting : List Branch) → none ≡ [] → waiting ≡ none ++ b ∷ [] → b.chosen.items ≡ [] → b.next ≡ 0 → Searching waiting
  searching_first b none waiting empty is no_atom first =
      let are : waiting ≡ b ∷ [] = is ∙ subst (λ (bs : List Branch). none ++ b ∷ [] ≡ bs ++ b ∷ []) empty refl in
      record {
        all = λ clear atoms h.
            let mine : IsClear b.chosen.items b.next = clear b (subst (λ (bs : List Branch). Contains bs b) (sym are) (Contains-push [] b)) in
            mine atoms (λ q c. absurd (nothing q (subst (λ (qs : List Atom). Contains qs q) no_atom c))) (λ k set past at_k. h set (at_place_in sets k set at_k));
        met = λ c h k set less at_k. elim (Contains-push_cases [] b c (subst (λ (bs : List Branch). Contains bs c) are h)) [
          | inl in_none ↦ absurd (nothing c in_none)
          | inr same ↦ absurd (let zero_is : b.next ≡ 0 = first in let lt : k < b.next = subst (λ (d : Branch). k < d.next) (sym same) less in let f : ⊥ = omega (arith, zero_is, lt) in f)
        ];
      }

  -- a branch that is covered went
  pub searching_covered : (waiting left : List Branch) (b : Branch) → waiting ≡ left ++ b ∷ [] → Searching waiting → IsCovered configurations (record { at = at; atoms = b.chosen.items }) → Searching left
  searching_covered waiting left b is s covered = record {
    all = λ clear. s.all (λ c h. elim (Contains-push_cases left b c (subst (λ (bs : List Branch). Contains bs c) is h)) [
      | inl waits ↦ clear c waits
      | inr same ↦ subst (λ (d : Branch). IsClear d.chosen.items d.next) same (λ atoms sub meets. covered_more configurations at b.chosen.items atoms sub covered)
    ]);
    met = λ c h. s.met c (subst (λ (bs : List Branch). Contains bs c) (sym is) (Contains-append_left left (b ∷ []) c h));
  }

  last_in : (waiting left : List Branch) (b : Branch) → waiting ≡ left ++ b ∷ [] → Contains waiting b
  last_in waiting left b is = subst (λ (bs : List Branch). Contains bs b) (sym is) (Contains-push left b)

  -- a branch that meets all sets and isn't covered
  pub searching_found : (waiting left : List Branch) (b : Branch) (chosen : List Atom) → waiting ≡ left ++ b ∷ [] → chosen ≡ b.chosen.items → Searching waiting → IsNextUnmet sets chosen b.next None
      → ¬ IsCovered configurations (record { at = at; atoms = chosen }) → HasUncoveredHit configurations at sets
  searching_found waiting left b chosen is viewed s rest not_covered = (
    chosen,
    (λ set h. elim (cases_lt h.0 b.next) [
      | inl earlier ↦ subst (λ (qs : List Atom). MeetsSet qs set) (sym viewed) (s.met b (last_in waiting left b is) h.0 set earlier (place_in sets set h))
      | inr later ↦ rest h.0 set later (place_in sets set h)
    ]),
    not_covered,
  )

  -- its children wait in its place
  pub searching_branched : (waiting left new : List Branch) (b : Branch) (chosen set : List Atom) (place next : ℕ) → waiting ≡ left ++ b ∷ [] → chosen ≡ b.chosen.items → Searching waiting
      → IsNextUnmet sets chosen b.next (Some place) → slice_get sets place ≡ Some set → next ≡ place + 1 → AddsBranches chosen next set left new → Searching new
  searching_branched waiting left new b chosen set place next is viewed s unmet at_place next_is adds = record {
    all = λ clear. s.all (λ c h. elim (Contains-push_cases left b c (subst (λ (bs : List Branch). Contains bs c) is h)) [
      | inl waits ↦ clear c (subst (λ (bs : List Branch). Contains bs c) (sym adds.added) (Contains-append_left left adds.more c waits))
      | inr same ↦ subst (λ (d : Branch). IsClear d.chosen.items d.next) same (by_children clear)
    ]);
    met = λ c h. elim (Contains-append_cases left adds.more c (subst (λ (bs : List Branch). Contains bs c) adds.added h)) [
      | inl waits ↦ s.met c (subst (λ (bs : List Branch). Contains bs c) (sym is) (Contains-append_left left (b ∷ []) c waits))
      | inr child ↦ (let w = adds.only c child in child_met c w.0 w.1 w.2)
    ];
  }
    where
      by_children : AreClear new → IsClear b.chosen.items b.next
      by_children clear atoms sub meets =
          let m : MeetsSet atoms set = meets place set unmet.0 at_place in
          let w = adds.each m.0 m.2 in
          let child : Contains new w.0 = subst (λ (bs : List Branch). Contains bs w.0) (sym adds.added) (Contains-append_right left adds.more w.0 w.1) in
          clear w.0 child atoms
          (λ q h. elim (Contains-push_cases chosen m.0 q (subst (λ (qs : List Atom). Contains qs q) w.2.0 h)) [
            | inl old ↦ sub q (subst (λ (qs : List Atom). Contains qs q) viewed old)
            | inr same ↦ subst (λ (r : Atom). Contains atoms r) same m.1
          ])
          (λ k other past at_k. meets k other (let after : w.0.next ≤ k = past in let first : b.next ≤ place = unmet.0 in omega (arith, after, first, next_is, w.2.1)) at_k)

      child_met : (c : Branch) (atom : Atom) → Contains set atom → IsChild chosen next atom c → MeetsBefore sets c.next c.chosen.items
      child_met c atom in_set child k other less at_k = subst (λ (qs : List Atom). MeetsSet qs other) (sym child.0) (elim (cases_lt k b.next) [
        | inl earlier ↦
            let m : MeetsSet b.chosen.items other = s.met b (last_in waiting left b is) k other earlier at_k in
            (m.0, Contains-append_left chosen (atom ∷ []) m.0 (subst (λ (qs : List Atom). Contains qs m.0) (sym viewed) m.1), m.2)
        | inr from ↦ elim (cases_lt k place) [
          | inl between ↦ (let m : MeetsSet chosen other = unmet.1 k other from between at_k in (m.0, Contains-append_left chosen (atom ∷ []) m.0 m.1, m.2))
          | inr past ↦
              let last : k ≡ place = (let lt : k < c.next = less in omega (arith, lt, past, next_is, child.1)) in
              let same : set ≡ other = same_Some set other (sym at_place ∙ subst (λ (n : ℕ). slice_get sets n ≡ Some other) last at_k) in
              (atom, Contains-push chosen atom, subst (λ (qs : List Atom). Contains qs atom) same in_set)
        ]
      ])

  -- nothing waits any more
  pub searching_done : (waiting : List Branch) → waiting ≡ [] → Searching waiting → AreHitsCovered configurations at sets
  searching_done waiting empty s = s.all (λ b h. absurd (nothing b (subst (λ (bs : List Branch). Contains bs b) empty h)))
