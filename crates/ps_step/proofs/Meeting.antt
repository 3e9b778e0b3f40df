-- Whether atoms have one of each demand.
use Rattle.std.proofs.Common.{◌≡◌, ◌<◌, ◌≤◌, ◌+◌, ℕ, Bool, true, false, ◌&&◌, ◌==◌, List, [], ◌∷◌, ◌++◌, length, take, get_or, map, refl, sym, ap, ap₂, subst, ◌∙◌, inl, inr, Option, Some, None, arith}
use Rattle.std.specs.Prelude.{slice_get}
use Rattle.std.specs.List.{filter_map}
use Rattle.std.proofs.lemmas.Bool.{and_from, and_parts, both_ways, cases_lt, eq-eqb, eqb-true, false≢true}
use Rattle.std.proofs.lemmas.List.{map_more, take_all, take_more}
use Rattle.std.proofs.lemmas.Option.{get_or_from_slice_get, same_Some, slice_get-get_or, slice_get_within}
use Rattle.ps_atom.specs.Atoms.{renamed}
use Rattle.ps_atom.specs.declared.atom.Atom.{Atom}
use Rattle.ps_basis.specs.Shown.{IsFor, IsNextFor}
use Rattle.ps_config.specs.Configurations.{Configuration}
use Rattle.ps_config.specs.Sent.{sent}
use Rattle.ps_graph.specs.declared.edge.Edge.{Edge}
use Rattle.ps_graph.specs.declared.graph.Graph.{Graph}
use Rattle.ps_step.specs.Steps.{GoesBack, Stands}
use Rattle.ps_demand.specs.Demands.{AreTied}
use Rattle.ps_demand.specs.Demands.{demand, demands, is_renaming}
use Rattle.ps_demand.specs.Hitting.{HitsAll, MeetsSet}
use Rattle.ps_step.proofs.Demanding.{hits_meets, meets_hits}
use Rattle.ps_demand.proofs.Demanding.{chosen, of_chosen}
use Rattle.ps_demand.proofs.Picked.{from_picked, picked}
use Rattle.ps_demand.proofs.Scanning.{other_demands_none}
use Rattle.ps_step.proofs.Smallest.{at_edge}
use Rattle.ps_triple.specs.declared.entry.Entry.{Entry}
use Rattle.ps_triple.specs.declared.entry.Entry.TheVariants.{Triple as OfTriple}
use Rattle.ps_triple.specs.declared.triple.Triple.{Triple}

-- ---- images, place by place

pub images_more : (f : ℕ → ℕ) (xs ys : List ℕ) (i : ℕ) → i < length xs → length xs ≡ length ys → f (get_or xs i 0) ≡ get_or ys i 0 → map f (take i xs) ≡ take i ys → map f (take (i + 1) xs) ≡ take (i + 1) ys
images_more f xs ys i h long e all =
    let within : i < length ys = omega (arith, h, long) in
    map_more f xs i 0 h ∙ (ap₂ (λ (zs : List ℕ) (z : ℕ). zs ++ z ∷ []) all e ∙ sym (take_more ys i 0 within))

pub images_all : (f : ℕ → ℕ) (xs ys : List ℕ) (i : ℕ) → length xs ≤ i → length xs ≡ length ys → map f (take i xs) ≡ take i ys → map f xs ≡ ys
images_all f xs ys i past long all =
    let past_too : length ys ≤ i = omega (arith, past, long) in
    ap (map f) (sym (take_all i xs past)) ∙ (all ∙ take_all i ys past_too)

-- ---- one entry

pub demanded_tests : (thread command : ℕ) (q : Atom) (t : Triple) (set : List Atom) → demand thread command q (OfTriple t) ≡ Some set →
    (t.command ≡ command) × (t.post.predicate ≡ q.predicate) × (is_renaming (0 ∷ t.post.threads) (thread ∷ q.threads) ≡ true) × (map (renamed (sent (0 ∷ t.post.threads) (thread ∷ q.threads))) t.pre ≡ set)
demanded_tests thread command q t set e =
    let c = of_chosen ((t.command == command) && (t.post.predicate == q.predicate) && is_renaming (0 ∷ t.post.threads) (thread ∷ q.threads)) (map (renamed (sent (0 ∷ t.post.threads) (thread ∷ q.threads))) t.pre) set e in
    let tests = and_parts ((t.command == command) && (t.post.predicate == q.predicate)) (is_renaming (0 ∷ t.post.threads) (thread ∷ q.threads)) c.0 in
    let first = and_parts (t.command == command) (t.post.predicate == q.predicate) tests.0 in
    (eqb-true t.command command first.0, eqb-true t.post.predicate q.predicate first.1, tests.1, c.1)

pub no_demand : (thread command : ℕ) (q : Atom) (e : Entry) (atoms : List Atom) → ((set : List Atom) → demand thread command q e ≡ Some set → ⊥) →
    (true ≡ true → (set : List Atom) → demand thread command q e ≡ Some set → MeetsSet atoms set) × (((set : List Atom) → demand thread command q e ≡ Some set → MeetsSet atoms set) → true ≡ true)
no_demand thread command q e atoms none = ((λ h set d. absurd (none set d)), (λ h. refl))

pub one_demand : (thread command : ℕ) (q : Atom) (t : Triple) (atoms : List Atom) (r : Bool) → t.command ≡ command → t.post.predicate ≡ q.predicate → is_renaming (0 ∷ t.post.threads) (thread ∷ q.threads) ≡ true →
    (r ≡ true → MeetsSet atoms (map (renamed (sent (0 ∷ t.post.threads) (thread ∷ q.threads))) t.pre)) × (MeetsSet atoms (map (renamed (sent (0 ∷ t.post.threads) (thread ∷ q.threads))) t.pre) → r ≡ true) →
    (r ≡ true → (set : List Atom) → demand thread command q (OfTriple t) ≡ Some set → MeetsSet atoms set) × (((set : List Atom) → demand thread command q (OfTriple t) ≡ Some set → MeetsSet atoms set) → r ≡ true)
one_demand thread command q t atoms r c p renames says = (
  (λ h set e. subst (MeetsSet atoms) (demanded_tests thread command q t set e).3 (says.0 h)),
  (λ h. says.1 (h (map (renamed (sent (0 ∷ t.post.threads) (thread ∷ q.threads))) t.pre)
      (chosen ((t.command == command) && (t.post.predicate == q.predicate) && is_renaming (0 ∷ t.post.threads) (thread ∷ q.threads)) (map (renamed (sent (0 ∷ t.post.threads) (thread ∷ q.threads))) t.pre)
      (and_from ((t.command == command) && (t.post.predicate == q.predicate)) (is_renaming (0 ∷ t.post.threads) (thread ∷ q.threads))
      (and_from (t.command == command) (t.post.predicate == q.predicate) (eq-eqb t.command command c) (eq-eqb t.post.predicate q.predicate p)) renames)))),
)

-- ---- entry by entry

module _ (entries : List Entry) (thread command : ℕ) (q : Atom) (atoms : List Atom) where
  -- the entries below a number are met
  abbrev pub AreMet : ℕ → Type 0
  AreMet to = (k : ℕ) (e : Entry) → k < to → slice_get entries k ≡ Some e → (set : List Atom) → demand thread command q e ≡ Some set → MeetsSet atoms set

  pub none_met : AreMet 0
  none_met k e h = absurd (let f : ⊥ = omega (arith, h) in f)

  other_none : (k : ℕ) (e : Entry) (set : List Atom) → slice_get entries k ≡ Some e → (¬ IsFor entries q.predicate command k) → demand thread command q e ≡ Some set → ⊥
  other_none k e set is other d = (let none : None ≡ Some set = sym (other_demands_none entries k thread command q e is other) ∙ d in let f : ⊥ = cc in f)

  pub more_met : (from n : ℕ) (e : Entry) → IsNextFor entries q.predicate command from (Some n) → slice_get entries n ≡ Some e → ((set : List Atom) → demand thread command q e ≡ Some set → MeetsSet atoms set) → AreMet from → AreMet (n + 1)
  more_met from n e next is meets met k f h at set d = elim (cases_lt k from) [
    | inl low ↦ met k f low at set d
    | inr high ↦ elim (cases_lt k n) [
      | inl below ↦ absurd (other_none k f set at (next.2 k high below) d)
      | inr above ↦
          let same : k ≡ n = omega (arith, h, above) in
          let one : f ≡ e = same_Some f e (sym at ∙ (ap (λ (m : ℕ). slice_get entries m) same ∙ is)) in
          meets set (ap (demand thread command q) (sym one) ∙ d)
    ]
  ]

  pub not_met : (n : ℕ) (e : Entry) (r : Bool) → slice_get entries n ≡ Some e → (((set : List Atom) → demand thread command q e ≡ Some set → MeetsSet atoms set) → r ≡ true) → r ≡ false →
      (false ≡ true → HitsAll (filter_map (demand thread command q) entries) atoms) × (HitsAll (filter_map (demand thread command q) entries) atoms → false ≡ true)
  not_met n e r is says unmet = (
    (λ h. absurd (false≢true h)),
    (λ hits. absurd (both_ways r unmet (says (λ set d. hits set (picked (demand thread command q) entries e set (n, slice_get_within entries n e is, get_or_from_slice_get entries n e e is) d))))),
  )

  pub all_met : (from : ℕ) → IsNextFor entries q.predicate command from None → AreMet from →
      (true ≡ true → HitsAll (filter_map (demand thread command q) entries) atoms) × (HitsAll (filter_map (demand thread command q) entries) atoms → true ≡ true)
  all_met from none met = (
    (λ h set c.
        let w = from_picked (demand thread command q) entries set c in
        let at : slice_get entries w.1.0 ≡ Some w.0 = slice_get-get_or entries w.1.0 w.0 w.1.1 ∙ ap (λ (e : Entry). let o : Option Entry = Some e in o) w.1.2 in
        elim (cases_lt w.1.0 from) [
          | inl low ↦ met w.1.0 w.0 low at set w.2
          | inr high ↦ absurd (other_none w.1.0 w.0 set at (none w.1.0 high) w.2)
        ]),
    (λ h. refl),
  )

-- ---- the whole step

pub no_step_back : (graph : Graph) (entries : List Entry) (from to : Configuration) (edge : Edge) (number thread : ℕ) (r : Bool) → slice_get graph.edges number ≡ Some edge → (GoesBack graph from edge thread to → r ≡ true) → r ≡ false →
    (false ≡ true → Stands graph entries from number thread to) × (Stands graph entries from number thread to → false ≡ true)
no_step_back graph entries from to edge number thread r is says unmet =
    ((λ h. absurd (false≢true h)), (λ s. absurd (both_ways r unmet (says (at_edge graph entries from to edge number thread is s).goes))))

pub step_back : (graph : Graph) (entries : List Entry) (from to : Configuration) (edge : Edge) (number thread : ℕ) (demanding atoms : List Atom) (r : Bool) → AreTied entries → slice_get graph.edges number ≡ Some edge → GoesBack graph from edge thread to →
    demanding ≡ from.atoms → atoms ≡ to.atoms → (r ≡ true → HitsAll (demands entries demanding thread edge.command) atoms) × (HitsAll (demands entries demanding thread edge.command) atoms → r ≡ true) →
    (r ≡ true → Stands graph entries from number thread to) × (Stands graph entries from number thread to → r ≡ true)
step_back graph entries from to edge number thread demanding atoms r tied is goes id ia says = (
  (λ h. record {
    edge = edge;
    is_edge = is;
    stands = record {
      goes = goes;
      meets = hits_meets entries from to thread edge.command tied (subst (λ (qs : List Atom). HitsAll (demands entries qs thread edge.command) to.atoms) id
          (subst (HitsAll (demands entries demanding thread edge.command)) ia (says.0 h)));
    };
  }),
  (λ s. says.1 (subst (HitsAll (demands entries demanding thread edge.command)) (sym ia) (subst (λ (qs : List Atom). HitsAll (demands entries qs thread edge.command) to.atoms) (sym id)
      (meets_hits entries from to thread edge.command tied (at_edge graph entries from to edge number thread is s).meets)))),
)

-- the same for lists that are lent
pub one_demand_at : (thread command : ℕ) (q : Atom) (t : Triple) (atoms : List Atom) (r s : Bool) (numbers images : List ℕ) (pre : List Atom) (e : Entry) → e ≡ OfTriple t → numbers ≡ t.post.threads → images ≡ q.threads → pre ≡ t.pre →
    t.command ≡ command → t.post.predicate ≡ q.predicate → s ≡ is_renaming (0 ∷ numbers) (thread ∷ images) → s ≡ true →
    (r ≡ true → MeetsSet atoms (map (renamed (sent (0 ∷ numbers) (thread ∷ images))) pre)) × (MeetsSet atoms (map (renamed (sent (0 ∷ numbers) (thread ∷ images))) pre) → r ≡ true) →
    (r ≡ true → (set : List Atom) → demand thread command q e ≡ Some set → MeetsSet atoms set) × (((set : List Atom) → demand thread command q e ≡ Some set → MeetsSet atoms set) → r ≡ true)
one_demand_at thread command q t atoms r s numbers images pre e is in_post in_atom in_pre c p told yes_it says =
    subst (λ (x : Entry). (r ≡ true → (set : List Atom) → demand thread command q x ≡ Some set → MeetsSet atoms set) × (((set : List Atom) → demand thread command q x ≡ Some set → MeetsSet atoms set) → r ≡ true)) (sym is)
    (one_demand thread command q t atoms r c p
    (subst (λ (us : List ℕ). is_renaming (0 ∷ t.post.threads) (thread ∷ us) ≡ true) in_atom (subst (λ (ss : List ℕ). is_renaming (0 ∷ ss) (thread ∷ images) ≡ true) in_post (sym told ∙ yes_it)))
    (subst (λ (qs : List Atom). (r ≡ true → MeetsSet atoms (map (renamed (sent (0 ∷ t.post.threads) (thread ∷ q.threads))) qs)) × (MeetsSet atoms (map (renamed (sent (0 ∷ t.post.threads) (thread ∷ q.threads))) qs) → r ≡ true)) in_pre
    (subst (λ (us : List ℕ). (r ≡ true → MeetsSet atoms (map (renamed (sent (0 ∷ t.post.threads) (thread ∷ us))) pre)) × (MeetsSet atoms (map (renamed (sent (0 ∷ t.post.threads) (thread ∷ us))) pre) → r ≡ true)) in_atom
    (subst (λ (ss : List ℕ). (r ≡ true → MeetsSet atoms (map (renamed (sent (0 ∷ ss) (thread ∷ images))) pre)) × (MeetsSet atoms (map (renamed (sent (0 ∷ ss) (thread ∷ images))) pre) → r ≡ true)) in_post says))))
