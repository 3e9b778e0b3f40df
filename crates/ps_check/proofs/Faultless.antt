-- Of a proof that has none of the faults it can't be denied that it is accepted. What can't be denied is a fact behind two
-- negations: its parts may be taken one after another, and through finite lists.
use Rattle.std.proofs.Common.{◌≡◌, ◌<◌, ◌≤◌, ◌+◌, ℕ, zero, suc, List, [], ◌∷◌, length, map, refl, sym, subst, inl, inr, ◌⊎◌, Contains, Option, Some, None, arith}
use Rattle.std.specs.List.{flat_map}
use Rattle.std.proofs.lemmas.Bool.{cases_lt}
use Rattle.ps_atom.specs.Range.{IsInRange}
use Rattle.ps_atom.specs.declared.atom.Atom.{Atom}
use Rattle.ps_atom.specs.declared.predicate.Predicate.{Predicate as APredicate}
use Rattle.ps_check.specs.Faults.{HasFault, HasNumbers, HasThreadsApart, HasUncovered, IsMover, table_of}
use Rattle.ps_check.specs.declared.fault.CheckFault.{CheckFault}
use Rattle.ps_check.specs.declared.fault.CheckFault.TheVariants.{Predicate, Entry, ConfigNumber, ConfigThread, Accepting, Uncovered}
use Rattle.ps_check.specs.inner.Stages.{AreAllCovered, IsCoveredAlong, IsCoveredBy}
use Rattle.ps_check.proofs.Before.{place_in}
use Rattle.ps_check.proofs.Stepping.{all_edges_done}
use Rattle.ps_command.specs.declared.setting.Setting.{Setting}
use Rattle.ps_config.specs.Configurations.{Configuration, threads_at}
use Rattle.ps_config.specs.Forms.{IsFresh, start_configuration}
use Rattle.ps_config.proofs.Covering.{covers_more, covers_twice}
use Rattle.ps_demand.specs.Demands.{AreTied, demands}
use Rattle.ps_demand.specs.Hitting.{HitsAll}
use Rattle.ps_file.specs.declared.proof.Proof.{Proof}
use Rattle.ps_graph.specs.declared.graph.Graph.{Graph}
use Rattle.ps_list.proofs.Mapped.{flat_mapped, from_flat_mapped, from_mapped, mapped}
use Rattle.ps_list.proofs.Members.{cons_cases, here, nothing, there}
use Rattle.ps_list.proofs.Numbers.{is_in}
use Rattle.ps_step.specs.Closed.{IsAccepted, IsCovered, IsNamed}
use Rattle.ps_step.specs.Steps.{Stands, StandsBy}
use Rattle.ps_step.proofs.Demanding.{hits_meets, meets_hits}
use Rattle.ps_step.proofs.Moved.{goes_same}
use Rattle.ps_step.proofs.Smallest.{at_edge}
use Rattle.ps_triple.specs.Faults.{EntryHolds, IsFirstEntryFault}
use Rattle.ps_triple.specs.Fits.{EntryFits, entry_rows, lambda_of}
use Rattle.ps_triple.specs.Tests.{HasDistinctThreads, HasNoFreeThread, NamesThings}
use Rattle.ps_triple.specs.declared.entry.Entry.{Entry as AnEntry}
use Rattle.ps_triple.specs.declared.entry_end.EntryFault.{EntryFault}
use Rattle.ps_triple.specs.declared.entry_end.EntryFault.TheVariants.{BadNumber, ThreadTwice, FreeThread, Length, Past128, Sum}

-- ---- what can't be denied

abbrev Undenied : Type 0 → Type 0
Undenied P = ¬ ¬ P

so : {P : Type 0} → P → Undenied P
so p k = k p

then : {P Q : Type 0} → Undenied P → (P → Undenied Q) → Undenied Q
then h f k = h (λ p. f p k)

each : {X : Type 0} (P : X → Type 0) (xs : List X) → ((x : X) → Contains xs x → Undenied (P x)) → Undenied ((x : X) → Contains xs x → P x)
each {X} P [] f = so (λ x h. absurd (nothing x h))
each {X} P (x ∷ xs) f = then (f x (here x xs)) (λ p. then (each P xs (λ y h. f y (there x xs y h))) (λ rest.
    so (λ y h. elim (cons_cases x xs y h) [ inl is ↦ subst P is p | inr later ↦ rest y later ])))

each_below : (P : ℕ → Type 0) (n : ℕ) → ((k : ℕ) → Undenied (P k)) → Undenied ((k : ℕ) → k < n → P k)
each_below P zero f = so (λ k less. absurd (let g : ⊥ = omega (arith, less) in g))
each_below P (suc n) f = then (f n) (λ p. then (each_below P n f) (λ rest.
    so (λ k less. elim (cases_lt k n) [ inl below ↦ rest k below | inr past ↦ subst P (let e : n ≡ k = omega (arith, less, past) in e) p ])))

either : (P : Type 0) → Undenied (P ⊎ (¬ P))
either P k = k (inr (λ p. k (inl p)))

-- ---- all choices of one of each set

abbrev choices : {A : Type 0} → List (List A) → List (List A)
choices [] = [] ∷ []
choices (set ∷ sets) = flat_map (λ x. map (λ xs. x ∷ xs) (choices sets)) set

choices_hit : {A : Type 0} (sets : List (List A)) (xs : List A) → Contains (choices sets) xs → HitsAll sets xs
choices_hit [] xs h set in_none = absurd (nothing set in_none)
choices_hit {A} (first ∷ sets) xs h set in_sets =
    let w = from_flat_mapped (λ x. map (λ ys. x ∷ ys) (choices sets)) first xs h in
    let v = from_mapped (λ ys. w.0 ∷ ys) (choices sets) xs w.2 in
    subst (λ (ys : List A). (q : A) × Contains ys q × Contains set q) v.2 (elim (cons_cases first sets set in_sets) [
      | inl is ↦ (w.0, here w.0 v.0, subst (λ (ys : List A). Contains ys w.0) is w.1)
      | inr later ↦ (let m = choices_hit sets v.0 v.1 set later in (m.0, there w.0 v.0 m.0 m.1, m.2))
    ])

-- what hits all sets has a choice
choice_of : {A : Type 0} (sets : List (List A)) (hit : List A) → HitsAll sets hit → (xs : List A) × Contains (choices sets) xs × ((q : A) → Contains xs q → Contains hit q)
choice_of [] hit hits = ([], here [] [], (λ q h. absurd (nothing q h)))
choice_of {A} (set ∷ sets) hit hits =
    let m = hits set (here set sets) in
    let w = choice_of sets hit (λ other h. hits other (there set sets other h)) in (
      m.0 ∷ w.0,
      flat_mapped (λ x. map (λ ys. x ∷ ys) (choices sets)) set m.0 (m.0 ∷ w.0) m.2 (mapped (λ ys. m.0 ∷ ys) (choices sets) w.0 w.1),
      (λ q h. elim (cons_cases m.0 w.0 q h) [ inl is ↦ subst (λ (p : A). Contains hit p) is m.1 | inr later ↦ w.2 q later ]),
    )

-- ---- a number that is none of these

abbrev total : List ℕ → ℕ
total [] = 0
total (n ∷ ns) = n + total ns

within_total : (ns : List ℕ) (n : ℕ) → Contains ns n → n ≤ total ns
within_total [] n h = absurd (nothing n h)
within_total (m ∷ ns) n h = elim (cons_cases m ns n h) [
  | inl is ↦ omega (arith, is)
  | inr later ↦ (let le : n ≤ total ns = within_total ns n later in omega (arith, le))
]

abbrev Missing : List ℕ → Type 0
Missing ns = (n : ℕ) × (¬ Contains ns n) × ((m : ℕ) → m < n → Contains ns m)

missing_below : (ns : List ℕ) (n : ℕ) → ((m : ℕ) → m < n → Contains ns m) ⊎ Missing ns
missing_below ns zero = inl (λ m less. absurd (let g : ⊥ = omega (arith, less) in g))
missing_below ns (suc n) = elim (missing_below ns n) [
  | inr found ↦ inr found
  | inl all ↦ elim (is_in ns n) [
    | inl has ↦ inl (λ m less. elim (cases_lt m n) [ inl below ↦ all m below | inr past ↦ subst (λ (k : ℕ). Contains ns k) (let e : n ≡ m = omega (arith, less, past) in e) has ])
    | inr none ↦ inr (n, none, all)
  ]
]

missing : (ns : List ℕ) → Missing ns
missing ns = elim (missing_below ns (total ns + 2)) [
  | inr found ↦ found
  | inl all ↦ absurd (let le : total ns + 1 ≤ total ns = within_total ns (total ns + 1) (all (total ns + 1) (omega arith)) in let g : ⊥ = omega (arith, le) in g)
]

-- ---- entries

entry_holds : (setting : Setting) (predicates : List APredicate) (entry : AnEntry) → ((fault : EntryFault) → ¬ IsFirstEntryFault setting predicates entry fault) → Undenied (EntryHolds setting predicates entry)
entry_holds setting predicates entry none =
    then {P = NamesThings setting predicates entry} (λ k. none BadNumber (k, tt)) (λ names.
    then {P = HasDistinctThreads entry} (λ k. none ThreadTwice (k, names)) (λ distinct.
    then {P = HasNoFreeThread entry} (λ k. none FreeThread (k, (names, distinct))) (λ tied.
    then {P = length (lambda_of entry) ≡ length (entry_rows setting predicates entry)} (λ k. none (Length (length (lambda_of entry)) (length (entry_rows setting predicates entry))) ((refl, refl, k), (names, distinct, tied))) (λ long.
    then {P = EntryFits setting predicates entry} (λ k. none Past128 (k, (names, distinct, tied, long))) (λ fits.
    λ q. none Sum ((λ refutes. q (record { names = names; distinct = distinct; tied = tied; fits = fits; refutes = refutes })), (names, distinct, tied, long, fits)))))))

-- ---- steps

module _ (graph : Graph) (entries : List AnEntry) (configurations : List Configuration) (from : Configuration) (tied : AreTied entries)
    (none : (edge : ℕ) (mover : Option ℕ) → ¬ HasUncovered graph entries configurations from edge mover) where
  -- where some configuration stands by the edge and the thread, each is covered, since each choice is
  where_one_stands : (number thread : ℕ) (mover : Option ℕ) → IsMover from mover thread → (one : Configuration) → Stands graph entries from number thread one → Undenied (IsCoveredBy graph entries configurations from number thread)
  where_one_stands number thread mover named one s =
      let sets : List (List Atom) = demands entries from.atoms thread s.edge.command in
      then (each (λ (atoms : List Atom). IsCovered configurations (record { at = one.at; atoms = atoms })) (choices sets) (λ atoms h k. none number mover (record {
        thread = thread;
        to = record { at = one.at; atoms = atoms };
        named = named;
        stands = record {
          edge = s.edge;
          is_edge = s.is_edge;
          stands = record {
            goes = goes_same graph from one (record { at = one.at; atoms = atoms }) s.edge thread (λ t l i. i) (λ t l i. i) s.stands.goes;
            meets = hits_meets entries from (record { at = one.at; atoms = atoms }) thread s.edge.command tied (choices_hit sets atoms h);
          };
        };
        uncovered = k;
      }))) (λ all. so (λ to other.
      let by : StandsBy graph entries from s.edge thread to = at_edge graph entries from to s.edge number thread s.is_edge other in
      let choice = choice_of sets to.atoms (meets_hits entries from to thread s.edge.command tied by.meets) in
      let covered : IsCovered configurations (record { at = one.at; atoms = choice.0 }) = all choice.0 choice.1 in (
        covered.0,
        covered.1,
        covers_twice covered.0 (record { at = one.at; atoms = choice.0 }) to covered.2
            (covers_more (record { at = one.at; atoms = choice.0 }) to (λ t l i. (by.goes.is t l).1 ((s.stands.goes.is t l).0 i)) choice.2),
      )))

  step_covered : (number thread : ℕ) (mover : Option ℕ) → IsMover from mover thread → Undenied (IsCoveredBy graph entries configurations from number thread)
  step_covered number thread mover named = then (either ((one : Configuration) × Stands graph entries from number thread one)) (λ test. elim test [
    | inl some ↦ where_one_stands number thread mover named some.0 some.1
    | inr nothing_stands ↦ so (λ to s. absurd (nothing_stands (to, s)))
  ])

  along_covered : (fresh : ℕ) → IsFresh from fresh → (number : ℕ) → Undenied (IsCoveredAlong graph entries configurations from fresh number)
  along_covered fresh is number =
      then (each (IsCoveredBy graph entries configurations from number) (threads_at from) (λ thread h. step_covered number thread (Some thread) (refl, h))) (λ occur.
      then (step_covered number fresh None is) (λ last.
      so (λ thread tries. elim tries [
        | inl h ↦ occur thread h
        | inr same ↦ subst (λ (k : ℕ). IsCoveredBy graph entries configurations from number k) (sym same) last
      ])))

  all_covered : Undenied (AreAllCovered graph entries configurations from)
  all_covered =
      let m = missing (threads_at from) in
      let is : IsFresh from m.0 = record { absent = m.1; least = m.2 } in
      then (each_below (IsCoveredAlong graph entries configurations from m.0) (length graph.edges) (along_covered m.0 is)) (λ all.
      so (all_edges_done graph entries configurations from m.0 (length graph.edges) tied is all (omega arith)))

-- ---- the whole proof

pub faultless : (graph : Graph) (proof : Proof) → ((fault : CheckFault) → ¬ HasFault graph proof fault) → Undenied (IsAccepted graph proof.predicates proof.entries proof.configs)
faultless graph proof none =
    then (each (λ (p : APredicate). IsInRange graph.setting.globals graph.setting.locals p) proof.predicates (λ p h k. none (Predicate (suc h.0)) (p, place_in proof.predicates p h, k))) (λ in_range.
    then (each (λ (entry : AnEntry). EntryHolds graph.setting (table_of proof) entry) proof.entries (λ entry h.
    entry_holds graph.setting (table_of proof) entry (λ fault first. none (Entry h.0 fault) (entry, place_in proof.entries entry h, first)))) (λ hold.
    then (each (λ (c : Configuration). IsNamed graph (table_of proof) c) proof.configs (λ c h.
    then {P = HasNumbers graph (table_of proof) c} (λ k. none (ConfigNumber h.0) (c, place_in proof.configs c h, k)) (λ numbers.
    then {P = HasThreadsApart c} (λ k. none (ConfigThread h.0) (c, place_in proof.configs c h, k)) (λ apart.
    so (record { locations = numbers.0; atoms = numbers.1; apart = apart }))))) (λ named.
    let tied : AreTied proof.entries = λ entry h. (hold entry h).tied in
    then (all_covered graph proof.entries proof.configs start_configuration tied (λ edge mover u. none (Uncovered None edge mover) (start_configuration, refl, u))) (λ first.
    then (each (AreAllCovered graph proof.entries proof.configs) proof.configs (λ c h.
    all_covered graph proof.entries proof.configs c tied (λ edge mover u. none (Uncovered (Some h.0) edge mover) (c, place_in proof.configs c h, u)))) (λ next.
    so (record {
      in_range = in_range;
      hold = hold;
      named = named;
      closed = record {
        first = first;
        next = next;
        never = λ c h accepting. none (Accepting h.0) (c, place_in proof.configs c h, accepting);
      };
    }))))))
