-- What the tests of known atoms say, and which atoms are given after one more letter.
use Rattle.std.proofs.Common.{◌≡◌, ◌≢◌, ◌<◌, ◌≤◌, ◌==◌, ◌↔◌, ℕ, Bool, true, false, not, IsTrue, List, [], ◌∷◌, ◌++◌, length, map, get_or, refl, sym, ap, ◌∙◌, subst, inl, inr, Contains, arith}
use Rattle.std.specs.List.{filter}
use Rattle.std.specs.List.Sorted.{IsPartitionPoint, IsStrictlySortedBy}
use Rattle.std.specs.Ordering.{is_eq, is_lt}
use Rattle.std.specs.declared.cmp.Ordering.{Ordering}
use Rattle.std.specs.declared.cmp.Ordering.TheVariants.{Less, Equal, Greater}
use Rattle.std.proofs.lemmas.Bool.{eq-eqb, eqb-false, eqb-true, false≢true}
use Rattle.std.proofs.lemmas.Cmp.{tied_itself}
use Rattle.std.proofs.lemmas.List.{append-nil, append_assoc}
use Rattle.std.proofs.lemmas.List.Elements.{All-contains}
use Rattle.std.proofs.lemmas.List.Kept.{IsStrictlySortedBy-filter}
use Rattle.ps_atom.specs.Atoms.{atom_cmp}
use Rattle.ps_atom.specs.declared.atom.Atom.{Atom}
use Rattle.ps_basis.specs.Demands.{IsGiven}
use Rattle.ps_config.proofs.Tested.{all_from, all_to, any_from, any_to}
use Rattle.ps_demand.proofs.Atoms.{atoms_exact, atoms_total}
use Rattle.ps_demand.proofs.Giving.{demanded, demand_of}
use Rattle.ps_demand.proofs.Pooling.{found_at}
use Rattle.ps_demand.specs.Demands.{AreTied, demands}
use Rattle.ps_demand.specs.Pools.{HasAll, HasEach}
use Rattle.ps_graph.proofs.Bools.{same_test}
use Rattle.ps_list.proofs.Mapped.{from_kept, kept}
use Rattle.ps_list.proofs.Members.{cons_cases, here, nothing}
use Rattle.ps_member.proofs.Walking.{walk_first, walk_less}
use Rattle.ps_member.specs.declared.cut.Cut.{Cut}
use Rattle.ps_member.specs.inner.Known.{are_among, is_among, is_initial_in, is_met, is_initial_for}
use Rattle.ps_member.specs.inner.Walks.{IsWalkFrom, letter_of}
use Rattle.ps_triple.proofs.Membership.{all_of, any_default}
use Rattle.ps_triple.specs.Entries.{GivesAtom, HasInitial, false_atom}
use Rattle.ps_triple.specs.declared.entry.Entry.{Entry}
use Rattle.ps_triple.specs.declared.entry.Entry.TheVariants.{Triple as OfTriple, Initial as OfInitial}

-- ---- tests

ties : (o : Ordering) → is_eq o ≡ true → o ≡ Equal
ties Less h = absurd (false≢true h)
ties Equal h = refl
ties Greater h = absurd (false≢true h)

itself : (q : Atom) → is_eq (atom_cmp q q) ≡ true
itself q = ap is_eq (tied_itself atoms_total q)

pub among_from : (known : List Atom) (q : Atom) → is_among known q ≡ true → Contains known q
among_from known q h =
    let w = any_from (λ (p : Atom). is_eq (atom_cmp p q)) known h in
    subst (λ (p : Atom). Contains known p) (atoms_exact w.0 q (ties (atom_cmp w.0 q) w.2)) w.1

pub among_to : (known : List Atom) (q : Atom) → Contains known q → is_among known q ≡ true
among_to known q c = any_to (λ (p : Atom). is_eq (atom_cmp p q)) known q c (itself q)

-- the place that a search gives has the atom, or it isn't there
pub among_at : (known : List Atom) (q other : Atom) (i : ℕ) → IsStrictlySortedBy atom_cmp known →
    IsPartitionPoint (λ y. is_lt (atom_cmp y q) ≡ true) (λ y. is_lt (atom_cmp y q) ≡ false) known i →
    i < length known → other ≡ get_or known i other → is_eq (atom_cmp other q) ≡ is_among known q
among_at known q other i up p inside is = same_test (is_eq (atom_cmp other q)) (is_among known q)
    (λ h. let there_it_is : Contains known other = (i, inside, sym is) in
    among_to known q (subst (λ (x : Atom). Contains known x) (atoms_exact other q (ties (atom_cmp other q) h)) there_it_is))
    (λ h. let c : Contains known q = among_from known q h in
    let same : get_or known i other ≡ q = any_default known i other q inside ∙ (ap (λ (k : ℕ). get_or known k q) (sym (found_at known q i c up p)) ∙ c.2) in
    ap (λ (x : Atom). is_eq (atom_cmp x q)) (is ∙ same) ∙ itself q)

pub among_end : (known : List Atom) (q : Atom) (i : ℕ) → IsStrictlySortedBy atom_cmp known →
    IsPartitionPoint (λ y. is_lt (atom_cmp y q) ≡ true) (λ y. is_lt (atom_cmp y q) ≡ false) known i →
    length known ≤ i → false ≡ is_among known q
among_end known q i up p past = same_test false (is_among known q) (λ h. absurd (false≢true h))
    (λ h. let c : Contains known q = among_from known q h in
    let at : c.0 ≡ i = found_at known q i c up p in
    let inside : c.0 < length known = c.1 in
    absurd (let none_such : ⊥ = omega (arith, at, inside, past) in none_such))

initial_at : (entries : List Entry) (predicate : ℕ) (e : Entry) → Contains entries e → is_initial_for e predicate ≡ true → HasInitial entries predicate
initial_at entries predicate (OfTriple t) c h = absurd (false≢true h)
initial_at entries predicate (OfInitial i) c h = (i, c, eqb-true i.predicate predicate h)

pub initial_from : (entries : List Entry) (q : Atom) → is_initial_in entries q ≡ true → HasInitial entries q.predicate
initial_from entries q h =
    let w = any_from (λ (e : Entry). is_initial_for e q.predicate) entries h in
    initial_at entries q.predicate w.0 w.1 w.2

pub initial_to : (entries : List Entry) (q : Atom) → HasInitial entries q.predicate → is_initial_in entries q ≡ true
initial_to entries q (i, c, is) = any_to (λ (e : Entry). is_initial_for e q.predicate) entries (OfInitial i) c (eq-eqb i.predicate q.predicate is)

pub initial_test : (entries : List Entry) (q : Atom) (b : Bool) → IsTrue b ↔ HasInitial entries q.predicate → b ≡ is_initial_in entries q
initial_test entries q b h = same_test b (is_initial_in entries q)
    (λ e. initial_to entries q (h.0 e))
    (λ e. h.1 (initial_from entries q e))

-- ---- demands that are met

-- a demand of the atom, all of whose atoms are known
pub record Met (entries : List Entry) (thread command : ℕ) (known : List Atom) (q : Atom) : Type 0 where
  pub set : List Atom
  pub demands_it : Contains (demands entries (q ∷ []) thread command) set
  pub each : HasEach known set

pub met_from : (entries : List Entry) (thread command : ℕ) (known : List Atom) (q : Atom) → is_met entries thread command known q ≡ true → Met entries thread command known q
met_from entries thread command known q h =
    let w = any_from (are_among known) (demands entries (q ∷ []) thread command) h in
    record { set = w.0; demands_it = w.1; each = λ p c. among_from known p (all_from (is_among known) w.0 w.2 p c) }

pub met_to : (entries : List Entry) (thread command : ℕ) (known : List Atom) (q : Atom) → Met entries thread command known q → is_met entries thread command known q ≡ true
met_to entries thread command known q m =
    any_to (are_among known) (demands entries (q ∷ []) thread command) m.set m.demands_it (all_to (is_among known) m.set (λ p c. among_to known p (m.each p c)))

-- ---- one more letter

-- the known atoms are those of the pool that the letters give
abbrev pub Knows : List Entry → List Cut → List Atom → List Atom → Type 0
Knows entries done pool known = (q : Atom) → Contains known q ↔ (Contains pool q × IsGiven entries (map letter_of done) q)

single : (q p : Atom) → Contains (q ∷ []) p → q ≡ p
single q p h = elim (cons_cases q [] p h) [ inl is ↦ is | inr none ↦ absurd (nothing p none) ]

given_by : (entries : List Entry) (done : List Cut) (cut : Cut) (pool known : List Atom) (q : Atom) → AreTied entries → Knows entries done pool known →
    Met entries cut.thread cut.command known q → IsGiven entries (letter_of cut ∷ map letter_of done) q
given_by entries done cut pool known q tied knows m =
    let d = demand_of entries tied (q ∷ []) cut.thread cut.command m.set m.demands_it in (
      m.set,
      subst (λ (p : Atom). GivesAtom entries cut.thread cut.command m.set p) (sym (single q d.after d.within)) d.gives,
      all_of (IsGiven entries (map letter_of done)) m.set (λ p c. ((knows p).0 (m.each p c)).1),
    )

met_by : (entries : List Entry) (done : List Cut) (cut : Cut) (pool known : List Atom) (q : Atom) → AreTied entries → Knows entries done pool known →
    HasAll pool (demands entries cut.after.items cut.thread cut.command) → Contains cut.after.items q →
    IsGiven entries (letter_of cut ∷ map letter_of done) q → Met entries cut.thread cut.command known q
met_by entries done cut pool known q tied knows all has (a, g, each) = record {
  set = a;
  demands_it = demanded entries tied (q ∷ []) cut.thread cut.command a q (here q []) g;
  each = λ p c. (knows p).1 (
    all a (demanded entries tied cut.after.items cut.thread cut.command a q has g) p c,
    All-contains (IsGiven entries (map letter_of done)) a p each c,
  );
}

pub knows_more : (entries : List Entry) (done : List Cut) (cut : Cut) (pool known given : List Atom) → AreTied entries → Knows entries done pool known →
    HasAll pool (demands entries cut.after.items cut.thread cut.command) →
    given ≡ filter (is_met entries cut.thread cut.command known) cut.after.items → Knows entries (cut ∷ done) cut.after.items given
knows_more entries done cut pool known given tied knows all is q = (
  (λ h. let w = from_kept (is_met entries cut.thread cut.command known) cut.after.items q (subst (λ (qs : List Atom). Contains qs q) is h) in
      (w.0, given_by entries done cut pool known q tied knows (met_from entries cut.thread cut.command known q w.1))),
  (λ h. subst (λ (qs : List Atom). Contains qs q) (sym is) (kept (is_met entries cut.thread cut.command known) cut.after.items q h.0
      (met_to entries cut.thread cut.command known q (met_by entries done cut pool known q tied knows all h.0 h.1)))),
)

pub knows_first : (entries : List Entry) (pool known : List Atom) → known ≡ filter (is_initial_in entries) pool → Knows entries [] pool known
knows_first entries pool known is q = (
  (λ h. let w = from_kept (is_initial_in entries) pool q (subst (λ (qs : List Atom). Contains qs q) is h) in (w.0, initial_from entries q w.1)),
  (λ h. subst (λ (qs : List Atom). Contains qs q) (sym is) (kept (is_initial_in entries) pool q h.0 (initial_to entries q h.1))),
)

-- ---- the whole way

pub record IsForth (entries : List Entry) (whole cuts : List Cut) (known : List Atom) : Type 0 where
  pub done : List Cut
  pub pool : List Atom
  pub split : cuts ++ done ≡ whole
  pub walk : IsWalkFrom entries (false_atom ∷ []) cuts pool
  pub knows : Knows entries done pool known
  pub ascend : IsStrictlySortedBy atom_cmp known

pub forth_start : (entries : List Entry) (cuts : List Cut) (pool known : List Atom) → IsWalkFrom entries (false_atom ∷ []) cuts pool →
    known ≡ filter (is_initial_in entries) pool → IsForth entries cuts cuts known
forth_start entries cuts pool known walk is = record {
  done = [];
  pool = pool;
  split = append-nil cuts;
  walk = walk;
  knows = knows_first entries pool known is;
  ascend = subst (λ (qs : List Atom). IsStrictlySortedBy atom_cmp qs) (sym is) (IsStrictlySortedBy-filter atom_cmp (is_initial_in entries) pool (walk_first entries (false_atom ∷ []) cuts pool walk));
}

pub forth_more : (entries : List Entry) (whole cuts less : List Cut) (cut : Cut) (known given : List Atom) → AreTied entries → IsForth entries whole cuts known →
    cuts ≡ less ++ cut ∷ [] → given ≡ filter (is_met entries cut.thread cut.command known) cut.after.items → IsForth entries whole less given
forth_more entries whole cuts less cut known given tied f top is =
    let w : IsWalkFrom entries (false_atom ∷ []) less cut.after.items × HasAll f.pool (demands entries cut.after.items cut.thread cut.command) =
    walk_less entries (false_atom ∷ []) less cut f.pool (subst (λ (cs : List Cut). IsWalkFrom entries (false_atom ∷ []) cs f.pool) top f.walk) in
    record {
      done = cut ∷ f.done;
      pool = cut.after.items;
      split = sym (append_assoc less (cut ∷ []) f.done) ∙ (ap (λ (cs : List Cut). cs ++ f.done) (sym top) ∙ f.split);
      walk = w.0;
      knows = knows_more entries f.done cut f.pool known given tied f.knows w.1 is;
      ascend = subst (λ (qs : List Atom). IsStrictlySortedBy atom_cmp qs) (sym is) (IsStrictlySortedBy-filter atom_cmp (is_met entries cut.thread cut.command known) cut.after.items (walk_first entries (false_atom ∷ []) less cut.after.items w.0));
    }

given_whole : (entries : List Entry) (whole : List Cut) (known : List Atom) → IsForth entries whole [] known →
    Contains known false_atom ↔ IsGiven entries (map letter_of whole) false_atom
given_whole entries whole known f =
    let k : Contains known false_atom ↔ (Contains f.pool false_atom × IsGiven entries (map letter_of f.done) false_atom) = f.knows false_atom in
    let alone : Contains f.pool false_atom = subst (λ (qs : List Atom). Contains qs false_atom) f.walk.0 (here false_atom []) in (
      (λ h. subst (λ (cs : List Cut). IsGiven entries (map letter_of cs) false_atom) f.split (k.0 h).1),
      (λ h. k.1 (alone, subst (λ (cs : List Cut). IsGiven entries (map letter_of cs) false_atom) (sym f.split) h)),
    )

-- where any is known, it is false
false_of : (entries : List Entry) (whole : List Cut) (known : List Atom) → IsForth entries whole [] known → 0 < length known → Contains known false_atom
false_of entries whole [] f some = absurd (let none_such : ⊥ = omega (arith, some) in none_such)
false_of entries whole (q ∷ known) f some =
    let in_pool : Contains f.pool q = ((f.knows q).0 (here q known)).0 in
    let is : false_atom ≡ q = single false_atom q (subst (λ (qs : List Atom). Contains qs q) (sym f.walk.0) in_pool) in
    subst (λ (p : Atom). Contains (q ∷ known) p) (sym is) (here q known)

pub forth_end : (entries : List Entry) (whole cuts : List Cut) (known : List Atom) → length cuts ≡ 0 → IsForth entries whole cuts known →
    (0 < length known) ↔ IsGiven entries (map letter_of whole) false_atom
forth_end entries whole [] known none f =
    let g = given_whole entries whole known f in (
      (λ h. g.0 (false_of entries whole known f h)),
      (λ h. let c : Contains known false_atom = g.1 h in let inside : c.0 < length known = c.1 in omega (arith, inside)),
    )
forth_end entries whole (c ∷ cuts) known none f = absurd (let none_such : ⊥ = omega (arith, none) in none_such)

pub nonempty_test : (n m : ℕ) (b : Bool) → n ≡ m → b ≡ (n == 0) → IsTrue (not b) ↔ (0 < m)
nonempty_test n m true e h = let z : n ≡ 0 = eqb-true n 0 (sym h) in ((λ t. absurd (false≢true t)), (λ p. absurd (let none_such : ⊥ = omega (arith, z, e, p) in none_such)))
nonempty_test n m false e h = let z : n ≢ 0 = eqb-false n 0 (sym h) in ((λ t. let some : 0 < m = omega (arith, z, e) in some), (λ p. refl))
