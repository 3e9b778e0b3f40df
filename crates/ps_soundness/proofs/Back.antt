-- Where the configurations are closed, every error trace is proved: the letters are read from the first to the last, and
-- every configuration whose threads stand where those of the trace stand has an atom that is given.
use Rattle.std.proofs.Common.{◌≡◌, ◌≢◌, refl, sym, ap, ◌∙◌, subst, Bool, true, false, not, ◌&&◌, ◌||◌, ℕ, zero, suc, ◌+◌, ◌<◌, ◌==◌, List, [], ◌∷◌, map, filter, length, reverse, inl, inr, ◌⊎◌, ◌↔◌, if◌then◌else◌, Contains, IsTrue, eqb-true, eq-eqb, ne_eqb, arith, lt_irrefl}
use Rattle.std.specs.Prelude.{slice_get, slice_index_or, Option, Some, None, option_map, unwrap_or}
use Rattle.std.specs.List.{list_all, AllByRecursion}
use mathlib.Core.List.{reverse_aux}
use Rattle.std.proofs.lemmas.Bool.{cases_eq, and_parts, or_cases}
use Rattle.std.proofs.lemmas.Option.{same_Some}
use Rattle.std.proofs.lemmas.List.Elements.{Contains-get_or}
use Rattle.ps_list.proofs.Members.{nothing, cons_cases, here, there}
use Rattle.ps_atom.specs.Atoms.{renamed, IsInjectiveOn}
use Rattle.ps_atom.specs.declared.atom.Atom.{Atom}
use Rattle.ps_basis.proofs.Rules.{rules_are_demands}
use Rattle.ps_basis.specs.Demands.{IsGiven}
use Rattle.ps_basis.specs.Space.{IsProved}
use Rattle.ps_list.proofs.Mapped.{mapped, from_mapped}
use Rattle.ps_config.proofs.Occurring.{located_occurs, named_occurs, occurs_cases, of_renamed, renamed_same, renamed_twice}
use Rattle.ps_config.specs.Configurations.{Configuration, Covers, Embeds, IsAt, threads_at}
use Rattle.ps_config.specs.Forms.{start_configuration}
use Rattle.ps_graph.proofs.Letters.{Located, located_of_paths, moved_to}
use Rattle.ps_graph.specs.ErrorTrace.{IsErrorTrace, edges_of, enters_error, error_at_last}
use Rattle.ps_graph.specs.Facts.{entries_owned, entries_owned_from, is_same_body, owner_of, stay_in_bodies}
use Rattle.ps_graph.specs.declared.edge.Edge.{Edge}
use Rattle.ps_graph.specs.declared.graph.Graph.{Graph}
use Rattle.ps_soundness.proofs.Choices.{IsChoice, SomeGood, choose}
use Rattle.ps_soundness.proofs.Demands.{before_threads, gives_renamed}
use Rattle.ps_demand.proofs.Giving.{Demand, demand_of}
use Rattle.ps_soundness.specs.Traces.{AvoidError, command_of_edge, trace_of}
use Rattle.ps_step.proofs.Demanding.{hits_meets}
use Rattle.ps_step.proofs.Moved.{moved_at_is}
use Rattle.ps_step.specs.Closed.{IsClosed, IsCovered}
use Rattle.ps_step.specs.Steps.{IsAccepting, IsDue, IsOfOnce, Stands}
use Rattle.ps_demand.specs.Demands.{AreTied}
use Rattle.ps_step.specs.inner.Back.{moved_at}
use Rattle.ps_demand.specs.Demands.{demands}
use Rattle.ps_demand.specs.Hitting.{HitsAll}
use Rattle.ps_triple.proofs.Membership.{all_of}
use Rattle.ps_triple.specs.Entries.{GivesAtom, HasInitial, false_atom}
use Rattle.ps_triple.specs.declared.entry.Entry.{Entry}
use Rattle.ps_triple.specs.declared.entry.Entry.TheVariants.{Triple as OfTriple, Initial as OfInitial}

-- where the threads of a configuration are
abbrev IsPlaced : (ℕ → Type 0) → (ℕ → ℕ) → (ℕ → ℕ) → Configuration → Type 0
IsPlaced Q at f c = (t a : ℕ) → IsAt c t a → (at (f t) ≡ a) × Q (f t)

-- one of the renamed atoms is given
abbrev IsWon : List Entry → List (ℕ × ℕ) → (ℕ → ℕ) → Configuration → Type 0
IsWon entries done f c = (q : Atom) × Contains c.atoms q × IsGiven entries done (renamed f q)

-- of each configuration whose threads are placed
abbrev AreWon : List Entry → List Configuration → (ℕ → Type 0) → (ℕ → ℕ) → List (ℕ × ℕ) → Type 0
AreWon entries configurations Q at done = (c : Configuration) → Contains configurations c → (f : ℕ → ℕ) → IsInjectiveOn f (threads_at c) →
    IsPlaced Q at f c → IsWon entries done f c

-- one of the members has the property, or none does
some_or_none : {X : Type 0} (P : X → Type 0) → ((x : X) → P x ⊎ (P x → ⊥)) → (xs : List X) → ((x : X) × Contains xs x × P x) ⊎ ((x : X) → Contains xs x → P x → ⊥)
some_or_none P test [] = inr (λ x i p. nothing x i)
some_or_none {X} P test (y ∷ xs) = at (test y) (some_or_none P test xs)
  where
    at : P y ⊎ (P y → ⊥) → ((x : X) × Contains xs x × P x) ⊎ ((x : X) → Contains xs x → P x → ⊥) →
        ((x : X) × Contains (y ∷ xs) x × P x) ⊎ ((x : X) → Contains (y ∷ xs) x → P x → ⊥)
    at (inl p) rest = inl (y, here y xs, p)
    at (inr none_such) (inl (x, i, p)) = inl (x, there y xs x i, p)
    at (inr none_such) (inr none) = inr (λ x i p. elim (cons_cases y xs x i) [ inl e ↦ none_such (subst P (sym e) p) | inr r ↦ none x r p ])

moved_here : (at : ℕ → ℕ) (k goal j : ℕ) → k ≡ j → moved_to at k goal j ≡ goal
moved_here at k goal j e = on (k == j) (eq-eqb k j e)
  where
    on : (b : Bool) → b ≡ true → (if b then goal else at j) ≡ goal
    on true h = refl
    on false h = let none_such : false ≡ true = h in cc

moved_there : (at : ℕ → ℕ) (k goal j : ℕ) → (k ≡ j → ⊥) → moved_to at k goal j ≡ at j
moved_there at k goal j none_such = on (k == j) (ne_eqb k j none_such)
  where
    on : (b : Bool) → b ≡ false → (if b then goal else at j) ≡ at j
    on false h = refl
    on true h = let none_such : true ≡ false = h in cc

-- one step back: the thread t of the configuration is the thread k of the trace
module _ (graph : Graph) (entries : List Entry) (tied : AreTied entries) (configurations : List Configuration)
    (Q : ℕ → Type 0) (at : ℕ → ℕ) (done : List (ℕ × ℕ)) (won : AreWon entries configurations Q at done)
    (single : (i j : ℕ) → Q i → Q j → IsOfOnce graph (at i) → IsOfOnce graph (at j) → i ≡ j)
    (c : Configuration) (n : ℕ) (e : Edge) (is_edge : slice_get graph.edges n ≡ Some e) (t k : ℕ) (g : ℕ → ℕ)
    (due : IsDue c e t) (covered : (to : Configuration) → Stands graph entries c n t to → IsCovered configurations to)
    (goes : g t ≡ k) (apart : IsInjectiveOn g (t ∷ threads_at c)) (source : e.source ≡ at k) (occurs : Q k)
    (placed : IsPlaced Q (moved_to at k e.target) g c) where
  abbrev places : List (ℕ × ℕ)
  places = moved_at c.at t e.source

  places_are : (s a : ℕ) → Contains places (s, a) ↔ (((s ≡ t) × (a ≡ e.source)) ⊎ ((s ≢ t) × IsAt c s a))
  places_are s a = moved_at_is c t e.source [] s a

  -- where the thread was
  was : IsAt c t e.target ⊎ ((a : ℕ) → ¬ IsAt c t a)
  was = on (some_or_none (λ (p : ℕ × ℕ). p.0 ≡ t) (λ p. cases_eq p.0 t) c.at)
    where
      on : ((p : ℕ × ℕ) × Contains c.at p × (p.0 ≡ t)) ⊎ ((p : ℕ × ℕ) → Contains c.at p → p.0 ≡ t → ⊥) → IsAt c t e.target ⊎ ((a : ℕ) → ¬ IsAt c t a)
      on (inl (p, i, same)) =
          let here_is : IsAt c t p.1 = subst (λ (s : ℕ). IsAt c s p.1) same i in
          let target : p.1 ≡ e.target = sym (placed t p.1 here_is).0 ∙ moved_here at k e.target (g t) (sym goes) in
          inl (subst (λ (a : ℕ). IsAt c t a) target here_is)
      on (inr none) = inr (λ a i. none (t, a) i refl)

  -- the threads before the step are placed
  placed_before : (s a : ℕ) → Contains places (s, a) → (at (g s) ≡ a) × Q (g s)
  placed_before s a i = on ((places_are s a).0 i)
    where
      on : ((s ≡ t) × (a ≡ e.source)) ⊎ ((s ≢ t) × IsAt c s a) → (at (g s) ≡ a) × Q (g s)
      on (inl (same, is)) = (
        ap (λ (x : ℕ). at (g x)) same ∙ ap at goes ∙ sym source ∙ sym is,
        subst Q (sym goes ∙ ap g (sym same)) occurs,
      )
      on (inr (none_such, j)) =
          let stays : k ≡ g s → ⊥ = λ h. none_such (apart s t (there t (threads_at c) s (located_occurs c s a j)) (here t (threads_at c)) (sym h ∙ sym goes)) in
          (sym (moved_there at k e.target (g s) stays) ∙ (placed s a j).0, (placed s a j).1)

  among : (s a : ℕ) → Contains places (s, a) → Contains (t ∷ threads_at c) s
  among s a i = on ((places_are s a).0 i)
    where
      on : ((s ≡ t) × (a ≡ e.source)) ⊎ ((s ≢ t) × IsAt c s a) → Contains (t ∷ threads_at c) s
      on (inl (same, is)) = subst (λ (x : ℕ). Contains (t ∷ threads_at c) x) (sym same) (here t (threads_at c))
      on (inr (none_such, j)) = there t (threads_at c) s (located_occurs c s a j)

  -- the threads of a demand occur
  in_atoms : (q : Atom) → Contains c.atoms q → (s : ℕ) → Contains (t ∷ q.threads) s → Contains (t ∷ threads_at c) s
  in_atoms q i s j = elim (cons_cases t q.threads s j) [
    | inl same ↦ subst (λ (x : ℕ). Contains (t ∷ threads_at c) x) same (here t (threads_at c))
    | inr k ↦ there t (threads_at c) s (named_occurs c q s i k)
  ]

  abbrev ds : List (List Atom)
  ds = demands entries c.atoms t e.command

  -- an atom is good where it is given, as an atom of the trace's threads
  abbrev IsGood : Atom → Type 0
  IsGood p = IsGiven entries done (renamed g p)

  -- the configuration before the step, with this choice of atoms
  abbrev chosen : List Atom → Configuration
  chosen hit = record { at = places; atoms = hit }

  stands : (hit : List Atom) → IsChoice (λ (d : List Atom). d) ds hit → Stands graph entries c n t (chosen hit)
  stands hit choice = record {
    edge = e;
    is_edge = is_edge;
    stands = record {
      goes = record {
        due = due;
        was = was;
        is = places_are;
        once = λ s u a b i j x y. apart s u (among s a i) (among u b j)
            (single (g s) (g u) (placed_before s a i).1 (placed_before u b j).1
            (subst (λ (z : ℕ). IsOfOnce graph z) (sym (placed_before s a i).0) x)
            (subst (λ (z : ℕ). IsOfOnce graph z) (sym (placed_before u b j).0) y));
      };
      meets = hits_meets entries c (chosen hit) t e.command tied hits;
    };
  }
    where
      hits : HitsAll ds hit
      hits set i = (let w = choice.meets set i in (w.0, w.2, w.1))

  -- every choice has a good atom
  choice_good : (hit : List Atom) → IsChoice (λ (d : List Atom). d) ds hit → SomeGood IsGood hit
  choice_good hit choice = on (covered (chosen hit) (stands hit choice))
    where
      on : IsCovered configurations (chosen hit) → SomeGood IsGood hit
      on (m, listed, (to, cover)) = from (won m listed (λ s. g (to s))
          (λ x y i j h. cover.apart x y i j (apart (to x) (to y) (within x i) (within y j) h))
          (λ x a i. placed_before (to x) a (cover.located x a i)))
        where
          of_demand : (s : ℕ) (p : Atom) → Contains p.threads s → (d : List Atom) → Contains d p → Demand entries t e.command c.atoms d → Contains (t ∷ threads_at c) s
          of_demand s p j d h demand = in_atoms demand.after demand.within s (before_threads entries tied t e.command d demand.after demand.gives p h s j)

          of_hit : (s : ℕ) (p : Atom) → Contains p.threads s → Contains hit p → Contains (t ∷ threads_at c) s
          of_hit s p j i = (let w = choice.only p i in of_demand s p j w.0 w.2 (demand_of entries tied c.atoms t e.command w.0 w.1))

          within : (x : ℕ) → Contains (threads_at m) x → Contains (t ∷ threads_at c) (to x)
          within x i = elim (occurs_cases m x i) [
            | inl at_place ↦ among (to x) at_place.0 (cover.located x at_place.0 at_place.1)
            | inr named ↦ of_hit (to x) (renamed to named.0) (mapped to named.0.threads x named.2) (cover.atoms named.0 named.1)
          ]

          from : IsWon entries done (λ s. g (to s)) m → SomeGood IsGood hit
          from (q, i, h) = (renamed to q, cover.atoms q i, subst (λ (p : Atom). IsGiven entries done p) (sym (renamed_twice to g q)) h)

  -- so one of the atoms is given after the step
  pub won_after : IsWon entries ((k, e.command) ∷ done) g c
  won_after = on (choose (λ (d : List Atom). d) IsGood ds ⊥ (λ hit choice. inr (choice_good hit choice)))
    where
      given : (d : List Atom) → Demand entries t e.command c.atoms d → ((p : Atom) → Contains d p → IsGood p) → IsWon entries ((k, e.command) ∷ done) g c
      given d demand all = (demand.after, demand.within, (map (renamed g) d, gives, all_of (IsGiven entries done) (map (renamed g) d) each))
        where
          gives : GivesAtom entries k e.command (map (renamed g) d) (renamed g demand.after)
          gives = gives_renamed entries tied t e.command d demand.after demand.gives g k goes
              (λ x y i j h. apart x y (in_atoms demand.after demand.within x i) (in_atoms demand.after demand.within y j) h)

          of_one : (p : Atom) → (q : Atom) × Contains d q × (renamed g q ≡ p) → IsGiven entries done p
          of_one p (q, i, same) = subst (λ (r : Atom). IsGiven entries done r) same (all q i)

          each : (p : Atom) → Contains (map (renamed g) d) p → IsGiven entries done p
          each p i = of_one p (from_mapped (renamed g) d p i)

      on : ⊥ ⊎ ((d : List Atom) × Contains ds d × ((p : Atom) → Contains d p → IsGood p)) → IsWon entries ((k, e.command) ∷ done) g c
      on (inl none_such) = absurd none_such
      on (inr (d, i, all)) = given d (demand_of entries tied c.atoms t e.command d i) all

-- a thread that is above all of the list
abbrev above : List ℕ → ℕ
above [] = 0
above (t ∷ ts) = suc (t + above ts)

below : (ts : List ℕ) (t : ℕ) → Contains ts t → t < above ts
below [] t i = absurd (nothing t i)
below (s ∷ ts) t i = on (cons_cases s ts t i) (λ r. below ts t r)
  where
    on : (s ≡ t) ⊎ Contains ts t → (Contains ts t → t < above ts) → t < suc (s + above ts)
    on (inl e) rest = omega (arith, e)
    on (inr r) rest = omega (arith, rest r)

fresh : (ts : List ℕ) → Contains ts (above ts) → ⊥
fresh ts i = lt_irrefl (above ts) (below ts (above ts) i)

abbrev AreAlike : (ℕ → ℕ) → (ℕ → ℕ) → List ℕ → Type 0
AreAlike f g ts = (t : ℕ) → Contains ts t → f t ≡ g t

-- the renaming with another value at one thread
abbrev with_one : (ℕ → ℕ) → ℕ → ℕ → ℕ → ℕ
with_one f t k s = if s == t then k else f s

with_one_at : (f : ℕ → ℕ) (t k : ℕ) → with_one f t k t ≡ k
with_one_at f t k = on (t == t) (eq-eqb t t refl)
  where
    on : (b : Bool) → b ≡ true → (if b then k else f t) ≡ k
    on true h = refl
    on false h = let none_such : false ≡ true = h in cc

with_one_off : (f : ℕ → ℕ) (t k s : ℕ) → (s ≡ t → ⊥) → with_one f t k s ≡ f s
with_one_off f t k s none_such = on (s == t) (ne_eqb s t none_such)
  where
    on : (b : Bool) → b ≡ false → (if b then k else f s) ≡ f s
    on false h = refl
    on true h = let none : true ≡ false = h in cc

set_injective : (f : ℕ → ℕ) (t k : ℕ) (ts : List ℕ) → (Contains ts t → ⊥) → ((s : ℕ) → Contains ts s → f s ≡ k → ⊥) → IsInjectiveOn f ts → IsInjectiveOn (with_one f t k) (t ∷ ts)
set_injective f t k ts new other apart x y i j same = on (cons_cases t ts x i) (cons_cases t ts y j)
  where
    off : (s : ℕ) → Contains ts s → with_one f t k s ≡ f s
    off s h = with_one_off f t k s (λ e. new (subst (λ (z : ℕ). Contains ts z) e h))

    at_t : (s : ℕ) → t ≡ s → with_one f t k s ≡ k
    at_t s e = ap (with_one f t k) (sym e) ∙ with_one_at f t k

    on : (t ≡ x) ⊎ Contains ts x → (t ≡ y) ⊎ Contains ts y → x ≡ y
    on (inl a) (inl b) = sym a ∙ b
    on (inl a) (inr b) = absurd (other y b (sym (off y b) ∙ sym same ∙ at_t x a))
    on (inr a) (inl b) = absurd (other x a (sym (off x a) ∙ same ∙ at_t y b))
    on (inr a) (inr b) = apart x y a b (sym (off x a) ∙ same ∙ off y b)

-- the thread of a configuration that stands for a thread of the trace
record Mover (f : ℕ → ℕ) (ts : List ℕ) (k : ℕ) : Type 0 where
  thread : ℕ
  to : ℕ → ℕ
  goes : to thread ≡ k
  apart : IsInjectiveOn to (thread ∷ ts)
  alike : AreAlike to f ts

mover : (f : ℕ → ℕ) (ts : List ℕ) (k : ℕ) → IsInjectiveOn f ts → Mover f ts k
mover f ts k apart = on (some_or_none (λ (t : ℕ). f t ≡ k) (λ t. cases_eq (f t) k) ts)
  where
    on : ((t : ℕ) × Contains ts t × (f t ≡ k)) ⊎ ((t : ℕ) → Contains ts t → f t ≡ k → ⊥) → Mover f ts k
    on (inl (t, i, e)) = record {
      thread = t;
      to = f;
      goes = e;
      apart = λ x y j h same. apart x y (among x j) (among y h) same;
      alike = λ s j. refl;
    }
      where
        among : (s : ℕ) → Contains (t ∷ ts) s → Contains ts s
        among s j = elim (cons_cases t ts s j) [ inl same ↦ subst (λ (x : ℕ). Contains ts x) same i | inr r ↦ r ]
    on (inr none) = record {
      thread = above ts;
      to = with_one f (above ts) k;
      goes = with_one_at f (above ts) k;
      apart = set_injective f (above ts) k ts (fresh ts) none apart;
      alike = λ s i. with_one_off f (above ts) k s (λ e. fresh ts (subst (λ (x : ℕ). Contains ts x) e i));
    }

-- the owners of locations, edge by edge
all_at : {X : Type 0} (test : X → Bool) (xs : List X) (n : ℕ) (x : X) → list_all test xs ≡ true → slice_get xs n ≡ Some x → test x ≡ true
all_at test [] n x h g = cc
all_at test (y ∷ xs) zero x h g = ap test (sym (same_Some y x g)) ∙ (and_parts (test y) (list_all test xs) h).0
all_at test (y ∷ xs) (suc n) x h g = all_at test xs n x (and_parts (test y) (list_all test xs) h).1 g

one_body : (a b : Option ℕ) (n : ℕ) → is_same_body a b ≡ true → a ≡ Some n → b ≡ Some n
one_body None b n h e = cc
one_body (Some m) None n h e = let none_such : false ≡ true = h in cc
one_body (Some m) (Some o) n h e = ap (λ (x : ℕ). let y : Option ℕ = Some x in y) (sym (eqb-true m o h)) ∙ e

stays_in : (graph : Graph) → IsTrue (stay_in_bodies graph.owner graph.edges) → (n : ℕ) (e : Edge) → slice_get graph.edges n ≡ Some e → e.target ≢ 1 →
    (b : ℕ) → owner_of graph.owner e.source ≡ Some b → owner_of graph.owner e.target ≡ Some b
unfolding stay_in_bodies
stays_in graph h n e g off b o = on (or_cases (e.target == 1) (is_same_body (owner_of graph.owner e.source) (owner_of graph.owner e.target))
    (all_at (λ (e : Edge). e.target == 1 || is_same_body (owner_of graph.owner e.source) (owner_of graph.owner e.target)) graph.edges n e h g))
  where
    on : ((e.target == 1) ≡ true) ⊎ (is_same_body (owner_of graph.owner e.source) (owner_of graph.owner e.target) ≡ true) → owner_of graph.owner e.target ≡ Some b
    on (inl t) = absurd (off (eqb-true e.target 1 t))
    on (inr s) = one_body (owner_of graph.owner e.source) (owner_of graph.owner e.target) b s o

owned_from : (b : ℕ) (owner : List (Option ℕ)) (entries : List ℕ) (i : ℕ) → entries_owned_from b owner entries ≡ true → i < length entries →
    owner_of owner (slice_index_or entries i 0) ≡ Some (b + i)
owned_from b owner [] i h l = let none_such : ⊥ = omega (arith, l) in absurd none_such
owned_from b owner (a ∷ entries) zero h l =
    let p : is_same_body (owner_of owner a) (Some b) ≡ true = (and_parts (is_same_body (owner_of owner a) (Some b)) (entries_owned_from (suc b) owner entries) h).0 in
    let q : b ≡ b + 0 = omega arith in
    entry (owner_of owner a) p ∙ ap (λ (x : ℕ). let y : Option ℕ = Some x in y) q
  where
    entry : (o : Option ℕ) → is_same_body o (Some b) ≡ true → o ≡ Some b
    entry None p = let none_such : false ≡ true = p in cc
    entry (Some m) p = ap (λ (x : ℕ). let y : Option ℕ = Some x in y) (eqb-true m b p)
owned_from b owner (a ∷ entries) (suc i) h l =
    let q : suc b + i ≡ b + suc i = omega arith in
    let m : i < length entries = omega (arith, l) in
    owned_from (suc b) owner entries i (and_parts (is_same_body (owner_of owner a) (Some b)) (entries_owned_from (suc b) owner entries) h).1 m
    ∙ ap (λ (x : ℕ). let y : Option ℕ = Some x in y) q

enters : (edges : List Edge) (n : ℕ) (e : Edge) → slice_get edges n ≡ Some e → enters_error edges n ≡ (e.target == 1)
enters edges n e g = ap (λ (o : Option Edge). unwrap_or (option_map (λ (e : Edge). e.target == 1) o) false) g

command_is : (edges : List Edge) (n : ℕ) (e : Edge) → slice_get edges n ≡ Some e → command_of_edge edges n ≡ e.command
command_is edges n e g = ap (λ (o : Option Edge). unwrap_or (option_map (λ (e : Edge). e.command) o) 0) g

letter_is : (edges : List Edge) (l : ℕ × ℕ) (e : Edge) → slice_get edges l.1 ≡ Some e → ◌≡◌ {A = ℕ × ℕ} (l.0, e.command) (l.0, command_of_edge edges l.1)
letter_is edges l e g = λ i. (l.0, sym (command_is edges l.1 e g) i)

module _ (graph : Graph) (entries : List Entry) (tied : AreTied entries) (configurations : List Configuration)
    (inside : AvoidError configurations)
    (closed : IsClosed graph entries configurations)
    (Q : ℕ → Type 0) (body : ℕ → ℕ)
    (stay : IsTrue (stay_in_bodies graph.owner graph.edges))
    (alone : (i j b : ℕ) → Q i → Q j → graph.once ≡ Some b → body i ≡ b → body j ≡ b → i ≡ j) where
  -- each thread is in its body
  abbrev AreOwned : (ℕ → ℕ) → Type 0
  AreOwned at = (k : ℕ) → owner_of graph.owner (at k) ≡ Some (body k)

  single : (at : ℕ → ℕ) → AreOwned at → (i j : ℕ) → Q i → Q j → IsOfOnce graph (at i) → IsOfOnce graph (at j) → i ≡ j
  single at owned i j p q (b, once, o) (d, again, u) =
      let is_b : body i ≡ b = same_Some (body i) b (sym (owned i) ∙ o) in
      let is_d : body j ≡ d = same_Some (body j) d (sym (owned j) ∙ u) in
      let same : d ≡ b = same_Some d b (sym again ∙ once) in
      alone i j b p q once is_b (is_d ∙ same)

  owned_after : (at : ℕ → ℕ) → AreOwned at → (n k : ℕ) (e : Edge) → slice_get graph.edges n ≡ Some e → e.source ≡ at k → e.target ≢ 1 → AreOwned (moved_to at k e.target)
  owned_after at owned n k e g source off j = on (cases_eq k j)
    where
      on : (k ≡ j) ⊎ (k ≡ j → ⊥) → owner_of graph.owner (moved_to at k e.target j) ≡ Some (body j)
      on (inl same) =
          ap (owner_of graph.owner) (moved_here at k e.target j same)
          ∙ stays_in graph stay n e g off (body j) (ap (owner_of graph.owner) (source ∙ ap at same) ∙ owned j)
      on (inr none_such) = ap (owner_of graph.owner) (moved_there at k e.target j none_such) ∙ owned j

  not_start : (c : Configuration) → Contains configurations c → c ≢ start_configuration
  not_start c i same = inside c i 0 1 (subst (λ (d : Configuration). IsAt d 0 1) (sym same) (here (0, 1) [])) refl

  -- a letter that doesn't enter the error
  won_next : (at : ℕ → ℕ) (done : List (ℕ × ℕ)) → AreOwned at → AreWon entries configurations Q at done →
      (n k : ℕ) (e : Edge) → slice_get graph.edges n ≡ Some e → e.source ≡ at k → e.target ≢ 1 → Q k →
      AreWon entries configurations Q (moved_to at k e.target) ((k, e.command) ∷ done)
  won_next at done owned won n k e g source off occurs c i f apart placed = on (mover f (threads_at c) k apart)
    where
      on : Mover f (threads_at c) k → IsWon entries ((k, e.command) ∷ done) f c
      on m = back (won_after graph entries tied configurations Q at done won (single at owned) c n e g m.thread k m.to
          (inr (not_start c i, off)) (λ to s. closed.next c i n m.thread to s) m.goes m.apart source occurs
          (λ t a j. subst (λ (x : ℕ). (moved_to at k e.target x ≡ a) × Q x) (sym (m.alike t (located_occurs c t a j))) (placed t a j)))
        where
          back : IsWon entries ((k, e.command) ∷ done) m.to c → IsWon entries ((k, e.command) ∷ done) f c
          back (q, j, h) = (
            q,
            j,
            subst (λ (p : Atom). IsGiven entries ((k, e.command) ∷ done) p)
                (renamed_same m.to f q (λ t r. m.alike t (named_occurs c q t j r))) h,
          )

  -- the letter that does
  won_last : (at : ℕ → ℕ) (done : List (ℕ × ℕ)) → AreOwned at → AreWon entries configurations Q at done →
      (n k : ℕ) (e : Edge) → slice_get graph.edges n ≡ Some e → e.source ≡ at k → e.target ≡ 1 → Q k →
      IsGiven entries ((k, e.command) ∷ done) false_atom
  won_last at done owned won n k e g source on_error occurs =
      only (won_after graph entries tied configurations Q at done won (single at owned) start_configuration n e g 0 k (λ _. k)
      (inl (refl, on_error, refl)) (λ to s. closed.first n 0 to s) refl (λ x y i j h. zero_of x i ∙ sym (zero_of y j)) source occurs placed)
    where
      zero_of : (x : ℕ) → Contains (0 ∷ threads_at start_configuration) x → x ≡ 0
      zero_of x i = elim (cons_cases 0 (threads_at start_configuration) x i) [
        | inl same ↦ sym same
        | inr j ↦ elim (cons_cases 0 [] x j) [ inl same ↦ sym same | inr none ↦ absurd (nothing x none) ]
      ]

      placed : IsPlaced Q (moved_to at k e.target) (λ _. k) start_configuration
      placed t a i = elim (cons_cases (0, 1) [] (t, a) i) [
        | inl same ↦ (moved_here at k e.target k refl ∙ on_error ∙ ap (λ (p : ℕ × ℕ). p.1) same, occurs)
        | inr none ↦ absurd (nothing (t, a) none)
      ]

      only : IsWon entries ((k, e.command) ∷ done) (λ _. k) start_configuration → IsGiven entries ((k, e.command) ∷ done) false_atom
      only (q, i, h) = elim (cons_cases false_atom [] q i) [
        | inl same ↦ subst (λ (p : Atom). IsGiven entries ((k, e.command) ∷ done) (renamed (λ _. k) p)) (sym same) h
        | inr none ↦ absurd (nothing q none)
      ]

  -- all letters
  won_all : (ls : List (ℕ × ℕ)) (at : ℕ → ℕ) (done : List (ℕ × ℕ)) → Located graph.edges at ls → error_at_last graph.edges ls ≡ true →
      AllByRecursion (λ (l : ℕ × ℕ). Q l.0) ls → AreOwned at → AreWon entries configurations Q at done →
      IsGiven entries (reverse_aux (trace_of graph.edges ls) done) false_atom
  won_all [] at done located error occur owned won = let none_such : false ≡ true = error in cc
  won_all (l ∷ []) at done (e, g, source, rest) error occur owned won =
      let on_error : e.target ≡ 1 = eqb-true e.target 1 (sym (enters graph.edges l.1 e g) ∙ error) in
      subst (λ (m : ℕ × ℕ). IsGiven entries (m ∷ done) false_atom) (letter_is graph.edges l e g)
      (won_last at done owned won l.1 l.0 e g source on_error occur.0)
  won_all (l ∷ m ∷ ls) at done (e, g, source, rest) error occur owned won = on (and_parts (not (enters_error graph.edges l.1)) (error_at_last graph.edges (m ∷ ls)) error)
      (λ last o w. won_all (m ∷ ls) (moved_to at l.0 e.target) ((l.0, command_of_edge graph.edges l.1) ∷ done) rest last occur.1 o w)
    where
      off : not (enters_error graph.edges l.1) ≡ true → e.target ≢ 1
      off h same = none_such (enters_error graph.edges l.1) (enters graph.edges l.1 e g ∙ eq-eqb e.target 1 same) h
        where
          none_such : (b : Bool) → b ≡ true → not b ≡ true → ⊥
          none_such true p q = let none : false ≡ true = q in cc
          none_such false p q = let none : false ≡ true = p in cc

      on : (not (enters_error graph.edges l.1) ≡ true) × (error_at_last graph.edges (m ∷ ls) ≡ true) →
          (error_at_last graph.edges (m ∷ ls) ≡ true → AreOwned (moved_to at l.0 e.target) →
          AreWon entries configurations Q (moved_to at l.0 e.target) ((l.0, command_of_edge graph.edges l.1) ∷ done) →
          IsGiven entries (reverse_aux (trace_of graph.edges (m ∷ ls)) ((l.0, command_of_edge graph.edges l.1) ∷ done)) false_atom) →
          IsGiven entries (reverse_aux (trace_of graph.edges (m ∷ ls)) ((l.0, command_of_edge graph.edges l.1) ∷ done)) false_atom
      on (h, last) go = go last (owned_after at owned l.1 l.0 e g source (off h))
          (subst (λ (m : ℕ × ℕ). AreWon entries configurations Q (moved_to at l.0 e.target) (m ∷ done)) (letter_is graph.edges l e g)
          (won_next at done owned won l.1 l.0 e g source (off h) occur.0))

-- before the first letter
abbrev IsInitialOf : ℕ → Entry → Type 0
IsInitialOf p (OfTriple t) = ⊥
IsInitialOf p (OfInitial i) = i.predicate ≡ p

pub has_or_not : (entries : List Entry) (p : ℕ) → HasInitial entries p ⊎ (HasInitial entries p → ⊥)
has_or_not entries p = on (some_or_none (IsInitialOf p) test entries)
  where
    test : (e : Entry) → IsInitialOf p e ⊎ (IsInitialOf p e → ⊥)
    test (OfTriple t) = inr (λ none_such. none_such)
    test (OfInitial i) = cases_eq i.predicate p

    found : (e : Entry) → Contains entries e → IsInitialOf p e → HasInitial entries p
    found (OfTriple t) i h = absurd h
    found (OfInitial j) i h = (j, i, h)

    on : ((e : Entry) × Contains entries e × IsInitialOf p e) ⊎ ((e : Entry) → Contains entries e → IsInitialOf p e → ⊥) → HasInitial entries p ⊎ (HasInitial entries p → ⊥)
    on (inl (e, i, h)) = inl (found e i h)
    on (inr none) = inr (λ (j, i, h). none (OfInitial j) i h)

-- a letter's thread takes an edge
taken : (k : ℕ) (ls : List (ℕ × ℕ)) (l : ℕ × ℕ) → l.0 ≡ k → 0 < length (edges_of k (l ∷ ls))
taken k ls l e = on (l.0 == k) (eq-eqb l.0 k e)
  where
    on : (b : Bool) → b ≡ true → 0 < length (map (λ (m : ℕ × ℕ). m.1) (if b then l ∷ filter (λ (m : ℕ × ℕ). m.0 == k) ls else filter (λ (m : ℕ × ℕ). m.0 == k) ls))
    on true h = omega arith
    on false h = let none_such : false ≡ true = h in cc

taken_later : (k : ℕ) (ls : List (ℕ × ℕ)) (l : ℕ × ℕ) → 0 < length (edges_of k ls) → 0 < length (edges_of k (l ∷ ls))
taken_later k ls l h = on (l.0 == k)
  where
    on : (b : Bool) → 0 < length (map (λ (m : ℕ × ℕ). m.1) (if b then l ∷ filter (λ (m : ℕ × ℕ). m.0 == k) ls else filter (λ (m : ℕ × ℕ). m.0 == k) ls))
    on true = omega arith
    on false = h

all_taken : (P : ℕ → Type 0) (ls : List (ℕ × ℕ)) → ((k : ℕ) → 0 < length (edges_of k ls) → P k) → AllByRecursion (λ (l : ℕ × ℕ). P l.0) ls
all_taken P [] h = tt
all_taken P (l ∷ ls) h = (h l.0 (taken l.0 ls l refl), all_taken P ls (λ k i. h k (taken_later k ls l i)))

-- where the configurations are closed, every error trace is proved
pub closed_proves : (graph : Graph) (entries : List Entry) (configurations : List Configuration) → AreTied entries →
    AvoidError configurations → IsClosed graph entries configurations →
    IsTrue (stay_in_bodies graph.owner graph.edges) → IsTrue (entries_owned graph.owner graph.entries) →
    (letters : List (ℕ × ℕ)) → IsErrorTrace graph letters → IsProved entries (trace_of graph.edges letters)
unfolding entries_owned
closed_proves graph entries configurations tied inside closed stay own letters trace =
    (rules_are_demands entries (trace_of graph.edges letters)).1 (
      some letters trace.error,
      won_all graph entries tied configurations inside closed Q body stay alone letters at [] located trace.error
          (all_taken Q letters (λ k h. h)) owned first,
    )
  where
    Q : ℕ → Type 0
    Q k = 0 < length (edges_of k letters)

    body : ℕ → ℕ
    body k = (trace.paths k).0

    at : ℕ → ℕ
    at k = slice_index_or graph.entries (body k) 0

    alone : (i j b : ℕ) → Q i → Q j → graph.once ≡ Some b → body i ≡ b → body j ≡ b → i ≡ j
    alone i j b p q once x y = trace.once i j
        (body i, once ∙ ap (λ (n : ℕ). let o : Option ℕ = Some n in o) (sym x), p, (trace.paths i).1)
        (body j, once ∙ ap (λ (n : ℕ). let o : Option ℕ = Some n in o) (sym y), q, (trace.paths j).1)

    located : Located graph.edges at letters
    located = located_of_paths graph.edges letters at (λ k. (trace.paths k).1.path)

    owned : (k : ℕ) → owner_of graph.owner (at k) ≡ Some (body k)
    owned k = owned_from 0 graph.owner graph.entries (body k) own (trace.paths k).1.exists
        ∙ ap (λ (n : ℕ). let o : Option ℕ = Some n in o) (let z : 0 + body k ≡ body k = omega arith in z)

    some : (ls : List (ℕ × ℕ)) → error_at_last graph.edges ls ≡ true → trace_of graph.edges ls ≢ []
    some [] h = let none_such : false ≡ true = h in cc
    some (l ∷ ls) h = λ e. cc

    first : AreWon entries configurations Q at []
    first c i f apart placed = on (some_or_none (λ (q : Atom). HasInitial entries q.predicate) (λ q. has_or_not entries q.predicate) c.atoms)
      where
        on : ((q : Atom) × Contains c.atoms q × HasInitial entries q.predicate) ⊎ ((q : Atom) → Contains c.atoms q → HasInitial entries q.predicate → ⊥) → IsWon entries [] f c
        on (inl (q, j, h)) = (q, j, h)
        on (inr none) = absurd (closed.never c i (record {
          entered = λ t a j. subst (λ (x : ℕ). Contains graph.entries x) (placed t a j).0
              (Contains-get_or graph.entries (body (f t)) 0 (trace.paths (f t)).1.exists);
          without = none;
        }))
