-- The worked example of a counter.
use Rattle.std.proofs.Common.{◌≡◌, ◌≢◌, ◌<◌, ◌+◌, ℕ, zero, suc, ◌==◌, List, [], ◌∷◌, map, refl, sym, ap, ap₂, ◌∙◌, subst, inl, inr, ◌⊎◌, Contains, All, Option, Some, None, arith, if◌then◌else◌}
use Rattle.std.specs.Prelude.{slice_get}
use Rattle.std.proofs.lemmas.List.Elements.{All-contains, All-from_recursion}
use Rattle.std.proofs.lemmas.Option.{same_Some}
use Rattle.ps_atom.specs.Atoms.{renamed}
use Rattle.ps_atom.specs.declared.atom.Atom.{Atom}
use Rattle.ps_triple.specs.Examples.{bare, counter_entries}
use Rattle.ps_config.specs.Configurations.{Configuration, IsAt, Covers}
use Rattle.ps_config.specs.Forms.{start_configuration}
use Rattle.ps_graph.specs.Examples.Connections.{edge, counter_edges}
use Rattle.ps_graph.specs.declared.edge.Edge.{Edge}
use Rattle.ps_graph.specs.declared.graph.Graph.{Graph}
use Rattle.ps_list.proofs.Members.{nothing, cons_cases, here}
use Rattle.ps_step.specs.Examples.{IsCounterGraph, placed}
use Rattle.ps_step.specs.Steps.{IsDue, IsNowhere, HasOneInOnce, GoesBack, MeetsDemands, StandsBy, Stands, IsSmallest}
use Rattle.ps_step.specs.inner.Back.{moved_at}
use Rattle.ps_step.proofs.Moved.{moved_at_is, pair_is}
use Rattle.ps_triple.specs.Entries.{GivesAtom, HasInitial}
use Rattle.ps_triple.specs.declared.entry.Entry.{Entry}
use Rattle.ps_triple.specs.declared.entry.Entry.TheVariants.{Triple as OfTriple, Initial as OfInitial}
use Rattle.ps_triple.specs.declared.triple.Triple.{Triple}

-- ---- its triples

-- the predicate before, of a command and the predicate after
abbrev pub before : ℕ → ℕ → ℕ
before command after = if command == 2 then 1 else if command == 1 then after else 2

abbrev Leads : Entry → Type 0
Leads (OfTriple t) = (t.pre ≡ bare (before t.command t.post.predicate) ∷ []) × (t.post.threads ≡ [])
Leads (OfInitial i) = i.predicate ≡ 2

all_lead : All Leads counter_entries
all_lead = All-from_recursion Leads counter_entries (refl, ((refl, refl), ((refl, refl), ((refl, refl), ((refl, refl), ((refl, refl), tt))))))

-- each renamed triple has the one atom before that its command and its atom after say
pub given : (thread command : ℕ) (a : List Atom) (q : Atom) → GivesAtom counter_entries thread command a q → a ≡ bare (before command q.predicate) ∷ []
given thread command a q g =
    let is : Leads (OfTriple g.triple) = All-contains Leads counter_entries (OfTriple g.triple) all_lead g.listed in
    g.by.pre ∙ (ap (λ (qs : List Atom). map (renamed g.by.new) qs) is.0
    ∙ ap₂ (λ (c p : ℕ). bare (before c p) ∷ []) g.same (ap (λ (r : Atom). r.predicate) (sym g.by.post)))

-- each triple is one of any thread
pub demanded : (thread : ℕ) (t : Triple) → Contains counter_entries (OfTriple t) → GivesAtom counter_entries thread t.command (bare (before t.command t.post.predicate) ∷ []) t.post
demanded thread t listed =
    let is : Leads (OfTriple t) = All-contains Leads counter_entries (OfTriple t) all_lead listed in
    record {
      triple = t;
      listed = listed;
      same = refl;
      by = record {
        new = λ n. n + thread;
        apart = λ m n _ _ e. let same : m ≡ n = omega (arith, e) in same;
        runs = let same : 0 + thread ≡ thread = omega arith in same;
        pre = sym (ap (λ (qs : List Atom). map (renamed (λ n. n + thread)) qs) is.0);
        post = ap (λ (ts : List ℕ). let q : Atom = record { predicate = t.post.predicate; threads = ts } in q) (is.1 ∙ sym (ap (λ (ts : List ℕ). map (λ n. n + thread) ts) is.1));
      };
    }

pub not_initial : (predicate : ℕ) → predicate ≢ 2 → ¬ HasInitial counter_entries predicate
not_initial predicate other (i, listed, is) = other (sym is ∙ All-contains Leads counter_entries (OfInitial i) all_lead listed)

pub two_is_initial : HasInitial counter_entries 2
two_is_initial = (record { predicate = 2; lambda = 0 ∷ 1 ∷ 1 ∷ [] }, (0, (let l : 0 < 6 = omega arith in l), refl), refl)

abbrev pub finds : Triple
finds = record { pre = bare 1 ∷ []; command = 2; post = bare 0; lambda = 1 ∷ 1 ∷ 0 ∷ []; ascends = refl }

abbrev pub adds : Triple
adds = record { pre = bare 2 ∷ []; command = 0; post = bare 1; lambda = 1 ∷ 1 ∷ []; ascends = refl }

abbrev pub passes : Triple
passes = record { pre = bare 1 ∷ []; command = 1; post = bare 1; lambda = 1 ∷ 0 ∷ 1 ∷ []; ascends = refl }

abbrev pub keeps : Triple
keeps = record { pre = bare 2 ∷ []; command = 0; post = bare 2; lambda = 1 ∷ 1 ∷ []; ascends = refl }

abbrev pub passes_too : Triple
passes_too = record { pre = bare 2 ∷ []; command = 1; post = bare 2; lambda = 1 ∷ 0 ∷ 1 ∷ []; ascends = refl }

pub has_finds : Contains counter_entries (OfTriple finds)
has_finds = (1, (let l : 1 < 6 = omega arith in l), refl)

pub has_adds : Contains counter_entries (OfTriple adds)
has_adds = (2, (let l : 2 < 6 = omega arith in l), refl)

pub has_passes : Contains counter_entries (OfTriple passes)
has_passes = (3, (let l : 3 < 6 = omega arith in l), refl)

pub has_keeps : Contains counter_entries (OfTriple keeps)
has_keeps = (4, (let l : 4 < 6 = omega arith in l), refl)

pub has_passes_too : Contains counter_entries (OfTriple passes_too)
has_passes_too = (5, (let l : 5 < 6 = omega arith in l), refl)

-- ---- demands of one atom

pub only : {X : Type 0} (x y : X) → Contains (x ∷ []) y → x ≡ y
only x y h = elim (cons_cases x [] y h) [ inl is ↦ is | inr none ↦ absurd (nothing y none) ]

pub met : (at : List (ℕ × ℕ)) (t : Triple) (thread : ℕ) (to : Configuration) → Contains to.atoms (bare (before t.command t.post.predicate)) →
    MeetsDemands counter_entries (placed at (t.post ∷ [])) thread t.command to
met at t thread to has q a within g =
    let wanted : Atom = bare (before t.command t.post.predicate) in
    let is : a ≡ wanted ∷ [] = given thread t.command a q g ∙ ap (λ (r : Atom). bare (before t.command r.predicate) ∷ []) (sym (only t.post q within)) in
    (wanted, subst (λ (qs : List Atom). Contains qs wanted) (sym is) (here wanted []), has)

pub demand_met : (at : List (ℕ × ℕ)) (t : Triple) (thread : ℕ) (to : Configuration) → Contains counter_entries (OfTriple t) →
    MeetsDemands counter_entries (placed at (t.post ∷ [])) thread t.command to → Contains to.atoms (bare (before t.command t.post.predicate))
demand_met at t thread to listed meets =
    let wanted : Atom = bare (before t.command t.post.predicate) in
    let m : (p : Atom) × Contains (wanted ∷ []) p × Contains to.atoms p = meets t.post (wanted ∷ []) (here t.post []) (demanded thread t listed) in
    subst (λ (q : Atom). Contains to.atoms q) (sym (only wanted m.0 m.1)) m.2

-- ---- coverings by one thread

pub one_covers : (l p : ℕ) (to : Configuration) (k : ℕ) → IsAt to k l → Contains to.atoms (bare p) → Covers (placed ((0, l) ∷ []) (bare p ∷ [])) to
one_covers l p to k at has = (
  (λ t. t + k),
  record {
    apart = λ s t _ _ e. let same : s ≡ t = omega (arith, e) in same;
    located = λ t m h.
        let is : (let a : ℕ × ℕ = (0, l) in let b : ℕ × ℕ = (t, m) in a ≡ b) = only (0, l) (t, m) h in
        let thread : 0 ≡ t = ap (λ (q : ℕ × ℕ). q.0) is in
        subst (λ (q : ℕ × ℕ). Contains to.at q) (pair_is k l (t + k) m (omega (arith, thread)) (ap (λ (q : ℕ × ℕ). q.1) is)) at;
    atoms = λ q h. subst (λ (r : Atom). Contains to.atoms (renamed (λ t. t + k) r)) (only (bare p) q h) has;
  },
)

-- ---- which edges and starts there are

abbrev first_location : List (ℕ × ℕ) → ℕ
first_location [] = 0
first_location (p ∷ ps) = p.1

pub not_start : (location p : ℕ) → location ≢ 1 → placed ((0, location) ∷ []) (bare p ∷ []) ≢ start_configuration
not_start location p other e = other (ap (λ (c : Configuration). first_location c.at) e)

pub edge_cases : (n : ℕ) (e : Edge) → slice_get counter_edges n ≡ Some e → (edge 0 3 0 ≡ e) ⊎ (edge 3 2 1 ≡ e) ⊎ (edge 3 1 2 ≡ e)
edge_cases zero e h = inl (same_Some (edge 0 3 0) e h)
edge_cases (suc zero) e h = inr (inl (same_Some (edge 3 2 1) e h))
edge_cases (suc (suc zero)) e h = inr (inr (same_Some (edge 3 1 2) e h))
edge_cases (suc (suc (suc n))) e h = absurd (let f : ⊥ = cc in f)

module _ (how_many : Option ℕ) (graph : Graph) (is : IsCounterGraph how_many graph) where
  pub is_edge : (number : ℕ) (e : Edge) → slice_get counter_edges number ≡ Some e → slice_get graph.edges number ≡ Some e
  is_edge number e h = ap (λ (es : List Edge). slice_get es number) is.edges ∙ h

  pub stands_by : (from to : Configuration) (number thread : ℕ) (e : Edge) → slice_get counter_edges number ≡ Some e →
      Stands graph counter_entries from number thread to → StandsBy graph counter_entries from e thread to
  stands_by from to number thread e h s =
      subst (λ (f : Edge). StandsBy graph counter_entries from f thread to) (same_Some s.edge e (sym s.is_edge ∙ is_edge number e h)) s.stands

  pub stands : (from to : Configuration) (number thread : ℕ) (e : Edge) → slice_get counter_edges number ≡ Some e →
      StandsBy graph counter_entries from e thread to → Stands graph counter_entries from number thread to
  stands from to number thread e h s = record { edge = e; is_edge = is_edge number e h; stands = s }

  -- the one atom that is demanded makes the configuration a smallest one
  pub smallest : (at to_at : List (ℕ × ℕ)) (t : Triple) (source target number thread : ℕ) → slice_get counter_edges number ≡ Some (edge source target t.command) →
      Contains counter_entries (OfTriple t) → GoesBack graph (placed at (t.post ∷ [])) (edge source target t.command) thread (placed to_at (bare (before t.command t.post.predicate) ∷ [])) →
      IsSmallest graph counter_entries (placed at (t.post ∷ [])) number thread (placed to_at (bare (before t.command t.post.predicate) ∷ []))
  smallest at to_at t source target number thread h listed goes =
      let from : Configuration = placed at (t.post ∷ []) in
      let e : Edge = edge source target t.command in
      let wanted : Atom = bare (before t.command t.post.predicate) in
      record {
        stands = stands from (placed to_at (wanted ∷ [])) number thread e h (record { goes = goes; meets = met at t thread (placed to_at (wanted ∷ [])) (here wanted []) });
        least = λ atoms part s q within.
            let has : Contains atoms wanted = demand_met at t thread (placed to_at atoms) listed (stands_by from (placed to_at atoms) number thread e h s).meets in
            subst (λ (r : Atom). Contains atoms r) (only wanted q within) has;
      }

  pub any_number : how_many ≡ None → (c : Configuration) → HasOneInOnce graph c
  any_number none c s t l m hs ht (body, once, owns) other =
      absurd (let no_such : None ≡ Some body = sym none ∙ (sym is.at_most_one ∙ once) in let f : ⊥ = cc in f)

  pub goes : (from : Configuration) (e : Edge) (thread : ℕ) (atoms : List Atom) → IsDue from e thread → IsAt from thread e.target ⊎ IsNowhere from thread →
      HasOneInOnce graph (placed (moved_at from.at thread e.source) atoms) → GoesBack graph from e thread (placed (moved_at from.at thread e.source) atoms)
  goes from e thread atoms due was one = record { due = due; was = was; is = moved_at_is from thread e.source atoms; once = one }
