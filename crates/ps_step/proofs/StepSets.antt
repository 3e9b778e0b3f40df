-- The least sets of a step are its smallest configurations.
use Rattle.std.proofs.Common.{◌≡◌, ◌<◌, ◌≤◌, ℕ, List, [], ◌∷◌, ◌++◌, length, get_or, map, refl, sym, ap, ◌∙◌, subst, inl, inr, Contains, Some, None, arith}
use Rattle.std.specs.Prelude.{◌↔◌, slice_get}
use Rattle.std.specs.Cmp.{IsTotalOrder}
use Rattle.std.specs.Cmp.Lexicographic.{slice_cmp, lists_total}
use Rattle.std.specs.List.Sorted.{IsStrictlyIncreasing, IsStrictlySortedBy}
use Rattle.std.specs.Ordering.{nat_cmp}
use Rattle.std.specs.declared.cmp.Ordering.{Ordering}
use Rattle.std.specs.declared.cmp.Ordering.TheVariants.{Less}
use Rattle.std.proofs.lemmas.Cmp.{nat_cmp_total}
use Rattle.std.proofs.lemmas.List.{append-nil, length-map}
use Rattle.std.proofs.lemmas.List.Elements.{Contains-append_cases, Contains-append_right}
use Rattle.std.proofs.lemmas.Option.{same_Some, slice_get_read}
use Rattle.ps_atom.specs.Atoms.{atom_cmp}
use Rattle.ps_atom.specs.declared.atom.Atom.{Atom}
use Rattle.ps_config.specs.Configurations.{Configuration, IsAt}
use Rattle.ps_config.specs.Forms.{HasThreadCount}
use Rattle.ps_config.specs.declared.config.TheConstants.{MOST_ATOMS, MOST_THREADS}
use Rattle.ps_config.specs.declared.wide.WideName.{WideName}
use Rattle.ps_config.specs.declared.wide.WideName.TheVariants.{Sets, Atoms, Threads}
use Rattle.ps_config.specs.declared.wide.WideStep.{WideStep}
use Rattle.ps_config.proofs.Bounded.{once_ascending}
use Rattle.ps_list.proofs.Mapped.{from_mapped, mapped}
use Rattle.ps_config.proofs.Once.{IsOnce, no_longer, once_sorted}
use Rattle.ps_graph.specs.declared.edge.Edge.{Edge}
use Rattle.ps_graph.specs.declared.graph.Graph.{Graph}
use Rattle.ps_list.proofs.Members.{nothing, cons_cases, here}
use Rattle.ps_step.specs.Steps.{GoesBack, IsSmallest}
use Rattle.ps_demand.proofs.PartedDemands.{all_demanded}
use Rattle.ps_demand.specs.Candidates.{candidates, demanded_of, pairs_of}
use Rattle.ps_demand.specs.Demands.{AreTied}
use Rattle.ps_demand.specs.declared.candidate.Candidate.{Candidate}
use Rattle.ps_step.specs.Wide.{HasMoreThan, IsNarrow, IsWideBy, IsWrittenStep}
use Rattle.ps_step.specs.declared.expand_end.TheConstants.{MOST_SETS}
use Rattle.ps_step.specs.declared.expansion.Successor.{Successor}
use Rattle.ps_demand.specs.Demands.{demands}
use Rattle.ps_demand.specs.Hitting.{IsLeastHit}
use Rattle.ps_step.specs.Places.{IsStepTo, located}
use Rattle.ps_step.specs.inner.Parts.{AddsStep, AreCandidatesOf, IsStep, IsWideAt}
use Rattle.ps_step.specs.inner.Sets.{AddsSets, AreAllOf, HasLength, HasThreadsWith, IsFirstOver, IsNamed, IsWideOf, IsWithin, successor_of}
use Rattle.ps_step.proofs.Going.{located_up, thread_cmp}
use Rattle.ps_step.proofs.Moved.{goes_same}
use Rattle.ps_demand.proofs.Atoms.{atoms_total}
use Rattle.ps_step.proofs.Same.{after_greater, map_sorted, same_sorted, total_asymmetric}
use Rattle.ps_step.proofs.Smallest.{at_edge, least_smallest, smallest_least}
use Rattle.ps_triple.specs.declared.entry.Entry.{Entry}

sets_total : IsTotalOrder (slice_cmp atom_cmp)
sets_total = lists_total atoms_total

abbrev by_atoms : Configuration → Configuration → Ordering
by_atoms a b = slice_cmp atom_cmp a.atoms b.atoms

-- so many threads is no more than so many
count_le : (c : Configuration) (m n : ℕ) → HasThreadCount c m → HasThreadCount c n → n ≤ m
count_le c m n hm hn =
    let le : length hn.0 ≤ length hm.0 = no_longer hn.0 hm.0 (once_ascending hn.0 hn.1.ascend) (λ t h. (hm.1.occurring t).1 ((hn.1.occurring t).0 h)) in
    omega (arith, le, hm.2, hn.2)

first_of : {P : Configuration → Type 0} (list : List Configuration) → MOST_SETS < length list → ((c : Configuration) → Contains list c → P c) → (c : Configuration) × P c
first_of [] more h = absurd (let f : ⊥ = omega (arith, more) in f)
first_of (c ∷ list) more h = (c, h c (here c list))

-- a step without a smallest configuration passes no limit
pub narrow_of_none : (graph : Graph) (entries : List Entry) (from : Configuration) (number thread : ℕ) → ((to : Configuration) → ¬ IsWrittenStep graph entries from number thread to) → IsNarrow graph entries from number thread
narrow_of_none graph entries from number thread never Sets count w = (let f = first_of w.0.list w.0.more w.0.are in never f.0 f.1)
narrow_of_none graph entries from number thread never Atoms count w = never w.1.to w.1.written
narrow_of_none graph entries from number thread never Threads count w = never w.2.to w.2.written

module _ (graph : Graph) (entries : List Entry) (from : Configuration) (edge : Edge) (number thread : ℕ) (tied : AreTied entries) (is : slice_get graph.edges number ≡ Some edge) where
  goes_of : (to : Configuration) → IsSmallest graph entries from number thread to → GoesBack graph from edge thread to
  goes_of to s = (at_edge graph entries from to edge number thread is s.stands).goes

  -- ---- a step that doesn't go back

  none_written : ((to : Configuration) → ¬ GoesBack graph from edge thread to) → (to : Configuration) → ¬ IsWrittenStep graph entries from number thread to
  none_written never to w = never to (goes_of to w.smallest)

  none_up : IsStrictlySortedBy (λ (a b : Successor). slice_cmp atom_cmp a.config.atoms b.config.atoms) []
  unfolding IsStrictlySortedBy
  none_up = tt

  pub adds_none : (old : List Successor) → ((to : Configuration) → ¬ GoesBack graph from edge thread to) → AddsStep graph entries from number thread old old
  adds_none old never = (
    [],
    sym (append-nil old),
    record {
      ordered = none_up;
      are = λ s h. absurd (nothing s h);
      every = λ to s. absurd (never to (goes_of to s));
      narrow = narrow_of_none graph entries from number thread (none_written never);
    },
  )

  -- ---- one that does

  module _ (at : List (ℕ × ℕ)) (up : IsStrictlyIncreasing (map (λ (p : ℕ × ℕ). p.0) at)) (goes : GoesBack graph from edge thread (located at)) where
    abbrev made : List Atom → Configuration
    made set = record { at = at; atoms = set }

    abbrev wanted : List (List Atom)
    wanted = demands entries from.atoms thread edge.command

    smallest_made : (set : List Atom) → IsLeastHit wanted set → IsSmallest graph entries from number thread (made set)
    smallest_made set least = least_smallest graph entries from (made set) edge number thread tied is (goes_same graph from (located at) (made set) edge thread (λ t l h. h) (λ t l h. h) goes) least

    least_of_smallest : (to : Configuration) → IsSmallest graph entries from number thread to → IsLeastHit wanted to.atoms
    least_of_smallest to s =
        subst (λ (e : Edge). IsLeastHit (demands entries from.atoms thread e.command) to.atoms) (same_Some s.stands.edge edge (sym s.stands.is_edge ∙ is)) (smallest_least graph entries from to number thread tied s)

    same_at : (to : Configuration) → IsSmallest graph entries from number thread to → (t l : ℕ) → Contains at (t, l) ↔ IsAt to t l
    same_at to s t l = ((λ h. ((goes_of to s).is t l).1 ((goes.is t l).0 h)), (λ h. (goes.is t l).1 (((goes_of to s).is t l).0 h)))

    written_at : (to : Configuration) → IsWrittenStep graph entries from number thread to → to.at ≡ at
    written_at to w =
        same_sorted thread_cmp (λ p q. total_asymmetric nat_cmp nat_cmp_total p.0 q.0) to.at at (located_up to.at w.located) (located_up at up)
        (λ p h. (same_at to w.smallest p.0 p.1).1 h) (λ p h. (same_at to w.smallest p.0 p.1).0 h)

    written_made : (set : List Atom) → IsLeastHit wanted set → IsStrictlySortedBy atom_cmp set → IsWrittenStep graph entries from number thread (made set)
    written_made set least ascend = record { smallest = smallest_made set least; located = up; ordered = ascend }

    written_in : (sets : List (List Atom)) → AreAllOf wanted sets → (to : Configuration) → IsWrittenStep graph entries from number thread to → Contains sets to.atoms
    written_in sets all to w =
        let found = all.all to.atoms (least_of_smallest to w.smallest) in
        subst (λ (set : List Atom). Contains sets set)
        (same_sorted atom_cmp (total_asymmetric atom_cmp atoms_total) found.0 to.atoms (all.least.ascend found.0 found.1) w.ordered (λ q h. found.3 q h) (λ q h. found.2 q h)) found.1

    -- ---- no limit is passed

    not_more : (sets : List (List Atom)) → AreAllOf wanted sets → ¬ HasMoreThan MOST_SETS graph entries from number thread
    not_more sets all m =
        let atoms : List (List Atom) = map (λ (c : Configuration). c.atoms) m.list in
        let once : IsOnce atoms = once_sorted (slice_cmp atom_cmp) (λ xs h. total_asymmetric (slice_cmp atom_cmp) sets_total xs xs h h) atoms
        (map_sorted by_atoms (slice_cmp atom_cmp) (λ (c : Configuration). c.atoms) (λ a b. refl) m.list m.ordered) in
        let le : length atoms ≤ length sets = no_longer atoms sets once (λ set h. (let w = from_mapped (λ (c : Configuration). c.atoms) m.list set h in
        subst (λ (xs : List Atom). Contains sets xs) w.2 (written_in sets all w.0 (m.are w.0 w.1)))) in
        let long : length atoms ≡ length m.list = length-map m.list (λ (c : Configuration). c.atoms) in
        let more : MOST_SETS < length m.list = m.more in
        let few : length sets ≤ MOST_SETS = all.few in
        let f : ⊥ = omega (arith, le, long, more, few) in f

    atoms_within : (sets : List (List Atom)) → AreAllOf wanted sets → IsFirstOver MOST_ATOMS HasLength sets None → (to : Configuration) → IsWrittenStep graph entries from number thread to → length to.atoms ≤ MOST_ATOMS
    atoms_within sets all within to w = (let n = within to.atoms (written_in sets all to w) in subst (λ (k : ℕ). k ≤ MOST_ATOMS) (sym n.1) n.2)

    threads_within : (list : List (List Atom)) (c : Configuration) (n : ℕ) → c.at ≡ at → ((m : ℕ) × HasThreadsWith at c.atoms m × (m ≤ MOST_THREADS)) → HasThreadCount c n → n ≤ MOST_THREADS
    threads_within list c n is_at found has =
        let there_are : HasThreadCount c found.0 = subst (λ (ps : List (ℕ × ℕ)). HasThreadCount (record { at = ps; atoms = c.atoms }) found.0) (sym is_at) found.1 in
        let le : n ≤ found.0 = count_le c found.0 n there_are has in
        omega (arith, le, found.2)

    narrow_of : (sets : List (List Atom)) → AreAllOf wanted sets → IsWithin at sets → IsNarrow graph entries from number thread
    narrow_of sets all within Sets count w = not_more sets all w.0
    narrow_of sets all within Atoms count w =
        let le : length w.1.to.atoms ≤ MOST_ATOMS = atoms_within sets all within.0 w.1.to w.1.written in
        let more : MOST_ATOMS < count = w.1.above in
        let same : length w.1.to.atoms ≡ count = w.1.is in
        let f : ⊥ = omega (arith, le, more, same) in f
    narrow_of sets all within Threads count w =
        let le : count ≤ MOST_THREADS = threads_within sets w.2.to count (written_at w.2.to w.2.written) (within.1 w.2.to.atoms (written_in sets all w.2.to w.2.written)) w.2.is in
        let more : MOST_THREADS < count = w.2.above in
        let f : ⊥ = omega (arith, le, more) in f

    pub adds_sets : (old new : List Successor) → AddsSets wanted at number thread old new → AddsStep graph entries from number thread old new
    adds_sets old new a = (
      map (successor_of number thread at) a.sets,
      a.added,
      record {
        ordered = map_sorted (slice_cmp atom_cmp) (λ (s t : Successor). slice_cmp atom_cmp s.config.atoms t.config.atoms) (successor_of number thread at) (λ x y. refl) a.sets a.are.least.ordered;
        are = λ s h. (let w = from_mapped (successor_of number thread at) a.sets s h in
            subst (λ (t : Successor). IsStep number thread t.edge t.thread × IsSmallest graph entries from number thread t.config) w.2 ((refl, refl), smallest_made w.0 (a.are.least.least w.0 w.1)));
        every = λ to s. (let found = a.are.all to.atoms (least_of_smallest to s) in
            (successor_of number thread at found.0, mapped (successor_of number thread at) a.sets found.0 found.1, record { at = same_at to s; atoms = λ q. (found.3 q, found.2 q) }));
        narrow = narrow_of a.sets a.are a.within;
      },
    )

    -- ---- a limit is passed

    in_sets : (sets before after : List (List Atom)) (set : List Atom) → before ++ set ∷ after ≡ sets → Contains sets set
    in_sets sets before after set parts = subst (λ (xs : List (List Atom)). Contains xs set) parts (Contains-append_right before (set ∷ after) set (here set after))

    earlier : (sets before after : List (List Atom)) (set other : List Atom) → before ++ set ∷ after ≡ sets → IsStrictlySortedBy (slice_cmp atom_cmp) sets → Contains sets other → slice_cmp atom_cmp other set ≡ Less → Contains before other
    earlier sets before after set other parts ordered h less = elim (Contains-append_cases before (set ∷ after) other (subst (λ (xs : List (List Atom)). Contains xs other) (sym parts) h)) [
      | inl first ↦ first
      | inr rest ↦ elim (cons_cases set after other rest) [
        | inl same ↦ (let itself : slice_cmp atom_cmp other other ≡ Less = subst (λ (xs : List Atom). slice_cmp atom_cmp other xs ≡ Less) same less in absurd (total_asymmetric (slice_cmp atom_cmp) sets_total other other itself itself))
        | inr later ↦ absurd (total_asymmetric (slice_cmp atom_cmp) sets_total other set less (after_greater (slice_cmp atom_cmp) before after set other (subst (λ (xs : List (List Atom)). IsStrictlySortedBy (slice_cmp atom_cmp) xs) (sym parts) ordered) later))
      ]
    ]

    pub wide_of : (what : WideName) (count : ℕ) → IsWideOf wanted at what count → IsWideBy graph entries from number thread what count
    wide_of Sets count w = (
      record {
        list = map made w.0;
        are = λ to h. (let v = from_mapped made w.0 to h in subst (λ (c : Configuration). IsWrittenStep graph entries from number thread c) v.2 (written_made v.0 (w.1.least v.0 v.1) (w.1.ascend v.0 v.1)));
        ordered = map_sorted (slice_cmp atom_cmp) by_atoms made (λ x y. refl) w.0 w.1.ordered;
        more = (let long : length (map made w.0) ≡ length w.0 = length-map w.0 made in let more : MOST_SETS < length w.0 = w.2 in omega (arith, long, more));
      },
      w.3,
    )
    wide_of Atoms count (sets, all, (before, set, after, parts, has, above, fine)) = (
      not_more sets all,
      record {
        to = made set;
        written = written_made set (all.least.least set (in_sets sets before after set parts)) (all.least.ascend set (in_sets sets before after set parts));
        is = has;
        above = above;
        before = λ c n w less size.
            let found = fine c.atoms (earlier sets before after set c.atoms parts all.least.ordered (written_in sets all c w) less) in
            let same : length c.atoms ≡ n = size in
            omega (arith, found.1, found.2, same);
      },
    )
    wide_of Threads count (sets, all, (fine_atoms, (before, set, after, parts, has, above, fine))) = (
      not_more sets all,
      atoms_within sets all fine_atoms,
      record {
        to = made set;
        written = written_made set (all.least.least set (in_sets sets before after set parts)) (all.least.ascend set (in_sets sets before after set parts));
        is = has;
        above = above;
        before = λ c n w less size. threads_within sets c n (written_at c w) (fine c.atoms (earlier sets before after set c.atoms parts all.least.ordered (written_in sets all c w) less)) size;
      },
    )

-- ---- the step as the code has it

pub edge_at : (graph : Graph) (edges : List Edge) (number : ℕ) (edge : Edge) → edges ≡ graph.edges → number < length graph.edges → edge ≡ get_or edges number edge → slice_get graph.edges number ≡ Some edge
edge_at graph edges number edge are within is =
    subst (λ (es : List Edge). slice_get es number ≡ Some edge) are (slice_get_read edges (length edges) number edge refl (subst (λ (es : List Edge). number < length es) (sym are) within) is)

pub no_step : (graph : Graph) (entries : List Entry) (from : Configuration) (edge : Edge) (number thread : ℕ) (old : List Successor) → AreTied entries → slice_get graph.edges number ≡ Some edge →
    IsStepTo graph from edge thread None → AddsStep graph entries from number thread old old
no_step graph entries from edge number thread old tied is never = adds_none graph entries from edge number thread tied is old never

-- the candidates of an edge demand what its step does
demanded_is : (entries : List Entry) (atoms : List Atom) (thread command : ℕ) (pairs : List (Atom × Entry)) → pairs ≡ candidates entries atoms command → demanded_of thread command pairs ≡ demands entries atoms thread command
demanded_is entries atoms thread command pairs same = ap (demanded_of thread command) same ∙ all_demanded thread command entries atoms

pub step_adds : (graph : Graph) (entries : List Entry) (from : Configuration) (edge : Edge) (number thread : ℕ) (old new : List Successor) (at slice : List (ℕ × ℕ)) (pairs : List (Atom × Entry)) → AreTied entries → slice_get graph.edges number ≡ Some edge →
    IsStepTo graph from edge thread (Some at) → slice ≡ at → pairs ≡ candidates entries from.atoms edge.command → AddsSets (demanded_of thread edge.command pairs) slice number thread old new → AddsStep graph entries from number thread old new
step_adds graph entries from edge number thread old new at slice pairs tied is to viewed same a =
    adds_sets graph entries from edge number thread tied is at to.0 to.1 old new
    (subst (λ (ps : List (ℕ × ℕ)). AddsSets (demands entries from.atoms thread edge.command) ps number thread old new) viewed
    (subst (λ (ds : List (List Atom)). AddsSets ds slice number thread old new) (demanded_is entries from.atoms thread edge.command pairs same) a))

pub step_wide : (graph : Graph) (entries : List Entry) (from : Configuration) (edge : Edge) (number thread : ℕ) (at slice : List (ℕ × ℕ)) (pairs : List (Atom × Entry)) → AreTied entries → slice_get graph.edges number ≡ Some edge →
    IsStepTo graph from edge thread (Some at) → slice ≡ at → pairs ≡ candidates entries from.atoms edge.command → (w : WideStep) → IsNamed number thread (IsWideOf (demanded_of thread edge.command pairs) slice) w → IsWideAt graph entries from number thread w
step_wide graph entries from edge number thread at slice pairs tied is to viewed same w named = (
  named.0,
  named.1,
  wide_of graph entries from edge number thread tied is at to.0 to.1 w.what w.count
      (subst (λ (ps : List (ℕ × ℕ)). IsWideOf (demands entries from.atoms thread edge.command) ps w.what w.count) viewed
      (subst (λ (ds : List (List Atom)). IsWideOf ds slice w.what w.count) (demanded_is entries from.atoms thread edge.command pairs same) named.2)),
)

-- ---- the candidates of an edge

pub candidates_are : (graph : Graph) (entries : List Entry) (from : Configuration) (edge : Edge) (number : ℕ) (list slice : List Candidate) (atoms : List Atom) → slice_get graph.edges number ≡ Some edge → atoms ≡ from.atoms → slice ≡ list → pairs_of list ≡ candidates entries atoms edge.command
    → AreCandidatesOf graph entries from number (pairs_of slice)
candidates_are graph entries from edge number list slice atoms is same viewed are other other_is =
    let one : edge ≡ other = some_is edge other (sym is ∙ other_is) in
    ap pairs_of viewed ∙ are ∙ ap (λ (qs : List Atom). candidates entries qs edge.command) same ∙ ap (λ (e : Edge). candidates entries from.atoms e.command) one
  where
    some_is : (x y : Edge) → Some x ≡ Some y → x ≡ y
    some_is x y e = cc
