-- The smallest configurations of one step are the least hitting sets of its demands.
use Rattle.std.proofs.Common.{◌≡◌, ℕ, List, sym, ◌∙◌, subst, ◌⊎◌, Contains}
use Rattle.std.specs.Prelude.{slice_get, Some}
use Rattle.std.proofs.lemmas.Option.{same_Some}
use Rattle.ps_atom.specs.declared.atom.Atom.{Atom}
use Rattle.ps_config.specs.Configurations.{Configuration, IsAt, threads_at, Covers}
use Rattle.ps_config.proofs.Covering.{covers_more, covers_twice}
use Rattle.ps_graph.specs.declared.edge.Edge.{Edge}
use Rattle.ps_graph.specs.declared.graph.Graph.{Graph}
use Rattle.ps_triple.specs.declared.entry.Entry.{Entry}
use Rattle.ps_demand.specs.Demands.{demands}
use Rattle.ps_demand.specs.Hitting.{HitsAll, IsLeastHit}
use Rattle.ps_step.specs.Steps.{GoesBack, StandsBy, Stands, IsSmallest}
use Rattle.ps_demand.specs.Demands.{AreTied}
use Rattle.ps_step.proofs.Demanding.{meets_hits, hits_meets}
use Rattle.ps_step.proofs.Least.{least_of}
use Rattle.ps_demand.proofs.Atoms.{atoms_or_not}
use Rattle.ps_step.proofs.Moved.{goes_same}
use Rattle.ps_step.proofs.Pulled.{by_any}

-- ---- the step alone

same_places : (graph : Graph) (from a b : Configuration) (edge : Edge) (thread : ℕ) → GoesBack graph from edge thread a → GoesBack graph from edge thread b → (t l : ℕ) → IsAt a t l → IsAt b t l
same_places graph from a b edge thread ga gb t l h = (gb.is t l).1 ((ga.is t l).0 h)

stands_hits : (graph : Graph) (entries : List Entry) (from to : Configuration) (edge : Edge) (thread : ℕ) → AreTied entries → StandsBy graph entries from edge thread to → HitsAll (demands entries from.atoms thread edge.command) to.atoms
stands_hits graph entries from to edge thread tied s = meets_hits entries from to thread edge.command tied s.meets

hits_stands : (graph : Graph) (entries : List Entry) (from to : Configuration) (edge : Edge) (thread : ℕ) → AreTied entries → GoesBack graph from edge thread to → HitsAll (demands entries from.atoms thread edge.command) to.atoms
    → StandsBy graph entries from edge thread to
hits_stands graph entries from to edge thread tied g h = record { goes = g; meets = hits_meets entries from to thread edge.command tied h }

-- the step of this number is along this edge
pub at_edge : (graph : Graph) (entries : List Entry) (from to : Configuration) (edge : Edge) (number thread : ℕ) → slice_get graph.edges number ≡ Some edge → Stands graph entries from number thread to → StandsBy graph entries from edge thread to
at_edge graph entries from to edge number thread is s = subst (λ (e : Edge). StandsBy graph entries from e thread to) (same_Some s.edge edge (sym s.is_edge ∙ is)) s.stands

-- a least hitting set makes a smallest configuration
pub least_smallest : (graph : Graph) (entries : List Entry) (from to : Configuration) (edge : Edge) (number thread : ℕ) → AreTied entries → slice_get graph.edges number ≡ Some edge → GoesBack graph from edge thread to
    → IsLeastHit (demands entries from.atoms thread edge.command) to.atoms → IsSmallest graph entries from number thread to
least_smallest graph entries from to edge number thread tied is goes least = record {
  stands = record { edge = edge; is_edge = is; stands = hits_stands graph entries from to edge thread tied goes least.hits };
  least = λ part sub s. least.least part sub (stands_hits graph entries from (record { at = to.at; atoms = part }) edge thread tied (at_edge graph entries from (record { at = to.at; atoms = part }) edge number thread is s));
}

pub smallest_least : (graph : Graph) (entries : List Entry) (from to : Configuration) (number thread : ℕ) → AreTied entries → (s : IsSmallest graph entries from number thread to)
    → IsLeastHit (demands entries from.atoms thread s.stands.edge.command) to.atoms
smallest_least graph entries from to number thread tied s = record {
  hits = stands_hits graph entries from to s.stands.edge thread tied s.stands.stands;
  least = λ part sub h. s.least part sub (record {
    edge = s.stands.edge;
    is_edge = s.stands.is_edge;
    stands = hits_stands graph entries from (record { at = to.at; atoms = part }) s.stands.edge thread tied
        (goes_same graph from to (record { at = to.at; atoms = part }) s.stands.edge thread (λ t l h. h) (λ t l h. h) s.stands.stands.goes) h;
  });
}

-- ---- each that stands has a smallest one

pub has_smallest : (graph : Graph) (entries : List Entry) (from to : Configuration) (number thread : ℕ) → AreTied entries → Stands graph entries from number thread to
    → (less : Configuration) × IsSmallest graph entries from number thread less × Covers less to
has_smallest graph entries from to number thread tied s =
    let w = least_of atoms_or_not (λ (xs : List Atom). Unit {0}) (λ p xs k. tt) (demands entries from.atoms thread s.edge.command) to.atoms tt (stands_hits graph entries from to s.edge thread tied s.stands) in
    let less : Configuration = record { at = to.at; atoms = w.0 } in
    (less, least_smallest graph entries from less s.edge number thread tied s.is_edge (goes_same graph from to less s.edge thread (λ t l h. h) (λ t l h. h) s.stands.goes) w.2, covers_more less to (λ t l h. h) (λ q h. w.3 q h))

-- what stands by any thread is covered by a smallest one, by a thread that occurs or by the fresh one
pub covered_by_smallest : (graph : Graph) (entries : List Entry) (from to : Configuration) (number thread fresh : ℕ) → AreTied entries
    → (¬ Contains (threads_at from) fresh) → Stands graph entries from number thread to
    → (k : ℕ) × (less : Configuration) × (Contains (threads_at from) k ⊎ (k ≡ fresh)) × IsSmallest graph entries from number k less × Covers less to
covered_by_smallest graph entries from to number thread fresh tied free s =
    let w = by_any graph entries from to s.edge thread fresh tied free s.stands in
    let v = has_smallest graph entries from w.1 number w.0 tied (record { edge = s.edge; is_edge = s.is_edge; stands = w.3 }) in
    (w.0, v.0, w.2, v.1, covers_twice v.0 w.1 to v.2 w.4)
