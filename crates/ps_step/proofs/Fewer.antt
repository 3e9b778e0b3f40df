-- Fewer entries demand less.
use Rattle.std.proofs.Common.{ℕ, List, Contains}
use Rattle.ps_atom.specs.declared.atom.Atom.{Atom}
use Rattle.ps_config.specs.Configurations.{Configuration}
use Rattle.ps_graph.specs.declared.graph.Graph.{Graph}
use Rattle.ps_step.specs.Steps.{Stands}
use Rattle.ps_triple.specs.Entries.{GivesAtom}
use Rattle.ps_triple.specs.declared.entry.Entry.{Entry}
use Rattle.ps_triple.specs.declared.entry.Entry.TheVariants.{Triple as OfTriple}

gives_more : (some all : List Entry) → ((entry : Entry) → Contains some entry → Contains all entry) → (thread command : ℕ) (a : List Atom) (q : Atom) → GivesAtom some thread command a q → GivesAtom all thread command a q
gives_more some all h thread command a q g = record { triple = g.triple; listed = h (OfTriple g.triple) g.listed; same = g.same; by = g.by }

pub stands_less : (graph : Graph) (some all : List Entry) (from to : Configuration) (number thread : ℕ) → ((entry : Entry) → Contains some entry → Contains all entry) →
    Stands graph all from number thread to → Stands graph some from number thread to
stands_less graph some all from to number thread h s = record {
  edge = s.edge;
  is_edge = s.is_edge;
  stands = record { goes = s.stands.goes; meets = λ q a i g. s.stands.meets q a i (gives_more some all h thread s.edge.command a q g) };
}
