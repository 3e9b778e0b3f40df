-- A graph that is compiled of a program is a graph of it.
use Rattle.std.proofs.Common.{◌≡◌, ℕ, suc, ◌<◌, List, [], ◌∷◌, arith}
use Rattle.std.specs.List.{AllByRecursion}
use Rattle.ps_command.specs.declared.command.Command.{Command}
use Rattle.ps_compile.proofs.Initials.{initial_rows}
use Rattle.ps_compile.proofs.Laying.{realised_at, body_begins, none_leaves, all_in}
use Rattle.ps_compile.proofs.Spots.{body_apart, none_at_end}
use Rattle.ps_compile.specs.Compiled.{AreEdges, IsCompiled, NoneIsNotEqual}
use Rattle.ps_compile.specs.Layout.{all_planned, body_sites, end_of_body}
use Rattle.ps_graph.specs.Errors.{IsGraphOf}
use Rattle.ps_graph.specs.Follows.{RestBeginsAt}
use Rattle.ps_graph.specs.declared.edge.Edge.{Edge}
use Rattle.ps_graph.specs.declared.graph.Graph.{Graph}
use Rattle.ps_tree.specs.declared.program.Program.{Program}
use Rattle.ps_tree.specs.declared.relation.Relation.{Relation}
use Rattle.ps_tree.specs.declared.relation.Sign.TheVariants.{NotEqual}
use Rattle.ps_tree.specs.declared.stmt.Stmt.{Stmt}

by_recursion : (rs : List Relation) → NoneIsNotEqual rs → AllByRecursion (λ (r : Relation). ¬ (r.sign ≡ NotEqual)) rs
by_recursion [] h = tt
by_recursion (r ∷ rs) h = (h 0 r (omega arith), by_recursion rs (λ k d l. h (suc k) d (omega (arith, l))))

-- a body whose edges are all of the graph begins at its entry
pub body_is_at : (commands : List Command) (edges : List Edge) (body : List Stmt) (entry next : ℕ) → ¬ (entry ≡ 1) → 1 < next → entry < next →
    AreEdges commands (all_planned (body_sites body entry next)) edges → RestBeginsAt commands edges body entry
body_is_at commands edges body entry next n l b h =
    body_begins commands edges (body_sites body entry next) (realised_at commands (body_sites body entry next) edges (body_apart body entry next b) h)
    body entry next n l (none_leaves commands (end_of_body body entry next) (body_sites body entry next) edges (none_at_end body entry next b) h)
    (all_in [] (body_sites body entry next))

pub graph_of : (p : Program) (g : Graph) → NoneIsNotEqual p.inits → IsCompiled p g → IsGraphOf p g
graph_of p g n is = record {
  begins = body_is_at g.setting.commands g.edges p.body 0 2 (λ e. (let no_such : ⊥ = omega (arith, e) in no_such)) (omega arith) (omega arith) is.body.planned;
  entries = is.entries;
  once = is.once;
  initial = λ s. let both : _ = initial_rows p g.setting s (by_recursion p.inits n) is.globals is.locals is.init_once is.init_each in (both.1, both.0);
}
