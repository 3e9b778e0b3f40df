-- The choices of picks, and the steps of letters, one after another: what is known in their loops, and room for havocs.
use Rattle.std.proofs.Common.{◌≡◌, refl, sym, ap, ◌∙◌, ℕ, ◌<◌, ◌+◌, ℤ, List, [], ◌++◌, length, get_or, drop, Option, Some, None, unwrap_or, arith}
use Rattle.std.specs.Prelude.{option_map, slice_get}
use Rattle.std.proofs.lemmas.List.{drop_more}
use Rattle.ps_command.proofs.Forms.{is_form}
use Rattle.ps_command.specs.Commands.{ops_of}
use Rattle.ps_command.specs.Run.{havocs_in}
use Rattle.ps_graph.proofs.Strides.{in_numbered, picks_count}
use Rattle.ps_graph.specs.ErrorTrace.{edge_ops}
use Rattle.ps_graph.specs.Picks.{values_in}
use Rattle.ps_graph.specs.declared.edge.Edge.{Edge}
use Rattle.ps_graph.specs.declared.edge.Pick.{Pick}
use Rattle.ps_graph.specs.declared.graph.Graph.{Graph}
use Rattle.ps_term.specs.declared.var.Var.{Var}
use Rattle.ps_trace.specs.Rows.{form_at, havocs_of_letters}
use Rattle.ps_trace.specs.Traces.{pairs_in}
use Rattle.ps_trace.specs.WitnessOf.{choices_by, picks_at, steps_by}
use Rattle.ps_trace.specs.declared.step.Step.{Step}
use Rattle.ps_trace.specs.declared.trace.Letter.{Letter}

-- what was made, with what is left, is all
pub record AreChosen (v : Var → ℤ) (first : ℕ) (all : List Pick) (made : List ℤ) (next : ℕ) (rest : List Pick) : Type 0 where
  pub same : made ++ choices_by v next rest ≡ choices_by v first all
  pub left : next + values_in rest ≡ first + values_in all

-- the same of steps
pub record AreStepped (graph : Graph) (threads : List ℕ) (v : Var → ℤ) (all : List (ℕ × ℕ)) (made : List Step) (next : ℕ) (rest : List (ℕ × ℕ)) : Type 0 where
  pub same : made ++ steps_by graph threads v next rest ≡ steps_by graph threads v 0 all
  pub left : next + havocs_of_letters graph rest ≡ havocs_of_letters graph all

-- an edge's picks have as many values as the form of its command has havocs
picks_havocs : (graph : Graph) (n : ℕ) → values_in (picks_at graph n) ≡ (form_at graph n).havocs
picks_havocs graph n = at (slice_get graph.edges n) refl ∙ sym (is_form (edge_ops graph.setting.commands graph.edges n)).counts
  where
    at : (o : Option Edge) → slice_get graph.edges n ≡ o →
        values_in (unwrap_or (option_map (λ (e : Edge). e.picks) o) []) ≡ havocs_in (unwrap_or (option_map (λ (e : Edge). ops_of graph.setting.commands e.command) o) [])
    at None i = refl
    at (Some e) i = picks_count graph.setting.commands graph.edges graph.picks e (in_numbered e graph.edges n i)

-- the next letter's havocs have numbers below those of all
pub room : (graph : Graph) (threads : List ℕ) (v : Var → ℤ) (letters : List Letter) (made : List Step) (next i : ℕ) (d : Letter) (most : ℕ) → i < length letters →
    AreStepped graph threads v (pairs_in letters) made next (pairs_in (drop i letters)) → havocs_of_letters graph (pairs_in letters) < most →
    next + values_in (picks_at graph (get_or letters i d).edge) < most
room graph threads v letters made next i d most w a few =
    let parted : havocs_of_letters graph (pairs_in (drop i letters))
    ≡ (form_at graph (get_or letters i d).edge).havocs + havocs_of_letters graph (pairs_in (drop (i + 1) letters)) =
    ap (λ (ls : List Letter). havocs_of_letters graph (pairs_in ls)) (drop_more letters i d w) in
    let left : next + havocs_of_letters graph (pairs_in (drop i letters)) ≡ havocs_of_letters graph (pairs_in letters) = a.left in
    let count = picks_havocs graph (get_or letters i d).edge in
    omega arith
