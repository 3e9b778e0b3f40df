use Rattle.std.proofs.Common.{◌≡◌, ℕ, ◌+◌, ℤ, pos, negsuc, List, [], ◌∷◌, map, refl, ap, ap₂, ◌∙◌, unwrap_or}
use Rattle.std.specs.Prelude.{option_map, slice_get}
use Rattle.std.specs.List.{AllByRecursion}
use Rattle.ps_command.specs.Form.{form_of}
use Rattle.ps_command.specs.declared.command.Command.{Command}
use Rattle.ps_graph.specs.ErrorTrace.{edge_ops}
use Rattle.ps_graph.specs.Examples.Traces.{race_edges}
use Rattle.ps_graph.specs.declared.edge.Edge.{Edge}
use Rattle.ps_graph.specs.declared.edge.Pick.{Pick}
use Rattle.ps_graph.specs.declared.graph.Graph.{Graph}
use Rattle.ps_term.specs.declared.var.Var.{Var}
use Rattle.ps_term.specs.declared.var.Var.TheVariants.{Global, Local, Havoc}
use Rattle.ps_trace.specs.Rows.{form_at}
use Rattle.ps_trace.specs.WitnessOf.{choices_by, globals_by, locals_by, new_number, picks_at, steps_by, value_among}
use Rattle.ps_trace.specs.declared.step.Step.{Step}
use Rattle.ps_trace.specs.declared.witness.Witness.{Witness}
use Rattle.ps_trace.proofs.worked.made_witnesses.Goals as goal

-- letters along edges without picks give steps without choices
plain : (graph : Graph) (threads : List ℕ) (v : Var → ℤ) (n : ℕ) (ls : List (ℕ × ℕ)) → AllByRecursion (λ (l : ℕ × ℕ). picks_at graph l.1 ≡ []) ls →
    steps_by graph threads v n ls ≡ map (λ (l : ℕ × ℕ). let s : Step = record { thread = new_number threads l.0; choices = [] } in s) ls
plain graph threads v n [] h = refl
plain graph threads v n (l ∷ ls) h =
    ap₂ (λ (cs : List ℤ) (ss : List Step). let s : Step = record { thread = new_number threads l.0; choices = cs } in s ∷ ss)
    (ap (choices_by v n) h.0) (plain graph threads v (n + (form_at graph l.1).havocs) ls h.1)

-- a witness of its parts, and the picks of the edge of a number
abbrev of_parts : List ℤ → List (List ℤ) → List Step → Witness
of_parts globals locals steps = record { globals = globals; locals = locals; steps = steps }

abbrev picks_in : List Edge → ℕ → List Pick
picks_in edges n = unwrap_or (option_map (λ (e : Edge). e.picks) (slice_get edges n)) []

pub returns-clause-race : goal.returns-clause-race
returns-clause-race c = λ graph is.
    let ls : List (ℕ × ℕ) = (2, 0) ∷ (2, 1) ∷ (0, 0) ∷ (0, 1) ∷ (2, 4) ∷ [] in
    let v : Var → ℤ = value_among ((Local 2 0, pos 5) ∷ (Global 0, negsuc 6) ∷ (Local 2 0, pos 9) ∷ []) in
    let ks : List ℕ = 0 ∷ 2 ∷ [] in
    let none : (n : ℕ) → picks_in graph.edges n ≡ picks_in race_edges n = λ n. ap (λ (es : List Edge). picks_in es n) is.edges in
    ap (λ (n : ℕ). of_parts (globals_by v n) (map (locals_by v graph.setting.locals) ks) (steps_by graph ks v 0 ls)) is.globals
    ∙ ap (λ (n : ℕ). of_parts (globals_by v 1) (map (locals_by v n) ks) (steps_by graph ks v 0 ls)) is.locals
    ∙ ap (λ (ss : List Step). of_parts (globals_by v 1) (map (locals_by v 1) ks) ss) (plain graph ks v 0 ls (none 0, (none 1, (none 0, (none 1, (none 4, tt))))))

pub returns-clause-havocs : goal.returns-clause-havocs
returns-clause-havocs c = λ graph commands edges.
    let v : Var → ℤ = value_among ((Havoc 1, pos 8) ∷ (Havoc 0, pos 7) ∷ []) in
    let made : List Command → List Edge → List Step = λ cs es.
    (record { thread = 0; choices = choices_by v 0 (picks_in es 0) }) ∷ (record { thread = 0; choices = choices_by v (0 + (form_of (edge_ops cs es 0)).havocs) (picks_in es 0) }) ∷ [] in
    ap₂ made commands edges
