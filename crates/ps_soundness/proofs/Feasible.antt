-- A feasible error trace runs as a trace of threads and commands.
use Rattle.std.proofs.Common.{◌≡◌, refl, sym, ap, ap₂, ◌∙◌, subst, true, false, ℕ, ℤ, ◌<◌, List, [], ◌∷◌, map, length, Contains, All}
use Rattle.std.specs.Prelude.{slice_get, slice_index_or, Option, Some, None, option_map, unwrap_or, IsSome}
use Rattle.std.specs.Option.{option_and_then}
use Rattle.std.proofs.lemmas.List.Elements.{All-contains}
use Rattle.ps_basis.specs.Feasible.{Runs, after_trace, TraceHavocsFit}
use Rattle.ps_command.specs.Commands.{ops_of}
use Rattle.ps_command.specs.Run.{havocs_in, run_by}
use Rattle.ps_command.specs.declared.command.Command.{Command}
use Rattle.ps_command.specs.declared.op.Op.{Op}
use Rattle.ps_command.specs.declared.state.State.{State}
use Rattle.ps_list.proofs.Mapped.{from_mapped}
use Rattle.ps_graph.proofs.Letters.{Located, located_of_paths, moved_to}
use Rattle.ps_graph.specs.ErrorTrace.{HavocsFit, IsErrorTrace, IsFeasible, RunsFrom, after_letters, edge_ops}
use Rattle.ps_graph.specs.declared.edge.Edge.{Edge}
use Rattle.ps_graph.specs.declared.graph.Graph.{Graph}
use Rattle.ps_soundness.specs.Traces.{command_of_edge, trace_of}
use Rattle.ps_triple.proofs.Membership.{all_of}

-- the ops of an edge that exists are those of its command
same_ops : (commands : List Command) (edges : List Edge) (n : ℕ) (e : Edge) → slice_get edges n ≡ Some e → edge_ops commands edges n ≡ ops_of commands (command_of_edge edges n)
same_ops commands edges n e g =
    ap (λ (o : Option Edge). unwrap_or (option_map (λ (e : Edge). ops_of commands e.command) o) []) g
    ∙ sym (ap (λ (o : Option Edge). ops_of commands (unwrap_or (option_map (λ (e : Edge). e.command) o) 0)) g)

havocs_fit : (commands : List Command) (edges : List Edge) (ls : List (ℕ × ℕ)) (at : ℕ → ℕ) (hss : List (List ℤ)) → Located edges at ls →
    HavocsFit commands edges ls hss → TraceHavocsFit commands (trace_of edges ls) hss
havocs_fit commands edges [] at hss located fit = tt
havocs_fit commands edges (l ∷ ls) at [] located fit = absurd fit
havocs_fit commands edges (l ∷ ls) at (hs ∷ hss) (e, g, source, rest) fit =
    (fit.0 ∙ ap havocs_in (same_ops commands edges l.1 e g), havocs_fit commands edges ls (moved_to at l.0 e.target) hss rest fit.1)

goes_on_alike : (f g : State → Option State) (o : Option State) → ((s : State) → f s ≡ g s) → option_and_then f o ≡ option_and_then g o
goes_on_alike f g None h = refl
goes_on_alike f g (Some s) h = h s

runs_alike : (commands : List Command) (edges : List Edge) (ls : List (ℕ × ℕ)) (at : ℕ → ℕ) (hss : List (List ℤ)) → Located edges at ls →
    (s : State) → after_letters commands edges ls hss s ≡ after_trace commands (trace_of edges ls) hss s
runs_alike commands edges [] at hss located s = refl
runs_alike commands edges (l ∷ ls) at [] located s = refl
runs_alike commands edges (l ∷ ls) at (hs ∷ hss) (e, g, source, rest) s =
    ap (λ (ops : List Op). option_and_then (after_letters commands edges ls hss) (run_by l.0 ops s hs)) (same_ops commands edges l.1 e g)
    ∙ goes_on_alike (after_letters commands edges ls hss) (after_trace commands (trace_of edges ls) hss) (run_by l.0 (ops_of commands (command_of_edge edges l.1)) s hs)
    (runs_alike commands edges ls (moved_to at l.0 e.target) hss rest)

threads_stay : (edges : List Edge) (count : ℕ) (ls : List (ℕ × ℕ)) → All (λ (l : ℕ × ℕ). l.0 < count) ls → All (λ (l : ℕ × ℕ). l.0 < count) (trace_of edges ls)
threads_stay edges count ls h = all_of (λ (l : ℕ × ℕ). l.0 < count) (trace_of edges ls) each
  where
    named : ℕ × ℕ → ℕ × ℕ
    named l = (l.0, command_of_edge edges l.1)

    of_one : (m : ℕ × ℕ) → (l : ℕ × ℕ) × Contains ls l × (named l ≡ m) → m.0 < count
    of_one m (l, i, same) = subst (λ (t : ℕ). t < count) (ap (λ (p : ℕ × ℕ). p.0) same) (All-contains (λ (l : ℕ × ℕ). l.0 < count) ls l h i)

    each : (m : ℕ × ℕ) → Contains (trace_of edges ls) m → m.0 < count
    each m i = of_one m (from_mapped named ls m i)

some_value : (o : Option State) → IsSome o → (s : State) × (o ≡ Some s)
some_value None h = let none_such : false ≡ true = h in cc
some_value (Some s) h = (s, refl)

-- a feasible error trace runs
pub feasible_runs : (graph : Graph) (letters : List (ℕ × ℕ)) → IsErrorTrace graph letters → IsFeasible graph letters → Runs graph.setting (trace_of graph.edges letters)
feasible_runs graph letters trace (s, havocs, r) = on (some_value (after_letters graph.setting.commands graph.edges letters havocs s) r.runs)
  where
    at : ℕ → ℕ
    at k = slice_index_or graph.entries (trace.paths k).0 0

    located : Located graph.edges at letters
    located = located_of_paths graph.edges letters at (λ k. (trace.paths k).1.path)

    on : (after : State) × (after_letters graph.setting.commands graph.edges letters havocs s ≡ Some after) → Runs graph.setting (trace_of graph.edges letters)
    on (after, is) = record {
      state = s;
      initial = r.initial;
      threads = threads_stay graph.edges (length s.locals) letters r.threads;
      havocs = havocs;
      fit = havocs_fit graph.setting.commands graph.edges letters at havocs located r.fit;
      after = after;
      runs = sym (runs_alike graph.setting.commands graph.edges letters at havocs located s) ∙ is;
    }
