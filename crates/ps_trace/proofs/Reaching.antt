-- A witness reaches a failure of the text exactly where it replays on the graph.
use Rattle.std.proofs.Common.{◌≡◌, ◌↔◌, Bool, true, false, not, ◌&&◌, refl, sym, ap, ap₂, ◌∙◌, subst, ℕ, zero, suc, ℤ, List, [], ◌∷◌, ◌⊎◌, inl, inr, length, map}
use Rattle.std.specs.Prelude.{Contains, Option, Some, None, option_map, unwrap_or, slice_index_or, replicate}
use Rattle.ps_command.specs.Values.{Values}
use Rattle.ps_command.specs.declared.command.Command.{Command}
use Rattle.ps_command.specs.declared.state.State.{State}
use Rattle.ps_graph.proofs.Errors.{and_parts, errors_are}
use Rattle.ps_graph.proofs.Joined.{final_parts}
use Rattle.ps_graph.proofs.ManyThreads.{SeatsAreAt, WorldIsAt}
use Rattle.ps_graph.proofs.Members.{IsIn, contains_of_in, in_of_contains}
use Rattle.ps_graph.proofs.OneThread.{steps_are_edges}
use Rattle.ps_graph.specs.Errors.{IsGraphOf}
use Rattle.ps_graph.specs.Execution.{bodies_of, fails_at_last as text_fails, reaches, started, threads_with}
use Rattle.ps_graph.specs.Follows.{RestBeginsAt, StepsAreEdges, ThreadIsAt, along}
use Rattle.ps_graph.specs.Initial.{is_initial}
use Rattle.ps_graph.specs.Step.{Thread, step}
use Rattle.ps_graph.specs.Threads.{Seat, World, step_at}
use Rattle.ps_graph.specs.declared.edge.Edge.{Edge}
use Rattle.ps_graph.specs.declared.graph.Graph.{Graph}
use Rattle.ps_tree.specs.declared.program.Program.{Program}
use Rattle.ps_tree.specs.declared.stmt.Stmt.{Stmt}
use Rattle.ps_trace.specs.Reaches.{Reaches, witness_state, steps_of}
use Rattle.ps_trace.specs.Replay.{along_first, fails_at_last, or_else, Replays, world_of}
use Rattle.ps_trace.specs.declared.witness.Witness.{Witness}

some_none : {X : Type 0} (x : X) → None ≡ Some x → ⊥
some_none x e = cc

-- ---- the first edge that runs
first_runs : (commands : List Command) (edges : List Edge) (a : ℕ) (v : Values) (cs : List ℤ) (q : Values × ℕ) → along_first commands edges a v cs ≡ Some q →
    (e : Edge) × IsIn e edges × (along commands e a v cs ≡ Some q)
first_runs commands [] a v cs q h = absurd (some_none q h)
first_runs commands (e ∷ es) a v cs q h = at (along commands e a v cs) refl h (λ g. first_runs commands es a v cs q g)
  where
    at : (o : Option (Values × ℕ)) → along commands e a v cs ≡ o → or_else o (along_first commands es a v cs) ≡ Some q →
        (along_first commands es a v cs ≡ Some q → (e : Edge) × IsIn e es × (along commands e a v cs ≡ Some q)) → (f : Edge) × IsIn f (e ∷ es) × (along commands f a v cs ≡ Some q)
    at None i g rest = later (rest g)
      where
        later : (f : Edge) × IsIn f es × (along commands f a v cs ≡ Some q) → (f : Edge) × IsIn f (e ∷ es) × (along commands f a v cs ≡ Some q)
        later (f, j, r) = (f, inr j, r)
    at (Some p) i g rest = (e, inl refl, i ∙ g)

none_runs : (commands : List Command) (edges : List Edge) (a : ℕ) (v : Values) (cs : List ℤ) (e : Edge) (q : Values × ℕ) → along_first commands edges a v cs ≡ None → IsIn e edges →
    along commands e a v cs ≡ Some q → ⊥
none_runs commands [] a v cs e q h i r = absurd i
none_runs commands (d ∷ es) a v cs e q h i r = at (along commands d a v cs) refl h i (λ g j. none_runs commands es a v cs e q g j r)
  where
    at : (o : Option (Values × ℕ)) → along commands d a v cs ≡ o → or_else o (along_first commands es a v cs) ≡ None → (e ≡ d) ⊎ IsIn e es →
        (along_first commands es a v cs ≡ None → IsIn e es → ⊥) → ⊥
    at None k g (inl same) rest = some_none q (sym k ∙ ap (λ (x : Edge). along commands x a v cs) (sym same) ∙ r)
    at None k g (inr j) rest = rest g j
    at (Some p) k g j rest = some_none p (sym g)

-- ---- one thread: its step is that along the first edge
module _ (commands : List Command) (edges : List Edge) (one : StepsAreEdges commands edges) where
  -- neither has a step, or both come to the same values, and the one is where the other is
  abbrev SameStep : Option (Values × Thread) → Option (Values × ℕ) → Type 0
  SameStep None None = Unit {0}
  SameStep (Some q) (Some p) = (q.0 ≡ p.0) × ThreadIsAt commands edges q.1 p.1
  SameStep _ _ = ⊥

  same_step : (t : Thread) (a : ℕ) → ThreadIsAt commands edges t a → (v : Values) (cs : List ℤ) → SameStep (step t v cs) (along_first commands edges a v cs)
  same_step t a h v cs = at (along_first commands edges a v cs) refl
    where
      none : (o : Option (Values × Thread)) → step t v cs ≡ o → along_first commands edges a v cs ≡ None → SameStep o None
      none None s n = tt
      none (Some (w, u)) s n = no (one.forth t a h v cs w u s)
        where
          no : (e : Edge) × (b : ℕ) × Contains edges e × (along commands e a v cs ≡ Some (w, b)) × ThreadIsAt commands edges u b → ⊥
          no (e, b, i, r, k) = none_runs commands edges a v cs e (w, b) n (in_of_contains e edges i) r

      some : (w : Values) (b : ℕ) → (e : Edge) × IsIn e edges × (along commands e a v cs ≡ Some (w, b)) → SameStep (step t v cs) (Some (w, b))
      some w b (e, i, r) = on (one.back t a h v cs e w b (contains_of_in e edges i) r)
        where
          on : (u : Thread) × (step t v cs ≡ Some (w, u)) × ThreadIsAt commands edges u b → SameStep (step t v cs) (Some (w, b))
          on (u, s, k) = subst (λ (o : Option (Values × Thread)). SameStep o (Some (w, b))) (sym s) (refl, k)

      at : (o : Option (Values × ℕ)) → along_first commands edges a v cs ≡ o → SameStep (step t v cs) o
      at None n = none (step t v cs) refl n
      at (Some (w, b)) r = some w b (first_runs commands edges a v cs (w, b) r)

  -- ---- many threads
  abbrev SameMove : Option (World Thread) → Option (World ℕ) → Type 0
  SameMove None None = Unit {0}
  SameMove (Some w) (Some l) = WorldIsAt commands edges w l
  SameMove _ _ = ⊥

  abbrev text_first : List (Seat Thread) → Values × Thread → World Thread
  text_first ts q = record { globals = q.0.globals; seats = record { locals = q.0.locals; at = q.1 } ∷ ts }

  abbrev graph_first : List (Seat ℕ) → Values × ℕ → World ℕ
  graph_first us q = record { globals = q.0.globals; seats = record { locals = q.0.locals; at = q.1 } ∷ us }

  abbrev text_behind : Seat Thread → World Thread → World Thread
  text_behind t w = record { globals = w.globals; seats = t ∷ w.seats }

  abbrev graph_behind : Seat ℕ → World ℕ → World ℕ
  graph_behind u w = record { globals = w.globals; seats = u ∷ w.seats }

  same_move : (k : ℕ) (globals : List ℤ) (ts : List (Seat Thread)) (us : List (Seat ℕ)) (cs : List ℤ) → SeatsAreAt commands edges ts us →
      SameMove (step_at step k globals ts cs) (step_at (along_first commands edges) k globals us cs)
  same_move k globals [] [] cs s = tt
  same_move k globals [] (u ∷ us) cs s = absurd s
  same_move k globals (t ∷ ts) [] cs s = absurd s
  same_move zero globals (t ∷ ts) (u ∷ us) cs (same, h, s) =
      on (step t.at (record { globals = globals; locals = t.locals }) cs) (along_first commands edges u.at (record { globals = globals; locals = u.locals }) cs)
      (subst (λ (ls : List ℤ). SameStep (step t.at (record { globals = globals; locals = t.locals }) cs) (along_first commands edges u.at (record { globals = globals; locals = ls }) cs)) same
      (same_step t.at u.at h (record { globals = globals; locals = t.locals }) cs))
    where
      on : (o : Option (Values × Thread)) (p : Option (Values × ℕ)) → SameStep o p → SameMove (option_map (text_first ts) o) (option_map (graph_first us) p)
      on None None r = tt
      on None (Some p) r = absurd r
      on (Some q) None r = absurd r
      on (Some q) (Some p) r = record { globals = ap (λ (v : Values). v.globals) r.0; seats = (ap (λ (v : Values). v.locals) r.0, r.1, s) }
  same_move (suc k) globals (t ∷ ts) (u ∷ us) cs (same, h, s) =
      on (step_at step k globals ts cs) (step_at (along_first commands edges) k globals us cs) (same_move k globals ts us cs s)
    where
      on : (o : Option (World Thread)) (p : Option (World ℕ)) → SameMove o p → SameMove (option_map (text_behind t) o) (option_map (graph_behind u) p)
      on None None r = tt
      on None (Some l) r = absurd r
      on (Some w) None r = absurd r
      on (Some w) (Some l) r = record { globals = r.globals; seats = (same, h, r.seats) }

module _ (graph : Graph) (one : StepsAreEdges graph.setting.commands graph.edges) where
  same_fails : (steps : List (ℕ × List ℤ)) (w : World Thread) (l : World ℕ) → WorldIsAt graph.setting.commands graph.edges w l → text_fails steps w ≡ fails_at_last graph steps l
  same_fails [] w l h = errors_are graph.setting.commands graph.edges w.seats l.seats h.seats
  same_fails (m ∷ ms) w l h =
      ap₂ (λ (a b : Bool). not a && b) (errors_are graph.setting.commands graph.edges w.seats l.seats h.seats)
      (on (step_at step m.0 w.globals w.seats m.1) (step_at (along_first graph.setting.commands graph.edges) m.0 l.globals l.seats m.1)
      (subst (λ (g : List ℤ). SameMove graph.setting.commands graph.edges one (step_at step m.0 w.globals w.seats m.1) (step_at (along_first graph.setting.commands graph.edges) m.0 g l.seats m.1)) h.globals
      (same_move graph.setting.commands graph.edges one m.0 w.globals w.seats l.seats m.1 h.seats)) (λ x y k. same_fails ms x y k))
    where
      on : (o : Option (World Thread)) (p : Option (World ℕ)) → SameMove graph.setting.commands graph.edges one o p →
          ((x : World Thread) (y : World ℕ) → WorldIsAt graph.setting.commands graph.edges x y → text_fails ms x ≡ fails_at_last graph ms y) →
          unwrap_or (option_map (text_fails ms) o) false ≡ unwrap_or (option_map (fails_at_last graph ms) p) false
      on None None r rest = refl
      on None (Some y) r rest = absurd r
      on (Some x) None r rest = absurd r
      on (Some x) (Some y) r rest = rest x y r

-- ---- where the two begin
abbrev seat_at : ℕ → List ℤ → Seat ℕ
seat_at a ls = record { locals = ls; at = a }

begins : (commands : List Command) (edges : List Edge) (body : List Stmt) (a : ℕ) → RestBeginsAt commands edges body a → (lss : List (List ℤ)) →
    SeatsAreAt commands edges (threads_with (replicate (length lss) body) lss) (map (seat_at a) lss)
begins commands edges body a h [] = tt
begins commands edges body a h (ls ∷ lss) = (refl, h, begins commands edges body a h lss)

pub reaches_exactly : (p : Program) (graph : Graph) → IsGraphOf p graph → (w : Witness) → Reaches p w ↔ Replays graph w
reaches_exactly p graph is w = (forth, back)
  where
    s : State
    s = witness_state w

    entry : slice_index_or graph.entries 0 0 ≡ 0
    entry = ap (λ (es : List ℕ). slice_index_or es 0 0) is.entries

    same : text_fails (steps_of w) (started (bodies_of p (witness_state w)) (witness_state w)) ≡ fails_at_last graph (steps_of w) (world_of graph w)
    same = same_fails graph (steps_are_edges graph.setting.commands graph.edges (final_parts graph graph.error_final)) (steps_of w)
        (started (bodies_of p (witness_state w)) (witness_state w)) (world_of graph w)
        (record {
          globals = refl;
          seats = begins graph.setting.commands graph.edges p.body (slice_index_or graph.entries 0 0)
              (subst (λ (a : ℕ). RestBeginsAt graph.setting.commands graph.edges p.body a) (sym entry) is.begins) w.locals;
        })

    forth : reaches p (witness_state w) (steps_of w) ≡ true → Replays graph w
    forth h =
        let q : (is_initial p (witness_state w) ≡ true) × (text_fails (steps_of w) (started (bodies_of p (witness_state w)) (witness_state w)) ≡ true) =
        and_parts (is_initial p (witness_state w)) (text_fails (steps_of w) (started (bodies_of p (witness_state w)) (witness_state w))) h in
        record { initial = (is.initial (witness_state w)).1 q.0; fails = sym same ∙ q.1 }

    back : Replays graph w → reaches p (witness_state w) (steps_of w) ≡ true
    back r = ap₂ (λ (a b : Bool). a && b) ((is.initial (witness_state w)).0 r.initial) (same ∙ r.fails)
