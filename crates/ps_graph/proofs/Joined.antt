-- Executions that reach the error are error traces that run, both ways.
use Rattle.std.proofs.Common.{◌≡◌, Bool, true, false, not, ◌&&◌, ◌==◌, refl, sym, ◌∙◌, ap, ap₂, ℕ, zero, suc, ◌<◌, ℤ, List, [], ◌∷◌, length, map, if◌then◌else◌, arith}
use Rattle.std.specs.Prelude.{Option, Some, None, option_map, slice_index_or, unwrap_or, IsTrue, IsFalse, is_some, replicate}
use Rattle.std.specs.List.{list_all, list_any}
use Rattle.std.specs.Option.{option_and_then}
use Rattle.std.proofs.lemmas.Option.{same_Some}
use Rattle.std.proofs.lemmas.List.Elements.{All-from_recursion, recursion_from_All}
use Rattle.ps_command.specs.Run.{havocs_in}
use Rattle.ps_command.specs.declared.command.Command.{Command}
use Rattle.ps_command.specs.declared.state.State.{State}
use Rattle.ps_graph.proofs.Errors.{and_parts, not_parts, Traced, traced, Came, came}
use Rattle.ps_graph.proofs.Letters.{Located, located_of_paths, paths_of_located}
use Rattle.ps_graph.proofs.ManyThreads.{SeatsAreAt, WorldIsAt}
use Rattle.ps_graph.proofs.Members.{IsIn}
use Rattle.ps_graph.proofs.OneThread.{steps_are_edges}
use Rattle.ps_graph.proofs.Strides.{state_of, place_of, threads_among, length_map, picks_count}
use Rattle.ps_graph.specs.ErrorTrace.{IsErrorTrace, IsFeasible, RunsFrom, RunsBody, after_letters, edges_of, is_path, error_at_last}
use Rattle.ps_graph.specs.Errors.{IsGraphOf, AreLettersOf, ErrorsAreTraces, IsSafeExactly}
use Rattle.ps_graph.specs.Execution.{threads_with, started, bodies_of, is_failed, at_error, NeverFails, fails_at_last, reaches}
use Rattle.ps_graph.specs.Facts.{error_is_final, owner_of, is_same_body}
use Rattle.ps_command.specs.Commands.{ops_of}
use Rattle.ps_graph.specs.Follows.{RestBeginsAt, leaving, StepsAreEdges}
use Rattle.ps_graph.specs.Initial.{is_initial}
use Rattle.ps_graph.specs.Picks.{values_in}
use Rattle.ps_graph.specs.Step.{Thread, step}
use Rattle.ps_graph.specs.Threads.{Seat, World, moved, all_moved}
use Rattle.ps_graph.specs.declared.edge.Edge.{Edge}
use Rattle.ps_graph.specs.declared.graph.Graph.{Graph}
use Rattle.ps_tree.specs.declared.program.Program.{Program}
use Rattle.ps_tree.specs.declared.stmt.Stmt.{Stmt}

-- ---- where executions begin

-- the threads of a state, each at location 0
abbrev entered : State → World ℕ
entered s = record { globals = s.globals; seats = map (λ (ls : List ℤ). let u : Seat ℕ = record { locals = ls; at = 0 } in u) s.locals }

abbrev seat_at_entry : List ℤ → Seat ℕ
seat_at_entry ls = record { locals = ls; at = 0 }

-- as many threads with the body to run
abbrev with_body : List Stmt → List (List ℤ) → List (Seat Thread)
with_body body lss = threads_with (replicate (length lss) body) lss

starts_at : (commands : List Command) (edges : List Edge) (body : List Stmt) → RestBeginsAt commands edges body 0 → (lss : List (List ℤ)) →
    SeatsAreAt commands edges (with_body body lss) (map seat_at_entry lss)
starts_at commands edges body h [] = tt
starts_at commands edges body h (ls ∷ lss) = (refl, h, starts_at commands edges body h lss)

starts_run : (body : List Stmt) (lss : List (List ℤ)) → list_any is_failed (with_body body lss) ≡ false
starts_run body [] = refl
starts_run body (ls ∷ lss) = starts_run body lss

locals_are : (lss : List (List ℤ)) → map (λ (u : Seat ℕ). u.locals) (map seat_at_entry lss) ≡ lss
locals_are [] = refl
locals_are (ls ∷ lss) = ap (λ (x : List (List ℤ)). ls ∷ x) (locals_are lss)

state_entered : (s : State) → state_of (entered s) ≡ s
state_entered s = let make : List (List ℤ) → State = λ lss. record { globals = s.globals; locals = lss } in ap make (locals_are s.locals)

at_zero : (lss : List (List ℤ)) (k : ℕ) → slice_index_or (map (λ (u : Seat ℕ). u.at) (map seat_at_entry lss)) k 0 ≡ 0
at_zero [] k = refl
at_zero (ls ∷ lss) zero = refl
at_zero (ls ∷ lss) (suc k) = at_zero lss k

-- no edge leaves the error
no_source : (edges : List Edge) → list_all (λ (e : Edge). not (e.source == 1)) edges ≡ true → leaving 1 edges ≡ []
no_source [] h = refl
no_source (e ∷ edges) h = at (e.source == 1) refl (not_parts (e.source == 1) (list_all (λ (e : Edge). not (e.source == 1)) edges) h) (λ k. no_source edges k)
  where
    at : (t : Bool) → (e.source == 1) ≡ t → ((e.source == 1) ≡ false) × (list_all (λ (e : Edge). not (e.source == 1)) edges ≡ true) →
        (list_all (λ (e : Edge). not (e.source == 1)) edges ≡ true → leaving 1 edges ≡ []) →
        (if t then e ∷ leaving 1 edges else leaving 1 edges) ≡ []
    at true s q rest = let no_such : true ≡ false = sym s ∙ q.0 in cc
    at false s q rest = rest q.1

pub final_parts : (graph : Graph) → IsTrue (error_is_final graph.owner graph.edges) → leaving 1 graph.edges ≡ []
unfolding error_is_final
final_parts graph h =
    no_source graph.edges (and_parts (is_same_body (owner_of graph.owner 1) None) (list_all (λ (e : Edge). not (e.source == 1)) graph.edges) h).1

-- ---- steps and failures

first_failure : (steps : List (ℕ × List ℤ)) (w x : World Thread) → all_moved step steps w ≡ Some x → at_error x ≡ true →
    (ss : List (ℕ × List ℤ)) × (fails_at_last ss w ≡ true)
first_failure [] w x e f = ([], ap at_error (same_Some w x e) ∙ f)
first_failure (m ∷ ms) w x e f = on (at_error w) refl (moved step m w) refl e (λ y r. first_failure ms y x r f)
  where
    on : (t : Bool) → at_error w ≡ t → (o : Option (World Thread)) → moved step m w ≡ o → option_and_then (all_moved step ms) o ≡ Some x →
        ((y : World Thread) → all_moved step ms y ≡ Some x → (ss : List (ℕ × List ℤ)) × (fails_at_last ss y ≡ true)) →
        (ss : List (ℕ × List ℤ)) × (fails_at_last ss w ≡ true)
    on true t o i r rest = ([], t)
    on false t None i r rest = cc
    on false t (Some y) i r rest = to (rest y r)
      where
        to : (ss : List (ℕ × List ℤ)) × (fails_at_last ss y ≡ true) → (ss : List (ℕ × List ℤ)) × (fails_at_last ss w ≡ true)
        to (ss, g) = (m ∷ ss, ap₂ (λ a b. not a && b) t (ap (λ (o : Option (World Thread)). unwrap_or (option_map (fails_at_last ss) o) false) i ∙ g))

executed_of : (steps : List (ℕ × List ℤ)) (w : World Thread) → fails_at_last steps w ≡ true →
    (x : World Thread) × (all_moved step steps w ≡ Some x) × (at_error x ≡ true)
executed_of [] w f = (w, refl, f)
executed_of (m ∷ ms) w f =
    on (moved step m w) refl (not_parts (at_error w) (unwrap_or (option_map (fails_at_last ms) (moved step m w)) false) f).1 (λ y g. executed_of ms y g)
  where
    on : (o : Option (World Thread)) → moved step m w ≡ o → unwrap_or (option_map (fails_at_last ms) o) false ≡ true →
        ((y : World Thread) → fails_at_last ms y ≡ true → (x : World Thread) × (all_moved step ms y ≡ Some x) × (at_error x ≡ true)) →
        (x : World Thread) × (option_and_then (all_moved step ms) (moved step m w) ≡ Some x) × (at_error x ≡ true)
    on None i u rest = let no_such : false ≡ true = u in cc
    on (Some y) i u rest = to (rest y u)
      where
        to : (x : World Thread) × (all_moved step ms y ≡ Some x) × (at_error x ≡ true) →
            (x : World Thread) × (option_and_then (all_moved step ms) (moved step m w) ≡ Some x) × (at_error x ≡ true)
        to (x, e, g) = (x, ap (option_and_then (all_moved step ms)) i ∙ e, g)

some_of : (o : Option State) → is_some o ≡ true → (s : State) × (o ≡ Some s)
some_of None h = let no_such : false ≡ true = h in cc
some_of (Some s) h = (s, refl)

entry_zero : (k : ℕ) → (let only : List ℕ = 0 ∷ [] in slice_index_or only k 0) ≡ 0
entry_zero zero = refl
entry_zero (suc k) = refl

-- ---- both ways

module _ (p : Program) (graph : Graph) (is : IsGraphOf p graph) (no_error : leaving 1 graph.edges ≡ [])
    (counts : (e : Edge) → IsIn e graph.edges → values_in e.picks ≡ havocs_in (ops_of graph.setting.commands e.command)) where
  one : StepsAreEdges graph.setting.commands graph.edges
  one = steps_are_edges graph.setting.commands graph.edges no_error

  begins : (s : State) → WorldIsAt graph.setting.commands graph.edges (started (bodies_of p s) s) (entered s)
  begins s = record { globals = refl; seats = starts_at graph.setting.commands graph.edges p.body is.begins s.locals }

  entry_is : (body : ℕ) → slice_index_or graph.entries body 0 ≡ 0
  entry_is body = ap (λ (es : List ℕ). slice_index_or es body 0) is.entries ∙ entry_zero body

  error_trace : (s : State) (letters : List (ℕ × ℕ)) → Located graph.edges (place_of (entered s)) letters → error_at_last graph.edges letters ≡ true → IsErrorTrace graph letters
  error_trace s letters lo er = record {
    paths = λ k. (
      0,
      record {
        exists = (let n : length graph.entries ≡ 1 = ap length is.entries in omega (arith, n));
        path = ap (λ (a : ℕ). is_path graph.edges a (edges_of k letters)) (entry_is 0 ∙ sym (at_zero s.locals k)) ∙ paths_of_located graph.edges letters (place_of (entered s)) lo k;
      },
    );
    once = λ j k a b. (let no_such : None ≡ Some a.0 = sym is.once ∙ a.1 in cc);
    error = er;
  }

  forth : (s : State) (steps : List (ℕ × List ℤ)) → IsTrue (reaches p s steps) →
      (letters : List (ℕ × ℕ)) × (havocs : List (List ℤ))
      × AreLettersOf graph.edges steps letters havocs × IsErrorTrace graph letters × RunsFrom graph letters s havocs
  forth s steps r =
      let q : (is_initial p s ≡ true) × (fails_at_last steps (started (bodies_of p s) s) ≡ true) = and_parts (is_initial p s) (fails_at_last steps (started (bodies_of p s) s)) r in
      let t : Traced graph.setting.commands graph.edges steps (entered s) =
      traced graph.setting.commands graph.edges one counts steps (started (bodies_of p s) s) (entered s) (begins s) (starts_run p.body s.locals) q.1 in (
        t.letters,
        t.havocs,
        t.are,
        error_trace s t.letters t.located t.error,
        record {
          initial = (is.initial s).1 q.0;
          threads = All-from_recursion (λ (l : ℕ × ℕ). l.0 < length s.locals) t.letters (threads_among (length (map seat_at_entry s.locals)) (length s.locals) t.letters (length_map seat_at_entry s.locals) t.threads);
          fit = t.fits;
          runs = ap (λ (i : State). is_some (after_letters graph.setting.commands graph.edges t.letters t.havocs i)) (sym (state_entered s)) ∙ ap is_some t.runs;
        },
      )

  back : (s : State) (letters : List (ℕ × ℕ)) (havocs : List (List ℤ)) → IsErrorTrace graph letters → RunsFrom graph letters s havocs →
      (steps : List (ℕ × List ℤ)) × AreLettersOf graph.edges steps letters havocs × IsTrue (reaches p s steps)
  back s letters havocs tr ru = on (some_of (after_letters graph.setting.commands graph.edges letters havocs s) ru.runs)
    where
      path : (k : ℕ) → is_path graph.edges (place_of (entered s) k) (edges_of k letters) ≡ true
      path k = at (tr.paths k)
        where
          at : (body : ℕ) × RunsBody graph letters k body → is_path graph.edges (place_of (entered s) k) (edges_of k letters) ≡ true
          at (body, h) = ap (λ (a : ℕ). is_path graph.edges a (edges_of k letters)) (at_zero s.locals k ∙ sym (entry_is body)) ∙ h.path

      on : (x : State) × (after_letters graph.setting.commands graph.edges letters havocs s ≡ Some x) →
          (steps : List (ℕ × List ℤ)) × AreLettersOf graph.edges steps letters havocs × IsTrue (reaches p s steps)
      on (x, e) =
          let c : Came graph.edges letters havocs (started (bodies_of p s) s) =
          came graph.setting.commands graph.edges one counts letters havocs (started (bodies_of p s) s) (entered s) x (begins s) (starts_run p.body s.locals)
          (threads_among (length s.locals) (length (map seat_at_entry s.locals)) letters (sym (length_map seat_at_entry s.locals))
          (recursion_from_All (λ (l : ℕ × ℕ). l.0 < length s.locals) letters ru.threads))
          (located_of_paths graph.edges letters (place_of (entered s)) path) ru.fit
          (ap (after_letters graph.setting.commands graph.edges letters havocs) (state_entered s) ∙ e) tr.error in
          (c.steps, c.are, ap₂ (λ a b. a && b) ((is.initial s).0 ru.initial) c.fails)

  pub errors_are_traces : ErrorsAreTraces p graph
  errors_are_traces = record { forth = forth; back = back }

  pub safe_exactly : IsSafeExactly p graph
  safe_exactly = (none_feasible, never_fails)
    where
      none_feasible : NeverFails p → (letters : List (ℕ × ℕ)) → IsErrorTrace graph letters → IsFeasible graph letters → ⊥
      none_feasible never letters tr (s, havocs, runs) = at (back s letters havocs tr runs)
        where
          at : (steps : List (ℕ × List ℤ)) × AreLettersOf graph.edges steps letters havocs × IsTrue (reaches p s steps) → ⊥
          at (steps, are, r) =
              let q : (is_initial p s ≡ true) × (fails_at_last steps (started (bodies_of p s) s) ≡ true) = and_parts (is_initial p s) (fails_at_last steps (started (bodies_of p s) s)) r in
              on q (executed_of steps (started (bodies_of p s) s) q.1)
            where
              on : (is_initial p s ≡ true) × (fails_at_last steps (started (bodies_of p s) s) ≡ true) →
                  (x : World Thread) × (all_moved step steps (started (bodies_of p s) s) ≡ Some x) × (at_error x ≡ true) → ⊥
              on q (x, e, g) = let no_such : false ≡ true = sym (never s steps x q.0 e) ∙ g in cc

      never_fails : ((letters : List (ℕ × ℕ)) → IsErrorTrace graph letters → IsFeasible graph letters → ⊥) → NeverFails p
      never_fails none s steps w ini ex = on (at_error w) refl
        where
          on : (t : Bool) → at_error w ≡ t → IsFalse t
          on false t = refl
          on true t = absurd (at (first_failure steps (started (bodies_of p s) s) w ex t))
            where
              at : (ss : List (ℕ × List ℤ)) × (fails_at_last ss (started (bodies_of p s) s) ≡ true) → ⊥
              at (ss, g) = to (forth s ss (ap₂ (λ a b. a && b) ini g))
                where
                  to : (letters : List (ℕ × ℕ)) × (havocs : List (List ℤ))
                      × AreLettersOf graph.edges ss letters havocs × IsErrorTrace graph letters × RunsFrom graph letters s havocs → ⊥
                  to (letters, havocs, are, tr, ru) = none letters tr (s, havocs, ru)

pub traces : (p : Program) (graph : Graph) → IsGraphOf p graph → ErrorsAreTraces p graph
traces p graph is = errors_are_traces p graph is (final_parts graph graph.error_final) (picks_count graph.setting.commands graph.edges graph.picks)

pub safe : (p : Program) (graph : Graph) → IsGraphOf p graph → IsSafeExactly p graph
safe p graph is = safe_exactly p graph is (final_parts graph graph.error_final) (picks_count graph.setting.commands graph.edges graph.picks)
