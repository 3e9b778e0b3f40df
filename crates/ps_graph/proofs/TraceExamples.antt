-- Error traces of the examples' graphs.
use Rattle.std.proofs.Common.{◌≡◌, Bool, true, false, ◌&&◌, ◌==◌, refl, sym, ◌∙◌, ap, ap₂, subst, ℕ, zero, suc, ◌<◌, ℤ, pos, negsuc, ◌+ℤ◌, ◌*ℤ◌, List, [], ◌∷◌, length, map, if◌then◌else◌, arith}
use Rattle.std.specs.Prelude.{Option, Some, None, slice_index_or, int_le, is_some}
use Rattle.std.specs.List.{list_all}
use Rattle.std.proofs.lemmas.Bool.{eqb-true}
use Rattle.std.proofs.lemmas.Int.{ints}
use Rattle.std.proofs.lemmas.List.Elements.{All-from_recursion}
use Rattle.ps_command.specs.Initial.{IsInitial}
use Rattle.ps_command.specs.Run.{holds}
use Rattle.ps_command.specs.Values.{values_of, value_at}
use Rattle.ps_command.specs.declared.command.Command.{Command}
use Rattle.ps_command.specs.declared.state.State.{State}
use Rattle.ps_graph.proofs.Errors.{and_parts}
use Rattle.ps_graph.proofs.Letters.{Located, paths_of_located}
use Rattle.ps_graph.specs.ErrorTrace.{edges_of, is_path, error_at_last, RunsBody, BeginsOnce, IsErrorTrace, HavocsFit, after_letters, RunsFrom, IsFeasible}
use Rattle.ps_graph.specs.Examples.{x, state}
use Rattle.ps_graph.specs.Examples.Connections.{edge, counter_commands, counter_edges}
use Rattle.ps_graph.specs.Examples.Starts.{row_of}
use Rattle.ps_graph.specs.Examples.Traces.{HasParts, IsCounter, race_commands, race_edges}
use Rattle.ps_graph.specs.declared.edge.Edge.{Edge}
use Rattle.ps_graph.specs.declared.graph.Graph.{Graph}
use Rattle.ps_term.specs.declared.row.Row.{Row}

-- ---- error traces of a graph with one entry

module _ (commands : List Command) (edges : List Edge) (entry locals : ℕ) (once : Option ℕ) (graph : Graph)
    (is : HasParts commands edges entry locals once graph) where
  pub path_is : (letters : List (ℕ × ℕ)) (k : ℕ) →
      is_path graph.edges (slice_index_or graph.entries 0 0) (edges_of k letters) ≡ is_path edges entry (edges_of k letters)
  path_is letters k = ap₂ (λ (es : List Edge) (entries : List ℕ). is_path es (slice_index_or entries 0 0) (edges_of k letters)) is.edges is.entries

  pub runs_first : (letters : List (ℕ × ℕ)) (k : ℕ) → is_path edges entry (edges_of k letters) ≡ true → RunsBody graph letters k 0
  runs_first letters k p = record {
    exists = (let n : length graph.entries ≡ 1 = ap length is.entries in omega (arith, n));
    path = path_is letters k ∙ p;
  }

  pub path_of : (letters : List (ℕ × ℕ)) (k : ℕ) → IsErrorTrace graph letters → is_path edges entry (edges_of k letters) ≡ true
  path_of letters k tr = at (tr.paths k)
    where
      at : (body : ℕ) × RunsBody graph letters k body → is_path edges entry (edges_of k letters) ≡ true
      at (zero, runs) = sym (path_is letters k) ∙ runs.path
      at (suc body, runs) =
          let n : length graph.entries ≡ 1 = ap length is.entries in
          let h : suc body < length graph.entries = runs.exists in
          let none : ⊥ = omega (arith, n, h) in absurd none

  pub error_is : (letters : List (ℕ × ℕ)) → error_at_last graph.edges letters ≡ error_at_last edges letters
  error_is letters = ap (λ (es : List Edge). error_at_last es letters) is.edges

  pub trace_of : (letters : List (ℕ × ℕ)) → Located edges (λ _. entry) letters → error_at_last edges letters ≡ true →
      ((j k : ℕ) → BeginsOnce graph letters j → BeginsOnce graph letters k → j ≡ k) → IsErrorTrace graph letters
  trace_of letters located error one = record {
    paths = λ k. (0, runs_first letters k (paths_of_located edges letters (λ _. entry) located k));
    once = one;
    error = error_is letters ∙ error;
  }

  pub no_path : (letters : List (ℕ × ℕ)) (k : ℕ) → is_path edges entry (edges_of k letters) ≡ false → IsErrorTrace graph letters → ⊥
  no_path letters k p tr = let no_such : false ≡ true = sym p ∙ path_of letters k tr in cc

  pub no_error : (letters : List (ℕ × ℕ)) → error_at_last edges letters ≡ false → IsErrorTrace graph letters → ⊥
  no_error letters e tr = let no_such : false ≡ true = sym (error_is letters ∙ e) ∙ tr.error in cc

-- any number of threads run the body
pub any_number : (commands : List Command) (edges : List Edge) (entry locals : ℕ) (graph : Graph) → HasParts commands edges entry locals None graph →
    (letters : List (ℕ × ℕ)) (j k : ℕ) → BeginsOnce graph letters j → BeginsOnce graph letters k → j ≡ k
any_number commands edges entry locals graph is letters j k a b = let no_such : None ≡ Some a.0 = sym is.once ∙ a.1 in cc

-- the letters of thread 1 alone are no other thread's
pub thread_one : (j : ℕ) → 0 < length (edges_of j ((1, 0) ∷ (1, 2) ∷ [])) → 1 ≡ j
thread_one j h = at (1 == j) refl h
  where
    at : (t : Bool) → (1 == j) ≡ t →
        0 < length (map (λ (l : ℕ × ℕ). l.1) (let a : ℕ × ℕ = (1, 0) in let b : ℕ × ℕ = (1, 2) in
        let later : List (ℕ × ℕ) = if t then b ∷ [] else [] in if t then a ∷ later else later)) → 1 ≡ j
    at true e h = eqb-true 1 j e
    at false e h = let none : ⊥ = omega (arith, h) in absurd none

-- two threads that begin the one body
pub two_begin : (graph : Graph) → IsCounter 0 (Some 0) graph → IsErrorTrace graph ((0, 0) ∷ (1, 0) ∷ (0, 2) ∷ []) → ⊥
two_begin graph is tr =
    let same : 0 ≡ 1 = tr.once 0 1
    (0, is.once, omega arith, runs_first counter_commands counter_edges 0 0 (Some 0) graph is ((0, 0) ∷ (1, 0) ∷ (0, 2) ∷ []) 0 refl)
    (0, is.once, omega arith, runs_first counter_commands counter_edges 0 0 (Some 0) graph is ((0, 0) ∷ (1, 0) ∷ (0, 2) ∷ []) 1 refl) in
    let none : ⊥ = omega (arith, same) in none

-- ---- the counter's error trace isn't feasible

abbrev at_zero : List Row
at_zero = row_of (pos 1) x (pos 0) ∷ row_of (negsuc 0) x (pos 0) ∷ []

zero_is : (z : ℤ) → int_le (((pos 1 *ℤ z) +ℤ pos 0) +ℤ pos 0) (pos 0) ≡ true → int_le (((negsuc 0 *ℤ z) +ℤ pos 0) +ℤ pos 0) (pos 0) ≡ true → z ≡ pos 0
zero_is z a b = grind (arith, ints)

-- from 0 the counter's assertion holds
from_zero : (z : ℤ) → z ≡ pos 0 → (zs : List ℤ) (locals : List (List ℤ)) (hs gs : List ℤ) (hss : List (List ℤ)) →
    is_some (after_letters counter_commands counter_edges ((0, 0) ∷ (0, 2) ∷ []) (hs ∷ gs ∷ hss) (record { globals = z ∷ zs; locals = locals })) ≡ false
from_zero z e zs locals hs gs hss =
    ap (λ (i : ℤ). is_some (after_letters counter_commands counter_edges ((0, 0) ∷ (0, 2) ∷ []) (hs ∷ gs ∷ hss) (record { globals = i ∷ zs; locals = locals }))) e

blocked : (globals : List ℤ) (locals : List (List ℤ)) (hss : List (List ℤ)) → length globals ≡ 1 →
    list_all (holds (value_at (values_of 0 (record { globals = globals; locals = locals })))) at_zero ≡ true →
    HavocsFit counter_commands counter_edges ((0, 0) ∷ (0, 2) ∷ []) hss →
    is_some (after_letters counter_commands counter_edges ((0, 0) ∷ (0, 2) ∷ []) hss (record { globals = globals; locals = locals })) ≡ true → ⊥
blocked [] locals hss n h f r = let none : ⊥ = omega (arith, n) in none
blocked (z ∷ zs) locals [] n h f r = absurd f
blocked (z ∷ zs) locals (hs ∷ []) n h f r = absurd f.1
blocked (z ∷ zs) locals (hs ∷ gs ∷ hss) n h f r =
    let p = and_parts (int_le (((pos 1 *ℤ z) +ℤ pos 0) +ℤ pos 0) (pos 0)) (int_le (((negsuc 0 *ℤ z) +ℤ pos 0) +ℤ pos 0) (pos 0) && true) h in
    let q = and_parts (int_le (((negsuc 0 *ℤ z) +ℤ pos 0) +ℤ pos 0) (pos 0)) true p.1 in
    let no_such : false ≡ true = sym (from_zero z (zero_is z p.0 q.0) zs locals hs gs hss) ∙ r in cc

pub infeasible : (graph : Graph) → IsCounter 0 None graph → IsFeasible graph ((0, 0) ∷ (0, 2) ∷ []) → ⊥
infeasible graph is (s, havocs, runs) =
    let ls : List (ℕ × ℕ) = (0, 0) ∷ (0, 2) ∷ [] in
    blocked s.globals s.locals havocs (runs.initial.globals ∙ is.globals)
    (sym (ap (list_all (holds (value_at (values_of 0 s)))) is.init_once) ∙ runs.initial.once)
    (subst (λ (cs : List Command). HavocsFit cs counter_edges ls havocs) is.commands
    (subst (λ (es : List Edge). HavocsFit graph.setting.commands es ls havocs) is.edges runs.fit))
    (sym (ap₂ (λ (cs : List Command) (es : List Edge). is_some (after_letters cs es ls havocs s)) is.commands is.edges) ∙ runs.runs)

-- ---- the race's is

abbrev pub race_letters : List (ℕ × ℕ)
race_letters = (0, 0) ∷ (0, 1) ∷ (1, 0) ∷ (1, 1) ∷ (0, 4) ∷ []

abbrev pub race_start : State
race_start = state (pos 0) ((pos 0 ∷ []) ∷ (pos 0 ∷ []) ∷ [])

abbrev pub no_havocs : List (List ℤ)
no_havocs = [] ∷ [] ∷ [] ∷ [] ∷ [] ∷ []

module _ (graph : Graph) (is : HasParts race_commands race_edges 0 1 None graph) where
  pub race_trace : IsErrorTrace graph race_letters
  race_trace = trace_of race_commands race_edges 0 1 None graph is race_letters
      (edge 0 3 0, refl, refl, (edge 3 4 1, refl, refl, (edge 0 3 0, refl, refl, (edge 3 4 1, refl, refl, (edge 4 1 4, refl, refl, tt))))) refl
      (any_number race_commands race_edges 0 1 graph is race_letters)

  pub race_initial : IsInitial graph.setting race_start
  race_initial = record {
    threads = omega arith;
    globals = sym is.globals;
    locals = All-from_recursion (λ (values : List ℤ). length values ≡ graph.setting.locals) ((pos 0 ∷ []) ∷ (pos 0 ∷ []) ∷ []) (sym is.locals, (sym is.locals, tt));
    once = ap (list_all (holds (value_at (values_of 0 race_start)))) is.init_once;
    each = λ k within. ap (list_all (holds (value_at (values_of k race_start)))) is.init_each;
  }

  pub race_runs : RunsFrom graph race_letters race_start no_havocs
  race_runs = record {
    initial = race_initial;
    threads = All-from_recursion (λ (l : ℕ × ℕ). l.0 < 2) race_letters (omega arith, (omega arith, (omega arith, (omega arith, (omega arith, tt)))));
    fit = subst (λ (cs : List Command). HavocsFit cs graph.edges race_letters no_havocs) (sym is.commands)
        (subst (λ (es : List Edge). HavocsFit race_commands es race_letters no_havocs) (sym is.edges) (refl, (refl, (refl, (refl, (refl, tt))))));
    runs = ap₂ (λ (cs : List Command) (es : List Edge). is_some (after_letters cs es race_letters no_havocs race_start)) is.commands is.edges;
  }
