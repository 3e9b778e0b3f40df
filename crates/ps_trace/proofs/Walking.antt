-- Worlds of a replay, step after step.
use Rattle.std.proofs.Common.{◌≡◌, Bool, true, false, not, ◌&&◌, ◌||◌, ◌==◌, refl, sym, ap, ap₂, ◌∙◌, subst, ℕ, zero, suc, ◌<◌, ◌≤◌, ◌+◌, ℤ, List, [], ◌∷◌, length, map, drop, get_or, arith}
use Rattle.std.specs.Prelude.{Option, Some, None, option_map, slice_get, slice_index_or, slice_set, unwrap_or, IfSome}
use Rattle.std.specs.List.{AllByRecursion, list_any}
use Rattle.std.proofs.lemmas.List.{drop_more, map-set}
use Rattle.std.proofs.lemmas.List.Elements.{recursion_from_All}
use Rattle.std.proofs.lemmas.Option.{slice_get-get_or, slice_get-map}
use Rattle.ps_command.specs.Initial.{IsInitial}
use Rattle.ps_command.specs.RunFits.{StartFits}
use Rattle.ps_command.specs.declared.setting.Setting.{Setting}
use Rattle.ps_command.specs.declared.state.State.{State}
use Rattle.ps_graph.proofs.Strides.{seated, step_at_is, step_at_none}
use Rattle.ps_graph.specs.Threads.{Seat, World}
use Rattle.ps_graph.specs.declared.graph.Graph.{Graph}
use Rattle.ps_trace.proofs.Columns.{next_step}
use Rattle.ps_trace.specs.Reaches.{witness_state, step_pair, steps_of}
use Rattle.ps_trace.specs.Replay.{along_first, at_error, entered, fails_at_last, MoveFits, moved_on, ReplayFits, Replays, StepsFit, TriesFit, world_of}
use Rattle.ps_trace.specs.declared.seat.Seat.{Seat as Kept}
use Rattle.ps_trace.specs.declared.step.Step.{Step}
use Rattle.ps_trace.specs.declared.witness.Witness.{Witness}
use Rattle.ps_trace.specs.inner.Trying.{AreSized, IsSizedWorld, seat_of, seats_from, seen_from, world_from}

false_true : false ≡ true → ⊥
false_true e = cc

abbrev at_one : Seat ℕ → Bool
at_one u = u.at == 1

-- ---- a thread that is set
or_parts : (a b : Bool) → (a || b) ≡ false → (a ≡ false) × (b ≡ false)
or_parts true b h = absurd (false_true (sym h))
or_parts false b h = (refl, h)

error_set : (us : List (Seat ℕ)) (k : ℕ) (u : Seat ℕ) → k < length us → list_any at_one us ≡ false → list_any at_one (slice_set us k u) ≡ (u.at == 1)
error_set [] k u w h = let no : ⊥ = omega (arith, w) in absurd no
error_set (t ∷ us) zero u w h = at (u.at == 1) (or_parts (at_one t) (list_any at_one us) h).1
  where
    at : (b : Bool) → list_any at_one us ≡ false → (b || list_any at_one us) ≡ b
    at true n = refl
    at false n = n
error_set (t ∷ us) (suc k) u w h =
    let q : (at_one t ≡ false) × (list_any at_one us ≡ false) = or_parts (at_one t) (list_any at_one us) h in
    ap (λ (b : Bool). b || list_any at_one (slice_set us k u)) q.0 ∙ error_set us k u (omega (arith, w)) q.1

sized_set : (n : ℕ) (us : List (Seat ℕ)) (k : ℕ) (u : Seat ℕ) → length u.locals ≡ n → AllByRecursion (λ (t : Seat ℕ). length t.locals ≡ n) us → AllByRecursion (λ (t : Seat ℕ). length t.locals ≡ n) (slice_set us k u)
sized_set n [] k u e h = tt
sized_set n (t ∷ us) zero u e h = (e, h.1)
sized_set n (t ∷ us) (suc k) u e h = (h.0, sized_set n us k u e h.1)

sized_at : (n : ℕ) (us : List (Seat ℕ)) (k : ℕ) (u : Seat ℕ) → slice_get us k ≡ Some u → AllByRecursion (λ (t : Seat ℕ). length t.locals ≡ n) us → length u.locals ≡ n
sized_at n [] k u g h = cc
sized_at n (t ∷ us) zero u g h = ap (λ (o : Option (Seat ℕ)). unwrap_or (option_map (λ (s : Seat ℕ). length s.locals) o) 0) (sym g) ∙ h.0
sized_at n (t ∷ us) (suc k) u g h = sized_at n us k u g h.1

length_map : (ss : List Kept) → length (map seat_of ss) ≡ length ss
length_map [] = refl
length_map (s ∷ ss) = ap suc (length_map ss)

seat_got : (ss : List Kept) (k : ℕ) (s : Kept) → k < length ss → s ≡ get_or ss k s → slice_get (map seat_of ss) k ≡ Some (seat_of s)
seat_got ss k s w is = slice_get-map seat_of ss k ∙ ap (option_map seat_of) (slice_get-get_or ss k s w ∙ ap Some (sym is))

pub seat_sized : (setting : Setting) (globals : List ℤ) (ss : List Kept) (k : ℕ) (s : Kept) → k < length ss → s ≡ get_or ss k s → IsSizedWorld setting (world_from globals ss) → AreSized setting (seen_from globals s)
seat_sized setting globals ss k s w is h = record { globals = h.globals; locals = sized_at setting.locals (map seat_of ss) k (seat_of s) (seat_got ss k s w is) h.seats }

-- ---- one step
module _ (graph : Graph) (m : ℕ × List ℤ) (globals : List ℤ) (ss : List Kept) (s : Kept) (w : m.0 < length ss) (is : s ≡ get_or ss m.0 s) where
  got : slice_get (map seat_of ss) m.0 ≡ Some (seat_of s)
  got = seat_got ss m.0 s w is

  moved_is : moved_on graph m (world_from globals ss)
      ≡ option_map (seated m.0 (map seat_of ss)) (along_first graph.setting.commands graph.edges s.at (seen_from globals s) m.1)
  moved_is = step_at_is (along_first graph.setting.commands graph.edges) m.0 globals (map seat_of ss) m.1 (seat_of s) got

  pub stays_here : along_first graph.setting.commands graph.edges s.at (seen_from globals s) m.1 ≡ None → moved_on graph m (world_from globals ss) ≡ None
  stays_here none = moved_is ∙ ap (option_map (seated m.0 (map seat_of ss))) none

  set_is : (t : Kept) (b : ℕ) (more : List ℤ) → t.at ≡ b → seated m.0 (map seat_of ss) (seen_from more t, b) ≡ world_from more (slice_set ss m.0 t)
  set_is t b more e =
      let seat : ℕ → Seat ℕ = λ i. record { locals = t.locals.items; at = i } in
      let make : List (Seat ℕ) → World ℕ = λ us. record { globals = more; seats = us } in
      ap make (ap (λ (i : ℕ). slice_set (map seat_of ss) m.0 (seat i)) (sym e) ∙ sym (map-set seat_of ss m.0 t))

  pub goes_here : (t : Kept) (b : ℕ) (more : List ℤ) → along_first graph.setting.commands graph.edges s.at (seen_from globals s) m.1 ≡ Some (seen_from more t, b) → t.at ≡ b →
      moved_on graph m (world_from globals ss) ≡ Some (world_from more (slice_set ss m.0 t))
  goes_here t b more some e = moved_is ∙ ap (option_map (seated m.0 (map seat_of ss))) some ∙ ap Some (set_is t b more e)

  pub error_here : (t : Kept) (b : ℕ) (more : List ℤ) → t.at ≡ b → at_error (world_from globals ss) ≡ false → at_error (world_from more (slice_set ss m.0 t)) ≡ (b == 1)
  error_here t b more e none =
      ap (list_any at_one) (map-set seat_of ss m.0 t)
      ∙ error_set (map seat_of ss) m.0 (seat_of t) (subst (λ (n : ℕ). m.0 < n) (sym (length_map ss)) w) none
      ∙ ap (λ (i : ℕ). i == 1) e

  pub sized_here : (t : Kept) (more : List ℤ) → AreSized graph.setting (seen_from more t) → IsSizedWorld graph.setting (world_from globals ss) → IsSizedWorld graph.setting (world_from more (slice_set ss m.0 t))
  sized_here t more sized h = record {
    globals = sized.globals;
    seats = subst (λ (us : List (Seat ℕ)). AllByRecursion (λ (u : Seat ℕ). length u.locals ≡ graph.setting.locals) us) (sym (map-set seat_of ss m.0 t))
        (sized_set graph.setting.locals (map seat_of ss) m.0 (seat_of t) sized.locals h.seats);
  }

  pub fits_here : TriesFit graph.setting.commands graph.edges s.at (seen_from globals s) m.1 → MoveFits graph m (world_from globals ss)
  fits_here f =
      subst (λ (o : Option (Seat ℕ)). IfSome o (λ (u : Seat ℕ). TriesFit graph.setting.commands graph.edges u.at (record { globals = globals; locals = u.locals }) m.1)) (sym got) f

  pub fit_here : MoveFits graph m (world_from globals ss) → TriesFit graph.setting.commands graph.edges s.at (seen_from globals s) m.1
  fit_here f =
      subst (λ (o : Option (Seat ℕ)). IfSome o (λ (u : Seat ℕ). TriesFit graph.setting.commands graph.edges u.at (record { globals = globals; locals = u.locals }) m.1)) got f

-- a thread that there isn't
none_got : (us : List (Seat ℕ)) (k : ℕ) → length us ≤ k → slice_get us k ≡ None
none_got [] k h = refl
none_got (u ∷ us) zero h = let no : ⊥ = omega (arith, h) in absurd no
none_got (u ∷ us) (suc k) h = none_got us k (omega (arith, h))

pub no_thread : (graph : Graph) (m : ℕ × List ℤ) (globals : List ℤ) (ss : List Kept) → length ss ≤ m.0 →
    (moved_on graph m (world_from globals ss) ≡ None) × MoveFits graph m (world_from globals ss)
no_thread graph m globals ss h =
    let past : length (map seat_of ss) ≤ m.0 = subst (λ (n : ℕ). n ≤ m.0) (sym (length_map ss)) h in
    let none : slice_get (map seat_of ss) m.0 ≡ None = none_got (map seat_of ss) m.0 past in (
      step_at_none (along_first graph.setting.commands graph.edges) m.0 globals (map seat_of ss) m.1 none,
      subst (λ (o : Option (Seat ℕ)). IfSome o (λ (u : Seat ℕ). TriesFit graph.setting.commands graph.edges u.at (record { globals = globals; locals = u.locals }) m.1)) (sym none) tt,
    )

-- ---- all steps
pub record IsWalking (graph : Graph) (all : List (ℕ × List ℤ)) (start w : World ℕ) (rest : List (ℕ × List ℤ)) (failed : Bool) : Type 0 where
  pub same : fails_at_last graph rest w ≡ fails_at_last graph all start
  pub failed_is : failed ≡ at_error w
  pub fits : StepsFit graph rest w → StepsFit graph all start
  pub fit : StepsFit graph all start → StepsFit graph rest w
  pub sized : IsSizedWorld graph.setting w

error_entered : (a : ℕ) (lss : List (List ℤ)) → 0 < length lss → list_any at_one (seats_from a lss) ≡ (a == 1)
error_entered a [] w = let no : ⊥ = omega (arith, w) in absurd no
error_entered a (ls ∷ []) w = at (a == 1)
  where
    at : (b : Bool) → (b || false) ≡ b
    at true = refl
    at false = refl
error_entered a (ls ∷ ms ∷ lss) w = ap (λ (b : Bool). (a == 1) || b) (error_entered a (ms ∷ lss) (omega arith)) ∙ at (a == 1)
  where
    at : (b : Bool) → (b || b) ≡ b
    at true = refl
    at false = refl

sized_entered : (n a : ℕ) (lss : List (List ℤ)) → AllByRecursion (λ (ls : List ℤ). length ls ≡ n) lss → AllByRecursion (λ (u : Seat ℕ). length u.locals ≡ n) (seats_from a lss)
sized_entered n a [] h = tt
sized_entered n a (ls ∷ lss) h = (h.0, sized_entered n a lss h.1)

pub walking_start : (graph : Graph) (all : List (ℕ × List ℤ)) (a : ℕ) (s : State) (w : World ℕ) (failed : Bool) → IsInitial graph.setting s → w ≡ entered a s → failed ≡ (a == 1) →
    IsWalking graph all (entered a s) w all failed
walking_start graph all a s w failed h e f = subst (λ (x : World ℕ). IsWalking graph all (entered a s) x all failed) (sym e) (record {
  same = refl;
  failed_is = f ∙ sym (error_entered a s.locals h.threads);
  fits = λ g. g;
  fit = λ g. g;
  sized = record {
    globals = h.globals;
    seats = sized_entered graph.setting.locals a s.locals (recursion_from_All (λ (ls : List ℤ). length ls ≡ graph.setting.locals) s.locals h.locals);
  };
})

module _ (graph : Graph) (all : List (ℕ × List ℤ)) (start w : World ℕ) (m : ℕ × List ℤ) (ms : List (ℕ × List ℤ)) (failed : Bool) (t : IsWalking graph all start w (m ∷ ms) failed) where
  -- after a failure no step is left
  pub walked_past : failed ≡ true → (fails_at_last graph all start ≡ false) × StepsFit graph all start
  walked_past f =
      let e : at_error w ≡ true = sym t.failed_is ∙ f in
      (sym t.same ∙ ap (λ (b : Bool). not b && unwrap_or (option_map (fails_at_last graph ms) (moved_on graph m w)) false) e, t.fits (λ no. absurd (false_true (sym no ∙ e))))

  none_yet : failed ≡ false → at_error w ≡ false
  none_yet f = sym t.failed_is ∙ f

  pub no_step : failed ≡ false → moved_on graph m w ≡ None → MoveFits graph m w → (fails_at_last graph all start ≡ false) × StepsFit graph all start
  no_step f none fits = (
    sym t.same ∙ ap₂ (λ (b : Bool) (o : Option (World ℕ)). not b && unwrap_or (option_map (fails_at_last graph ms) o) false) (none_yet f) none,
    t.fits (λ no. (fits, subst (λ (o : Option (World ℕ)). IfSome o (StepsFit graph ms)) (sym none) tt)),
  )

  pub walks_on : failed ≡ false → (x : World ℕ) (b : Bool) → moved_on graph m w ≡ Some x → b ≡ at_error x → MoveFits graph m w → IsSizedWorld graph.setting x → IsWalking graph all start x ms b
  walks_on f x b some e fits sized = record {
    same = sym (ap₂ (λ (b : Bool) (o : Option (World ℕ)). not b && unwrap_or (option_map (fails_at_last graph ms) o) false) (none_yet f) some) ∙ t.same;
    failed_is = e;
    fits = λ g. t.fits (λ no. (fits, subst (λ (o : Option (World ℕ)). IfSome o (StepsFit graph ms)) (sym some) g));
    fit = λ g. subst (λ (o : Option (World ℕ)). IfSome o (StepsFit graph ms)) some (t.fit g (none_yet f)).1;
    sized = sized;
  }

  pub walk_past : failed ≡ false → ¬ MoveFits graph m w → ¬ StepsFit graph all start
  walk_past f past g = past (t.fit g (none_yet f)).0

pub walked : (graph : Graph) (all : List (ℕ × List ℤ)) (start w : World ℕ) (rest : List (ℕ × List ℤ)) (failed : Bool) → rest ≡ [] → IsWalking graph all start w rest failed →
    (failed ≡ fails_at_last graph all start) × StepsFit graph all start
walked graph all start w rest failed e t =
    let r : IsWalking graph all start w [] failed = subst (λ (ms : List (ℕ × List ℤ)). IsWalking graph all start w ms failed) e t in
    (r.failed_is ∙ r.same, r.fits tt)

-- the steps from a number on are that of the number, by its thread and choices, and those after it
pub pairs_from : (ss : List Step) (n t : ℕ) (cs : List ℤ) → option_map (λ (s : Step). s.thread) (slice_get ss n) ≡ Some t → option_map (λ (s : Step). s.choices) (slice_get ss n) ≡ Some cs →
    map step_pair (drop n ss) ≡ (t, cs) ∷ map step_pair (drop (n + 1) ss)
pairs_from ss n t cs a b = ap (map step_pair) (next_step ss n t cs a b)

module _ (graph : Graph) (start w : World ℕ) (ss : List Step) (n : ℕ) (failed : Bool) (h : IsWalking graph (map step_pair ss) start w (map step_pair (drop n ss)) failed) where
  -- before the step of this number
  pub stepping : (t : ℕ) (cs : List ℤ) → option_map (λ (s : Step). s.thread) (slice_get ss n) ≡ Some t → option_map (λ (s : Step). s.choices) (slice_get ss n) ≡ Some cs →
      IsWalking graph (map step_pair ss) start w ((t, cs) ∷ map step_pair (drop (n + 1) ss)) failed
  stepping t cs a b = subst (λ (ms : List (ℕ × List ℤ)). IsWalking graph (map step_pair ss) start w ms failed) (pairs_from ss n t cs a b) h

  -- a failure before it
  pub failed_before : n < length ss → failed ≡ true → (fails_at_last graph (map step_pair ss) start ≡ false) × StepsFit graph (map step_pair ss) start
  failed_before l f =
      let d : Step = record { thread = 0; choices = [] } in
      walked_past graph (map step_pair ss) start w (step_pair (get_or ss n d)) (map step_pair (drop (n + 1) ss)) failed
      (subst (λ (ms : List (ℕ × List ℤ)). IsWalking graph (map step_pair ss) start w ms failed) (ap (map step_pair) (drop_more ss n d l)) h) f

-- ---- the whole replay
pub fits_not_initial : (graph : Graph) (w : Witness) (s : State) (answer : Bool) → s ≡ witness_state w → StartFits graph.setting s → (IsInitial graph.setting s → answer ≡ true) → answer ≡ false → ReplayFits graph w
fits_not_initial graph w s answer e f said wrong = record {
  start = subst (λ (x : State). StartFits graph.setting x) e f;
  steps = λ h. absurd (false_true (sym wrong ∙ said (subst (λ (x : State). IsInitial graph.setting x) (sym e) h)));
}

pub fits_whole : (graph : Graph) (w : Witness) (s : State) → s ≡ witness_state w → StartFits graph.setting s →
    StepsFit graph (steps_of w) (entered (slice_index_or graph.entries 0 0) s) → ReplayFits graph w
fits_whole graph w s e f g = record {
  start = subst (λ (x : State). StartFits graph.setting x) e f;
  steps = λ h. subst (λ (x : State). StepsFit graph (steps_of w) (entered (slice_index_or graph.entries 0 0) x)) e g;
}

pub past_whole : (graph : Graph) (w : Witness) (s : State) → s ≡ witness_state w → IsInitial graph.setting s →
    ¬ StepsFit graph (steps_of w) (entered (slice_index_or graph.entries 0 0) s) → ¬ ReplayFits graph w
past_whole graph w s e h past f =
    past (subst (λ (x : State). StepsFit graph (steps_of w) (entered (slice_index_or graph.entries 0 0) x)) (sym e)
    (f.steps (subst (λ (x : State). IsInitial graph.setting x) e h)))

pub answer_whole : (graph : Graph) (w : Witness) (s : State) (answer : Bool) → s ≡ witness_state w → IsInitial graph.setting s →
    answer ≡ fails_at_last graph (steps_of w) (entered (slice_index_or graph.entries 0 0) s) → (answer ≡ true → Replays graph w) × (Replays graph w → answer ≡ true)
answer_whole graph w s answer e h is = (λ t. record { initial = subst (λ (x : State). IsInitial graph.setting x) e h; fails = sym whole ∙ t }, λ r. whole ∙ r.fails)
  where
    whole : answer ≡ fails_at_last graph (steps_of w) (world_of graph w)
    whole = is ∙ ap (λ (x : State). fails_at_last graph (steps_of w) (entered (slice_index_or graph.entries 0 0) x)) e
