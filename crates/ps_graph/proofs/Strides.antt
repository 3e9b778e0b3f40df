-- A stride is a step of one thread along an edge: what it does to the state, and to the locations of the threads.
use Rattle.std.proofs.Common.{◌≡◌, Bool, true, false, ◌&&◌, ◌==◌, refl, sym, ◌∙◌, ap, subst, ℕ, zero, suc, ◌<◌, ℤ, List, [], ◌∷◌, length, map, get_or, ◌⊎◌, inl, inr, if◌then◌else◌, eq-eqb, arith}
use Rattle.std.specs.Prelude.{Option, Some, None, option_map, slice_get, slice_set, slice_index_or, unwrap_or, IsTrue}
use Rattle.std.specs.List.{list_all, AllByRecursion}
use Rattle.std.specs.Option.{option_and_then}
use Rattle.std.proofs.lemmas.Bool.{eqb-true, eqb-false}
use Rattle.std.proofs.lemmas.List.{get_or-set_same, get_or-set_other, length-set, map-set}
use Rattle.std.proofs.lemmas.Option.{same_Some, slice_get_within, slice_get-map, get_or_from_slice_get, slice_get-get_or}
use Rattle.ps_command.specs.Run.{run, run_by, havocs_in}
use Rattle.ps_command.specs.Values.{Values, values_of, with_values}
use Rattle.ps_command.specs.declared.command.Command.{Command}
use Rattle.ps_command.specs.declared.state.State.{State}
use Rattle.ps_graph.proofs.Letters.{moved_to, Located}
use Rattle.ps_graph.proofs.Members.{IsIn}
use Rattle.ps_graph.proofs.OneThread.{along_is, along_parts}
use Rattle.ps_graph.specs.ErrorTrace.{edge_ops}
use Rattle.ps_graph.specs.Facts.{after_edge, picks_fit}
use Rattle.ps_command.specs.Commands.{ops_of}
use Rattle.ps_graph.specs.Follows.{along}
use Rattle.ps_graph.specs.Picks.{havocs_of, values_in}
use Rattle.ps_graph.specs.Threads.{Seat, World, Stepping, step_at}
use Rattle.ps_graph.specs.declared.edge.Edge.{Edge}

-- the values of a world of threads at locations
abbrev pub state_of : World ℕ → State
state_of w = record { globals = w.globals; locals = map (λ (u : Seat ℕ). u.locals) w.seats }

-- the locations of threads, as a list
abbrev pub places : World ℕ → List ℕ
places w = map (λ (u : Seat ℕ). u.at) w.seats

-- where a thread is; a thread that there isn't is at location 0
abbrev pub place_of : World ℕ → ℕ → ℕ
place_of w k = slice_index_or (places w) k 0

-- every letter is of one of so many threads
abbrev pub AreThreads : ℕ → List (ℕ × ℕ) → Type 0
AreThreads n ls = AllByRecursion (λ (l : ℕ × ℕ). l.0 < n) ls

-- the world after a thread came to values and a place
abbrev pub seated : {At : Type 0} → ℕ → List (Seat At) → Values × At → World At
seated k us q = record { globals = q.0.globals; seats = slice_set us k (record { locals = q.0.locals; at = q.1 }) }

abbrev behind : {At : Type 0} → Seat At → World At → World At
behind t w = record { globals = w.globals; seats = t ∷ w.seats }

-- the step of a thread that there is
pub step_at_is : {At : Type 0} → (one : Stepping At) (k : ℕ) (globals : List ℤ) (us : List (Seat At)) (cs : List ℤ) (u : Seat At) → slice_get us k ≡ Some u →
    step_at one k globals us cs ≡ option_map (seated k us) (one u.at (record { globals = globals; locals = u.locals }) cs)
step_at_is one k globals [] cs u h = cc
step_at_is {At} one zero globals (t ∷ us) cs u h =
    ap (λ (v : Seat At). option_map (seated zero (t ∷ us)) (one v.at (record { globals = globals; locals = v.locals }) cs)) (same_Some t u h)
step_at_is {At} one (suc k) globals (t ∷ us) cs u h =
    ap (option_map (behind t)) (step_at_is one k globals us cs u h) ∙ at (one u.at (record { globals = globals; locals = u.locals }) cs)
  where
    at : (o : Option (Values × At)) → option_map (behind t) (option_map (seated k us) o) ≡ option_map (seated (suc k) (t ∷ us)) o
    at None = refl
    at (Some q) = refl

-- a thread that there isn't has no step
pub step_at_none : {At : Type 0} → (one : Stepping At) (k : ℕ) (globals : List ℤ) (us : List (Seat At)) (cs : List ℤ) → slice_get us k ≡ None →
    step_at one k globals us cs ≡ None
step_at_none one k globals [] cs h = refl
step_at_none one zero globals (t ∷ us) cs h = cc
step_at_none one (suc k) globals (t ∷ us) cs h = ap (option_map (behind t)) (step_at_none one k globals us cs h)

-- the values that a thread that there is sees, and the place at which it is
values_are : (w : World ℕ) (k : ℕ) (u : Seat ℕ) → slice_get w.seats k ≡ Some u →
    values_of k (state_of w) ≡ record { globals = w.globals; locals = u.locals }
values_are w k u h =
    let looked : slice_get (map (λ (u : Seat ℕ). u.locals) w.seats) k ≡ Some u.locals =
    slice_get-map (λ (u : Seat ℕ). u.locals) w.seats k ∙ ap (option_map (λ (u : Seat ℕ). u.locals)) h in
    let make : List ℤ → Values = λ ls. record { globals = w.globals; locals = ls } in
    ap make (get_or_from_slice_get (map (λ (u : Seat ℕ). u.locals) w.seats) k u.locals [] looked)

place_is : (w : World ℕ) (k : ℕ) (u : Seat ℕ) → slice_get w.seats k ≡ Some u → place_of w k ≡ u.at
place_is w k u h =
    let looked : slice_get (places w) k ≡ Some u.at = slice_get-map (λ (u : Seat ℕ). u.at) w.seats k ∙ ap (option_map (λ (u : Seat ℕ). u.at)) h in
    get_or_from_slice_get (places w) k u.at 0 looked

-- the state and the places after a thread came to values and a place
pub state_seated : (w : World ℕ) (k : ℕ) (v : Values) (b : ℕ) → state_of (seated k w.seats (v, b)) ≡ with_values k (state_of w) v
state_seated w k v b =
    let make : List (List ℤ) → State = λ ls. record { globals = v.globals; locals = ls } in
    ap make (map-set (λ (u : Seat ℕ). u.locals) w.seats k (record { locals = v.locals; at = b }))

pub length_map : {X Y : Type 0} → (f : X → Y) (xs : List X) → length (map f xs) ≡ length xs
length_map f [] = refl
length_map f (x ∷ xs) = ap suc (length_map f xs)

place_seated : (w : World ℕ) (k : ℕ) (v : Values) (b : ℕ) → k < length w.seats → (j : ℕ) → place_of (seated k w.seats (v, b)) j ≡ moved_to (place_of w) k b j
place_seated w k v b within j =
    ap (λ (ps : List ℕ). get_or ps j 0) (map-set (λ (u : Seat ℕ). u.at) w.seats k (record { locals = v.locals; at = b }))
    ∙ at (k == j) refl
  where
    at : (t : Bool) → (k == j) ≡ t → get_or (slice_set (places w) k b) j 0 ≡ (if t then b else get_or (places w) j 0)
    at true t =
        let same : k ≡ j = eqb-true k j t in
        let inside : k < length (places w) = omega (arith, length_map (λ (u : Seat ℕ). u.at) w.seats) in
        ap (λ (i : ℕ). get_or (slice_set (places w) k b) i 0) (sym same) ∙ get_or-set_same (places w) k b 0 inside
    at false t = get_or-set_other (places w) k j b 0 (λ e. eqb-false k j t (sym e))

-- letters are located from any equal places
pub relocated : (edges : List Edge) (ls : List (ℕ × ℕ)) (f g : ℕ → ℕ) → ((j : ℕ) → f j ≡ g j) → Located edges f ls → Located edges g ls
relocated edges [] f g same h = tt
relocated edges (l ∷ ls) f g same (e, i, s, h) =
    (e, i, s ∙ same l.0, relocated edges ls (moved_to f l.0 e.target) (moved_to g l.0 e.target) (λ j. at j (l.0 == j)) h)
  where
    at : (j : ℕ) (t : Bool) → (if t then e.target else f j) ≡ (if t then e.target else g j)
    at j true = refl
    at j false = same j

-- an edge of the list has a number
pub numbered : (e : Edge) (edges : List Edge) → IsIn e edges → (n : ℕ) × (slice_get edges n ≡ Some e)
numbered e [] h = absurd h
numbered e (d ∷ edges) (inl same) = (zero, ap Some (sym same))
numbered e (d ∷ edges) (inr h) = at (numbered e edges h)
  where
    at : (n : ℕ) × (slice_get edges n ≡ Some e) → (n : ℕ) × (slice_get (d ∷ edges) n ≡ Some e)
    at (n, g) = (suc n, g)

pub in_numbered : (e : Edge) (edges : List Edge) (n : ℕ) → slice_get edges n ≡ Some e → IsIn e edges
in_numbered e [] n h = cc
in_numbered e (d ∷ edges) zero h = inl (sym (same_Some d e h))
in_numbered e (d ∷ edges) (suc n) h = inr (in_numbered e edges n h)

-- what one stride does
pub record Strides (commands : List Command) (k : ℕ) (e : Edge) (cs : List ℤ) (w x : World ℕ) : Type 0 where
  pub havocs : List ℤ
  pub within : k < length w.seats
  pub source : e.source ≡ place_of w k
  pub fits : havocs_of e.picks cs ≡ Some havocs
  pub runs : run_by k (ops_of commands e.command) (state_of w) havocs ≡ Some (state_of x)
  pub moves : (j : ℕ) → place_of x j ≡ moved_to (place_of w) k e.target j
  pub same_number : length x.seats ≡ length w.seats

pub stride_forth : (commands : List Command) (k : ℕ) (e : Edge) (cs : List ℤ) (w x : World ℕ) → step_at (along commands e) k w.globals w.seats cs ≡ Some x →
    Strides commands k e cs w x
stride_forth commands k e cs w x h = seat (slice_get w.seats k) refl
  where
    ran : (u : Seat ℕ) → slice_get w.seats k ≡ Some u → (v : Values) → e.source ≡ u.at → seated k w.seats (v, e.target) ≡ x → (o : Option (List ℤ)) → havocs_of e.picks cs ≡ o →
        option_and_then (run (ops_of commands e.command) (record { globals = w.globals; locals = u.locals })) o ≡ Some v → Strides commands k e cs w x
    ran u g v s same None f r = cc
    ran u g v s same (Some hs) f r = record {
      havocs = hs;
      within = slice_get_within w.seats k u g;
      source = s ∙ sym (place_is w k u g);
      fits = f;
      runs = ap (λ (vs : Values). option_map (with_values k (state_of w)) (run (ops_of commands e.command) vs hs)) (values_are w k u g)
          ∙ ap (option_map (with_values k (state_of w))) r
          ∙ ap Some (sym (state_seated w k v e.target) ∙ ap state_of same);
      moves = λ j. ap (λ (y : World ℕ). place_of y j) (sym same) ∙ place_seated w k v e.target (slice_get_within w.seats k u g) j;
      same_number = ap (λ (y : World ℕ). length y.seats) (sym same) ∙ length-set w.seats k (record { locals = v.locals; at = e.target });
    }

    parts : (u : Seat ℕ) → slice_get w.seats k ≡ Some u → (q : Values × ℕ) → seated k w.seats q ≡ x →
        ((e.source == u.at) ≡ true) × (after_edge commands e (record { globals = w.globals; locals = u.locals }) cs ≡ Some q.0) × (e.target ≡ q.1) → Strides commands k e cs w x
    parts u g q same (t, o, b) =
        ran u g q.0 (eqb-true e.source u.at t) (ap (λ (i : ℕ). seated k w.seats (q.0, i)) b ∙ same) (havocs_of e.picks cs) refl o

    taken : (u : Seat ℕ) → slice_get w.seats k ≡ Some u → (o : Option (Values × ℕ)) → along commands e u.at (record { globals = w.globals; locals = u.locals }) cs ≡ o →
        option_map (seated k w.seats) o ≡ Some x → Strides commands k e cs w x
    taken u g None a m = cc
    taken u g (Some q) a m =
        parts u g q (same_Some (seated k w.seats q) x m)
        (along_parts (e.source == u.at) (after_edge commands e (record { globals = w.globals; locals = u.locals }) cs) q.0 e.target q.1 a)

    seat : (o : Option (Seat ℕ)) → slice_get w.seats k ≡ o → Strides commands k e cs w x
    seat None g = let no_such : None ≡ Some x = sym (step_at_none (along commands e) k w.globals w.seats cs g) ∙ h in cc
    seat (Some u) g =
        taken u g (along commands e u.at (record { globals = w.globals; locals = u.locals }) cs) refl (sym (step_at_is (along commands e) k w.globals w.seats cs u g) ∙ h)

-- a stride that runs
pub record Strode (commands : List Command) (k : ℕ) (e : Edge) (cs : List ℤ) (w : World ℕ) (s : State) : Type 0 where
  pub after : World ℕ
  pub steps : step_at (along commands e) k w.globals w.seats cs ≡ Some after
  pub state : state_of after ≡ s
  pub moves : (j : ℕ) → place_of after j ≡ moved_to (place_of w) k e.target j
  pub same_number : length after.seats ≡ length w.seats

pub stride_back : (commands : List Command) (k : ℕ) (e : Edge) (cs hs : List ℤ) (w : World ℕ) (s : State) → k < length w.seats → e.source ≡ place_of w k →
    havocs_of e.picks cs ≡ Some hs → run_by k (ops_of commands e.command) (state_of w) hs ≡ Some s → Strode commands k e cs w s
stride_back commands k e cs hs w s within source fits runs = seat (get_or w.seats k (record { locals = []; at = 0 })) (slice_get-get_or w.seats k (record { locals = []; at = 0 }) within)
  where
    ran : (u : Seat ℕ) → slice_get w.seats k ≡ Some u → (o : Option Values) → run (ops_of commands e.command) (record { globals = w.globals; locals = u.locals }) hs ≡ o →
        option_map (with_values k (state_of w)) o ≡ Some s → Strode commands k e cs w s
    ran u g None r m = cc
    ran u g (Some v) r m = record {
      after = seated k w.seats (v, e.target);
      steps = step_at_is (along commands e) k w.globals w.seats cs u g
          ∙ ap (option_map (seated k w.seats))
          (along_is (e.source == u.at) (after_edge commands e (record { globals = w.globals; locals = u.locals }) cs) v e.target
          (eq-eqb e.source u.at (source ∙ place_is w k u g))
          (ap (option_and_then (run (ops_of commands e.command) (record { globals = w.globals; locals = u.locals }))) fits ∙ r));
      state = state_seated w k v e.target ∙ same_Some (with_values k (state_of w) v) s m;
      moves = place_seated w k v e.target within;
      same_number = length-set w.seats k (record { locals = v.locals; at = e.target });
    }

    seat : (u : Seat ℕ) → slice_get w.seats k ≡ Some u → Strode commands k e cs w s
    seat u g =
        ran u g (run (ops_of commands e.command) (record { globals = w.globals; locals = u.locals }) hs) refl
        (ap (λ (vs : Values). option_map (with_values k (state_of w)) (run (ops_of commands e.command) vs hs)) (sym (values_are w k u g)) ∙ runs)

-- the ops of an edge of a number
pub edge_ops_are : (commands : List Command) (edges : List Edge) (n : ℕ) (e : Edge) → slice_get edges n ≡ Some e → edge_ops commands edges n ≡ ops_of commands e.command
edge_ops_are commands edges n e g = ap (λ (o : Option Edge). unwrap_or (option_map (λ (e : Edge). ops_of commands e.command) o) []) g

pub threads_among : (m n : ℕ) (ls : List (ℕ × ℕ)) → m ≡ n → AreThreads m ls → AreThreads n ls
threads_among m n ls e h = subst (λ (i : ℕ). AreThreads i ls) e h

all_in : {X : Type 0} → (test : X → Bool) (x : X) (xs : List X) → list_all test xs ≡ true → IsIn x xs → test x ≡ true
all_in test x [] h i = absurd i
all_in test x (y ∷ xs) h i = at (test y) refl (list_all test xs) refl h i (λ g j. all_in test x xs g j)
  where
    at : (t : Bool) → test y ≡ t → (u : Bool) → list_all test xs ≡ u → (t && u) ≡ true → (x ≡ y) ⊎ IsIn x xs →
        (list_all test xs ≡ true → IsIn x xs → test x ≡ true) → test x ≡ true
    at true t true u h (inl e) rest = ap test e ∙ t
    at true t true u h (inr j) rest = rest u j
    at true t false u h i rest = let no_such : false ≡ true = h in cc
    at false t u v h i rest = let no_such : false ≡ true = h in cc

-- each edge's picks have as many values as its command has havocs
pub picks_count : (commands : List Command) (edges : List Edge) → IsTrue (picks_fit commands edges) →
    (e : Edge) → IsIn e edges → values_in e.picks ≡ havocs_in (ops_of commands e.command)
unfolding picks_fit
picks_count commands edges h e i =
    eqb-true (values_in e.picks) (havocs_in (ops_of commands e.command))
    (all_in (λ (e : Edge). values_in e.picks == havocs_in (ops_of commands e.command)) e edges h i)
