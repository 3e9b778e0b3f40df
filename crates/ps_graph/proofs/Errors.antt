-- Executions of which the last step fails first are letters of which the last enters the error, both ways.
use Rattle.std.proofs.Common.{◌≡◌, Bool, true, false, not, ◌&&◌, ◌||◌, ◌==◌, refl, sym, ◌∙◌, ap, ap₂, subst, ℕ, zero, suc, ℤ, List, [], ◌∷◌, length, eq-eqb, ne_eqb}
use Rattle.std.specs.Prelude.{Option, Some, None, option_map, slice_get, unwrap_or}
use Rattle.std.specs.List.{list_any}
use Rattle.std.specs.Option.{option_and_then}
use Rattle.std.proofs.lemmas.Option.{same_Some}
use Rattle.ps_command.specs.Run.{run_by, havocs_in}
use Rattle.ps_command.specs.Values.{Values}
use Rattle.ps_command.specs.declared.command.Command.{Command}
use Rattle.ps_command.specs.declared.op.Op.{Op}
use Rattle.ps_command.specs.declared.state.State.{State}
use Rattle.ps_graph.proofs.Letters.{moved_to, Located, woven, havocs_of-woven, havocs_count}
use Rattle.ps_graph.proofs.ManyThreads.{SeatsAreAt, WorldIsAt, LeadsAt, ComesAt, leads_at, comes_at}
use Rattle.ps_graph.proofs.Members.{IsIn}
use Rattle.ps_graph.proofs.OneThread.{along_parts}
use Rattle.ps_graph.proofs.Strides.{state_of, place_of, AreThreads, Strides, Strode, stride_forth, stride_back, relocated, numbered, in_numbered, edge_ops_are, threads_among}
use Rattle.ps_graph.specs.ErrorTrace.{HavocsFit, after_letters, edge_ops, enters_error, error_at_last}
use Rattle.ps_graph.specs.Errors.{AreLettersOf}
use Rattle.ps_graph.specs.Execution.{is_failed, at_error, fails_at_last}
use Rattle.ps_graph.specs.Facts.{after_edge}
use Rattle.ps_command.specs.Commands.{ops_of}
use Rattle.ps_graph.specs.Follows.{ThreadIsAt, along, StepsAreEdges}
use Rattle.ps_graph.specs.Picks.{values_in}
use Rattle.ps_graph.specs.Step.{Thread, Runs, Failed, step}
use Rattle.ps_graph.specs.Threads.{Seat, World, step_at, moved}
use Rattle.ps_graph.specs.declared.edge.Edge.{Edge}

-- ---- tests

or_parts : (a b : Bool) → (a || b) ≡ false → (a ≡ false) × (b ≡ false)
or_parts true b h = let no_such : true ≡ false = h in cc
or_parts false b h = (refl, h)

pub and_parts : (a b : Bool) → (a && b) ≡ true → (a ≡ true) × (b ≡ true)
and_parts true b h = (refl, h)
and_parts false b h = let no_such : false ≡ true = h in cc

pub not_parts : (a b : Bool) → (not a && b) ≡ true → (a ≡ false) × (b ≡ true)
not_parts true b h = let no_such : false ≡ true = h in cc
not_parts false b h = (refl, h)

or_false : (a b : Bool) → b ≡ false → (a || b) ≡ a
or_false true b h = refl
or_false false b h = h

-- ---- the error in a world

-- the seat is at the error
abbrev at_one : Seat ℕ → Bool
at_one u = u.at == 1

module _ (commands : List Command) (edges : List Edge) where
  pub failed_is : (t : Seat Thread) (a : ℕ) → ThreadIsAt commands edges t.at a → is_failed t ≡ (a == 1)
  failed_is t a h = on t.at h
    where
      on : (x : Thread) → ThreadIsAt commands edges x a → elim x [ Runs _ ↦ false | Failed ↦ true ] ≡ (a == 1)
      on Failed h = sym (eq-eqb a 1 h)
      on (Runs []) (ne, none) = sym (ne_eqb a 1 ne)
      on (Runs (s ∷ rest)) (b, ne, d, r) = sym (ne_eqb a 1 ne)

  pub errors_are : (ts : List (Seat Thread)) (us : List (Seat ℕ)) → SeatsAreAt commands edges ts us → list_any is_failed ts ≡ list_any at_one us
  errors_are [] [] s = refl
  errors_are [] (u ∷ us) s = absurd s
  errors_are (t ∷ ts) [] s = absurd s
  errors_are (t ∷ ts) (u ∷ us) (same, at, s) = ap₂ (λ a b. a || b) (failed_is t u.at at) (errors_are ts us s)

  abbrev first_walked : List (Seat ℕ) → Values × ℕ → World ℕ
  first_walked us q = record { globals = q.0.globals; seats = record { locals = q.0.locals; at = q.1 } ∷ us }

  abbrev walked_behind : Seat ℕ → World ℕ → World ℕ
  walked_behind u w = record { globals = w.globals; seats = u ∷ w.seats }

  -- after one stride from no error, the error is there exactly where the edge enters it
  error_after : (k : ℕ) (globals : List ℤ) (us : List (Seat ℕ)) (cs : List ℤ) (e : Edge) (x : World ℕ) → step_at (along commands e) k globals us cs ≡ Some x →
      list_any at_one us ≡ false → list_any at_one x.seats ≡ (e.target == 1)
  error_after k globals [] cs e x h n = cc
  error_after zero globals (u ∷ us) cs e x h n = on (along commands e u.at (record { globals = globals; locals = u.locals }) cs) refl h
    where
      target_is : (q : Values × ℕ) → ((e.source == u.at) ≡ true) × (after_edge commands e (record { globals = globals; locals = u.locals }) cs ≡ Some q.0) × (e.target ≡ q.1) → (q.1 == 1) ≡ (e.target == 1)
      target_is q (t, o, b) = ap (λ (i : ℕ). i == 1) (sym b)

      on : (o : Option (Values × ℕ)) → along commands e u.at (record { globals = globals; locals = u.locals }) cs ≡ o →
          option_map (first_walked us) o ≡ Some x → list_any at_one x.seats ≡ (e.target == 1)
      on None a m = cc
      on (Some q) a m =
          ap (λ (y : World ℕ). list_any at_one y.seats) (sym (same_Some (first_walked us q) x m))
          ∙ or_false (q.1 == 1) (list_any at_one us) (or_parts (at_one u) (list_any at_one us) n).1
          ∙ target_is q (along_parts (e.source == u.at) (after_edge commands e (record { globals = globals; locals = u.locals }) cs) q.0 e.target q.1 a)
  error_after (suc k) globals (u ∷ us) cs e x h n =
      on (step_at (along commands e) k globals us cs) refl
      (λ w m. error_after k globals us cs e w m (or_parts (at_one u) (list_any at_one us) n).1) h
    where
      on : (o : Option (World ℕ)) → step_at (along commands e) k globals us cs ≡ o →
          ((w : World ℕ) → step_at (along commands e) k globals us cs ≡ Some w → list_any at_one w.seats ≡ (e.target == 1)) →
          option_map (walked_behind u) o ≡ Some x → list_any at_one x.seats ≡ (e.target == 1)
      on None a f m = cc
      on (Some w) a f m =
          ap (λ (y : World ℕ). list_any at_one y.seats) (sym (same_Some (walked_behind u w) x m))
          ∙ ap₂ (λ a b. a || b) (or_parts (at_one u) (list_any at_one us) n).0 (f w a)

enters_is : (edges : List Edge) (n : ℕ) (e : Edge) → slice_get edges n ≡ Some e → enters_error edges n ≡ (e.target == 1)
enters_is edges n e g = ap (λ (o : Option Edge). unwrap_or (option_map (λ (e : Edge). e.target == 1) o) false) g

error_more : (edges : List Edge) (l : ℕ × ℕ) (ls : List (ℕ × ℕ)) → enters_error edges l.1 ≡ false → error_at_last edges ls ≡ true → error_at_last edges (l ∷ ls) ≡ true
error_more edges l [] n e = let no_such : false ≡ true = e in cc
error_more edges l (m ∷ ls) n e = ap₂ (λ a b. not a && b) n e

-- ---- an execution gives letters

pub record Traced (commands : List Command) (edges : List Edge) (steps : List (ℕ × List ℤ)) (l : World ℕ) : Type 0 where
  pub letters : List (ℕ × ℕ)
  pub havocs : List (List ℤ)
  pub after : World ℕ
  pub are : AreLettersOf edges steps letters havocs
  pub threads : AreThreads (length l.seats) letters
  pub located : Located edges (place_of l) letters
  pub fits : HavocsFit commands edges letters havocs
  pub runs : after_letters commands edges letters havocs (state_of l) ≡ Some (state_of after)
  pub error : error_at_last edges letters ≡ true

-- the letters of the steps after one along an edge by a thread
record Tail (commands : List Command) (edges : List Edge) (steps : List (ℕ × List ℤ)) (l : World ℕ) (e : Edge) (k : ℕ) : Type 0 where
  pub letters : List (ℕ × ℕ)
  pub havocs : List (List ℤ)
  pub after : World ℕ
  pub are : AreLettersOf edges steps letters havocs
  pub threads : AreThreads (length l.seats) letters
  pub located : Located edges (place_of l) letters
  pub fits : HavocsFit commands edges letters havocs
  pub runs : after_letters commands edges letters havocs (state_of l) ≡ Some (state_of after)
  pub error : (n : ℕ) → slice_get edges n ≡ Some e → error_at_last edges ((k, n) ∷ letters) ≡ true

module _ (commands : List Command) (edges : List Edge) (one : StepsAreEdges commands edges)
    (counts : (e : Edge) → IsIn e edges → values_in e.picks ≡ havocs_in (ops_of commands e.command)) where
  tail : (ms : List (ℕ × List ℤ)) (x : World Thread) (y : World ℕ) (e : Edge) (k : ℕ) → at_error x ≡ (e.target == 1) → fails_at_last ms x ≡ true →
      (at_error x ≡ false → Traced commands edges ms y) → Tail commands edges ms y e k
  tail [] x y e k same f rest =
      record { letters = []; havocs = []; after = y; are = tt; threads = tt; located = tt; fits = tt; runs = refl; error = λ n g. enters_is edges n e g ∙ sym same ∙ f }
  tail (m ∷ ms) x y e k same f rest =
      let none : at_error x ≡ false = (not_parts (at_error x) (unwrap_or (option_map (fails_at_last ms) (moved step m x)) false) f).0 in
      let r : Traced commands edges (m ∷ ms) y = rest none in
      record {
        letters = r.letters;
        havocs = r.havocs;
        after = r.after;
        are = r.are;
        threads = r.threads;
        located = r.located;
        fits = r.fits;
        runs = r.runs;
        error = λ n g. error_more edges (k, n) r.letters (enters_is edges n e g ∙ sym same ∙ none) r.error;
      }

  put : (m : ℕ × List ℤ) (ms : List (ℕ × List ℤ)) (l y : World ℕ) (e : Edge) → IsIn e edges → Strides commands m.0 e m.1 l y → (n : ℕ) × (slice_get edges n ≡ Some e) →
      Tail commands edges ms y e m.0 → Traced commands edges (m ∷ ms) l
  put m ms l y e i a (n, g) b = record {
    letters = (m.0, n) ∷ b.letters;
    havocs = a.havocs ∷ b.havocs;
    after = b.after;
    are = (refl, e, g, a.fits, b.are);
    threads = (a.within, threads_among (length y.seats) (length l.seats) b.letters a.same_number b.threads);
    located = (e, g, a.source, relocated edges b.letters (place_of y) (moved_to (place_of l) m.0 e.target) a.moves b.located);
    fits = (havocs_count e.picks m.1 a.havocs a.fits ∙ counts e i ∙ ap havocs_in (sym (edge_ops_are commands edges n e g)), b.fits);
    runs = ap (λ (ops : List Op). option_and_then (after_letters commands edges b.letters b.havocs) (run_by m.0 ops (state_of l) a.havocs)) (edge_ops_are commands edges n e g)
        ∙ ap (option_and_then (after_letters commands edges b.letters b.havocs)) a.runs
        ∙ b.runs;
    error = b.error n g;
  }

  pub traced : (steps : List (ℕ × List ℤ)) (w : World Thread) (l : World ℕ) → WorldIsAt commands edges w l → at_error w ≡ false → fails_at_last steps w ≡ true →
      Traced commands edges steps l
  traced [] w l h n f = let no_such : false ≡ true = sym n ∙ f in cc
  traced (m ∷ ms) w l h n f =
      on (step_at step m.0 w.globals w.seats m.1) (leads_at commands edges one m.0 w.globals w.seats l.seats m.1 h.seats)
      (not_parts (at_error w) (unwrap_or (option_map (fails_at_last ms) (moved step m w)) false) f).1
      (λ x y k q g. traced ms x y k q g)
    where
      on : (o : Option (World Thread)) → LeadsAt commands edges one m.0 w.globals l.seats m.1 o → unwrap_or (option_map (fails_at_last ms) o) false ≡ true →
          ((x : World Thread) (y : World ℕ) → WorldIsAt commands edges x y → at_error x ≡ false → fails_at_last ms x ≡ true → Traced commands edges ms y) →
          Traced commands edges (m ∷ ms) l
      on None k u rest = let no_such : false ≡ true = u in cc
      on (Some x) (e, y, i, r, k) u rest =
          let s : step_at (along commands e) m.0 l.globals l.seats m.1 ≡ Some y =
          subst (λ (g : List ℤ). step_at (along commands e) m.0 g l.seats m.1 ≡ Some y) h.globals r in
          let same : at_error x ≡ (e.target == 1) =
          errors_are commands edges x.seats y.seats k.seats
          ∙ error_after commands edges m.0 l.globals l.seats m.1 e y s (sym (errors_are commands edges w.seats l.seats h.seats) ∙ n) in
          put m ms l y e i (stride_forth commands m.0 e m.1 l y s) (numbered e edges i)
          (tail ms x y e m.0 same u (λ g. rest x y k g u))

-- ---- letters give an execution

pub record Came (edges : List Edge) (letters : List (ℕ × ℕ)) (havocs : List (List ℤ)) (w : World Thread) : Type 0 where
  pub steps : List (ℕ × List ℤ)
  pub are : AreLettersOf edges steps letters havocs
  pub fails : fails_at_last steps w ≡ true

-- the steps after one, where the letter before either enters the error and is the last one, or doesn't
record CameTail (edges : List Edge) (letters : List (ℕ × ℕ)) (havocs : List (List ℤ)) (w : World Thread) : Type 0 where
  pub steps : List (ℕ × List ℤ)
  pub are : AreLettersOf edges steps letters havocs
  pub fails : fails_at_last steps w ≡ true

module _ (commands : List Command) (edges : List Edge) (one : StepsAreEdges commands edges)
    (counts : (e : Edge) → IsIn e edges → values_in e.picks ≡ havocs_in (ops_of commands e.command)) where
  came_tail : (k : ℕ × ℕ) (ls : List (ℕ × ℕ)) (hss : List (List ℤ)) (e : Edge) (x : World Thread) → slice_get edges k.1 ≡ Some e → at_error x ≡ (e.target == 1) →
      HavocsFit commands edges ls hss → error_at_last edges (k ∷ ls) ≡ true → (at_error x ≡ false → error_at_last edges ls ≡ true → Came edges ls hss x) → CameTail edges ls hss x
  came_tail k [] [] e x g same f er rest = record { steps = []; are = tt; fails = same ∙ sym (enters_is edges k.1 e g) ∙ er }
  came_tail k [] (hs ∷ hss) e x g same f er rest = absurd f
  came_tail k (l ∷ ls) hss e x g same f er rest =
      let q : (enters_error edges k.1 ≡ false) × (error_at_last edges (l ∷ ls) ≡ true) = not_parts (enters_error edges k.1) (error_at_last edges (l ∷ ls)) er in
      let c : Came edges (l ∷ ls) hss x = rest (same ∙ sym (enters_is edges k.1 e g) ∙ q.0) q.1 in
      record { steps = c.steps; are = c.are; fails = c.fails }

  fails_cons : (m : ℕ × List ℤ) (ms : List (ℕ × List ℤ)) (w x : World Thread) → at_error w ≡ false → step_at step m.0 w.globals w.seats m.1 ≡ Some x →
      fails_at_last ms x ≡ true → fails_at_last (m ∷ ms) w ≡ true
  fails_cons m ms w x n q f = ap₂ (λ a b. not a && b) n (ap (λ (o : Option (World Thread)). unwrap_or (option_map (fails_at_last ms) o) false) q ∙ f)

  pub came : (ls : List (ℕ × ℕ)) (hss : List (List ℤ)) (w : World Thread) (l : World ℕ) (s : State) → WorldIsAt commands edges w l → at_error w ≡ false →
      AreThreads (length l.seats) ls → Located edges (place_of l) ls → HavocsFit commands edges ls hss →
      after_letters commands edges ls hss (state_of l) ≡ Some s → error_at_last edges ls ≡ true → Came edges ls hss w
  came [] hss w l s h n t g f r er = let no_such : false ≡ true = er in cc
  came (k ∷ ls) [] w l s h n t g f r er = absurd f
  came (k ∷ ls) (hs ∷ hss) w l s h n (within, t) (e, g, source, located) (count, f) r er =
      first (run_by k.0 (edge_ops commands edges k.1) (state_of l) hs) refl r
      (λ x y u j th lo ru err. came ls hss x y s u j th lo f ru err)
    where
      is_edge : IsIn e edges
      is_edge = in_numbered e edges k.1 g

      fit : length hs ≡ values_in e.picks
      fit = count ∙ ap havocs_in (edge_ops_are commands edges k.1 e g) ∙ sym (counts e is_edge)

      cs : List ℤ
      cs = woven e.picks hs

      put : (i : State) → Strode commands k.0 e (woven e.picks hs) l i → after_letters commands edges ls hss i ≡ Some s →
          ((x : World Thread) (y : World ℕ) → WorldIsAt commands edges x y → at_error x ≡ false → AreThreads (length y.seats) ls → Located edges (place_of y) ls →
          after_letters commands edges ls hss (state_of y) ≡ Some s → error_at_last edges ls ≡ true → Came edges ls hss x) →
          Came edges (k ∷ ls) (hs ∷ hss) w
      put i a ru rest =
          on (subst (λ (o : Option (World ℕ)). ComesAt commands edges one k.0 l.globals w.seats (woven e.picks hs) o) a.steps
          (comes_at commands edges one k.0 l.globals w.seats l.seats (woven e.picks hs) h.seats e is_edge))
        where
          on : ComesAt commands edges one k.0 l.globals w.seats (woven e.picks hs) (Some a.after) → Came edges (k ∷ ls) (hs ∷ hss) w
          on (x, q, u) =
              let st : step_at step k.0 w.globals w.seats (woven e.picks hs) ≡ Some x =
              subst (λ (g : List ℤ). step_at step k.0 g w.seats (woven e.picks hs) ≡ Some x) (sym h.globals) q in
              let same : at_error x ≡ (e.target == 1) =
              errors_are commands edges x.seats a.after.seats u.seats
              ∙ error_after commands edges k.0 l.globals l.seats (woven e.picks hs) e a.after a.steps (sym (errors_are commands edges w.seats l.seats h.seats) ∙ n) in
              let c : CameTail edges ls hss x =
              came_tail k ls hss e x g same f er (λ none err. rest x a.after u none
              (threads_among (length l.seats) (length a.after.seats) ls (sym a.same_number) t)
              (relocated edges ls (moved_to (place_of l) k.0 e.target) (place_of a.after) (λ j. sym (a.moves j)) located)
              (ap (after_letters commands edges ls hss) a.state ∙ ru) err) in
              record {
                steps = (k.0, woven e.picks hs) ∷ c.steps;
                are = (refl, e, g, havocs_of-woven e.picks hs fit, c.are);
                fails = fails_cons (k.0, woven e.picks hs) c.steps w x n st c.fails;
              }

      first : (o : Option State) → run_by k.0 (edge_ops commands edges k.1) (state_of l) hs ≡ o → option_and_then (after_letters commands edges ls hss) o ≡ Some s →
          ((x : World Thread) (y : World ℕ) → WorldIsAt commands edges x y → at_error x ≡ false → AreThreads (length y.seats) ls → Located edges (place_of y) ls →
          after_letters commands edges ls hss (state_of y) ≡ Some s → error_at_last edges ls ≡ true → Came edges ls hss x) →
          Came edges (k ∷ ls) (hs ∷ hss) w
      first None o ru rest = cc
      first (Some i) o ru rest =
          put i (stride_back commands k.0 e (woven e.picks hs) hs l i within source (havocs_of-woven e.picks hs fit)
          (ap (λ (ops : List Op). run_by k.0 ops (state_of l) hs) (sym (edge_ops_are commands edges k.1 e g)) ∙ o)) ru rest
