-- The steps of many threads are the edges that leave the locations at which they are.
use Rattle.std.proofs.Common.{◌≡◌, refl, sym, ap, subst, ℕ, zero, suc, ℤ, List, [], ◌∷◌}
use Rattle.std.specs.Prelude.{Option, Some, None, option_map, Contains}
use Rattle.ps_command.specs.Values.{Values}
use Rattle.ps_command.specs.declared.command.Command.{Command}
use Rattle.ps_graph.proofs.Members.{IsIn, contains_of_in, in_of_contains}
use Rattle.ps_graph.specs.Follows.{ThreadIsAt, along, StepsAreEdges}
use Rattle.ps_graph.specs.Step.{Thread, step}
use Rattle.ps_graph.specs.Threads.{Seat, World, step_at}
use Rattle.ps_graph.specs.declared.edge.Edge.{Edge}

-- thread by thread the locals are the same, and the one is at the other's location
abbrev pub SeatsAreAt : List Command → List Edge → List (Seat Thread) → List (Seat ℕ) → Type 0
SeatsAreAt commands edges [] [] = Unit {0}
SeatsAreAt commands edges (t ∷ ts) (u ∷ us) =
    (t.locals ≡ u.locals) × ThreadIsAt commands edges t.at u.at × SeatsAreAt commands edges ts us
SeatsAreAt commands edges _ _ = ⊥

-- the globals are the same, and thread by thread the locals, and each thread is at its location
pub record WorldIsAt (commands : List Command) (edges : List Edge) (w : World Thread) (l : World ℕ) : Type 0 where
  pub globals : w.globals ≡ l.globals
  pub seats : SeatsAreAt commands edges w.seats l.seats

module _ (commands : List Command) (edges : List Edge) (one : StepsAreEdges commands edges) where
  -- the step of a thread, if there is one, is along some edge
  abbrev pub LeadsAt : ℕ → List ℤ → List (Seat ℕ) → List ℤ → Option (World Thread) → Type 0
  LeadsAt k globals us cs None = Unit {0}
  LeadsAt k globals us cs (Some w) =
      (e : Edge) × (l : World ℕ) × IsIn e edges × (step_at (along commands e) k globals us cs ≡ Some l) × WorldIsAt commands edges w l

  -- the step along an edge, if there is one, is a step of the thread
  abbrev pub ComesAt : ℕ → List ℤ → List (Seat Thread) → List ℤ → Option (World ℕ) → Type 0
  ComesAt k globals ts cs None = Unit {0}
  ComesAt k globals ts cs (Some l) = (w : World Thread) × (step_at step k globals ts cs ≡ Some w) × WorldIsAt commands edges w l

  abbrev moved_first : List (Seat Thread) → Values × Thread → World Thread
  moved_first ts q = record { globals = q.0.globals; seats = record { locals = q.0.locals; at = q.1 } ∷ ts }

  abbrev pub walked_first : List (Seat ℕ) → Values × ℕ → World ℕ
  walked_first us q = record { globals = q.0.globals; seats = record { locals = q.0.locals; at = q.1 } ∷ us }

  abbrev pub behind : {At : Type 0} → Seat At → World At → World At
  behind t w = record { globals = w.globals; seats = t ∷ w.seats }

  pub leads_at : (k : ℕ) (globals : List ℤ) (ts : List (Seat Thread)) (us : List (Seat ℕ)) (cs : List ℤ) → SeatsAreAt commands edges ts us →
      LeadsAt k globals us cs (step_at step k globals ts cs)
  leads_at k globals [] us cs s = tt
  leads_at k globals (t ∷ ts) [] cs s = absurd s
  leads_at zero globals (t ∷ ts) (u ∷ us) cs (same, at, s) = on (step t.at (record { globals = globals; locals = t.locals }) cs) refl
    where
      on : (o : Option (Values × Thread)) → step t.at (record { globals = globals; locals = t.locals }) cs ≡ o →
          LeadsAt zero globals (u ∷ us) cs (option_map (moved_first ts) o)
      on None e = tt
      on (Some q) e = to (one.forth t.at u.at at (record { globals = globals; locals = t.locals }) cs q.0 q.1 e)
        where
          to : (e : Edge) × (b : ℕ) × Contains edges e × (along commands e u.at (record { globals = globals; locals = t.locals }) cs ≡ Some (q.0, b))
              × ThreadIsAt commands edges q.1 b → LeadsAt zero globals (u ∷ us) cs (Some (moved_first ts q))
          to (e, b, i, l, h) = (
            e,
            walked_first us (q.0, b),
            in_of_contains e edges i,
            ap (option_map (walked_first us))
                (subst (λ (ls : List ℤ). along commands e u.at (record { globals = globals; locals = ls }) cs ≡ Some (q.0, b)) same l),
            record { globals = refl; seats = (refl, h, s) },
          )
  leads_at (suc k) globals (t ∷ ts) (u ∷ us) cs (same, at, s) = on (step_at step k globals ts cs) (leads_at k globals ts us cs s)
    where
      on : (o : Option (World Thread)) → LeadsAt k globals us cs o → LeadsAt (suc k) globals (u ∷ us) cs (option_map (behind t) o)
      on None h = tt
      on (Some w) (e, l, i, m, h) =
          (e, behind u l, i, ap (option_map (behind u)) m, record { globals = h.globals; seats = (same, at, h.seats) })

  pub comes_at : (k : ℕ) (globals : List ℤ) (ts : List (Seat Thread)) (us : List (Seat ℕ)) (cs : List ℤ) → SeatsAreAt commands edges ts us →
      (e : Edge) → IsIn e edges → ComesAt k globals ts cs (step_at (along commands e) k globals us cs)
  comes_at k globals ts [] cs s e i = tt
  comes_at k globals [] (u ∷ us) cs s e i = absurd s
  comes_at zero globals (t ∷ ts) (u ∷ us) cs (same, at, s) e i = on (along commands e u.at (record { globals = globals; locals = u.locals }) cs) refl
    where
      on : (o : Option (Values × ℕ)) → along commands e u.at (record { globals = globals; locals = u.locals }) cs ≡ o →
          ComesAt zero globals (t ∷ ts) cs (option_map (walked_first us) o)
      on None h = tt
      on (Some q) h = to (one.back t.at u.at at (record { globals = globals; locals = t.locals }) cs e q.0 q.1 (contains_of_in e edges i)
          (subst (λ (ls : List ℤ). along commands e u.at (record { globals = globals; locals = ls }) cs ≡ Some q) (sym same) h))
        where
          to : (x : Thread) × (step t.at (record { globals = globals; locals = t.locals }) cs ≡ Some (q.0, x)) × ThreadIsAt commands edges x q.1 →
              ComesAt zero globals (t ∷ ts) cs (Some (walked_first us q))
          to (x, m, h) = (moved_first ts (q.0, x), ap (option_map (moved_first ts)) m, record { globals = refl; seats = (refl, h, s) })
  comes_at (suc k) globals (t ∷ ts) (u ∷ us) cs (same, at, s) e i = on (step_at (along commands e) k globals us cs) (comes_at k globals ts us cs s e i)
    where
      on : (o : Option (World ℕ)) → ComesAt k globals ts cs o → ComesAt (suc k) globals (t ∷ ts) cs (option_map (behind u) o)
      on None h = tt
      on (Some l) (w, m, h) = (behind t w, ap (option_map (behind t)) m, record { globals = h.globals; seats = (same, at, h.seats) })
