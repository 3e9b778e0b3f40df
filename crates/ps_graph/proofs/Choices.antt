-- An edge that is drawn of a path gives what the path gives.
use Rattle.std.proofs.Common.{◌≡◌, Bool, true, false, refl, ◌∙◌, ap, ap₂, ℕ, ℤ, pos, List, [], ◌∷◌, if◌then◌else◌}
use Rattle.std.specs.Prelude.{Option, Some, None, option_map, int_le}
use Rattle.std.specs.Ordering.{int_eq}
use Rattle.std.specs.Option.{option_and_then}
use Rattle.ps_command.specs.Run.{run, holds}
use Rattle.ps_command.specs.Values.{Values, value_at, with_value}
use Rattle.ps_command.specs.declared.command.Command.{Command}
use Rattle.ps_command.specs.declared.op.Op.{Op}
use Rattle.ps_command.specs.declared.op.Op.TheVariants.{Assume, Assign, Havoc}
use Rattle.ps_graph.proofs.Agreement.{gives}
use Rattle.ps_graph.specs.Alternatives.{bound_holds}
use Rattle.ps_graph.specs.Facts.{after_edge}
use Rattle.ps_command.specs.Commands.{ops_of}
use Rattle.ps_graph.specs.Follows.{SaysOps, Realises}
use Rattle.ps_graph.specs.Paths.{Act, Guards, Assigns, Havocs, Chooses, Fails, picks_of}
use Rattle.ps_graph.specs.Picks.{choice_of, fit, if_all_used, run_with}
use Rattle.ps_graph.specs.Step.{Completion, Normal, Failing, Blocked}
use Rattle.ps_graph.specs.declared.edge.Edge.{Edge}
use Rattle.ps_graph.specs.declared.edge.Pick.{Pick}
use Rattle.ps_tree.specs.Sum.{sum_value}

-- the values after the ops, with the choices that are left
abbrev run_left : List Op → Values → List ℤ × List ℤ → Option (Values × List ℤ)
run_left ops v q = option_map (λ (w : Values). (w, q.1)) (run ops v q.0)

-- the values of a completion, with the choices that are left
abbrev ended : Completion → Option (Values × List ℤ)
ended (Normal v cs) = Some (v, cs)
ended (Failing v cs) = Some (v, cs)
ended Blocked = None

never : {X Y : Type 0} → (o : Option X) → option_and_then (λ (x : X). let n : Option Y = None in n) o ≡ None
never None = refl
never (Some x) = refl

-- the ops and the picks of a path, taken apart, come to what the path gives
tied : (p : List Act) (ops : List Op) → SaysOps p ops → (v : Values) (cs : List ℤ) →
    option_and_then (run_left ops v) (fit (picks_of p) cs) ≡ ended (gives p v cs)
tied [] ops s v cs = ap (λ (os : List Op). run_left os v ([], cs)) s
tied (Fails ∷ p) ops s v cs = ap (λ (os : List Op). run_left os v ([], cs)) s
tied (Guards b ∷ p) [] s v cs = absurd s
tied (Guards b ∷ p) (Assume r ∷ ops) s v cs =
    at (holds (value_at v) r) (bound_holds (value_at v) b) (ap (λ z. int_le z (pos 0)) (s.0 (value_at v))) (tied p ops s.1 v cs)
  where
    at : (t u : Bool) → t ≡ u → option_and_then (run_left ops v) (fit (picks_of p) cs) ≡ ended (gives p v cs) →
        option_and_then (λ (q : List ℤ × List ℤ). option_map (λ (w : Values). (w, q.1)) (if t then run ops v q.0 else None)) (fit (picks_of p) cs)
        ≡ ended (if u then gives p v cs else Blocked)
    at true true h e = e
    at true false h e = cc
    at false true h e = cc
    at false false h e = never (fit (picks_of p) cs)
tied (Guards b ∷ p) (Assign y t ∷ ops) s v cs = absurd s
tied (Guards b ∷ p) (Havoc y ∷ ops) s v cs = absurd s
tied (Assigns x m ∷ p) [] s v cs = absurd s
tied (Assigns x m ∷ p) (Assume r ∷ ops) s v cs = absurd s
tied (Assigns x m ∷ p) (Assign y t ∷ ops) s v cs =
    ap (λ (u : Values). option_and_then (run_left ops u) (fit (picks_of p) cs)) (ap₂ (with_value v) s.0 (s.1 (value_at v)))
    ∙ tied p ops s.2 (with_value v x (sum_value (value_at v) m)) cs
tied (Assigns x m ∷ p) (Havoc y ∷ ops) s v cs = absurd s
tied (Havocs x ∷ p) [] s v cs = absurd s
tied (Havocs x ∷ p) (Assume r ∷ ops) s v cs = absurd s
tied (Havocs x ∷ p) (Assign y t ∷ ops) s v cs = absurd s
tied (Havocs x ∷ p) (Havoc y ∷ ops) s v [] = refl
tied (Havocs x ∷ p) (Havoc y ∷ ops) s v (c ∷ cs) =
    at (fit (picks_of p) cs)
    ∙ ap (λ z. option_and_then (run_left ops (with_value v z c)) (fit (picks_of p) cs)) s.0
    ∙ tied p ops s.1 (with_value v x c) cs
  where
    at : (o : Option (List ℤ × List ℤ)) →
        option_and_then (run_left (Havoc y ∷ ops) v) (option_map (λ (q : List ℤ × List ℤ). (c ∷ q.0, q.1)) o)
        ≡ option_and_then (run_left ops (with_value v y c)) o
    at None = refl
    at (Some q) = refl
tied (Chooses b ∷ p) ops s v [] = refl
tied (Chooses b ∷ p) ops s v (c ∷ cs) = at (int_eq c (choice_of b)) (tied p ops s v cs)
  where
    at : (t : Bool) → option_and_then (run_left ops v) (fit (picks_of p) cs) ≡ ended (gives p v cs) →
        option_and_then (run_left ops v) (if t then fit (picks_of p) cs else None) ≡ ended (if t then gives p v cs else Blocked)
    at true e = e
    at false e = refl

-- the values, if no choice is left
abbrev pub used : Completion → Option Values
used (Normal v []) = Some v
used (Failing v []) = Some v
used _ = None

abbrev if_used : Values × List ℤ → Option Values
if_used (w, []) = Some w
if_used (w, c ∷ cs) = None

used_is : (o : Completion) → option_and_then if_used (ended o) ≡ used o
used_is (Normal v []) = refl
used_is (Normal v (c ∷ cs)) = refl
used_is (Failing v []) = refl
used_is (Failing v (c ∷ cs)) = refl
used_is Blocked = refl

at_the_end : (ops : List Op) (v : Values) (o : Option (List ℤ × List ℤ)) →
    option_and_then (run ops v) (option_and_then if_all_used o) ≡ option_and_then if_used (option_and_then (run_left ops v) o)
at_the_end ops v None = refl
at_the_end ops v (Some (hs, [])) = ran (run ops v hs)
  where
    ran : (o : Option Values) → o ≡ option_and_then if_used (option_map (λ (w : Values). (w, [])) o)
    ran None = refl
    ran (Some w) = refl
at_the_end ops v (Some (hs, c ∷ cs)) = ran (run ops v hs)
  where
    ran : (o : Option Values) → None ≡ option_and_then if_used (option_map (λ (w : Values). (w, c ∷ cs)) o)
    ran None = refl
    ran (Some w) = refl

-- an edge that is drawn of a path gives what the path gives, where it leaves no choice
pub after_realised : (commands : List Command) (a : ℕ) (p : List Act) (goal : ℕ) (e : Edge) → Realises commands a p goal e →
    (v : Values) (cs : List ℤ) → after_edge commands e v cs ≡ used (gives p v cs)
after_realised commands a p goal e d v cs =
    ap (λ (ps : List Pick). run_with ps (ops_of commands e.command) v cs) d.picks
    ∙ at_the_end (ops_of commands e.command) v (fit (picks_of p) cs)
    ∙ ap (option_and_then if_used) (tied p (ops_of commands e.command) d.ops v cs)
    ∙ used_is (gives p v cs)
