use Rattle.std.proofs.Common.{◌≡◌, Bool, true, false, refl, sym, ◌∙◌, ap, ℤ, pos, List, [], ◌∷◌, get_or, ◌⊎◌, inl, inr, if◌then◌else◌, arith}
use Rattle.std.specs.Prelude.{Some, None, slice_index_or}
use Rattle.std.specs.Ordering.{int_eq}
use Rattle.std.specs.Option.{option_and_then}
use Rattle.std.proofs.lemmas.Option.{same_Some}
use Rattle.ps_command.specs.Run.{run}
use Rattle.ps_command.specs.Values.{Values}
use Rattle.ps_command.specs.declared.command.Command.{Command}
use Rattle.ps_command.specs.declared.op.Op.{Op}
use Rattle.ps_graph.proofs.Agreement.{not_both}
use Rattle.ps_graph.proofs.Members.{in_of_contains}
use Rattle.ps_graph.specs.Examples.{seeing}
use Rattle.ps_graph.specs.Examples.Connections.{edge}
use Rattle.ps_graph.specs.Examples.Keeping.{one_edge}
use Rattle.ps_graph.specs.Facts.{names_exist, entries_owned, error_is_final, picks_fit, stay_in_bodies, after_edge, IsDeterministic}
use Rattle.ps_command.specs.Commands.{ops_of}
use Rattle.ps_graph.specs.Picks.{choice_of, fit, if_all_used, run_with}
use Rattle.ps_graph.specs.declared.edge.Edge.{Edge}
use Rattle.ps_graph.specs.declared.edge.Pick.{Pick}
use Rattle.ps_graph.specs.declared.edge.Pick.TheVariants.{Star}
use Rattle.ps_graph.proofs.worked.facts.Goals as goal

-- no edge, and one edge, are deterministic
no_edge : (commands : List Command) → IsDeterministic commands []
unfolding IsDeterministic
no_edge commands d e i j same v w x cs p q = absurd (in_of_contains d [] i)

-- one edge gives one result
one_result : (commands : List Command) (d e : Edge) → d ≡ e → (v w x : Values) (cs : List ℤ) →
    after_edge commands d v cs ≡ Some w → after_edge commands e v cs ≡ Some x → (d.target ≡ e.target) × (w ≡ x)
one_result commands d e s v w x cs p q =
    (ap (λ (f : Edge). f.target) s, same_Some w x (sym p ∙ ap (λ (f : Edge). after_edge commands f v cs) s ∙ q))

alone : (commands : List Command) (e : Edge) → IsDeterministic commands (e ∷ [])
unfolding IsDeterministic
alone commands e d f i j same v w x cs p q = at (in_of_contains d (e ∷ []) i) (in_of_contains f (e ∷ []) j)
  where
    at : (d ≡ e) ⊎ ⊥ → (f ≡ e) ⊎ ⊥ → (d.target ≡ f.target) × (w ≡ x)
    at (inl a) (inl b) = one_result commands d f (a ∙ sym b) v w x cs p q
    at (inl a) (inr n) = absurd n
    at (inr n) g = absurd n

-- the first choice of a run by the pick of a `*`
star_first : (b : Bool) (ops : List Op) (v w : Values) (cs : List ℤ) → run_with (Star b ∷ []) ops v cs ≡ Some w →
    int_eq (get_or cs 0 (pos 7)) (choice_of b) ≡ true
star_first b ops v w [] h = cc
star_first b ops v w (c ∷ cs) h = at (int_eq c (choice_of b)) h
  where
    at : (t : Bool) → option_and_then (run ops v) (option_and_then if_all_used (if t then fit [] cs else None)) ≡ Some w → t ≡ true
    at true h = refl
    at false h = cc

-- the two ways of a `*` are deterministic
ways_apart : (commands : List Command) (d e : Edge) → d.picks ≡ Star true ∷ [] → e.picks ≡ Star false ∷ [] → IsDeterministic commands (d ∷ e ∷ [])
unfolding IsDeterministic
ways_apart commands d e dp ep f g i j same v w x cs p q = at (in_of_contains f (d ∷ e ∷ []) i) (in_of_contains g (d ∷ e ∷ []) j)
  where
    never : (a b : Edge) (y z : Values) → a.picks ≡ Star true ∷ [] → b.picks ≡ Star false ∷ [] →
        after_edge commands a v cs ≡ Some y → after_edge commands b v cs ≡ Some z → ⊥
    never a b y z a_is b_is p q =
        let t : int_eq (get_or cs 0 (pos 7)) (pos 1) ≡ true =
        star_first true (ops_of commands a.command) v y cs (ap (λ (ps : List Pick). run_with ps (ops_of commands a.command) v cs) (sym a_is) ∙ p) in
        let f : int_eq (get_or cs 0 (pos 7)) (pos 0) ≡ true =
        star_first false (ops_of commands b.command) v z cs (ap (λ (ps : List Pick). run_with ps (ops_of commands b.command) v cs) (sym b_is) ∙ q) in
        let no_such : false ≡ true = sym (not_both (get_or cs 0 (pos 7)) t) ∙ f in cc

    at : (f ≡ d) ⊎ ((f ≡ e) ⊎ ⊥) → (g ≡ d) ⊎ ((g ≡ e) ⊎ ⊥) → (f.target ≡ g.target) × (w ≡ x)
    at (inl a) (inl b) = one_result commands f g (a ∙ sym b) v w x cs p q
    at (inl a) (inr (inl b)) = absurd (never f g w x (ap (λ (h : Edge). h.picks) a ∙ dp) (ap (λ (h : Edge). h.picks) b ∙ ep) p q)
    at (inr (inl a)) (inl b) = absurd (never g f x w (ap (λ (h : Edge). h.picks) b ∙ dp) (ap (λ (h : Edge). h.picks) a ∙ ep) q p)
    at (inr (inl a)) (inr (inl b)) = one_result commands f g (a ∙ sym b) v w x cs p q
    at (inl a) (inr (inr n)) = absurd n
    at (inr (inl a)) (inr (inr n)) = absurd n
    at (inr (inr n)) k = absurd n

pub returns-clause-kept : goal.returns-clause-kept
unfolding names_exist entries_owned error_is_final picks_fit stay_in_bodies
returns-clause-kept c = ((refl, alone _ _), (refl, alone _ _), (refl, ways_apart _ _ _ refl refl), (refl, alone _ _), (refl, alone _ _))

pub returns-clause-names : goal.returns-clause-names
unfolding names_exist entries_owned error_is_final picks_fit stay_in_bodies
returns-clause-names c =
    ((refl, no_edge _), (refl, alone _ _), (refl, alone _ _), (refl, alone _ _), (refl, alone _ _), (refl, no_edge _), (refl, no_edge _))

pub returns-clause-entries : goal.returns-clause-entries
unfolding names_exist entries_owned error_is_final picks_fit stay_in_bodies
returns-clause-entries c = ((refl, alone _ _), (refl, alone _ _))

pub returns-clause-error : goal.returns-clause-error
unfolding names_exist entries_owned error_is_final picks_fit stay_in_bodies
returns-clause-error c = ((refl, alone _ _), (refl, alone _ _))

pub returns-clause-picks : goal.returns-clause-picks
unfolding names_exist entries_owned error_is_final picks_fit stay_in_bodies
returns-clause-picks c = ((refl, alone _ _), (refl, alone _ _))

pub returns-clause-bodies : goal.returns-clause-bodies
unfolding names_exist entries_owned error_is_final picks_fit stay_in_bodies
returns-clause-bodies c = (refl, alone _ _)

one_is_not_two : pos 1 ≡ pos 2 → ⊥
one_is_not_two e = cc

values_differ : IsDeterministic one_edge.commands (edge 0 2 0 ∷ edge 0 2 1 ∷ []) → ⊥
unfolding IsDeterministic
values_differ one =
    let q : (2 ≡ 2) × (seeing (pos 1) ≡ seeing (pos 2)) =
    one (edge 0 2 0) (edge 0 2 1) (0, omega arith, refl) (1, omega arith, refl) refl (seeing (pos 0)) (seeing (pos 1)) (seeing (pos 2)) [] refl refl in
    one_is_not_two (ap (λ (v : Values). slice_index_or v.globals 0 (pos 0)) q.1)

targets_differ : IsDeterministic one_edge.commands (edge 0 2 0 ∷ edge 0 1 0 ∷ []) → ⊥
unfolding IsDeterministic
targets_differ one =
    let q : (2 ≡ 1) × (seeing (pos 1) ≡ seeing (pos 1)) =
    one (edge 0 2 0) (edge 0 1 0) (0, omega arith, refl) (1, omega arith, refl) refl (seeing (pos 0)) (seeing (pos 1)) (seeing (pos 1)) [] refl refl in
    let none : ⊥ = omega (arith, q.0) in none

pub returns-clause-choices : goal.returns-clause-choices
unfolding names_exist entries_owned error_is_final picks_fit stay_in_bodies
returns-clause-choices c = ((refl, values_differ), (refl, targets_differ))
