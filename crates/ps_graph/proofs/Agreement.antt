-- The paths of a statement and its run in one go come to the same.
use Rattle.std.proofs.Common.{◌≡◌, Bool, true, false, not, refl, sym, ◌∙◌, ap, subst, ℤ, pos, List, [], ◌∷◌, ◌++◌, map, ◌&&◌, ◌||◌, arith, ◌⊎◌, inl, inr, if◌then◌else◌}
use Rattle.std.specs.Prelude.{Option, Some, None}
use Rattle.std.specs.Ordering.{int_eq}
use Rattle.std.proofs.lemmas.Int.{ints}
use Rattle.ps_command.specs.Values.{Values, value_at, with_value}
use Rattle.ps_graph.proofs.Truths.{any_hold-true, any_hold-false}
use Rattle.ps_graph.specs.Alternatives.{Bound, bound_holds, all_hold, any_hold, alternatives}
use Rattle.ps_graph.specs.Paths.{Act, Guards, Assigns, Havocs, Chooses, Fails, is_failing, guarded_by, ways, followed, paths, paths_all}
use Rattle.ps_graph.specs.Picks.{choice_of}
use Rattle.ps_graph.specs.Step.{Completion, Normal, Failing, Blocked, decided, then_do, branch, step_within, within_all}
use Rattle.ps_tree.specs.Cond.{truth}
use Rattle.ps_tree.specs.Sum.{sum_value}
use Rattle.ps_tree.specs.declared.cond.Cond.{Cond}
use Rattle.ps_tree.specs.declared.cond.Test.{Test}
use Rattle.ps_tree.specs.declared.cond.Test.TheVariants.{Star, Cond as Where}
use Rattle.ps_tree.specs.declared.stmt.StmtKind.{StmtKind, Assign, Havoc, Assume, Assert, Skip, Atomic', If', While', Row_of-Stmt, end_of-Stmt, more_of-Stmt}

-- what comes of the acts, one after another, from values with choices
abbrev pub gives : List Act → Values → List ℤ → Completion
gives [] v cs = Normal v cs
gives (Guards b ∷ p) v cs = if bound_holds (value_at v) b then gives p v cs else Blocked
gives (Assigns x s ∷ p) v cs = gives p (with_value v x (sum_value (value_at v) s)) cs
gives (Havocs x ∷ p) v [] = Blocked
gives (Havocs x ∷ p) v (c ∷ cs) = gives p (with_value v x c) cs
gives (Chooses b ∷ p) v [] = Blocked
gives (Chooses b ∷ p) v (c ∷ cs) = if int_eq c (choice_of b) then gives p v cs else Blocked
gives (Fails ∷ p) v cs = Failing v cs

-- each path is blocked or completes so
abbrev pub Sound : List (List Act) → Values → List ℤ → Completion → Type 0
Sound [] v cs o = Unit {0}
Sound (p ∷ ps) v cs o = ((gives p v cs ≡ Blocked) ⊎ (gives p v cs ≡ o)) × Sound ps v cs o

-- some path completes so
abbrev pub Found : List (List Act) → Values → List ℤ → Completion → Type 0
Found [] v cs o = ⊥
Found (p ∷ ps) v cs o = (gives p v cs ≡ o) ⊎ Found ps v cs o

-- the paths agree with a completion: each that isn't blocked completes so, and unless it is blocked some path does
pub record Agree (ps : List (List Act)) (v : Values) (cs : List ℤ) (o : Completion) : Type 0 where
  pub sound : Sound ps v cs o
  pub complete : (o ≡ Blocked) ⊎ Found ps v cs o

sound_append : (ps qs : List (List Act)) (v : Values) (cs : List ℤ) (o : Completion) → Sound ps v cs o → Sound qs v cs o → Sound (ps ++ qs) v cs o
sound_append [] qs v cs o s r = r
sound_append (p ∷ ps) qs v cs o s r = (s.0, sound_append ps qs v cs o s.1 r)

found_left : (ps qs : List (List Act)) (v : Values) (cs : List ℤ) (o : Completion) → Found ps v cs o → Found (ps ++ qs) v cs o
found_left [] qs v cs o f = absurd f
found_left (p ∷ ps) qs v cs o (inl e) = inl e
found_left (p ∷ ps) qs v cs o (inr f) = inr (found_left ps qs v cs o f)

found_right : (ps qs : List (List Act)) (v : Values) (cs : List ℤ) (o : Completion) → Found qs v cs o → Found (ps ++ qs) v cs o
found_right [] qs v cs o f = f
found_right (p ∷ ps) qs v cs o f = inr (found_right ps qs v cs o f)

-- paths that are all blocked are sound for any completion
weakened : (ps : List (List Act)) (v : Values) (cs : List ℤ) (o : Completion) → Sound ps v cs Blocked → Sound ps v cs o
weakened [] v cs o s = tt
weakened (p ∷ ps) v cs o (inl e, s) = (inl e, weakened ps v cs o s)
weakened (p ∷ ps) v cs o (inr e, s) = (inl e, weakened ps v cs o s)

-- of two lists of paths the second is blocked
pub first_of : (ps qs : List (List Act)) (v : Values) (cs : List ℤ) (o : Completion) → Agree ps v cs o → Agree qs v cs Blocked → Agree (ps ++ qs) v cs o
first_of ps qs v cs o a b = record {
  sound = sound_append ps qs v cs o a.sound (weakened qs v cs o b.sound);
  complete = elim a.complete [ inl e ↦ inl e | inr f ↦ inr (found_left ps qs v cs o f) ];
}

-- of two lists of paths the first is blocked
pub second_of : (ps qs : List (List Act)) (v : Values) (cs : List ℤ) (o : Completion) → Agree ps v cs Blocked → Agree qs v cs o → Agree (ps ++ qs) v cs o
second_of ps qs v cs o a b = record {
  sound = sound_append ps qs v cs o (weakened ps v cs o a.sound) b.sound;
  complete = elim b.complete [ inl e ↦ inl e | inr f ↦ inr (found_right ps qs v cs o f) ];
}

-- one path
alone : (p : List Act) (v : Values) (cs : List ℤ) (o : Completion) → gives p v cs ≡ o → Agree (p ∷ []) v cs o
alone p v cs o e = record { sound = (inr e, tt); complete = inr (inl e) }

-- acts one list after another
pub gives-append : (p q : List Act) (v : Values) (cs : List ℤ) → gives (p ++ q) v cs ≡ then_do (gives p v cs) (gives q)
gives-append [] q v cs = refl
gives-append (Guards b ∷ p) q v cs = at (bound_holds (value_at v) b) (gives-append p q v cs)
  where
    at : (t : Bool) → gives (p ++ q) v cs ≡ then_do (gives p v cs) (gives q) →
        (if t then gives (p ++ q) v cs else Blocked) ≡ then_do (if t then gives p v cs else Blocked) (gives q)
    at true e = e
    at false e = refl
gives-append (Assigns x s ∷ p) q v cs = gives-append p q (with_value v x (sum_value (value_at v) s)) cs
gives-append (Havocs x ∷ p) q v [] = refl
gives-append (Havocs x ∷ p) q v (c ∷ cs) = gives-append p q (with_value v x c) cs
gives-append (Chooses b ∷ p) q v [] = refl
gives-append (Chooses b ∷ p) q v (c ∷ cs) = at (int_eq c (choice_of b)) (gives-append p q v cs)
  where
    at : (t : Bool) → gives (p ++ q) v cs ≡ then_do (gives p v cs) (gives q) →
        (if t then gives (p ++ q) v cs else Blocked) ≡ then_do (if t then gives p v cs else Blocked) (gives q)
    at true e = e
    at false e = refl
gives-append (Fails ∷ p) q v cs = refl

-- a list of bounds lets the acts after it run where all of them hold
gives-guarded_by : (bs : List Bound) (p : List Act) (v : Values) (cs : List ℤ) →
    gives (guarded_by bs ++ p) v cs ≡ (if all_hold (value_at v) bs then gives p v cs else Blocked)
gives-guarded_by [] p v cs = refl
gives-guarded_by (b ∷ bs) p v cs = at (bound_holds (value_at v) b) (gives-guarded_by bs p v cs)
  where
    at : (t : Bool) → gives (guarded_by bs ++ p) v cs ≡ (if all_hold (value_at v) bs then gives p v cs else Blocked) →
        (if t then gives (guarded_by bs ++ p) v cs else Blocked) ≡ (if (t && all_hold (value_at v) bs) then gives p v cs else Blocked)
    at true e = e
    at false e = refl

gives-needs_alone : (bs : List Bound) (v : Values) (cs : List ℤ) → gives (guarded_by bs) v cs ≡ (if all_hold (value_at v) bs then Normal v cs else Blocked)
gives-needs_alone [] v cs = refl
gives-needs_alone (b ∷ bs) v cs = at (bound_holds (value_at v) b) (gives-needs_alone bs v cs)
  where
    at : (t : Bool) → gives (guarded_by bs) v cs ≡ (if all_hold (value_at v) bs then Normal v cs else Blocked) →
        (if t then gives (guarded_by bs) v cs else Blocked) ≡ (if (t && all_hold (value_at v) bs) then Normal v cs else Blocked)
    at true e = e
    at false e = refl

-- a path for each alternative: together they complete so where some alternative holds
rows_agree : (f : List Bound → List Act) (v : Values) (cs : List ℤ) (o : Completion) →
    ((bs : List Bound) → gives (f bs) v cs ≡ (if all_hold (value_at v) bs then o else Blocked)) → (alts : List (List Bound)) →
    Agree (map f alts) v cs (if any_hold (value_at v) alts then o else Blocked)
rows_agree f v cs o e [] = record { sound = tt; complete = inl refl }
rows_agree f v cs o e (bs ∷ alts) = at (all_hold (value_at v) bs) (e bs) (rows_agree f v cs o e alts)
  where
    at : (t : Bool) → gives (f bs) v cs ≡ (if t then o else Blocked) → Agree (map f alts) v cs (if any_hold (value_at v) alts then o else Blocked) →
        Agree (f bs ∷ map f alts) v cs (if (t || any_hold (value_at v) alts) then o else Blocked)
    at true g a = record { sound = (inr g, every (any_hold (value_at v) alts) a.sound); complete = inr (inl g) }
      where
        every : (t : Bool) → Sound (map f alts) v cs (if t then o else Blocked) → Sound (map f alts) v cs o
        every true s = s
        every false s = weakened (map f alts) v cs o s
    at false g a = record { sound = (inl g, a.sound); complete = elim a.complete [ inl e ↦ inl e | inr h ↦ inr (inr h) ] }

-- no choice is both 1 and 0
pub not_both : (c : ℤ) → int_eq c (pos 1) ≡ true → int_eq c (pos 0) ≡ false
not_both c h = cases (int_eq c (pos 0)) refl
  where
    cases : (q : Bool) → int_eq c (pos 0) ≡ q → q ≡ false
    cases true e = let no_such : ⊥ = grind (arith, ints) in absurd no_such
    cases false e = refl

-- what a test that holds, at true, or fails, at false, lets run
abbrev pub came : Bool → Option (Bool × List ℤ) → Values → Completion
came b None v = Blocked
came true (Some (true, cs)) v = Normal v cs
came true (Some (false, cs)) v = Blocked
came false (Some (true, cs)) v = Blocked
came false (Some (false, cs)) v = Normal v cs

pub ways_agree : (b : Bool) (t : Test) (v : Values) (cs : List ℤ) → Agree (ways b t) v cs (came b (decided t v cs) v)
ways_agree true Star v [] = record { sound = (inl refl, tt); complete = inl refl }
ways_agree false Star v [] = record { sound = (inl refl, tt); complete = inl refl }
ways_agree true Star v (c ∷ cs) = alone (Chooses true ∷ []) v (c ∷ cs) _ (at (int_eq c (pos 1)) (int_eq c (pos 0)))
  where
    at : (p q : Bool) → (if p then Normal v cs else Blocked) ≡ came true (if p then Some (true, cs) else if q then Some (false, cs) else None) v
    at true q = refl
    at false true = refl
    at false false = refl
ways_agree false Star v (c ∷ cs) = alone (Chooses false ∷ []) v (c ∷ cs) _ (at (int_eq c (pos 1)) (int_eq c (pos 0)) (not_both c))
  where
    at : (p q : Bool) → (p ≡ true → q ≡ false) → (if q then Normal v cs else Blocked) ≡ came false (if p then Some (true, cs) else if q then Some (false, cs) else None) v
    at true true n = let e : true ≡ false = n refl in cc
    at true false n = refl
    at false true n = refl
    at false false n = refl
ways_agree true (Where c) v cs =
    where_true (truth (value_at v) c)
    (subst (λ (t : Bool). Agree (map guarded_by (alternatives true c)) v cs (if t then Normal v cs else Blocked)) (any_hold-true (value_at v) c)
    (rows_agree guarded_by v cs (Normal v cs) (λ bs. gives-needs_alone bs v cs) (alternatives true c)))
  where
    where_true : (t : Bool) → Agree (map guarded_by (alternatives true c)) v cs (if t then Normal v cs else Blocked) →
        Agree (map guarded_by (alternatives true c)) v cs (came true (Some (t, cs)) v)
    where_true true a = a
    where_true false a = a
ways_agree false (Where c) v cs =
    where_false (truth (value_at v) c)
    (subst (λ (t : Bool). Agree (map guarded_by (alternatives false c)) v cs (if t then Normal v cs else Blocked)) (any_hold-false (value_at v) c)
    (rows_agree guarded_by v cs (Normal v cs) (λ bs. gives-needs_alone bs v cs) (alternatives false c)))
  where
    where_false : (t : Bool) → Agree (map guarded_by (alternatives false c)) v cs (if (not t) then Normal v cs else Blocked) →
        Agree (map guarded_by (alternatives false c)) v cs (came false (Some (t, cs)) v)
    where_false true a = a
    where_false false a = a

-- a failing path never goes on
fails_or_blocked : (p : List Act) (v : Values) (cs : List ℤ) (next : Values → List ℤ → Completion) → is_failing p ≡ true → then_do (gives p v cs) next ≡ gives p v cs
fails_or_blocked [] v cs next e = let no_such : true ≡ false = sym e in cc
fails_or_blocked (Guards b ∷ p) v cs next e = at (bound_holds (value_at v) b) (fails_or_blocked p v cs next e)
  where
    at : (t : Bool) → then_do (gives p v cs) next ≡ gives p v cs →
        then_do (if t then gives p v cs else Blocked) next ≡ (if t then gives p v cs else Blocked)
    at true h = h
    at false h = refl
fails_or_blocked (Assigns x s ∷ p) v cs next e = fails_or_blocked p (with_value v x (sum_value (value_at v) s)) cs next e
fails_or_blocked (Havocs x ∷ p) v [] next e = refl
fails_or_blocked (Havocs x ∷ p) v (c ∷ cs) next e = fails_or_blocked p (with_value v x c) cs next e
fails_or_blocked (Chooses b ∷ p) v [] next e = refl
fails_or_blocked (Chooses b ∷ p) v (c ∷ cs) next e = at (int_eq c (choice_of b)) (fails_or_blocked p v cs next e)
  where
    at : (t : Bool) → then_do (gives p v cs) next ≡ gives p v cs →
        then_do (if t then gives p v cs else Blocked) next ≡ (if t then gives p v cs else Blocked)
    at true h = h
    at false h = refl
fails_or_blocked (Fails ∷ p) v cs next e = refl

-- a path that doesn't end in a failed assertion never fails
abbrev pub NotFailing : Completion → Type 0
NotFailing (Failing _ _) = ⊥
NotFailing _ = Unit {0}

pub never_fails : (p : List Act) (v : Values) (cs : List ℤ) → is_failing p ≡ false → NotFailing (gives p v cs)
never_fails [] v cs e = tt
never_fails (Guards b ∷ p) v cs e = at (bound_holds (value_at v) b) (never_fails p v cs e)
  where
    at : (t : Bool) → NotFailing (gives p v cs) → NotFailing (if t then gives p v cs else Blocked)
    at true h = h
    at false h = tt
never_fails (Assigns x s ∷ p) v cs e = never_fails p (with_value v x (sum_value (value_at v) s)) cs e
never_fails (Havocs x ∷ p) v [] e = tt
never_fails (Havocs x ∷ p) v (c ∷ cs) e = never_fails p (with_value v x c) cs e
never_fails (Chooses b ∷ p) v [] e = tt
never_fails (Chooses b ∷ p) v (c ∷ cs) e = at (int_eq c (choice_of b)) (never_fails p v cs e)
  where
    at : (t : Bool) → NotFailing (gives p v cs) → NotFailing (if t then gives p v cs else Blocked)
    at true h = h
    at false h = tt
never_fails (Fails ∷ p) v cs e = let no_such : true ≡ false = e in cc

-- the completion is not normal
abbrev pub NotNormal : Completion → Type 0
NotNormal (Normal _ _) = ⊥
NotNormal _ = Unit {0}

pub never_normal : (p : List Act) (v : Values) (cs : List ℤ) → is_failing p ≡ true → NotNormal (gives p v cs)
never_normal p v cs e = at (gives p v cs) (fails_or_blocked p v cs (λ _ _. Blocked) e)
  where
    at : (o : Completion) → then_do o (λ _ _. Blocked) ≡ o → NotNormal o
    at (Normal w ds) h = let no_such : Blocked ≡ Normal w ds = h in cc
    at (Failing w ds) h = tt
    at Blocked h = tt

-- the paths that begin with acts which complete so
sound_after : (p : List Act) (qs : List (List Act)) (v : Values) (cs : List ℤ) (w : Values) (ds : List ℤ) (o : Completion) →
    gives p v cs ≡ Normal w ds → Sound qs w ds o → Sound (map (λ (q : List Act). p ++ q) qs) v cs o
sound_after p [] v cs w ds o e s = tt
sound_after p (q ∷ qs) v cs w ds o e s = (
  elim s.0 [
    | inl h ↦ inl (gives-append p q v cs ∙ ap (λ (r : Completion). then_do r (gives q)) e ∙ h)
    | inr h ↦ inr (gives-append p q v cs ∙ ap (λ (r : Completion). then_do r (gives q)) e ∙ h)
  ],
  sound_after p qs v cs w ds o e s.1,
)

found_after : (p : List Act) (qs : List (List Act)) (v : Values) (cs : List ℤ) (w : Values) (ds : List ℤ) (o : Completion) →
    gives p v cs ≡ Normal w ds → Found qs w ds o → Found (map (λ (q : List Act). p ++ q) qs) v cs o
found_after p [] v cs w ds o e f = f
found_after p (q ∷ qs) v cs w ds o e (inl h) = inl (gives-append p q v cs ∙ ap (λ (r : Completion). then_do r (gives q)) e ∙ h)
found_after p (q ∷ qs) v cs w ds o e (inr f) = inr (found_after p qs v cs w ds o e f)

sound_blocked : (p : List Act) (qs : List (List Act)) (v : Values) (cs : List ℤ) → gives p v cs ≡ Blocked → Sound (map (λ (q : List Act). p ++ q) qs) v cs Blocked
sound_blocked p [] v cs e = tt
sound_blocked p (q ∷ qs) v cs e = (inl (gives-append p q v cs ∙ ap (λ (r : Completion). then_do r (gives q)) e), sound_blocked p qs v cs e)

-- one path, and each of a list of paths after it where it didn't fail
path_followed : (p : List Act) (qs : List (List Act)) (v : Values) (cs : List ℤ) (next : Values → List ℤ → Completion) →
    ((w : Values) (ds : List ℤ) → Agree qs w ds (next w ds)) →
    Agree (if is_failing p then p ∷ [] else map (λ (q : List Act). p ++ q) qs) v cs (then_do (gives p v cs) next)
path_followed p qs v cs next all = at (is_failing p) refl
  where
    going : (o : Completion) → gives p v cs ≡ o → NotFailing o → Agree (map (λ (q : List Act). p ++ q) qs) v cs (then_do o next)
    going (Normal w ds) e n = record {
      sound = sound_after p qs v cs w ds (next w ds) e (all w ds).sound;
      complete = elim (all w ds).complete [ inl h ↦ inl h | inr f ↦ inr (found_after p qs v cs w ds (next w ds) e f) ];
    }
    going (Failing w ds) e n = absurd n
    going Blocked e n = record { sound = sound_blocked p qs v cs e; complete = inl refl }

    at : (t : Bool) → is_failing p ≡ t → Agree (if t then p ∷ [] else map (λ (q : List Act). p ++ q) qs) v cs (then_do (gives p v cs) next)
    at true e = alone p v cs (then_do (gives p v cs) next) (sym (fails_or_blocked p v cs next e))
    at false e = going (gives p v cs) refl (never_fails p v cs e)

-- the first of two lists of paths is sound for what follows
part_followed : (part : List (List Act)) (o : Completion) (p : List Act) (v : Values) (cs : List ℤ) (next : Values → List ℤ → Completion) →
    Agree part v cs (then_do (gives p v cs) next) → (gives p v cs ≡ Blocked) ⊎ (gives p v cs ≡ o) → Sound part v cs (then_do o next)
part_followed part o p v cs next a (inl e) = weakened part v cs (then_do o next) (subst (λ (r : Completion). Sound part v cs (then_do r next)) e a.sound)
part_followed part o p v cs next a (inr e) = subst (λ (r : Completion). Sound part v cs (then_do r next)) e a.sound

followed_sound : (ps qs : List (List Act)) (v : Values) (cs : List ℤ) (o : Completion) (next : Values → List ℤ → Completion) →
    Sound ps v cs o → ((w : Values) (ds : List ℤ) → Agree qs w ds (next w ds)) → Sound (followed ps qs) v cs (then_do o next)
followed_sound [] qs v cs o next s all = tt
followed_sound (p ∷ ps) qs v cs o next s all =
    sound_append (if is_failing p then p ∷ [] else map (λ (q : List Act). p ++ q) qs) (followed ps qs) v cs (then_do o next)
    (part_followed (if is_failing p then p ∷ [] else map (λ (q : List Act). p ++ q) qs) o p v cs next (path_followed p qs v cs next all) s.0)
    (followed_sound ps qs v cs o next s.1 all)

followed_found : (ps qs : List (List Act)) (v : Values) (cs : List ℤ) (o : Completion) (next : Values → List ℤ → Completion) →
    Found ps v cs o → ((w : Values) (ds : List ℤ) → Agree qs w ds (next w ds)) → (then_do o next ≡ Blocked) ⊎ Found (followed ps qs) v cs (then_do o next)
followed_found [] qs v cs o next f all = absurd f
followed_found (p ∷ ps) qs v cs o next (inl e) all = at
    (subst (λ (r : Completion). Agree (if is_failing p then p ∷ [] else map (λ (q : List Act). p ++ q) qs) v cs (then_do r next)) e (path_followed p qs v cs next all))
  where
    at : Agree (if is_failing p then p ∷ [] else map (λ (q : List Act). p ++ q) qs) v cs (then_do o next) →
        (then_do o next ≡ Blocked) ⊎ Found (followed (p ∷ ps) qs) v cs (then_do o next)
    at a = elim a.complete [
      | inl h ↦ inl h
      | inr f ↦ inr (found_left (if is_failing p then p ∷ [] else map (λ (q : List Act). p ++ q) qs) (followed ps qs) v cs (then_do o next) f)
    ]
followed_found (p ∷ ps) qs v cs o next (inr f) all = at (followed_found ps qs v cs o next f all)
  where
    at : (then_do o next ≡ Blocked) ⊎ Found (followed ps qs) v cs (then_do o next) → (then_do o next ≡ Blocked) ⊎ Found (followed (p ∷ ps) qs) v cs (then_do o next)
    at (inl h) = inl h
    at (inr g) = inr (found_right (if is_failing p then p ∷ [] else map (λ (q : List Act). p ++ q) qs) (followed ps qs) v cs (then_do o next) g)

-- paths after paths
pub followed_agrees : (ps qs : List (List Act)) (v : Values) (cs : List ℤ) (o : Completion) (next : Values → List ℤ → Completion) →
    Agree ps v cs o → ((w : Values) (ds : List ℤ) → Agree qs w ds (next w ds)) → Agree (followed ps qs) v cs (then_do o next)
followed_agrees ps qs v cs o next a all = record {
  sound = followed_sound ps qs v cs o next a.sound all;
  complete = elim a.complete [ inl e ↦ inl (ap (λ (r : Completion). then_do r next) e) | inr f ↦ followed_found ps qs v cs o next f all ];
}

-- the paths of an assumption and of an assertion
assume_agrees : (c : Cond) (v : Values) (cs : List ℤ) →
    Agree (map guarded_by (alternatives true c)) v cs (if truth (value_at v) c then Normal v cs else Blocked)
assume_agrees c v cs =
    subst (λ (t : Bool). Agree (map guarded_by (alternatives true c)) v cs (if t then Normal v cs else Blocked)) (any_hold-true (value_at v) c)
    (rows_agree guarded_by v cs (Normal v cs) (λ bs. gives-needs_alone bs v cs) (alternatives true c))

break_agrees : (c : Cond) (v : Values) (cs : List ℤ) →
    Agree (map (λ (bs : List Bound). guarded_by bs ++ Fails ∷ []) (alternatives false c)) v cs (if not (truth (value_at v) c) then Failing v cs else Blocked)
break_agrees c v cs =
    subst (λ (t : Bool). Agree (map (λ (bs : List Bound). guarded_by bs ++ Fails ∷ []) (alternatives false c)) v cs (if t then Failing v cs else Blocked))
    (any_hold-false (value_at v) c)
    (rows_agree (λ (bs : List Bound). guarded_by bs ++ Fails ∷ []) v cs (Failing v cs) (λ bs. gives-guarded_by bs (Fails ∷ []) v cs) (alternatives false c))

assert_agrees : (ps qs : List (List Act)) (v : Values) (cs : List ℤ) (t : Bool) →
    Agree ps v cs (if t then Normal v cs else Blocked) → Agree qs v cs (if not t then Failing v cs else Blocked) →
    Agree (ps ++ qs) v cs (if t then Normal v cs else Failing v cs)
assert_agrees ps qs v cs true a b = first_of ps qs v cs (Normal v cs) a b
assert_agrees ps qs v cs false a b = second_of ps qs v cs (Failing v cs) a b

-- the paths of a choice between two blocks
branch_agrees : (ps qs : List (List Act)) (v : Values) (cs : List ℤ) (d : Option (Bool × List ℤ)) (held failed : Values → List ℤ → Completion) →
    Agree ps v cs (then_do (came true d v) held) → Agree qs v cs (then_do (came false d v) failed) →
    Agree (ps ++ qs) v cs (branch d (held v) (failed v))
branch_agrees ps qs v cs None held failed a b = first_of ps qs v cs Blocked a b
branch_agrees ps qs v cs (Some (true, ds)) held failed a b = first_of ps qs v cs (held v ds) a b
branch_agrees ps qs v cs (Some (false, ds)) held failed a b = second_of ps qs v cs (failed v ds) a b

-- the paths of a statement, and of a block, come to what its run in one go does
mutual
  pub agrees : (k : StmtKind) (v : Values) (cs : List ℤ) → Agree (paths k) v cs (step_within k v cs)
  agrees (Assign x s) v cs = alone (Assigns x s ∷ []) v cs _ refl
  agrees (Havoc x) v [] = record { sound = (inl refl, tt); complete = inl refl }
  agrees (Havoc x) v (c ∷ cs) = alone (Havocs x ∷ []) v (c ∷ cs) _ refl
  agrees (Assume c) v cs = assume_agrees c v cs
  agrees (Assert c) v cs = assert_agrees _ _ v cs (truth (value_at v) c) (assume_agrees c v cs) (break_agrees c v cs)
  agrees Skip v cs = alone [] v cs _ refl
  agrees (Atomic' _ block) v cs = all_agree block v cs
  agrees (If' t _ held _ failed) v cs =
      branch_agrees (followed (ways true t) (paths_all held)) (followed (ways false t) (paths_all failed)) v cs (decided t v cs) (within_all held) (within_all failed)
      (followed_agrees (ways true t) (paths_all held) v cs (came true (decided t v cs) v) (within_all held) (ways_agree true t v cs) (λ w ds. all_agree held w ds))
      (followed_agrees (ways false t) (paths_all failed) v cs (came false (decided t v cs) v) (within_all failed) (ways_agree false t v cs) (λ w ds. all_agree failed w ds))
  agrees (While' _ _ _) v cs = record { sound = tt; complete = inl refl }

  pub all_agree : {n : _} (block : Row_of-Stmt n) (v : Values) (cs : List ℤ) → Agree (paths_all block) v cs (within_all block v cs)
  all_agree end_of-Stmt v cs = alone [] v cs _ refl
  all_agree (more_of-Stmt _ k rest) v cs =
      followed_agrees (paths k) (paths_all rest) v cs (step_within k v cs) (within_all rest) (agrees k v cs) (λ w ds. all_agree rest w ds)
