-- A run on the values that a thread sees is a run on values of variables.
use Rattle.std.proofs.Common.{◌≡◌, ◌≢◌, refl, sym, ap, ap₂, ◌∙◌, subst, Bool, true, false, ◌&&◌, ◌==◌, ℕ, ◌<◌, ℤ, pos, ◌+ℤ◌, ◌*ℤ◌, List, [], ◌∷◌, length, get_or, if◌then◌else◌, IsFalse, int_le, nat_lt, length-set, eqb-true, ne_eqb, ltb-true}
use Rattle.std.specs.Prelude.{slice_index_or, slice_set, Option, Some, None, option_map, drop, MatchOption}
use Rattle.std.specs.List.{list_all, AllByRecursion}
use Rattle.std.proofs.lemmas.Bool.{eqb-false, and_parts}
use Rattle.std.proofs.lemmas.List.{get_or-set_same, get_or-set_other}
use Rattle.ps_term.specs.Pairs.{pairs_value}
use Rattle.ps_term.specs.Substitution.{values_after}
use Rattle.ps_term.specs.Term.{value}
use Rattle.ps_term.specs.declared.term.Term.{Term}
use Rattle.ps_term.specs.declared.var.Var.{Var}
use Rattle.ps_term.specs.declared.var.Var.TheVariants.{Global, Local, Havoc}
use Rattle.ps_command.specs.Agreement.{AreSeenBy, RanAs}
use Rattle.ps_command.specs.Fitting.{CanRun}
use Rattle.ps_command.specs.Form.{form_of}
use Rattle.ps_command.specs.Named.{is_declared, is_declared_term, is_declared_row, is_declared_op}
use Rattle.ps_command.specs.Run.{holds, run_on, run, run_by}
use Rattle.ps_command.specs.Symbolic.{set_at, with_havocs}
use Rattle.ps_command.specs.Values.{Values, value_at, with_value, values_of, with_values}
use Rattle.ps_command.specs.declared.op.Op.{Op}
use Rattle.ps_command.specs.declared.op.Op.TheVariants.{Assume, Assign, Havoc as HavocOp}
use Rattle.ps_command.specs.declared.state.State.{State}
use Rattle.ps_command.proofs.Forms.{form_runs}
use Rattle.ps_command.proofs.Sizes.{SameSizes, set_sizes}

-- values that agree at the variables of a term
same_pairs : (u v : Var → ℤ) (ps : List (Var × ℤ)) → AllByRecursion (λ (p : Var × ℤ). u p.0 ≡ v p.0) ps → pairs_value u ps ≡ pairs_value v ps
same_pairs u v [] h = refl
same_pairs u v (p ∷ ps) h = ap₂ (λ (a b : ℤ). (p.1 *ℤ a) +ℤ b) h.0 (same_pairs u v ps h.1)

pub same_value : (u v : Var → ℤ) (t : Term) → AllByRecursion (λ (p : Var × ℤ). u p.0 ≡ v p.0) t.pairs → value u t ≡ value v t
same_value u v t h = ap (λ (a : ℤ). a +ℤ t.constant) (same_pairs u v t.pairs h)

-- the values of variables are those of the globals and of the thread's locals
pub record Agrees (a : Values) (f : Var → ℤ) : Type 0 where
  pub of_globals : (n : ℕ) → f (Global n) ≡ slice_index_or a.globals n (pos 0)
  pub of_locals : (n : ℕ) → f (Local 0 n) ≡ slice_index_or a.locals n (pos 0)

-- the locals of other threads stay
abbrev pub StaysElsewhere : (Var → ℤ) → (Var → ℤ) → Type 0
StaysElsewhere f g = (t n : ℕ) → (t ≢ 0) → g (Local t n) ≡ f (Local t n)

-- the two runs end, in values that agree, or neither does
abbrev pub AreAlike : (Var → ℤ) → Option Values → Option (Var → ℤ) → Type 0
AreAlike f None None = Unit {0}
AreAlike f None (Some g) = ⊥
AreAlike f (Some w) None = ⊥
AreAlike f (Some w) (Some g) = Agrees w g × StaysElsewhere f g

module _ (globals locals : ℕ) where
  agrees_at : (a : Values) (f : Var → ℤ) → Agrees a f → (x : Var) → is_declared globals locals x ≡ true → value_at a x ≡ f x
  agrees_at a f h (Global n) d = sym (h.of_globals n)
  agrees_at a f h (Local t n) d =
      let is : t ≡ 0 = eqb-true t 0 (and_parts (t == 0) (nat_lt n locals) d).0 in
      sym (h.of_locals n) ∙ ap (λ (s : ℕ). f (Local s n)) (sym is)
  agrees_at a f h (Havoc n) d = let none_such : false ≡ true = d in cc

  agrees_pairs : (a : Values) (f : Var → ℤ) → Agrees a f → (ps : List (Var × ℤ)) → list_all (λ (p : Var × ℤ). is_declared globals locals p.0) ps ≡ true →
      AllByRecursion (λ (p : Var × ℤ). value_at a p.0 ≡ f p.0) ps
  agrees_pairs a f h [] d = tt
  agrees_pairs a f h (p ∷ ps) d =
      let q : (is_declared globals locals p.0 ≡ true) × (list_all (λ (p : Var × ℤ). is_declared globals locals p.0) ps ≡ true) =
      and_parts (is_declared globals locals p.0) (list_all (λ (p : Var × ℤ). is_declared globals locals p.0) ps) d in
      (agrees_at a f h p.0 q.0, agrees_pairs a f h ps q.1)

  agrees_value : (a : Values) (f : Var → ℤ) → Agrees a f → (t : Term) → is_declared_term globals locals t ≡ true → value (value_at a) t ≡ value f t
  agrees_value a f h t d = same_value (value_at a) f t (agrees_pairs a f h t.pairs d)

  record Fits (a : Values) : Type 0 where
    of_globals : length a.globals ≡ globals
    of_locals : length a.locals ≡ locals

  set_fits : (a : Values) (x : Var) (z : ℤ) → Fits a → Fits (with_value a x z)
  set_fits a x z h = let s : SameSizes a (with_value a x z) = set_sizes a x z in
      record { of_globals = s.globals ∙ h.of_globals; of_locals = s.locals ∙ h.of_locals }

  set_at_list : (xs : List ℤ) (m n : ℕ) (z : ℤ) → m < length xs → (if m == n then z else get_or xs n (pos 0)) ≡ get_or (slice_set xs m z) n (pos 0)
  set_at_list xs m n z within = on (m == n) refl
    where
      on : (b : Bool) → (m == n) ≡ b → (if b then z else get_or xs n (pos 0)) ≡ get_or (slice_set xs m z) n (pos 0)
      on true e = sym (ap (λ (i : ℕ). get_or (slice_set xs m z) i (pos 0)) (sym (eqb-true m n e)) ∙ get_or-set_same xs m z (pos 0) within)
      on false e = sym (get_or-set_other xs m n z (pos 0) (λ i. eqb-false m n e (sym i)))

  set_agrees : (a : Values) (f : Var → ℤ) → Agrees a f → Fits a → (x : Var) → is_declared globals locals x ≡ true → (z : ℤ) → Agrees (with_value a x z) (set_at f x z)
  set_agrees a f h fits (Global m) d z =
      let within : m < length a.globals = subst (λ (k : ℕ). m < k) (sym fits.of_globals) (ltb-true m globals d) in
      record {
        of_globals = λ n. ap (λ (y : ℤ). if m == n then z else y) (h.of_globals n) ∙ set_at_list a.globals m n z within;
        of_locals = h.of_locals;
      }
  set_agrees a f h fits (Local t m) d z = subst (λ (s : ℕ). Agrees (with_value a (Local s m) z) (set_at f (Local s m) z)) (sym is) at_zero
    where
      is : t ≡ 0
      is = eqb-true t 0 (and_parts (t == 0) (nat_lt m locals) d).0

      within : m < length a.locals
      within = subst (λ (k : ℕ). m < k) (sym fits.of_locals) (ltb-true m locals (and_parts (t == 0) (nat_lt m locals) d).1)

      at_zero : Agrees (with_value a (Local 0 m) z) (set_at f (Local 0 m) z)
      at_zero = record {
        of_globals = h.of_globals;
        of_locals = λ n. ap (λ (y : ℤ). if m == n then z else y) (h.of_locals n) ∙ set_at_list a.locals m n z within;
      }
  set_agrees a f h fits (Havoc n) d z = let none_such : false ≡ true = d in cc

  set_elsewhere : (f : Var → ℤ) (x : Var) → is_declared globals locals x ≡ true → (z : ℤ) → StaysElsewhere f (set_at f x z)
  set_elsewhere f (Global m) d z t n none_such = refl
  set_elsewhere f (Local s m) d z t n none_such =
      let is : s ≡ 0 = eqb-true s 0 (and_parts (s == 0) (nat_lt m locals) d).0 in
      ap (λ (b : Bool). if b && m == n then z else f (Local t n)) (ne_eqb s t (λ e. none_such (sym e ∙ is)))
  set_elsewhere f (Havoc m) d z t n none_such = let none : false ≡ true = d in cc

  abbrev Plain : List Op → (Var → ℤ) → List ℤ → Option (Var → ℤ)
  Plain ops f hs = run_on (λ (v : Var → ℤ). v) set_at ops f hs

  then_alike : (f m : Var → ℤ) (o : Option Values) (p : Option (Var → ℤ)) → StaysElsewhere f m → AreAlike m o p → AreAlike f o p
  then_alike f m None None first h = tt
  then_alike f m None (Some g) first h = absurd h
  then_alike f m (Some w) None first h = absurd h
  then_alike f m (Some w) (Some g) first h = (h.0, λ t n other. h.1 t n other ∙ first t n other)

  runs_alike : (ops : List Op) (a : Values) (f : Var → ℤ) (hs : List ℤ) → list_all (is_declared_op globals locals) ops ≡ true → Fits a → Agrees a f →
      AreAlike f (run ops a hs) (Plain ops f hs)
  runs_alike [] a f hs d fits h = (h, λ t n other. refl)
  runs_alike (Assume r ∷ ops) a f hs d fits h = on (holds (value_at a) r) refl (runs_alike ops a f hs q.1 fits h)
    where
      q : (is_declared_row globals locals r ≡ true) × (list_all (is_declared_op globals locals) ops ≡ true)
      q = and_parts (is_declared_row globals locals r) (list_all (is_declared_op globals locals) ops) d

      same : holds (value_at a) r ≡ holds f r
      same = ap (λ (z : ℤ). int_le z (pos 0)) (agrees_value a f h r.term q.0)

      both : (b : Bool) → AreAlike f (run ops a hs) (Plain ops f hs) → AreAlike f (if b then run ops a hs else None) (if b then Plain ops f hs else None)
      both true rest = rest
      both false rest = tt

      on : (b : Bool) → holds (value_at a) r ≡ b → AreAlike f (run ops a hs) (Plain ops f hs) →
          AreAlike f (if holds (value_at a) r then run ops a hs else None) (if holds f r then Plain ops f hs else None)
      on b e rest = subst (λ (c : Bool). AreAlike f (if holds (value_at a) r then run ops a hs else None) (if c then Plain ops f hs else None)) same (both (holds (value_at a) r) rest)
  runs_alike (Assign x t ∷ ops) a f hs d fits h =
      let p : ((is_declared globals locals x && is_declared_term globals locals t) ≡ true) × (list_all (is_declared_op globals locals) ops ≡ true) =
      and_parts (is_declared globals locals x && is_declared_term globals locals t) (list_all (is_declared_op globals locals) ops) d in
      let q : (is_declared globals locals x ≡ true) × (is_declared_term globals locals t ≡ true) = and_parts (is_declared globals locals x) (is_declared_term globals locals t) p.0 in
      let z : ℤ = value (value_at a) t in
      subst (λ (y : ℤ). AreAlike f (run ops (with_value a x z) hs) (Plain ops (set_at f x y) hs)) (agrees_value a f h t q.1)
      (then_alike f (set_at f x z) (run ops (with_value a x z) hs) (Plain ops (set_at f x z) hs) (set_elsewhere f x q.0 z)
      (runs_alike ops (with_value a x z) (set_at f x z) hs p.1 (set_fits a x z fits) (set_agrees a f h fits x q.0 z)))
  runs_alike (HavocOp x ∷ ops) a f hs d fits h =
      let p : (is_declared globals locals x ≡ true) × (list_all (is_declared_op globals locals) ops ≡ true) =
      and_parts (is_declared globals locals x) (list_all (is_declared_op globals locals) ops) d in
      let z : ℤ = slice_index_or hs 0 (pos 0) in
      then_alike f (set_at f x z) (run ops (with_value a x z) (drop 1 hs)) (Plain ops (set_at f x z) (drop 1 hs)) (set_elsewhere f x p.0 z)
      (runs_alike ops (with_value a x z) (set_at f x z) (drop 1 hs) p.1 (set_fits a x z fits) (set_agrees a f h fits x p.0 z))

-- ---- a run in a state, and the form of its ops
module _ (ops : List Op) (s : State) (thread : ℕ) (values : Var → ℤ) (hs : List ℤ) (can : CanRun thread ops s) (seen : AreSeenBy thread s values) where
  abbrev W : Var → ℤ
  W = with_havocs values hs

  agree : Agrees (values_of thread s) W
  agree = record { of_globals = seen.globals; of_locals = seen.locals }

  alike : AreAlike W (run ops (values_of thread s) hs) (run_on (λ (v : Var → ℤ). v) set_at ops W hs)
  alike = runs_alike (length s.globals) (length (slice_index_or s.locals thread [])) ops (values_of thread s) W hs can.named (record { of_globals = refl; of_locals = refl }) agree

  ended : (w : Values) → Agrees w (values_after W (form_of ops).after) → StaysElsewhere W (values_after W (form_of ops).after) →
      list_all (holds W) (form_of ops).rows ≡ true → RanAs thread (form_of ops) W s (with_values thread s w)
  ended w h stays rows = record {
    rows = rows;
    seen = record {
      globals = h.of_globals;
      locals = λ n. h.of_locals n ∙ ap (λ (ls : List ℤ). slice_index_or ls n (pos 0)) (sym (get_or-set_same s.locals thread w.locals [] can.within));
    };
    threads = length-set s.locals thread w.locals;
    others = λ k other. get_or-set_other s.locals thread k w.locals [] other;
    unnamed = λ k n other. stays k n other;
  }

  as_form : (o : Option Values) (b : Bool) → list_all (holds W) (form_of ops).rows ≡ b →
      AreAlike W o (if b then Some (values_after W (form_of ops).after) else None) →
      MatchOption (option_map (with_values thread s) o) (IsFalse (list_all (holds W) (form_of ops).rows)) (RanAs thread (form_of ops) W s)
  as_form None true e h = absurd h
  as_form None false e h = e
  as_form (Some w) true e h = ended w h.0 h.1 e
  as_form (Some w) false e h = absurd h

  pub runs_as_form : MatchOption (run_by thread ops s hs) (IsFalse (list_all (holds W) (form_of ops).rows)) (RanAs thread (form_of ops) W s)
  runs_as_form = as_form (run ops (values_of thread s) hs) (list_all (holds W) (form_of ops).rows) refl
      (subst (λ (o : Option (Var → ℤ)). AreAlike W (run ops (values_of thread s) hs) o) (form_runs ops values hs) alike)
