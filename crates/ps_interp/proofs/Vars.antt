-- Which variables are left in the sums at cuts.
use Rattle.std.proofs.Common.{◌≡◌, Bool, true, false, ◌==◌, sym, subst, ℕ, ◌<◌, ℤ, pos, ◌*ℤ◌, ◌+ℤ◌, List, [], ◌∷◌, ◌++◌, map, if◌then◌else◌, nat_lt, eqb-true, ltb-true}
use Rattle.std.specs.List.{list_all, AllByRecursion}
use Rattle.std.specs.Ordering.{int_eq}
use Rattle.std.proofs.lemmas.Bool.{and_parts}
use Rattle.ps_command.specs.Commands.{ops_of}
use Rattle.ps_command.specs.Form.{empty_form, form_from, with_op, with_term}
use Rattle.ps_command.specs.Named.{is_declared, is_declared_op, is_declared_term}
use Rattle.ps_command.specs.declared.op.Op.{Op}
use Rattle.ps_command.specs.declared.op.Op.TheVariants.{Assume, Assign, Havoc as HavocOp}
use Rattle.ps_command.specs.declared.setting.Setting.{Setting}
use Rattle.ps_command.specs.declared.symbolic_form.SymbolicForm.{SymbolicForm}
use Rattle.ps_interp.specs.Sums.{letter_sum, plus_rows, rows_by, sum_before, terms_by}
use Rattle.ps_term.specs.Exact.{kept_before, number_term, plus_replaced, plus_scaled, substituted, with_pair, with_pairs}
use Rattle.ps_term.specs.Pairs.{coefficient}
use Rattle.ps_term.specs.Substitution.{replacement}
use Rattle.ps_term.specs.Term.{variable_term}
use Rattle.ps_term.specs.Var.{var_eq, var_lt}
use Rattle.ps_term.specs.declared.row.Row.{Row}
use Rattle.ps_term.specs.declared.term.Term.{Term}
use Rattle.ps_term.specs.declared.var.Var.{Var}
use Rattle.ps_term.specs.declared.var.Var.TheVariants.{Global, Local, Havoc}
use Rattle.ps_trace.specs.Rows.{of_thread, pairs_of_thread, row_of_thread, term_of_thread}
use Rattle.ps_triple.specs.Rows.{form_in}
use Rattle.ps_triple.proofs.Lifted.{form_is}
use Rattle.ps_interp.proofs.Numbered.{declared_ops}

-- ---- each variable of pairs has a property
module _ (P : Var → Type 0) where
  abbrev pub Every : List (Var × ℤ) → Type 0
  Every ps = AllByRecursion (λ (p : Var × ℤ). P p.0) ps

  kept_every : (x : Var) (n : ℤ) (ps : List (Var × ℤ)) → P x → Every ps → Every (kept_before x n ps)
  kept_every x n ps h a = at (int_eq n (pos 0))
    where
      at : (t : Bool) → Every (if t then ps else (x, n) ∷ ps)
      at true = a
      at false = (h, a)

  pair_every : (x : Var) (n : ℤ) (ps : List (Var × ℤ)) → P x → Every ps → Every (with_pair x n ps)
  pair_every x n [] h a = kept_every x n [] h tt
  pair_every x n (p ∷ ps) h a = at (var_eq x p.0) (var_lt x p.0) (pair_every x n ps h a.1)
    where
      at : (t u : Bool) → Every (with_pair x n ps) → Every (if t then kept_before x (n +ℤ p.1) ps else if u then kept_before x n (p ∷ ps) else p ∷ with_pair x n ps)
      at true u rest = kept_every x (n +ℤ p.1) ps h a.1
      at false true rest = kept_every x n (p ∷ ps) h a
      at false false rest = (a.0, rest)

  pairs_every : (ps : List (Var × ℤ)) (by : ℤ) (qs : List (Var × ℤ)) → Every ps → Every qs → Every (with_pairs ps by qs)
  pairs_every ps by [] a b = a
  pairs_every ps by (q ∷ qs) a b = pair_every q.0 (by *ℤ q.1) (with_pairs ps by qs) b.0 (pairs_every ps by qs a b.1)

  -- what is put for each variable of a term
  abbrev pub EveryPut : List (Var × Term) → List (Var × ℤ) → Type 0
  EveryPut after ps = AllByRecursion (λ (p : Var × ℤ). Every (replacement after p.0).pairs) ps

  replaced_every : (after : List (Var × Term)) (a : Term) (ps : List (Var × ℤ)) → Every a.pairs → EveryPut after ps → Every (plus_replaced after a ps).pairs
  replaced_every after a [] b c = b
  replaced_every after a (p ∷ ps) b c = pairs_every (plus_replaced after a ps).pairs p.1 (replacement after p.0).pairs (replaced_every after a ps b c.1) c.0

  pub put_every : (after : List (Var × Term)) (t : Term) → EveryPut after t.pairs → Every (substituted after t).pairs
  put_every after t c = replaced_every after (number_term t.constant) t.pairs tt c

  pub rows_every : (t : Term) (rows : List Row) (ns : List ℕ) → Every t.pairs → AllByRecursion (λ (r : Row). Every r.term.pairs) rows → Every (plus_rows t rows ns).pairs
  rows_every t [] ns a h = a
  rows_every t (r ∷ rows) [] a h = a
  rows_every t (r ∷ rows) (n ∷ ns) a h = rows_every (plus_scaled t (pos n) r.term) rows ns (pairs_every t.pairs (pos n) r.term.pairs a h.0) h.1

  pub sum_every : (a : Term) (by : ℤ) (b : Term) → Every a.pairs → Every b.pairs → Every (plus_scaled a by b).pairs
  sum_every a by b p q = pairs_every a.pairs by b.pairs p q

  -- what stands for a variable: a term of the list, or the variable itself
  pub replacement_every : (after : List (Var × Term)) (x : Var) → P x → AllByRecursion (λ (p : Var × Term). Every p.1.pairs) after → Every (replacement after x).pairs
  replacement_every [] x h a = (h, tt)
  replacement_every (p ∷ after) x h a = at (var_eq x p.0) (replacement_every after x h a.1)
    where
      at : (t : Bool) → Every (replacement after x).pairs → Every (if t then p.1 else replacement after x).pairs
      at true rest = a.0
      at false rest = rest

  pub each_put : (after : List (Var × Term)) (ps : List (Var × ℤ)) → Every ps → AllByRecursion (λ (p : Var × Term). Every p.1.pairs) after → EveryPut after ps
  each_put after [] h a = tt
  each_put after (p ∷ ps) h a = (replacement_every after p.0 h.0 a, each_put after ps h.1 a)

  with_term_every : (x : Var) (t : Term) (ps : List (Var × Term)) → Every t.pairs → AllByRecursion (λ (p : Var × Term). Every p.1.pairs) ps →
      AllByRecursion (λ (p : Var × Term). Every p.1.pairs) (with_term x t ps)
  with_term_every x t [] w a = (w, tt)
  with_term_every x t (p ∷ ps) w a = at (var_eq x p.0) (var_lt x p.0) (with_term_every x t ps w a.1)
    where
      at : (b c : Bool) → AllByRecursion (λ (p : Var × Term). Every p.1.pairs) (with_term x t ps) →
          AllByRecursion (λ (p : Var × Term). Every p.1.pairs) (if b then (x, t) ∷ ps else if c then (x, t) ∷ p ∷ ps else p ∷ with_term x t ps)
      at true c rest = (w, a.1)
      at false true rest = (w, a)
      at false false rest = (a.0, rest)

-- ---- the forms of a setting's commands name declared variables, locals of thread 0, and havocs
abbrev pub IsFormVar : ℕ → ℕ → Var → Type 0
IsFormVar globals locals (Global n) = n < globals
IsFormVar globals locals (Local t n) = (t ≡ 0) × (n < locals)
IsFormVar globals locals (Havoc i) = Unit {0}

pub record EveryForm (P : Var → Type 0) (form : SymbolicForm) : Type 0 where
  pub rows : AllByRecursion (λ (r : Row). AllByRecursion (λ (p : Var × ℤ). P p.0) r.term.pairs) form.rows
  pub after : AllByRecursion (λ (q : Var × Term). AllByRecursion (λ (p : Var × ℤ). P p.0) q.1.pairs) form.after

pub all_append : {X : Type 0} (P : X → Type 0) (xs ys : List X) → AllByRecursion P xs → AllByRecursion P ys → AllByRecursion P (xs ++ ys)
all_append P [] ys a b = b
all_append P (x ∷ xs) ys a b = (a.0, all_append P xs ys a.1 b)

module _ (globals locals : ℕ) where
  declared_var : (x : Var) → is_declared globals locals x ≡ true → IsFormVar globals locals x
  declared_var (Global n) d = ltb-true n globals d
  declared_var (Local t n) d = let q : (t == 0 ≡ true) × (nat_lt n locals ≡ true) = and_parts (t == 0) (nat_lt n locals) d in (eqb-true t 0 q.0, ltb-true n locals q.1)
  declared_var (Havoc i) d = tt

  declared_pairs : (ps : List (Var × ℤ)) → list_all (λ (p : Var × ℤ). is_declared globals locals p.0) ps ≡ true → AllByRecursion (λ (p : Var × ℤ). IsFormVar globals locals p.0) ps
  declared_pairs [] d = tt
  declared_pairs (p ∷ ps) d =
      let q : (is_declared globals locals p.0 ≡ true) × (list_all (λ (p : Var × ℤ). is_declared globals locals p.0) ps ≡ true) =
      and_parts (is_declared globals locals p.0) (list_all (λ (p : Var × ℤ). is_declared globals locals p.0) ps) d in
      (declared_var p.0 q.0, declared_pairs ps q.1)

  put_declared : (form : SymbolicForm) (t : Term) → EveryForm (IsFormVar globals locals) form → is_declared_term globals locals t ≡ true →
      AllByRecursion (λ (p : Var × ℤ). IsFormVar globals locals p.0) (substituted form.after t).pairs
  put_declared form t f d = put_every (IsFormVar globals locals) form.after t (each_put (IsFormVar globals locals) form.after t.pairs (declared_pairs t.pairs d) f.after)

  op_every : (form : SymbolicForm) (op : Op) → is_declared_op globals locals op ≡ true → EveryForm (IsFormVar globals locals) form → EveryForm (IsFormVar globals locals) (with_op form op)
  op_every form (Assume r) d f = record {
    rows = all_append (λ (r : Row). AllByRecursion (λ (p : Var × ℤ). IsFormVar globals locals p.0) r.term.pairs) form.rows (record { term = substituted form.after r.term } ∷ [])
        f.rows (put_declared form r.term f d, tt);
    after = f.after;
  }
  op_every form (Assign x t) d f =
      let q : (is_declared globals locals x ≡ true) × (is_declared_term globals locals t ≡ true) = and_parts (is_declared globals locals x) (is_declared_term globals locals t) d in
      record {
        rows = f.rows;
        after = with_term_every (IsFormVar globals locals) x (substituted form.after t) form.after (put_declared form t f q.1) f.after;
      }
  op_every form (HavocOp x) d f = record {
    rows = f.rows;
    after = with_term_every (IsFormVar globals locals) x (variable_term (Havoc form.havocs)) form.after (tt, tt) f.after;
  }

  from_every : (form : SymbolicForm) (ops : List Op) → list_all (is_declared_op globals locals) ops ≡ true → EveryForm (IsFormVar globals locals) form → EveryForm (IsFormVar globals locals) (form_from form ops)
  from_every form [] d f = f
  from_every form (op ∷ ops) d f =
      let q : (is_declared_op globals locals op ≡ true) × (list_all (is_declared_op globals locals) ops ≡ true) =
      and_parts (is_declared_op globals locals op) (list_all (is_declared_op globals locals) ops) d in
      from_every (with_op form op) ops q.1 (op_every form op q.0 f)

pub form_every : (setting : Setting) (n : ℕ) → EveryForm (IsFormVar setting.globals setting.locals) (form_in setting n)
form_every setting n =
    subst (EveryForm (IsFormVar setting.globals setting.locals)) (sym (form_is setting n setting.formed))
    (from_every setting.globals setting.locals empty_form (ops_of setting.commands n)
    (declared_ops setting.globals setting.locals setting.commands n setting.commands_declared) (record { rows = tt; after = tt }))

-- ---- the sum before a letter
-- a declared global, a declared local of a thread of these, or a havoc
abbrev pub IsVarOf : ℕ → ℕ → (ℕ → Type 0) → Var → Type 0
IsVarOf globals locals T (Global n) = n < globals
IsVarOf globals locals T (Local t n) = T t × (n < locals)
IsVarOf globals locals T (Havoc i) = Unit {0}

module _ (globals locals : ℕ) (T : ℕ → Type 0) (k : ℕ) (mover : T k) where
  abbrev Of : Var → Type 0
  Of = IsVarOf globals locals T

  run_var : (x : Var) → IsFormVar globals locals x → IsVarOf globals locals T (of_thread k 0 x)
  run_var (Global n) h = h
  run_var (Local t n) h = (mover, h.1)
  run_var (Havoc i) h = tt

  run_pairs : (ps : List (Var × ℤ)) → AllByRecursion (λ (p : Var × ℤ). IsFormVar globals locals p.0) ps → AllByRecursion (λ (p : Var × ℤ). IsVarOf globals locals T p.0) (pairs_of_thread k 0 ps)
  run_pairs [] h = tt
  run_pairs (p ∷ ps) h = (run_var p.0 h.0, run_pairs ps h.1)

  run_rows : (rows : List Row) → AllByRecursion (λ (r : Row). AllByRecursion (λ (p : Var × ℤ). IsFormVar globals locals p.0) r.term.pairs) rows →
      AllByRecursion (λ (r : Row). AllByRecursion (λ (p : Var × ℤ). IsVarOf globals locals T p.0) r.term.pairs) (map (row_of_thread k 0) rows)
  run_rows [] h = tt
  run_rows (r ∷ rows) h = (run_pairs r.term.pairs h.0, run_rows rows h.1)

  run_terms : (ps : List (Var × Term)) → AllByRecursion (λ (q : Var × Term). AllByRecursion (λ (p : Var × ℤ). IsFormVar globals locals p.0) q.1.pairs) ps →
      AllByRecursion (λ (q : Var × Term). AllByRecursion (λ (p : Var × ℤ). IsVarOf globals locals T p.0) q.1.pairs)
      (map (λ (p : Var × Term). let q : Var × Term = (of_thread k 0 p.0, term_of_thread k 0 p.1) in q) ps)
  run_terms [] h = tt
  run_terms (p ∷ ps) h = (run_pairs p.1.pairs h.0, run_terms ps h.1)

  pub before_every : (form : SymbolicForm) (ws : List ℕ) (next : Term) → EveryForm (IsFormVar globals locals) form →
      AllByRecursion (λ (p : Var × ℤ). IsVarOf globals locals T p.0) next.pairs → AllByRecursion (λ (p : Var × ℤ). IsVarOf globals locals T p.0) (sum_before k form ws next).pairs
  before_every form ws next f h =
      sum_every (IsVarOf globals locals T) (letter_sum k form ws) (pos 1) (substituted (terms_by k form) next)
      (rows_every (IsVarOf globals locals T) (number_term (pos 0)) (rows_by k form) ws tt (run_rows form.rows f.rows))
      (put_every (IsVarOf globals locals T) (terms_by k form) next (each_put (IsVarOf globals locals T) (terms_by k form) next.pairs h (run_terms form.after f.after)))

-- no havoc has a coefficient
abbrev pub HasNoHavoc : Term → Type 0
HasNoHavoc t = (i : ℕ) → coefficient (Havoc i) t.pairs ≡ pos 0
