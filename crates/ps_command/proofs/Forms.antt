-- The form of ops says how they run, from all values.
use Rattle.std.proofs.Common.{◌≡◌, refl, sym, ap, ◌∙◌, Bool, true, false, ◌&&◌, ℕ, suc, ◌+◌, ℤ, pos, List, [], ◌∷◌, drop, if◌then◌else◌, int_le, arith}
use Rattle.std.specs.Prelude.{slice_index_or, Option, Some, None}
use Rattle.std.specs.List.{list_all}
use Rattle.std.proofs.lemmas.Int.{ints}
use Rattle.std.proofs.lemmas.List.{drop-drop, get_or-drop}
use Rattle.std.proofs.lemmas.List.Folds.{list_all-append}
use Rattle.ps_term.proofs.ExactTerms.{put_worth}
use Rattle.ps_term.proofs.Ring.{one-mul}
use Rattle.ps_term.proofs.Variables.{var_eq-true, var_eq_sym}
use Rattle.ps_term.specs.Exact.{substituted}
use Rattle.ps_term.specs.Substitution.{replacement, values_after}
use Rattle.ps_term.specs.Term.{value, variable_term}
use Rattle.ps_term.specs.Var.{var_eq, var_lt}
use Rattle.ps_term.specs.declared.row.Row.{Row}
use Rattle.ps_term.specs.declared.term.Term.{Term}
use Rattle.ps_term.specs.declared.var.Var.{Var}
use Rattle.ps_term.specs.declared.var.Var.TheVariants.{Havoc}
use Rattle.ps_command.specs.Form.{with_term, with_op, form_from, empty_form, form_of}
use Rattle.ps_command.specs.Run.{holds, run_on, havocs_in}
use Rattle.ps_command.specs.Symbolic.{set_at, with_havocs, IsForm}
use Rattle.ps_command.specs.declared.op.Op.{Op}
use Rattle.ps_command.specs.declared.op.Op.TheVariants.{Assume, Assign, Havoc as HavocOp}
use Rattle.ps_command.specs.declared.symbolic_form.SymbolicForm.{SymbolicForm}

-- ---- the term of a variable after one is set
pub replacement-set : (x : Var) (t : Term) (ps : List (Var × Term)) (y : Var) → replacement (with_term x t ps) y ≡ (if var_eq x y then t else replacement ps y)
replacement-set x t [] y = ap (λ (b : Bool). if b then t else variable_term y) (var_eq_sym y x)
replacement-set x t (p ∷ ps) y = at (var_eq x p.0) refl (var_lt x p.0) (var_eq y p.0) refl (replacement-set x t ps y)
  where
    -- the variable that is set is that of the first pair, so where it isn't y the first pair isn't that of y
    passed : var_eq x p.0 ≡ true → (b : Bool) → var_eq x y ≡ b → (if b then t else replacement ps y) ≡ (if b then t else (if var_eq y p.0 then p.1 else replacement ps y))
    passed e true f = refl
    passed e false f =
        let other : var_eq y p.0 ≡ false = ap (λ (z : Var). var_eq y z) (sym (var_eq-true x p.0 e)) ∙ (var_eq_sym y x ∙ f) in
        ap (λ (b : Bool). if b then p.1 else replacement ps y) (sym other)

    at : (b : Bool) → var_eq x p.0 ≡ b → (c : Bool) → (d : Bool) → var_eq y p.0 ≡ d →
        replacement (with_term x t ps) y ≡ (if var_eq x y then t else replacement ps y) →
        replacement (if b then (x, t) ∷ ps else if c then (x, t) ∷ p ∷ ps else p ∷ with_term x t ps) y
        ≡ (if var_eq x y then t else replacement (p ∷ ps) y)
    at true e c d f h = ap (λ (b : Bool). if b then t else replacement ps y) (var_eq_sym y x) ∙ passed e (var_eq x y) refl
    at false e true d f h = ap (λ (b : Bool). if b then t else replacement (p ∷ ps) y) (var_eq_sym y x)
    at false e false true f h =
        let is : y ≡ p.0 = var_eq-true y p.0 f in
        let other : var_eq x y ≡ false = ap (λ (z : Var). var_eq x z) is ∙ e in
        ap (λ (b : Bool). if b then p.1 else replacement (with_term x t ps) y) f
        ∙ (ap (λ (b : Bool). if b then p.1 else replacement ps y) (sym f)
        ∙ ap (λ (b : Bool). if b then t else replacement (p ∷ ps) y) (sym other))
    at false e false false f h =
        ap (λ (b : Bool). if b then p.1 else replacement (with_term x t ps) y) f
        ∙ (h ∙ ap (λ (r : Term). if var_eq x y then t else r) (ap (λ (b : Bool). if b then p.1 else replacement ps y) (sym f)))

either_value : (w : Var → ℤ) (b : Bool) (s t : Term) → value w (if b then s else t) ≡ (if b then value w s else value w t)
either_value w true s t = refl
either_value w false s t = refl

-- at the values that a list of terms gives, setting a variable to a term's value is setting its term
pub set_after : (w : Var → ℤ) (x : Var) (t : Term) (ps : List (Var × Term)) → ◌≡◌ {A = Var → ℤ} (set_at (values_after w ps) x (value w t)) (values_after w (with_term x t ps))
set_after w x t ps = λ i y. (sym (ap (value w) (replacement-set x t ps y) ∙ either_value w (var_eq x y) t (replacement ps y))) i

-- a variable is worth what its term is
pub variable_value : (w : Var → ℤ) (x : Var) → value w (variable_term x) ≡ w x
variable_value w x = omega (arith, ints, one-mul (w x))

pub nothing_set : (w : Var → ℤ) → ◌≡◌ {A = Var → ℤ} w (values_after w [])
nothing_set w = λ i y. (sym (variable_value w y)) i

-- ---- op by op
if_if : {X : Type 0} (a b : Bool) (x : Option X) → (if a then (if b then x else None) else None) ≡ (if a && (b && true) then x else None)
if_if true true x = refl
if_if true false x = refl
if_if false b x = refl

drop_next : {X : Type 0} (n : ℕ) (xs : List X) → drop 1 (drop n xs) ≡ drop (suc n) xs
drop_next n xs = let e : n + 1 ≡ suc n = omega arith in drop-drop 1 n xs ∙ ap (λ (m : ℕ). drop m xs) e

module _ (w : Var → ℤ) (hs : List ℤ) (chosen : (i : ℕ) → w (Havoc i) ≡ slice_index_or hs i (pos 0)) where
  abbrev Outcome : SymbolicForm → Option (Var → ℤ)
  Outcome form = if list_all (holds w) form.rows then Some (values_after w form.after) else None

  abbrev Rest : SymbolicForm → List Op → (Var → ℤ) → List ℤ → Option (Var → ℤ)
  Rest form ops f gs = if list_all (holds w) form.rows then run_on (λ (v : Var → ℤ). v) set_at ops f gs else None

  runs_on : (ops : List Op) (form : SymbolicForm) → Rest form ops (values_after w form.after) (drop form.havocs hs) ≡ Outcome (form_from form ops)
  runs_on [] form = refl
  runs_on (Assume r ∷ ops) form =
      let row : Row = record { term = substituted form.after r.term } in
      let same : holds (values_after w form.after) r ≡ holds w row = ap (λ (z : ℤ). int_le z (pos 0)) (sym (put_worth w form.after r.term)) in
      let go : Option (Var → ℤ) = run_on (λ (v : Var → ℤ). v) set_at ops (values_after w form.after) (drop form.havocs hs) in
      ap (λ (b : Bool). if list_all (holds w) form.rows then (if b then go else None) else None) same
      ∙ (if_if (list_all (holds w) form.rows) (holds w row) go
      ∙ (ap (λ (b : Bool). if b then go else None) (sym (list_all-append (holds w) form.rows (row ∷ [])))
      ∙ runs_on ops (with_op form (Assume r))))
  runs_on (Assign x t ∷ ops) form =
      let put : Term = substituted form.after t in
      let same : ◌≡◌ {A = Var → ℤ} (set_at (values_after w form.after) x (value (values_after w form.after) t)) (values_after w (with_term x put form.after)) =
      ap (λ (z : ℤ). set_at (values_after w form.after) x z) (sym (put_worth w form.after t)) ∙ set_after w x put form.after in
      ap (λ (g : Var → ℤ). Rest form ops g (drop form.havocs hs)) same
      ∙ runs_on ops (with_op form (Assign x t))
  runs_on (HavocOp x ∷ ops) form =
      let put : Term = variable_term (Havoc form.havocs) in
      let no_more : form.havocs + 0 ≡ form.havocs = omega arith in
      let first : slice_index_or (drop form.havocs hs) 0 (pos 0) ≡ value w put =
      get_or-drop form.havocs hs 0 (pos 0) ∙ (ap (λ (n : ℕ). slice_index_or hs n (pos 0)) no_more ∙ (sym (chosen form.havocs) ∙ sym (variable_value w (Havoc form.havocs)))) in
      let same : ◌≡◌ {A = Var → ℤ} (set_at (values_after w form.after) x (slice_index_or (drop form.havocs hs) 0 (pos 0))) (values_after w (with_term x put form.after)) =
      ap (λ (z : ℤ). set_at (values_after w form.after) x z) first ∙ set_after w x put form.after in
      ap (λ (g : Var → ℤ). Rest form ops g (drop 1 (drop form.havocs hs))) same
      ∙ (ap (λ (gs : List ℤ). Rest form ops (values_after w (with_term x put form.after)) gs) (drop_next form.havocs hs)
      ∙ runs_on ops (with_op form (HavocOp x)))

counted : (ops : List Op) (form : SymbolicForm) → (form_from form ops).havocs ≡ form.havocs + havocs_in ops
counted [] form = omega arith
counted (Assume r ∷ ops) form = counted ops (with_op form (Assume r))
counted (Assign x t ∷ ops) form = counted ops (with_op form (Assign x t))
counted (HavocOp x ∷ ops) form = let h : (form_from (with_op form (HavocOp x)) ops).havocs ≡ suc form.havocs + havocs_in ops = counted ops (with_op form (HavocOp x)) in omega (arith, h)

-- at values that have the havocs from a list
pub form_runs : (ops : List Op) (values : Var → ℤ) (hs : List ℤ) →
    run_on (λ (v : Var → ℤ). v) set_at ops (with_havocs values hs) hs
    ≡ (if list_all (holds (with_havocs values hs)) (form_of ops).rows then Some (values_after (with_havocs values hs) (form_of ops).after) else None)
form_runs ops values hs =
    ap (λ (g : Var → ℤ). run_on (λ (v : Var → ℤ). v) set_at ops g hs) (nothing_set (with_havocs values hs))
    ∙ runs_on (with_havocs values hs) hs (λ i. refl) ops empty_form

pub is_form : (ops : List Op) → IsForm ops (form_of ops)
is_form ops = record { runs = form_runs ops; counts = counted ops empty_form ∙ omega arith }
