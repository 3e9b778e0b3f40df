-- A command that a thread runs, with the threads by their numbers in a triple.
use Rattle.std.proofs.Common.{◌≡◌, ◌≢◌, Bool, true, false, not, ◌==◌, refl, sym, ap, ◌∙◌, ℕ, zero, suc, ◌+◌, ℤ, ◌+ℤ◌, List, [], ◌∷◌, map, inl, inr, ◌⊎◌, if◌then◌else◌, nat_lt, arith}
use Rattle.std.specs.List.{list_all, AllByRecursion}
use Rattle.std.proofs.lemmas.Bool.{and_parts, both_ways, cases_eq, eqb-true}
use Rattle.std.proofs.lemmas.Bool.Decides.{nat_tests}
use Rattle.ps_atom.specs.Atoms.{renamed_variable}
use Rattle.ps_command.specs.Commands.{ops_of}
use Rattle.ps_command.specs.Named.{is_declared_command, is_declared_op}
use Rattle.ps_command.specs.declared.command.Command.{Command}
use Rattle.ps_command.specs.declared.setting.Setting.{Setting}
use Rattle.ps_command.specs.declared.symbolic_form.SymbolicForm.{SymbolicForm}
use Rattle.ps_command.proofs.Forms.{variable_value}
use Rattle.ps_farkas.specs.Refutes.{weighted}
use Rattle.ps_interp.specs.Sums.{terms_by}
use Rattle.ps_term.specs.Substitution.{replacement, values_after}
use Rattle.ps_term.specs.Term.{value}
use Rattle.ps_term.specs.Var.{var_eq}
use Rattle.ps_term.specs.declared.row.Row.{Row}
use Rattle.ps_term.specs.declared.term.Term.{Term}
use Rattle.ps_term.specs.declared.var.Var.{Var}
use Rattle.ps_term.specs.declared.var.Var.TheVariants.{Global, Local, Havoc}
use Rattle.ps_term.proofs.Variables.{var_eq-true, var_eq_sym}
use Rattle.ps_trace.specs.Rows.{of_thread, row_of_thread, term_of_thread}
use Rattle.ps_trace.specs.Own.{is_own, is_own_form, is_own_row, is_own_term, is_own_worth}
use Rattle.ps_trace.proofs.Meeting.{is_other, of_eq, other_apart, own_value, thread_value}
use Rattle.ps_trace.proofs.Owning.{own_form}
use Rattle.ps_triple.specs.Rows.{form_in}
use Rattle.ps_triple.proofs.Lifted.{form_is}
use Rattle.ps_interp.proofs.Worth.{weighted_map}

-- ---- the form of a setting's command names its own variables
pub declared_ops : (globals locals : ℕ) (commands : List Command) (n : ℕ) → list_all (is_declared_command globals locals) commands ≡ true →
    list_all (is_declared_op globals locals) (ops_of commands n) ≡ true
declared_ops globals locals [] n h = refl
declared_ops globals locals (c ∷ commands) zero h = (and_parts (is_declared_command globals locals c) (list_all (is_declared_command globals locals) commands) h).0
declared_ops globals locals (c ∷ commands) (suc n) h = declared_ops globals locals commands n (and_parts (is_declared_command globals locals c) (list_all (is_declared_command globals locals) commands) h).1

pub own_form_in : (setting : Setting) (n : ℕ) → is_own_form (form_in setting n) ≡ true
own_form_in setting n =
    ap is_own_form (form_is setting n setting.formed)
    ∙ own_form setting.globals setting.locals (ops_of setting.commands n) (declared_ops setting.globals setting.locals setting.commands n setting.commands_declared)

-- the terms of a form
pub terms : (form : SymbolicForm) → is_own_form form ≡ true → list_all (is_own_worth form.havocs) form.after ≡ true
terms form o = (and_parts (list_all (is_own_row form.havocs) form.rows) (list_all (is_own_worth form.havocs) form.after) o).1

pub asks : (form : SymbolicForm) → is_own_form form ≡ true → list_all (is_own_row form.havocs) form.rows ≡ true
asks form o = (and_parts (list_all (is_own_row form.havocs) form.rows) (list_all (is_own_worth form.havocs) form.after) o).0

pub not_same : (a b : ℕ) → a ≢ b → (a == b) ≡ false
not_same a b n = at (a == b) refl
  where
    at : (t : Bool) → (a == b) ≡ t → (a == b) ≡ false
    at false e = e
    at true e = absurd (n (eqb-true a b e))

-- values that agree at the variables of a command give its terms one value
pub own_term_value : (h : ℕ) (f g : Var → ℤ) → ((x : Var) → is_own h x ≡ true → f x ≡ g x) → (t : Term) → is_own_term h t ≡ true → value f t ≡ value g t
own_term_value h f g e t o = ap (λ (z : ℤ). z +ℤ t.constant) (own_value h f g e t.pairs o)

-- ---- the terms of a command, run by a thread, at values seen by number
module _ (k : ℕ) (u v : Var → ℤ) (h : ℕ) (seen : (x : Var) → is_own h x ≡ true → u (of_thread k 0 x) ≡ v x) where
  abbrev by_thread : List (Var × Term) → List (Var × Term)
  by_thread ps = map (λ (p : Var × Term). let q : Var × Term = (of_thread k 0 p.0, term_of_thread k 0 p.1) in q) ps

  pub term_seen : (t : Term) → is_own_term h t ≡ true → value u (term_of_thread k 0 t) ≡ value v t
  term_seen t o = thread_value u k 0 t ∙ own_term_value h (λ (x : Var). u (of_thread k 0 x)) v seen t o

  pub rows_seen : (rows : List Row) (ns : List ℕ) → list_all (is_own_row h) rows ≡ true → weighted (value u) (map (row_of_thread k 0) rows) ns ≡ weighted (value v) rows ns
  rows_seen rows ns o = weighted_map (value u) (value v) (row_of_thread k 0) rows ns (each rows o)
    where
      each : (rs : List Row) → list_all (is_own_row h) rs ≡ true → AllByRecursion (λ (r : Row). value u (row_of_thread k 0 r).term ≡ value v r.term) rs
      each [] o = tt
      each (r ∷ rs) o =
          let q : (is_own_row h r ≡ true) × (list_all (is_own_row h) rs ≡ true) = and_parts (is_own_row h r) (list_all (is_own_row h) rs) o in
          (term_seen r.term q.0, each rs q.1)

  -- a variable that the command may set
  pub set_seen : (ps : List (Var × Term)) (y : Var) → list_all (is_own_worth h) ps ≡ true → is_own 0 y ≡ true → u (of_thread k 0 y) ≡ v y →
      values_after u (by_thread ps) (of_thread k 0 y) ≡ values_after v ps y
  set_seen [] y o i same = variable_value u (of_thread k 0 y) ∙ (same ∙ sym (variable_value v y))
  set_seen (p ∷ ps) y o i same = at (var_eq y p.0) (of_eq k 0 y p.0 i q.0) (set_seen ps y both.1 i same)
    where
      both : (is_own_worth h p ≡ true) × (list_all (is_own_worth h) ps ≡ true)
      both = and_parts (is_own_worth h p) (list_all (is_own_worth h) ps) o

      q : (is_own 0 p.0 ≡ true) × (is_own_term h p.1 ≡ true)
      q = and_parts (is_own 0 p.0) (is_own_term h p.1) both.0

      at : (t : Bool) → var_eq (of_thread k 0 y) (of_thread k 0 p.0) ≡ t → values_after u (by_thread ps) (of_thread k 0 y) ≡ values_after v ps y →
          value u (if var_eq (of_thread k 0 y) (of_thread k 0 p.0) then term_of_thread k 0 p.1 else replacement (by_thread ps) (of_thread k 0 y))
          ≡ value v (if t then p.1 else replacement ps y)
      at true e rest = ap (λ (b : Bool). value u (if b then term_of_thread k 0 p.1 else replacement (by_thread ps) (of_thread k 0 y))) e ∙ term_seen p.1 q.1
      at false e rest = ap (λ (b : Bool). value u (if b then term_of_thread k 0 p.1 else replacement (by_thread ps) (of_thread k 0 y))) e ∙ rest

-- a variable that the command can't set keeps its value
pub other_kept : (k : ℕ) (u : Var → ℤ) (h : ℕ) (ps : List (Var × Term)) (y : Var) → list_all (is_own_worth h) ps ≡ true → is_other k y ≡ true →
    values_after u (map (λ (p : Var × Term). let q : Var × Term = (of_thread k 0 p.0, term_of_thread k 0 p.1) in q) ps) y ≡ u y
other_kept k u h [] y o i = variable_value u y
other_kept k u h (p ∷ ps) y o i =
    let both : (is_own_worth h p ≡ true) × (list_all (is_own_worth h) ps ≡ true) = and_parts (is_own_worth h p) (list_all (is_own_worth h) ps) o in
    let q : (is_own 0 p.0 ≡ true) × (is_own_term h p.1 ≡ true) = and_parts (is_own 0 p.0) (is_own_term h p.1) both.0 in
    ap (λ (b : Bool). value u (if b then term_of_thread k 0 p.1 else replacement (map (λ (p : Var × Term). let q : Var × Term = (of_thread k 0 p.0, term_of_thread k 0 p.1) in q) ps) y)) (var_eq_sym y (of_thread k 0 p.0) ∙ other_apart k 0 p.0 y q.0 i)
    ∙ other_kept k u h ps y both.1 i

pub own_kept : (v : Var → ℤ) (h : ℕ) (ps : List (Var × Term)) (y : Var) → list_all (is_own_worth h) ps ≡ true → is_own 0 y ≡ false → values_after v ps y ≡ v y
own_kept v h [] y o i = variable_value v y
own_kept v h (p ∷ ps) y o i =
    let both : (is_own_worth h p ≡ true) × (list_all (is_own_worth h) ps ≡ true) = and_parts (is_own_worth h p) (list_all (is_own_worth h) ps) o in
    let q : (is_own 0 p.0 ≡ true) × (is_own_term h p.1 ≡ true) = and_parts (is_own 0 p.0) (is_own_term h p.1) both.0 in
    ap (λ (b : Bool). value v (if b then p.1 else replacement ps y)) (apart (var_eq y p.0) refl q.0) ∙ own_kept v h ps y both.1 i
  where
    apart : (t : Bool) → var_eq y p.0 ≡ t → is_own 0 p.0 ≡ true → var_eq y p.0 ≡ false
    apart false e j = e
    apart true e j = absurd (both_ways (is_own 0 y) i (ap (is_own 0) (var_eq-true y p.0 e) ∙ j))

-- ---- what is seen by number, where thread k has number 0 and no other has
module _ (k : ℕ) (number : ℕ → ℕ) (mover : number k ≡ 0) (others : (t : ℕ) → t ≢ k → number t ≢ 0) (v : Var → ℤ) where
  pub seen_first : (h : ℕ) (x : Var) → is_own h x ≡ true → v (renamed_variable number (of_thread k 0 x)) ≡ v x
  seen_first h (Global n) o = refl
  seen_first h (Local t n) o = ap (λ (j : ℕ). v (Local j n)) (mover ∙ sym (eqb-true t 0 o))
  seen_first h (Havoc i) o = let e : 0 + i ≡ i = omega arith in ap (λ (j : ℕ). v (Havoc j)) e

  pub seen_after : (form : SymbolicForm) → is_own_form form ≡ true → (x : Var) →
      values_after (λ (y : Var). v (renamed_variable number y)) (terms_by k form) x ≡ values_after v form.after (renamed_variable number x)
  seen_after form o (Global n) = set_seen k (λ (y : Var). v (renamed_variable number y)) v form.havocs (seen_first form.havocs) form.after (Global n) (terms form o) refl refl
  seen_after form o (Local t n) = at (cases_eq t k)
    where
      at : (t ≡ k) ⊎ (t ≡ k → ⊥) → values_after (λ (y : Var). v (renamed_variable number y)) (terms_by k form) (Local t n) ≡ values_after v form.after (Local (number t) n)
      at (inl is) =
          ap (λ (j : ℕ). values_after (λ (y : Var). v (renamed_variable number y)) (terms_by k form) (Local j n)) is
          ∙ (set_seen k (λ (y : Var). v (renamed_variable number y)) v form.havocs (seen_first form.havocs) form.after (Local 0 n) (terms form o) refl (seen_first form.havocs (Local 0 n) refl)
          ∙ ap (λ (j : ℕ). values_after v form.after (Local j n)) (sym mover ∙ ap number (sym is)))
      at (inr apart) =
          other_kept k (λ (y : Var). v (renamed_variable number y)) form.havocs form.after (Local t n) (terms form o) (ap not (not_same k t (λ e. apart (sym e))))
          ∙ sym (own_kept v form.havocs form.after (Local (number t) n) (terms form o) (not_same (number t) 0 (others t apart)))
  seen_after form o (Havoc i) =
      other_kept k (λ (y : Var). v (renamed_variable number y)) form.havocs form.after (Havoc i) (terms form o) refl
      ∙ sym (own_kept v form.havocs form.after (Havoc i) (terms form o) (below i))
    where
      below : (i : ℕ) → nat_lt i 0 ≡ false
      below i = grind (arith, nat_tests)
