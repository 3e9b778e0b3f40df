-- The forms of a graph's commands name globals, locals of thread 0 and their own havocs alone.
use Rattle.std.proofs.Common.{◌≡◌, Bool, true, false, ◌&&◌, ◌==◌, refl, sym, ◌∙◌, ap, ap₂, subst, ℕ, zero, suc, ◌<◌, ℤ, pos, ◌*ℤ◌, ◌+ℤ◌, List, [], ◌∷◌, length, get_or, if◌then◌else◌, nat_lt, ltb-true, arith}
use Rattle.std.specs.Prelude.{All, slice_get, Option, Some, None, option_map, unwrap_or}
use Rattle.std.specs.List.{list_all}
use Rattle.std.specs.Ordering.{int_eq}
use Rattle.std.proofs.lemmas.Bool.Decides.{nat_tests}
use Rattle.std.proofs.lemmas.List.Folds.{list_all-append}
use Rattle.std.proofs.lemmas.Option.{same_Some, slice_get-get_or, slice_get-map}
use Rattle.ps_command.specs.Commands.{forms_of, ops_of}
use Rattle.ps_command.specs.Form.{with_term, with_op, form_from, form_of, empty_form}
use Rattle.ps_command.specs.Named.{is_declared, is_declared_term, is_declared_row, is_declared_op, is_declared_command}
use Rattle.ps_command.specs.declared.command.Command.{Command}
use Rattle.ps_command.specs.declared.op.Op.{Op}
use Rattle.ps_command.specs.declared.op.Op.TheVariants.{Assume, Assign, Havoc as HavocOp}
use Rattle.ps_command.specs.declared.symbolic_form.SymbolicForm.{SymbolicForm}
use Rattle.ps_graph.proofs.Errors.{and_parts}
use Rattle.ps_graph.proofs.Strides.{edge_ops_are}
use Rattle.ps_graph.specs.ErrorTrace.{edge_ops}
use Rattle.ps_graph.specs.Facts.{is_below, names_exist}
use Rattle.ps_graph.specs.declared.edge.Edge.{Edge}
use Rattle.ps_graph.specs.declared.graph.Graph.{Graph}
use Rattle.ps_term.specs.Exact.{kept_before, number_term, plus_replaced, substituted, with_pair, with_pairs}
use Rattle.ps_term.specs.Pairs.{IsBelow, IsCanonical}
use Rattle.ps_term.specs.Substitution.{replacement}
use Rattle.ps_term.specs.Term.{variable_term}
use Rattle.ps_term.specs.Var.{var_eq, var_lt}
use Rattle.ps_term.specs.declared.row.Row.{Row}
use Rattle.ps_term.specs.declared.term.Term.{Term}
use Rattle.ps_term.specs.declared.var.Var.{Var}
use Rattle.ps_term.specs.declared.var.Var.TheVariants.{Global, Local, Havoc}
use Rattle.ps_trace.specs.Rows.{form_at, of_thread, pairs_of_thread}
use Rattle.ps_trace.specs.Own.{is_own, is_own_form, is_own_row, is_own_term, is_own_worth}

false_true : false ≡ true → ⊥
false_true e = cc

pub both : (a b : Bool) → a ≡ true → b ≡ true → (a && b) ≡ true
both a b p q = ap₂ (λ (x y : Bool). x && y) p q

-- ---- all of a list pass a test
all_weaker : {X : Type 0} (s t : X → Bool) → ((x : X) → s x ≡ true → t x ≡ true) → (xs : List X) → list_all s xs ≡ true → list_all t xs ≡ true
all_weaker s t w [] h = refl
all_weaker s t w (x ∷ xs) h =
    let q : (s x ≡ true) × (list_all s xs ≡ true) = and_parts (s x) (list_all s xs) h in
    both (t x) (list_all t xs) (w x q.0) (all_weaker s t w xs q.1)

all_got : {X : Type 0} (t : X → Bool) (xs : List X) (n : ℕ) (x : X) → list_all t xs ≡ true → slice_get xs n ≡ Some x → t x ≡ true
all_got t [] n x h g = cc
all_got t (y ∷ xs) zero x h g = ap t (sym (same_Some y x g)) ∙ (and_parts (t y) (list_all t xs) h).0
all_got t (y ∷ xs) (suc n) x h g = all_got t xs n x (and_parts (t y) (list_all t xs) h).1 g

pub all_at : {X : Type 0} (t : X → Bool) (xs : List X) (i : ℕ) (d : X) → list_all t xs ≡ true → i < length xs → t (get_or xs i d) ≡ true
all_at t [] i d h w = let no : ⊥ = omega (arith, w) in absurd no
all_at t (x ∷ xs) zero d h w = (and_parts (t x) (list_all t xs) h).0
all_at t (x ∷ xs) (suc i) d h w = all_at t xs i d (and_parts (t x) (list_all t xs) h).1 (omega (arith, w))

-- ---- terms that stand for variables
module _ (h : ℕ) where
  abbrev own_pair : Var × ℤ → Bool
  own_pair p = is_own h p.0

  kept_own : (x : Var) (n : ℤ) (ps : List (Var × ℤ)) → is_own h x ≡ true → list_all own_pair ps ≡ true → list_all own_pair (kept_before x n ps) ≡ true
  kept_own x n ps o a = at (int_eq n (pos 0))
    where
      at : (t : Bool) → list_all own_pair (if t then ps else (x, n) ∷ ps) ≡ true
      at true = a
      at false = both (is_own h x) (list_all own_pair ps) o a

  pair_own : (x : Var) (n : ℤ) (ps : List (Var × ℤ)) → is_own h x ≡ true → list_all own_pair ps ≡ true → list_all own_pair (with_pair x n ps) ≡ true
  pair_own x n [] o a = kept_own x n [] o refl
  pair_own x n (p ∷ ps) o a = at (var_eq x p.0) (var_lt x p.0) (and_parts (is_own h p.0) (list_all own_pair ps) a) (λ q. pair_own x n ps o q)
    where
      at : (t u : Bool) → (is_own h p.0 ≡ true) × (list_all own_pair ps ≡ true) → (list_all own_pair ps ≡ true → list_all own_pair (with_pair x n ps) ≡ true) →
          list_all own_pair (if t then kept_before x (n +ℤ p.1) ps else if u then kept_before x n (p ∷ ps) else p ∷ with_pair x n ps) ≡ true
      at true u q rest = kept_own x (n +ℤ p.1) ps o q.1
      at false true q rest = kept_own x n (p ∷ ps) o a
      at false false q rest = both (is_own h p.0) (list_all own_pair (with_pair x n ps)) q.0 (rest q.1)

  pairs_own : (ps : List (Var × ℤ)) (by : ℤ) (qs : List (Var × ℤ)) → list_all own_pair ps ≡ true → list_all own_pair qs ≡ true → list_all own_pair (with_pairs ps by qs) ≡ true
  pairs_own ps by [] a b = a
  pairs_own ps by (q ∷ qs) a b =
      let c : (is_own h q.0 ≡ true) × (list_all own_pair qs ≡ true) = and_parts (is_own h q.0) (list_all own_pair qs) b in
      pair_own q.0 (by *ℤ q.1) (with_pairs ps by qs) c.0 (pairs_own ps by qs a c.1)

  variable_own : (x : Var) → is_own h x ≡ true → is_own_term h (variable_term x) ≡ true
  variable_own x o = both (is_own h x) true o refl

  replacement_own : (after : List (Var × Term)) (x : Var) → list_all (is_own_worth h) after ≡ true → is_own h x ≡ true → is_own_term h (replacement after x) ≡ true
  replacement_own [] x a o = variable_own x o
  replacement_own (p ∷ after) x a o = at (var_eq x p.0) (and_parts (is_own_worth h p) (list_all (is_own_worth h) after) a) (λ b. replacement_own after x b o)
    where
      at : (t : Bool) → (is_own_worth h p ≡ true) × (list_all (is_own_worth h) after ≡ true) → (list_all (is_own_worth h) after ≡ true → is_own_term h (replacement after x) ≡ true) →
          is_own_term h (if t then p.1 else replacement after x) ≡ true
      at true q rest = (and_parts (is_own 0 p.0) (is_own_term h p.1) q.0).1
      at false q rest = rest q.1

  replaced_own : (after : List (Var × Term)) (a : Term) (ps : List (Var × ℤ)) → list_all (is_own_worth h) after ≡ true → is_own_term h a ≡ true → list_all own_pair ps ≡ true →
      is_own_term h (plus_replaced after a ps) ≡ true
  replaced_own after a [] w b c = b
  replaced_own after a (p ∷ ps) w b c =
      let q : (is_own h p.0 ≡ true) × (list_all own_pair ps ≡ true) = and_parts (is_own h p.0) (list_all own_pair ps) c in
      pairs_own (plus_replaced after a ps).pairs p.1 (replacement after p.0).pairs (replaced_own after a ps w b q.1) (replacement_own after p.0 w q.0)

  put_own : (after : List (Var × Term)) (t : Term) → list_all (is_own_worth h) after ≡ true → is_own_term h t ≡ true → is_own_term h (substituted after t) ≡ true
  put_own after t w o = replaced_own after (number_term t.constant) t.pairs w refl o

  with_term_own : (x : Var) (t : Term) (ps : List (Var × Term)) → is_own 0 x ≡ true → is_own_term h t ≡ true → list_all (is_own_worth h) ps ≡ true →
      list_all (is_own_worth h) (with_term x t ps) ≡ true
  with_term_own x t [] o w a = both (is_own_worth h (x, t)) true (both (is_own 0 x) (is_own_term h t) o w) refl
  with_term_own x t (p ∷ ps) o w a = at (var_eq x p.0) (var_lt x p.0) (and_parts (is_own_worth h p) (list_all (is_own_worth h) ps) a) (λ b. with_term_own x t ps o w b)
    where
      one : is_own_worth h (x, t) ≡ true
      one = both (is_own 0 x) (is_own_term h t) o w

      at : (b c : Bool) → (is_own_worth h p ≡ true) × (list_all (is_own_worth h) ps ≡ true) → (list_all (is_own_worth h) ps ≡ true → list_all (is_own_worth h) (with_term x t ps) ≡ true) →
          list_all (is_own_worth h) (if b then (x, t) ∷ ps else if c then (x, t) ∷ p ∷ ps else p ∷ with_term x t ps) ≡ true
      at true c q rest = both (is_own_worth h (x, t)) (list_all (is_own_worth h) ps) one q.1
      at false true q rest = both (is_own_worth h (x, t)) (list_all (is_own_worth h) (p ∷ ps)) one a
      at false false q rest = both (is_own_worth h p) (list_all (is_own_worth h) (with_term x t ps)) q.0 (rest q.1)

-- ---- declared variables are own ones
declared_own : (globals locals h : ℕ) (x : Var) → is_declared globals locals x ≡ true → is_own h x ≡ true
declared_own globals locals h (Global n) d = refl
declared_own globals locals h (Local t n) d = (and_parts (t == 0) (nat_lt n locals) d).0
declared_own globals locals h (Havoc n) d = absurd (false_true d)

declared_term_own : (globals locals h : ℕ) (t : Term) → is_declared_term globals locals t ≡ true → is_own_term h t ≡ true
declared_term_own globals locals h t d =
    all_weaker (λ (p : Var × ℤ). is_declared globals locals p.0) (λ (p : Var × ℤ). is_own h p.0) (λ p e. declared_own globals locals h p.0 e) t.pairs d

pub declared_rows_own : (globals locals : ℕ) (rows : List Row) → list_all (is_declared_row globals locals) rows ≡ true → list_all (is_own_row 0) rows ≡ true
declared_rows_own globals locals rows d = all_weaker (is_declared_row globals locals) (is_own_row 0) (λ r e. declared_term_own globals locals 0 r.term e) rows d

-- ---- one havoc more
own_more : (h : ℕ) (x : Var) → is_own h x ≡ true → is_own (suc h) x ≡ true
own_more h (Global n) o = refl
own_more h (Local t n) o = o
own_more h (Havoc i) o = grind (arith, nat_tests)

own_term_more : (h : ℕ) (t : Term) → is_own_term h t ≡ true → is_own_term (suc h) t ≡ true
own_term_more h t o = all_weaker (λ (p : Var × ℤ). is_own h p.0) (λ (p : Var × ℤ). is_own (suc h) p.0) (λ p e. own_more h p.0 e) t.pairs o

own_worth_more : (h : ℕ) (p : Var × Term) → is_own_worth h p ≡ true → is_own_worth (suc h) p ≡ true
own_worth_more h p o =
    let q : (is_own 0 p.0 ≡ true) × (is_own_term h p.1 ≡ true) = and_parts (is_own 0 p.0) (is_own_term h p.1) o in
    both (is_own 0 p.0) (is_own_term (suc h) p.1) q.0 (own_term_more h p.1 q.1)

this_havoc : (h : ℕ) → is_own (suc h) (Havoc h) ≡ true
this_havoc h = grind (arith, nat_tests)

-- ---- the form of declared ops
record OwnForm (form : SymbolicForm) : Type 0 where
  pub rows : list_all (is_own_row form.havocs) form.rows ≡ true
  pub after : list_all (is_own_worth form.havocs) form.after ≡ true

module _ (globals locals : ℕ) where
  own_op : (form : SymbolicForm) (op : Op) → is_declared_op globals locals op ≡ true → OwnForm form → OwnForm (with_op form op)
  own_op form (Assume r) d f =
      let put : is_own_row form.havocs (record { term = substituted form.after r.term }) ≡ true =
      put_own form.havocs form.after r.term f.after (declared_term_own globals locals form.havocs r.term d) in
      record {
        rows = list_all-append (is_own_row form.havocs) form.rows ((record { term = substituted form.after r.term }) ∷ [])
            ∙ both (list_all (is_own_row form.havocs) form.rows) (is_own_row form.havocs (record { term = substituted form.after r.term }) && true) f.rows
            (both (is_own_row form.havocs (record { term = substituted form.after r.term })) true put refl);
        after = f.after;
      }
  own_op form (Assign x t) d f =
      let q : (is_declared globals locals x ≡ true) × (is_declared_term globals locals t ≡ true) = and_parts (is_declared globals locals x) (is_declared_term globals locals t) d in
      record {
        rows = f.rows;
        after = with_term_own form.havocs x (substituted form.after t) form.after (declared_own globals locals 0 x q.0)
            (put_own form.havocs form.after t f.after (declared_term_own globals locals form.havocs t q.1)) f.after;
      }
  own_op form (HavocOp x) d f = record {
    rows = all_weaker (is_own_row form.havocs) (is_own_row (suc form.havocs)) (λ r e. own_term_more form.havocs r.term e) form.rows f.rows;
    after = with_term_own (suc form.havocs) x (variable_term (Havoc form.havocs)) form.after (declared_own globals locals 0 x d)
        (variable_own (suc form.havocs) (Havoc form.havocs) (this_havoc form.havocs))
        (all_weaker (is_own_worth form.havocs) (is_own_worth (suc form.havocs)) (own_worth_more form.havocs) form.after f.after);
  }

  own_from : (form : SymbolicForm) (ops : List Op) → list_all (is_declared_op globals locals) ops ≡ true → OwnForm form → OwnForm (form_from form ops)
  own_from form [] d f = f
  own_from form (op ∷ ops) d f =
      let q : (is_declared_op globals locals op ≡ true) × (list_all (is_declared_op globals locals) ops ≡ true) =
      and_parts (is_declared_op globals locals op) (list_all (is_declared_op globals locals) ops) d in
      own_from (with_op form op) ops q.1 (own_op form op q.0 f)

  pub own_form : (ops : List Op) → list_all (is_declared_op globals locals) ops ≡ true → is_own_form (form_of ops) ≡ true
  own_form ops d =
      let f : OwnForm (form_of ops) = own_from empty_form ops d (record { rows = refl; after = refl }) in
      both (list_all (is_own_row (form_of ops).havocs) (form_of ops).rows) (list_all (is_own_worth (form_of ops).havocs) (form_of ops).after) f.rows f.after

-- ---- the ops of a graph's edges are declared
pub edge_ops_declared : (graph : Graph) (n : ℕ) → list_all (is_declared_op graph.setting.globals graph.setting.locals) (edge_ops graph.setting.commands graph.edges n) ≡ true
edge_ops_declared graph n = at (slice_get graph.edges n)
  where
    test : Op → Bool
    test op = is_declared_op graph.setting.globals graph.setting.locals op

    of_command : (c : ℕ) (o : Option Command) → slice_get graph.setting.commands c ≡ o →
        list_all (is_declared_op graph.setting.globals graph.setting.locals) (unwrap_or (option_map (λ (c : Command). c.ops) o) []) ≡ true
    of_command c None g = refl
    of_command c (Some x) g = all_got (is_declared_command graph.setting.globals graph.setting.locals) graph.setting.commands c x graph.setting.commands_declared g

    at : (o : Option Edge) → list_all (is_declared_op graph.setting.globals graph.setting.locals) (unwrap_or (option_map (λ (e : Edge). ops_of graph.setting.commands e.command) o) []) ≡ true
    at None = refl
    at (Some e) = of_command e.command (slice_get graph.setting.commands e.command) refl

pub own_form_at : (graph : Graph) (n : ℕ) → is_own_form (form_at graph n) ≡ true
own_form_at graph n = own_form graph.setting.globals graph.setting.locals (edge_ops graph.setting.commands graph.edges n) (edge_ops_declared graph n)

-- ---- what a thread runs keeps the order of variables
of_thread_lt : (k first h : ℕ) (x y : Var) → is_own h x ≡ true → is_own h y ≡ true → var_lt x y ≡ true → var_lt (of_thread k first x) (of_thread k first y) ≡ true
of_thread_lt k first h (Global m) (Global n) p q l = l
of_thread_lt k first h (Global m) (Local t n) p q l = refl
of_thread_lt k first h (Global m) (Havoc n) p q l = refl
of_thread_lt k first h (Local s m) (Global n) p q l = l
of_thread_lt k first h (Local s m) (Local t n) p q l = grind (arith, nat_tests)
of_thread_lt k first h (Local s m) (Havoc n) p q l = refl
of_thread_lt k first h (Havoc m) (Global n) p q l = l
of_thread_lt k first h (Havoc m) (Local t n) p q l = l
of_thread_lt k first h (Havoc m) (Havoc n) p q l = grind (arith, nat_tests)

pub thread_canonical : (k first h : ℕ) (ps : List (Var × ℤ)) → list_all (λ (p : Var × ℤ). is_own h p.0) ps ≡ true → IsCanonical ps → IsCanonical (pairs_of_thread k first ps)
thread_canonical k first h [] o c = tt
thread_canonical k first h (p ∷ ps) o c =
    let q : (is_own h p.0 ≡ true) × (list_all (λ (p : Var × ℤ). is_own h p.0) ps ≡ true) = and_parts (is_own h p.0) (list_all (λ (p : Var × ℤ). is_own h p.0) ps) o in
    (c.0, below ps q.0 q.1 c.1, thread_canonical k first h ps q.1 c.2)
  where
    below : (qs : List (Var × ℤ)) → is_own h p.0 ≡ true → list_all (λ (p : Var × ℤ). is_own h p.0) qs ≡ true → IsBelow p.0 qs → IsBelow (of_thread k first p.0) (pairs_of_thread k first qs)
    below [] o a b = tt
    below (q ∷ qs) o a b = of_thread_lt k first h p.0 q.0 o (and_parts (is_own h q.0) (list_all (λ (p : Var × ℤ). is_own h p.0) qs) a).0 b

-- ---- the form of an edge, by number
length_forms : (commands : List Command) → length (forms_of commands) ≡ length commands
length_forms [] = refl
length_forms (c ∷ commands) = ap suc (length_forms commands)

pub has_command : (graph : Graph) (n : ℕ) (d : Edge) → n < length graph.edges → (get_or graph.edges n d).command < length graph.setting.commands
unfolding names_exist
has_command graph n d w =
    let named : Edge → Bool = λ (e : Edge). nat_lt e.source graph.locations && nat_lt e.target graph.locations && nat_lt e.command (length graph.setting.commands) in
    let a : Bool = nat_lt 1 graph.locations && list_all (λ (e : Edge). nat_lt e.source graph.locations && nat_lt e.target graph.locations && nat_lt e.command (length graph.setting.commands)) graph.edges in
    let b : Bool = list_all (λ (a : ℕ). nat_lt a graph.locations) graph.entries in
    let c : Bool = is_below (length graph.entries) graph.once in
    let o : Bool = list_all (is_below (length graph.entries)) graph.owner in
    let p : Bool = length graph.owner == graph.locations in
    let all : (a && b && c && o && p) ≡ true = graph.numbers in
    let edges : list_all named graph.edges ≡ true =
    (and_parts (nat_lt 1 graph.locations) (list_all named graph.edges)
    (and_parts a b (and_parts (a && b) c (and_parts (a && b && c) o (and_parts (a && b && c && o) p all).0).0).0).0).1 in
    let one : named (get_or graph.edges n d) ≡ true = all_at named graph.edges n d edges w in
    let e : Edge = get_or graph.edges n d in
    let last : nat_lt (get_or graph.edges n d).command (length graph.setting.commands) ≡ true =
    (and_parts (nat_lt e.source graph.locations && nat_lt e.target graph.locations) (nat_lt e.command (length graph.setting.commands)) one).1 in
    ltb-true (get_or graph.edges n d).command (length graph.setting.commands) last

pub has_form : (graph : Graph) (n : ℕ) (d : Edge) → n < length graph.edges → (get_or graph.edges n d).command < length graph.setting.symbols
has_form graph n d w =
    let same : length graph.setting.symbols ≡ length graph.setting.commands = ap length graph.setting.formed ∙ length_forms graph.setting.commands in
    subst (λ (m : ℕ). (get_or graph.edges n d).command < m) (sym same) (has_command graph n d w)

-- the sources of edges are locations
pub sources_exist : (graph : Graph) → All (λ (e : Edge). e.source < graph.locations) graph.edges
unfolding names_exist
sources_exist graph =
    let named : Edge → Bool = λ (e : Edge). nat_lt e.source graph.locations && nat_lt e.target graph.locations && nat_lt e.command (length graph.setting.commands) in
    let a : Bool = nat_lt 1 graph.locations && list_all (λ (e : Edge). nat_lt e.source graph.locations && nat_lt e.target graph.locations && nat_lt e.command (length graph.setting.commands)) graph.edges in
    let b : Bool = list_all (λ (a : ℕ). nat_lt a graph.locations) graph.entries in
    let c : Bool = is_below (length graph.entries) graph.once in
    let o : Bool = list_all (is_below (length graph.entries)) graph.owner in
    let p : Bool = length graph.owner == graph.locations in
    let all : (a && b && c && o && p) ≡ true = graph.numbers in
    let edges : list_all named graph.edges ≡ true =
    (and_parts (nat_lt 1 graph.locations) (list_all named graph.edges)
    (and_parts a b (and_parts (a && b) c (and_parts (a && b && c) o (and_parts (a && b && c && o) p all).0).0).0).0).1 in
    λ k d w. (let e : Edge = get_or graph.edges k d in
    let one : named (get_or graph.edges k d) ≡ true = all_at named graph.edges k d edges w in
    ltb-true e.source graph.locations
    (and_parts (nat_lt e.source graph.locations) (nat_lt e.target graph.locations)
    (and_parts (nat_lt e.source graph.locations && nat_lt e.target graph.locations) (nat_lt e.command (length graph.setting.commands)) one).0).0)

pub form_is : (graph : Graph) (n : ℕ) (e : Edge) (f : SymbolicForm) → slice_get graph.edges n ≡ Some e → slice_get graph.setting.symbols e.command ≡ Some f → f ≡ form_at graph n
form_is graph n e f g h =
    at (slice_get graph.setting.commands e.command) refl
    (sym (ap (λ (fs : List SymbolicForm). slice_get fs e.command) graph.setting.formed ∙ slice_get-map (λ (c : Command). form_of c.ops) graph.setting.commands e.command) ∙ h)
  where
    at : (o : Option Command) → slice_get graph.setting.commands e.command ≡ o → option_map (λ (c : Command). form_of c.ops) o ≡ Some f → f ≡ form_at graph n
    at None o r = cc
    at (Some x) o r =
        let ops : ops_of graph.setting.commands e.command ≡ x.ops = ap (λ (p : Option Command). unwrap_or (option_map (λ (c : Command). c.ops) p) []) o in
        sym (same_Some (form_of x.ops) f r) ∙ ap form_of (sym (edge_ops_are graph.setting.commands graph.edges n e g ∙ ops))

-- what stands among the forms at the edge's command is the edge's form
pub form_got : (graph : Graph) (forms : List SymbolicForm) (n k : ℕ) (f : SymbolicForm) → forms ≡ graph.setting.symbols → option_map (λ (e : Edge). e.command) (slice_get graph.edges n) ≡ Some k →
    k < length graph.setting.symbols → f ≡ get_or forms k f → f ≡ form_at graph n
form_got graph forms n k f alike is below got = at (slice_get graph.edges n) refl is
  where
    form : slice_get graph.setting.symbols k ≡ Some f
    form = slice_get-get_or graph.setting.symbols k f below ∙ ap Some (sym (got ∙ ap (λ (fs : List SymbolicForm). get_or fs k f) alike))

    at : (o : Option Edge) → slice_get graph.edges n ≡ o → option_map (λ (e : Edge). e.command) o ≡ Some k → f ≡ form_at graph n
    at None o r = cc
    at (Some e) o r = form_is graph n e f o (ap (λ (m : ℕ). slice_get graph.setting.symbols m) (same_Some e.command k r) ∙ form)
