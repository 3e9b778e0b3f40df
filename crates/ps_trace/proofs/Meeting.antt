-- Values meet the rows of a trace exactly where they run it.
use Rattle.std.proofs.Common.{◌≡◌, ◌≢◌, Bool, true, false, not, ◌&&◌, ◌==◌, refl, sym, ◌∙◌, ap, ap₂, subst, ℕ, ◌<◌, ◌+◌, ℤ, pos, ◌*ℤ◌, ◌+ℤ◌, List, [], ◌∷◌, ◌++◌, length, if◌then◌else◌, int_le, eq-eqb, arith}
use Rattle.std.specs.Prelude.{map, slice_index_or, Option, Some, None, option_map, drop, IsFalse, is_some, MatchOption}
use Rattle.std.specs.List.{list_all, AllByRecursion}
use Rattle.std.specs.Option.{option_and_then}
use Rattle.std.proofs.lemmas.Bool.{eqb-true, eqb-false}
use Rattle.std.proofs.lemmas.Bool.Decides.{nat_tests}
use Rattle.std.proofs.lemmas.List.{drop-drop, get_or-drop}
use Rattle.std.proofs.lemmas.List.Elements.{recursion_from_All}
use Rattle.std.proofs.lemmas.List.Folds.{list_all-append, list_all-map}
use Rattle.ps_command.proofs.Alike.{runs_as_form}
use Rattle.ps_command.proofs.Forms.{is_form, replacement-set, variable_value}
use Rattle.ps_term.proofs.Variables.{var_eq_sym}
use Rattle.ps_command.proofs.Sizes.{step_sizes}
use Rattle.ps_command.specs.Agreement.{AreSeenBy, RanAs}
use Rattle.ps_command.specs.Fitting.{CanRun, IsSized}
use Rattle.ps_command.specs.Form.{with_term}
use Rattle.ps_command.specs.Named.{is_declared_op}
use Rattle.ps_command.specs.Run.{havocs_in, holds, run, run_by}
use Rattle.ps_command.specs.Symbolic.{with_havocs}
use Rattle.ps_command.specs.Values.{Values, value_at, value_in, values_of, with_value, with_values}
use Rattle.ps_command.specs.declared.op.Op.{Op}
use Rattle.ps_command.specs.declared.op.Op.TheVariants.{Assume, Assign, Havoc as HavocOp}
use Rattle.ps_command.specs.declared.setting.Setting.{Setting}
use Rattle.ps_command.specs.declared.state.State.{State}
use Rattle.ps_command.specs.declared.symbolic_form.SymbolicForm.{SymbolicForm}
use Rattle.ps_graph.proofs.Errors.{and_parts}
use Rattle.ps_graph.specs.ErrorTrace.{HavocsFit, after_letters, edge_ops}
use Rattle.ps_graph.specs.declared.graph.Graph.{Graph}
use Rattle.ps_term.proofs.ExactTerms.{put_worth}
use Rattle.ps_term.specs.Pairs.{pairs_value}
use Rattle.ps_term.specs.Substitution.{replacement, values_after}
use Rattle.ps_term.specs.Term.{value}
use Rattle.ps_term.specs.Var.{var_eq}
use Rattle.ps_term.specs.declared.row.Row.{Row}
use Rattle.ps_term.specs.declared.term.Term.{Term}
use Rattle.ps_term.specs.declared.var.Var.{Var}
use Rattle.ps_term.specs.declared.var.Var.TheVariants.{Global, Local, Havoc}
use Rattle.ps_trace.proofs.Owning.{both, declared_rows_own, edge_ops_declared, own_form_at}
use Rattle.ps_trace.specs.Meets.{in_a_row, RowsSayRuns, StartsWith, trace_values}
use Rattle.ps_trace.specs.Rows.{SoFar, after_letter, form_at, letter_rows, letter_terms, nothing_yet, of_thread, pairs_of_thread, put_after, row_of_thread, rows_after, rows_of, rows_of_each, rows_at_start, term_of_thread, threads_in_trace, with_terms}
use Rattle.ps_trace.specs.Own.{is_own, is_own_form, is_own_row, is_own_term, is_own_worth}

false_true : false ≡ true → ⊥
false_true e = cc

-- ---- values that agree
list_all_same : {X : Type 0} (s t : X → Bool) → ((x : X) → s x ≡ t x) → (xs : List X) → list_all s xs ≡ list_all t xs
list_all_same s t e [] = refl
list_all_same s t e (x ∷ xs) = ap₂ (λ (a b : Bool). a && b) (e x) (list_all_same s t e xs)

-- at variables of a command, values that agree there give a term one value
pub own_value : (h : ℕ) (f g : Var → ℤ) → ((x : Var) → is_own h x ≡ true → f x ≡ g x) → (ps : List (Var × ℤ)) → list_all (λ (p : Var × ℤ). is_own h p.0) ps ≡ true →
    pairs_value f ps ≡ pairs_value g ps
own_value h f g e [] o = refl
own_value h f g e (p ∷ ps) o =
    let q : (is_own h p.0 ≡ true) × (list_all (λ (p : Var × ℤ). is_own h p.0) ps ≡ true) = and_parts (is_own h p.0) (list_all (λ (p : Var × ℤ). is_own h p.0) ps) o in
    ap₂ (λ (y z : ℤ). (p.1 *ℤ y) +ℤ z) (e p.0 q.0) (own_value h f g e ps q.1)

own_rows : (h : ℕ) (f g : Var → ℤ) → ((x : Var) → is_own h x ≡ true → f x ≡ g x) → (rows : List Row) → list_all (is_own_row h) rows ≡ true →
    list_all (holds f) rows ≡ list_all (holds g) rows
own_rows h f g e [] o = refl
own_rows h f g e (r ∷ rows) o =
    let q : (is_own_row h r ≡ true) × (list_all (is_own_row h) rows ≡ true) = and_parts (is_own_row h r) (list_all (is_own_row h) rows) o in
    ap₂ (λ (a b : Bool). a && b) (ap (λ (z : ℤ). int_le (z +ℤ r.term.constant) (pos 0)) (own_value h f g e r.term.pairs q.0)) (own_rows h f g e rows q.1)

-- ---- a term of a command that a thread runs
pub thread_pairs : (u : Var → ℤ) (k first : ℕ) (ps : List (Var × ℤ)) → pairs_value u (pairs_of_thread k first ps) ≡ pairs_value (λ (x : Var). u (of_thread k first x)) ps
thread_pairs u k first [] = refl
thread_pairs u k first (p ∷ ps) = ap (λ (z : ℤ). (p.1 *ℤ u (of_thread k first p.0)) +ℤ z) (thread_pairs u k first ps)

pub thread_value : (u : Var → ℤ) (k first : ℕ) (t : Term) → value u (term_of_thread k first t) ≡ value (λ (x : Var). u (of_thread k first x)) t
thread_value u k first t = ap (λ (z : ℤ). z +ℤ t.constant) (thread_pairs u k first t.pairs)

-- the values that the thread's next command sees
abbrev pub seen_by : (Var → ℤ) → SoFar → ℕ → Var → ℤ
seen_by v f k x = values_after v f.after (of_thread k f.havocs x)

pub put_value : (v : Var → ℤ) (f : SoFar) (k : ℕ) (t : Term) → value v (put_after f k t) ≡ value (seen_by v f k) t
put_value v f k t = put_worth v f.after (term_of_thread k f.havocs t) ∙ thread_value (values_after v f.after) k f.havocs t

letter_rows_hold : (v : Var → ℤ) (f : SoFar) (k : ℕ) (form : SymbolicForm) → list_all (holds v) (letter_rows f k form) ≡ list_all (holds (seen_by v f k)) form.rows
letter_rows_hold v f k form =
    list_all-map (holds v) (λ (r : Row). record { term = put_after f k r.term }) form.rows
    ∙ list_all_same (λ (r : Row). int_le (value v (put_after f k r.term)) (pos 0)) (holds (seen_by v f k)) (λ r. ap (λ (z : ℤ). int_le z (pos 0)) (put_value v f k r.term)) form.rows

-- ---- what variables are worth after a letter
pub of_eq : (k first : ℕ) (x y : Var) → is_own 0 x ≡ true → is_own 0 y ≡ true → var_eq (of_thread k first x) (of_thread k first y) ≡ var_eq x y
of_eq k first (Global m) (Global n) p q = refl
of_eq k first (Global m) (Local t n) p q = refl
of_eq k first (Global m) (Havoc n) p q = refl
of_eq k first (Local s m) (Global n) p q = refl
of_eq k first (Local s m) (Local t n) p q =
    ap₂ (λ (a b : Bool). a && b) (eq-eqb k k refl ∙ sym (eq-eqb s t (eqb-true s 0 p ∙ sym (eqb-true t 0 q)))) refl
of_eq k first (Local s m) (Havoc n) p q = refl
of_eq k first (Havoc m) y p q = absurd (grind (arith, nat_tests))

-- the variable is of another thread, or a havoc
abbrev pub is_other : ℕ → Var → Bool
is_other k (Global n) = false
is_other k (Local j n) = not (k == j)
is_other k (Havoc i) = true

pub other_apart : (k first : ℕ) (x y : Var) → is_own 0 x ≡ true → is_other k y ≡ true → var_eq (of_thread k first x) y ≡ false
other_apart k first (Global m) (Global n) p q = absurd (false_true q)
other_apart k first (Global m) (Local t n) p q = refl
other_apart k first (Global m) (Havoc n) p q = refl
other_apart k first (Local s m) (Global n) p q = refl
other_apart k first (Local s m) (Local j n) p q = at (k == j) q
  where
    at : (t : Bool) → not t ≡ true → (t && (m == n)) ≡ false
    at true h = absurd (false_true h)
    at false h = refl
other_apart k first (Local s m) (Havoc n) p q = refl
other_apart k first (Havoc m) y p q = absurd (grind (arith, nat_tests))

module _ (v : Var → ℤ) (f : SoFar) (k : ℕ) where
  abbrev own_keys : List (Var × Term) → Bool
  own_keys ps = list_all (λ (p : Var × Term). is_own 0 p.0) ps

  abbrev moved : List (Var × Term) → List (Var × Term)
  moved ps = map (λ (p : Var × Term). let q : Var × Term = (of_thread k f.havocs p.0, put_after f k p.1) in q) ps

  pub named : (ps : List (Var × Term)) (x : Var) → own_keys ps ≡ true → is_own 0 x ≡ true →
      value v (replacement (with_terms (moved ps) f.after) (of_thread k f.havocs x)) ≡ value (seen_by v f k) (replacement ps x)
  named [] x o i = sym (variable_value (seen_by v f k) x)
  named (p ∷ ps) x o i = at (var_eq x p.0) same (named ps x q.1 i)
    where
      q : (is_own 0 p.0 ≡ true) × (own_keys ps ≡ true)
      q = and_parts (is_own 0 p.0) (own_keys ps) o

      same : var_eq (of_thread k f.havocs p.0) (of_thread k f.havocs x) ≡ var_eq x p.0
      same = of_eq k f.havocs p.0 x q.0 i ∙ var_eq_sym p.0 x

      rest : List (Var × Term)
      rest = with_terms (moved ps) f.after

      at : (t : Bool) → var_eq (of_thread k f.havocs p.0) (of_thread k f.havocs x) ≡ t →
          value v (replacement (with_terms (moved ps) f.after) (of_thread k f.havocs x)) ≡ value (seen_by v f k) (replacement ps x) →
          value v (replacement (with_term (of_thread k f.havocs p.0) (put_after f k p.1) (with_terms (moved ps) f.after)) (of_thread k f.havocs x))
          ≡ value (seen_by v f k) (if t then p.1 else replacement ps x)
      at true e h =
          ap (value v) (replacement-set (of_thread k f.havocs p.0) (put_after f k p.1) (with_terms (moved ps) f.after) (of_thread k f.havocs x)
          ∙ ap (λ (b : Bool). if b then put_after f k p.1 else replacement (with_terms (moved ps) f.after) (of_thread k f.havocs x)) e)
          ∙ put_value v f k p.1
      at false e h =
          ap (value v) (replacement-set (of_thread k f.havocs p.0) (put_after f k p.1) (with_terms (moved ps) f.after) (of_thread k f.havocs x)
          ∙ ap (λ (b : Bool). if b then put_after f k p.1 else replacement (with_terms (moved ps) f.after) (of_thread k f.havocs x)) e)
          ∙ h

  pub others : (ps : List (Var × Term)) (y : Var) → own_keys ps ≡ true → is_other k y ≡ true → replacement (with_terms (moved ps) f.after) y ≡ replacement f.after y
  others [] y o i = refl
  others (p ∷ ps) y o i =
      let q : (is_own 0 p.0 ≡ true) × (own_keys ps ≡ true) = and_parts (is_own 0 p.0) (own_keys ps) o in
      replacement-set (of_thread k f.havocs p.0) (put_after f k p.1) (with_terms (moved ps) f.after) y
      ∙ ap (λ (b : Bool). if b then put_after f k p.1 else replacement (with_terms (moved ps) f.after) y) (other_apart k f.havocs p.0 y q.0 i)
      ∙ others ps y q.1 i

past_front : (hs more : List ℤ) → drop (length hs) (hs ++ more) ≡ more
past_front [] more = refl
past_front (h ∷ hs) more = past_front hs more

-- ---- a run uses as many havoc values as it takes
run_front : (ops : List Op) (v : Values) (hs more : List ℤ) → length hs ≡ havocs_in ops → run ops v (hs ++ more) ≡ run ops v hs
run_front [] v hs more e = refl
run_front (Assume r ∷ ops) v hs more e = ap (λ (o : Option Values). if holds (value_at v) r then o else None) (run_front ops v hs more e)
run_front (Assign x t ∷ ops) v hs more e = run_front ops (with_value v x (value (value_at v) t)) hs more e
run_front (HavocOp x ∷ ops) v [] more e = let no : ⊥ = omega (arith, e) in absurd no
run_front (HavocOp x ∷ ops) v (h ∷ hs) more e = run_front ops (with_value v x h) hs more (omega (arith, e))

-- ---- letter after letter
record Stands (v : Var → ℤ) (f : SoFar) (s : State) : Type 0 where
  pub globals : (n : ℕ) → values_after v f.after (Global n) ≡ value_in s (Global n)
  pub locals : (k n : ℕ) → values_after v f.after (Local k n) ≡ value_in s (Local k n)
  pub havocs : (i : ℕ) → values_after v f.after (Havoc i) ≡ v (Havoc i)

pub keys_own : (h : ℕ) (ps : List (Var × Term)) → list_all (is_own_worth h) ps ≡ true → list_all (λ (p : Var × Term). is_own 0 p.0) ps ≡ true
keys_own h [] o = refl
keys_own h (p ∷ ps) o =
    let q : (is_own_worth h p ≡ true) × (list_all (is_own_worth h) ps ≡ true) = and_parts (is_own_worth h p) (list_all (is_own_worth h) ps) o in
    both (is_own 0 p.0) (list_all (λ (p : Var × Term). is_own 0 p.0) ps) (and_parts (is_own 0 p.0) (is_own_term h p.1) q.0).0 (keys_own h ps q.1)

stands_after : (v w : Var → ℤ) (f : SoFar) (k : ℕ) (form : SymbolicForm) (s after : State) → is_own_form form ≡ true → ◌≡◌ {A = Var → ℤ} w (seen_by v f k) →
    Stands v f s → RanAs k form w s after → Stands v (after_letter f k form) after
stands_after v w f k form s after o e st ran = record {
  globals = λ n. new (Global n) refl ∙ ran.seen.globals n;
  locals = λ j n. local j n (k == j) refl;
  havocs = λ i. ap (value v) (others v f k form.after (Havoc i) keys refl) ∙ st.havocs i;
}
  where
    keys : list_all (λ (p : Var × Term). is_own 0 p.0) form.after ≡ true
    keys = keys_own form.havocs form.after (and_parts (list_all (is_own_row form.havocs) form.rows) (list_all (is_own_worth form.havocs) form.after) o).1

    new : (x : Var) → is_own 0 x ≡ true → values_after v (with_terms (letter_terms f k form) f.after) (of_thread k f.havocs x) ≡ values_after w form.after x
    new x i = named v f k form.after x keys i ∙ ap (λ (u : Var → ℤ). value u (replacement form.after x)) (sym e)

    local : (j n : ℕ) (t : Bool) → (k == j) ≡ t → values_after v (with_terms (letter_terms f k form) f.after) (Local j n) ≡ value_in after (Local j n)
    local j n true t =
        let same : k ≡ j = eqb-true k j t in
        ap (λ (i : ℕ). values_after v (with_terms (letter_terms f k form) f.after) (Local i n)) (sym same)
        ∙ new (Local 0 n) refl ∙ ran.seen.locals n ∙ ap (λ (i : ℕ). value_in after (Local i n)) same
    local j n false t =
        let apart : k ≢ j = eqb-false k j t in
        ap (value v) (others v f k form.after (Local j n) keys (ap not t)) ∙ st.locals j n
        ∙ ap (λ (ls : List ℤ). slice_index_or ls n (pos 0)) (sym (ran.others j (λ i. apart (sym i))))

module _ (graph : Graph) (flat : List ℤ) (v : Var → ℤ) (chosen : (i : ℕ) → v (Havoc i) ≡ slice_index_or flat i (pos 0)) where
  abbrev After : List (ℕ × ℕ) → List (List ℤ) → State → Option State
  After ls hss s = after_letters graph.setting.commands graph.edges ls hss s

  seen_havocs : (f : SoFar) (k : ℕ) (s : State) → Stands v f s → ◌≡◌ {A = Var → ℤ} (with_havocs (seen_by v f k) (drop f.havocs flat)) (seen_by v f k)
  seen_havocs f k s st = λ i x. at x i
    where
      at : (x : Var) → with_havocs (seen_by v f k) (drop f.havocs flat) x ≡ seen_by v f k x
      at (Global n) = refl
      at (Local t n) = refl
      at (Havoc i) = get_or-drop f.havocs flat i (pos 0) ∙ sym (chosen (f.havocs + i)) ∙ sym (st.havocs (f.havocs + i))

  seen_state : (f : SoFar) (k : ℕ) (s : State) → Stands v f s → AreSeenBy k s (seen_by v f k)
  seen_state f k s st = record { globals = λ n. st.globals n; locals = λ n. st.locals k n }

  -- what is left to do after a letter
  Later : List (ℕ × ℕ) → List (List ℤ) → Type 0
  Later ls hss = (f : SoFar) (s : State) → IsSized graph.setting s → AllByRecursion (λ (l : ℕ × ℕ). l.0 < length s.locals) ls → Stands v f s →
      drop f.havocs flat ≡ in_a_row hss → list_all (holds v) (rows_after graph f ls) ≡ is_some (After ls hss s)

  one_letter : (l : ℕ × ℕ) (ls : List (ℕ × ℕ)) (hs : List ℤ) (hss : List (List ℤ)) → length hs ≡ havocs_in (edge_ops graph.setting.commands graph.edges l.1) →
      (f : SoFar) (s : State) → IsSized graph.setting s → l.0 < length s.locals → AllByRecursion (λ (l : ℕ × ℕ). l.0 < length s.locals) ls → Stands v f s →
      drop f.havocs flat ≡ hs ++ in_a_row hss →
      ((f : SoFar) (s : State) → IsSized graph.setting s → AllByRecursion (λ (l : ℕ × ℕ). l.0 < length s.locals) ls → Stands v f s →
      drop f.havocs flat ≡ in_a_row hss → list_all (holds v) (rows_after graph f ls) ≡ is_some (After ls hss s)) →
      list_all (holds v) (rows_after graph f (l ∷ ls)) ≡ is_some (After (l ∷ ls) (hs ∷ hss) s)
  one_letter l ls hs hss count f s sized within threads st left later = on (run_by l.0 ops s hs) refl said
    where
      ops : List Op
      ops = edge_ops graph.setting.commands graph.edges l.1

      form : SymbolicForm
      form = form_at graph l.1

      w : Var → ℤ
      w = with_havocs (seen_by v f l.0) (drop f.havocs flat)

      can : CanRun l.0 (edge_ops graph.setting.commands graph.edges l.1) s
      can = record {
        within = within;
        named = declared;
      }
        where
          declared : list_all (is_declared_op (length s.globals) (length (slice_index_or s.locals l.0 []))) (edge_ops graph.setting.commands graph.edges l.1) ≡ true
          declared =
              ap₂ (λ (g m : ℕ). list_all (is_declared_op g m) (edge_ops graph.setting.commands graph.edges l.1)) sized.globals (sized.locals l.0 [] within)
              ∙ edge_ops_declared graph l.1

      same_run : run_by l.0 (edge_ops graph.setting.commands graph.edges l.1) s (drop f.havocs flat) ≡ run_by l.0 (edge_ops graph.setting.commands graph.edges l.1) s hs
      same_run =
          ap (run_by l.0 (edge_ops graph.setting.commands graph.edges l.1) s) left
          ∙ ap (option_map (with_values l.0 s)) (run_front (edge_ops graph.setting.commands graph.edges l.1) (values_of l.0 s) hs (in_a_row hss) count)

      said : MatchOption (run_by l.0 (edge_ops graph.setting.commands graph.edges l.1) s hs)
          (IsFalse (list_all (holds (with_havocs (seen_by v f l.0) (drop f.havocs flat))) (form_at graph l.1).rows))
          (RanAs l.0 (form_at graph l.1) (with_havocs (seen_by v f l.0) (drop f.havocs flat)) s)
      said =
          subst (λ (o : Option State). MatchOption o
          (IsFalse (list_all (holds (with_havocs (seen_by v f l.0) (drop f.havocs flat))) (form_at graph l.1).rows))
          (RanAs l.0 (form_at graph l.1) (with_havocs (seen_by v f l.0) (drop f.havocs flat)) s)) same_run
          (runs_as_form (edge_ops graph.setting.commands graph.edges l.1) s l.0 (seen_by v f l.0) (drop f.havocs flat) can (seen_state f l.0 s st))

      rows_are : list_all (holds v) (letter_rows f l.0 (form_at graph l.1)) ≡ list_all (holds (with_havocs (seen_by v f l.0) (drop f.havocs flat))) (form_at graph l.1).rows
      rows_are = letter_rows_hold v f l.0 (form_at graph l.1) ∙ ap (λ (u : Var → ℤ). list_all (holds u) (form_at graph l.1).rows) (sym (seen_havocs f l.0 s st))

      count_form : f.havocs + (form_at graph l.1).havocs ≡ f.havocs + length hs
      count_form =
          let c : (form_at graph l.1).havocs ≡ havocs_in (edge_ops graph.setting.commands graph.edges l.1) = (is_form (edge_ops graph.setting.commands graph.edges l.1)).counts in
          omega (arith, c, count)

      left_after : drop (f.havocs + (form_at graph l.1).havocs) flat ≡ in_a_row hss
      left_after =
          ap (λ (n : ℕ). drop n flat) count_form ∙ sym (drop-drop (length hs) f.havocs flat)
          ∙ ap (drop (length hs)) left ∙ past_front hs (in_a_row hss)

      parted : list_all (holds v) (rows_after graph f (l ∷ ls))
          ≡ (list_all (holds v) (letter_rows f l.0 (form_at graph l.1)) && list_all (holds v) (rows_after graph (after_letter f l.0 (form_at graph l.1)) ls))
      parted = list_all-append (holds v) (letter_rows f l.0 (form_at graph l.1)) (rows_after graph (after_letter f l.0 (form_at graph l.1)) ls)

      on : (o : Option State) → run_by l.0 (edge_ops graph.setting.commands graph.edges l.1) s hs ≡ o →
          MatchOption o (IsFalse (list_all (holds (with_havocs (seen_by v f l.0) (drop f.havocs flat))) (form_at graph l.1).rows))
          (RanAs l.0 (form_at graph l.1) (with_havocs (seen_by v f l.0) (drop f.havocs flat)) s) →
          list_all (holds v) (rows_after graph f (l ∷ ls)) ≡ is_some (option_and_then (After ls hss) (run_by l.0 (edge_ops graph.setting.commands graph.edges l.1) s hs))
      on None r fails =
          parted ∙ ap (λ (b : Bool). b && list_all (holds v) (rows_after graph (after_letter f l.0 (form_at graph l.1)) ls)) (rows_are ∙ fails)
          ∙ ap (λ (o : Option State). is_some (option_and_then (After ls hss) o)) (sym r)
      on (Some x) r ran =
          parted ∙ ap (λ (b : Bool). b && list_all (holds v) (rows_after graph (after_letter f l.0 (form_at graph l.1)) ls)) (rows_are ∙ ran.rows)
          ∙ later (after_letter f l.0 (form_at graph l.1)) x
          (step_sizes graph.setting (edge_ops graph.setting.commands graph.edges l.1) s x l.0 hs sized within r)
          (subst (λ (n : ℕ). AllByRecursion (λ (l : ℕ × ℕ). l.0 < n) ls) (sym ran.threads) threads)
          (stands_after v (with_havocs (seen_by v f l.0) (drop f.havocs flat)) f l.0 (form_at graph l.1) s x (own_form_at graph l.1) (seen_havocs f l.0 s st) st ran)
          left_after
          ∙ ap (λ (o : Option State). is_some (option_and_then (After ls hss) o)) (sym r)

  letters_run : (ls : List (ℕ × ℕ)) (hss : List (List ℤ)) → HavocsFit graph.setting.commands graph.edges ls hss →
      (f : SoFar) (s : State) → IsSized graph.setting s → AllByRecursion (λ (l : ℕ × ℕ). l.0 < length s.locals) ls → Stands v f s →
      drop f.havocs flat ≡ in_a_row hss → list_all (holds v) (rows_after graph f ls) ≡ is_some (After ls hss s)
  letters_run [] hss fit f s sized threads st left = refl
  letters_run (l ∷ ls) [] fit f s sized threads st left = absurd fit
  letters_run (l ∷ ls) (hs ∷ hss) fit f s sized threads st left =
      one_letter l ls hs hss fit.0 f s sized threads.0 threads.1 st left (letters_run ls hss fit.1)

-- ---- the rows of the start
module _ (s : State) (havocs : List (List ℤ)) where
  abbrev V : Var → ℤ
  V = trace_values s havocs

  seen_at_start : (k : ℕ) (x : Var) → is_own 0 x ≡ true → trace_values s havocs (of_thread k 0 x) ≡ value_at (values_of k s) x
  seen_at_start k (Global n) o = refl
  seen_at_start k (Local t n) o = refl
  seen_at_start k (Havoc i) o = absurd (grind (arith, nat_tests))

  seen_by_first : (x : Var) → is_own 0 x ≡ true → trace_values s havocs x ≡ value_at (values_of 0 s) x
  seen_by_first (Global n) o = refl
  seen_by_first (Local t n) o = ap (λ (k : ℕ). slice_index_or (slice_index_or s.locals k []) n (pos 0)) (eqb-true t 0 o)
  seen_by_first (Havoc i) o = absurd (grind (arith, nat_tests))

  thread_rows : (rows : List Row) → list_all (is_own_row 0) rows ≡ true → (k : ℕ) →
      list_all (holds (trace_values s havocs)) (map (row_of_thread k 0) rows) ≡ list_all (holds (value_at (values_of k s))) rows
  thread_rows rows o k =
      list_all-map (holds (trace_values s havocs)) (row_of_thread k 0) rows
      ∙ list_all_same (λ (r : Row). holds (trace_values s havocs) (row_of_thread k 0 r)) (holds (λ (x : Var). trace_values s havocs (of_thread k 0 x)))
      (λ r. ap (λ (z : ℤ). int_le z (pos 0)) (thread_value (trace_values s havocs) k 0 r.term)) rows
      ∙ own_rows 0 (λ (x : Var). trace_values s havocs (of_thread k 0 x)) (value_at (values_of k s)) (seen_at_start k) rows o

  threads_rows : (rows : List Row) → list_all (is_own_row 0) rows ≡ true → (ks : List ℕ) →
      list_all (holds (trace_values s havocs)) (rows_of_each rows ks) ≡ list_all (λ (k : ℕ). list_all (holds (value_at (values_of k s))) rows) ks
  threads_rows rows o [] = refl
  threads_rows rows o (k ∷ ks) =
      list_all-append (holds (trace_values s havocs)) (map (row_of_thread k 0) rows) (rows_of_each rows ks)
      ∙ ap₂ (λ (a b : Bool). a && b) (thread_rows rows o k) (threads_rows rows o ks)

  start_is : (setting : Setting) (ks : List ℕ) →
      list_all (holds (trace_values s havocs)) (rows_at_start setting ks)
      ≡ (list_all (holds (value_at (values_of 0 s))) setting.init_once && list_all (λ (k : ℕ). list_all (holds (value_at (values_of k s))) setting.init_each) ks)
  start_is setting ks =
      list_all-append (holds (trace_values s havocs)) setting.init_once (rows_of_each setting.init_each ks)
      ∙ ap₂ (λ (a b : Bool). a && b)
      (own_rows 0 (trace_values s havocs) (value_at (values_of 0 s)) seen_by_first setting.init_once (declared_rows_own setting.globals 0 setting.init_once setting.once_declared))
      (threads_rows setting.init_each (declared_rows_own setting.globals setting.locals setting.init_each setting.each_declared) ks)

  stands_first : Stands (trace_values s havocs) nothing_yet s
  stands_first = record {
    globals = λ n. variable_value (trace_values s havocs) (Global n);
    locals = λ k n. variable_value (trace_values s havocs) (Local k n);
    havocs = λ i. variable_value (trace_values s havocs) (Havoc i);
  }

  all_rows : (graph : Graph) (letters : List (ℕ × ℕ)) → IsSized graph.setting s → AllByRecursion (λ (l : ℕ × ℕ). l.0 < length s.locals) letters →
      HavocsFit graph.setting.commands graph.edges letters havocs →
      list_all (holds (trace_values s havocs)) (rows_of graph letters)
      ≡ ((list_all (holds (value_at (values_of 0 s))) graph.setting.init_once && list_all (λ (k : ℕ). list_all (holds (value_at (values_of k s))) graph.setting.init_each) (threads_in_trace letters))
      && is_some (after_letters graph.setting.commands graph.edges letters havocs s))
  all_rows graph letters sized threads fit =
      list_all-append (holds (trace_values s havocs)) (rows_at_start graph.setting (threads_in_trace letters)) (rows_after graph nothing_yet letters)
      ∙ ap₂ (λ (a b : Bool). a && b) (start_is graph.setting (threads_in_trace letters))
      (letters_run graph (in_a_row havocs) (trace_values s havocs) (λ i. refl) letters havocs fit nothing_yet s sized threads stands_first refl)

pub rows_say_runs : (graph : Graph) (letters : List (ℕ × ℕ)) → RowsSayRuns graph letters
rows_say_runs graph letters s havocs sized threads fit = (forth, back)
  where
    each : Bool
    each = list_all (λ (k : ℕ). list_all (holds (value_at (values_of k s))) graph.setting.init_each) (threads_in_trace letters)

    is : list_all (holds (trace_values s havocs)) (rows_of graph letters)
        ≡ ((list_all (holds (value_at (values_of 0 s))) graph.setting.init_once && list_all (λ (k : ℕ). list_all (holds (value_at (values_of k s))) graph.setting.init_each) (threads_in_trace letters))
        && is_some (after_letters graph.setting.commands graph.edges letters havocs s))
    is = all_rows s havocs graph letters sized (recursion_from_All (λ (l : ℕ × ℕ). l.0 < length s.locals) letters threads) fit

    forth : list_all (holds (trace_values s havocs)) (rows_of graph letters) ≡ true →
        StartsWith graph.setting (threads_in_trace letters) s × (is_some (after_letters graph.setting.commands graph.edges letters havocs s) ≡ true)
    forth h =
        let p : ((list_all (holds (value_at (values_of 0 s))) graph.setting.init_once && list_all (λ (k : ℕ). list_all (holds (value_at (values_of k s))) graph.setting.init_each) (threads_in_trace letters)) ≡ true)
        × (is_some (after_letters graph.setting.commands graph.edges letters havocs s) ≡ true) =
        and_parts (list_all (holds (value_at (values_of 0 s))) graph.setting.init_once && list_all (λ (k : ℕ). list_all (holds (value_at (values_of k s))) graph.setting.init_each) (threads_in_trace letters))
        (is_some (after_letters graph.setting.commands graph.edges letters havocs s)) (sym is ∙ h) in
        let q : (list_all (holds (value_at (values_of 0 s))) graph.setting.init_once ≡ true) × (list_all (λ (k : ℕ). list_all (holds (value_at (values_of k s))) graph.setting.init_each) (threads_in_trace letters) ≡ true) =
        and_parts (list_all (holds (value_at (values_of 0 s))) graph.setting.init_once) (list_all (λ (k : ℕ). list_all (holds (value_at (values_of k s))) graph.setting.init_each) (threads_in_trace letters)) p.0 in
        (record { once = q.0; each = q.1 }, p.1)

    back : StartsWith graph.setting (threads_in_trace letters) s × (is_some (after_letters graph.setting.commands graph.edges letters havocs s) ≡ true) →
        list_all (holds (trace_values s havocs)) (rows_of graph letters) ≡ true
    back (st, runs) = is ∙ ap₂ (λ (a b : Bool). a && b) (ap₂ (λ (a b : Bool). a && b) st.once st.each) runs
