-- Entries whose rows have no solution are true in every state of however many threads, under every renaming.
use Rattle.std.proofs.Common.{◌≡◌, refl, sym, ap, ap₂, ◌∙◌, subst, subst₂, Bool, true, false, ◌&&◌, ◌==◌, ℕ, zero, suc, ◌<◌, ◌≤◌, ℤ, pos, ◌≤ℤ◌, List, [], ◌∷◌, ◌++◌, map, length, get_or, inl, inr, ◌⊎◌, All, Contains, IsFalse, int_le, nat_lt, eqb-true, ltb-true, arith}
use Rattle.std.specs.Prelude.{slice_index, slice_index_or, Option, Some, MatchOption}
use Rattle.std.specs.List.{list_all, AllByRecursion}
use Rattle.std.proofs.lemmas.Bool.{cases_eq, cases_lt, and_parts}
use Rattle.std.proofs.lemmas.List.Elements.{All-contains, recursion_from_All, All-from_recursion, Contains-append_left, Contains-get_or}
use Rattle.ps_list.proofs.Members.{here, there}
use Rattle.ps_term.specs.Row.{Holds}
use Rattle.ps_term.specs.Substitution.{values_after}
use Rattle.ps_term.specs.declared.row.Row.{Row}
use Rattle.ps_term.specs.declared.var.Var.{Var}
use Rattle.ps_term.specs.declared.var.Var.TheVariants.{Global, Local, Havoc}
use Rattle.ps_command.specs.Agreement.{AreSeenBy, RanAs}
use Rattle.ps_command.specs.Commands.{ops_of, forms_of}
use Rattle.ps_command.specs.Fitting.{CanRun, IsSized}
use Rattle.ps_command.specs.Form.{empty_form, form_of}
use Rattle.ps_command.specs.Named.{is_declared, is_declared_row, is_declared_op, is_declared_command}
use Rattle.ps_command.specs.Run.{holds, run_by}
use Rattle.ps_command.specs.Symbolic.{with_havocs}
use Rattle.ps_command.specs.Values.{value_at, values_of}
use Rattle.ps_command.specs.declared.command.Command.{Command}
use Rattle.ps_command.specs.declared.op.Op.{Op}
use Rattle.ps_command.specs.declared.setting.Setting.{Setting}
use Rattle.ps_command.specs.declared.state.State.{State}
use Rattle.ps_command.specs.declared.symbolic_form.SymbolicForm.{SymbolicForm}
use Rattle.ps_command.proofs.Alike.{same_value, runs_as_form}
use Rattle.ps_atom.specs.Atoms.{at_threads, HoldsAt, renamed, renamed_variable, IsOfSlots, IsInjectiveOn, threads_of}
use Rattle.ps_atom.specs.Range.{IsDeclared}
use Rattle.ps_atom.specs.declared.atom.Atom.{Atom}
use Rattle.ps_atom.specs.declared.predicate.Predicate.{Predicate}
use Rattle.ps_atom.proofs.RenamedAtoms.{renamed_says}
use Rattle.ps_triple.specs.Entries.{threads_in}
use Rattle.ps_triple.specs.Rows.{form_in, initial_rows, predicate_of, triple_rows}
use Rattle.ps_triple.specs.Tests.{IsAtomOf}
use Rattle.ps_triple.specs.Validity.{worth, HoldsOf, IsTrueIn, IsValidTriple, IsTrueAtFirst}
use Rattle.ps_triple.specs.declared.initial.Initial.{Initial}
use Rattle.ps_triple.specs.declared.triple.Triple.{Triple}
use Rattle.ps_list.proofs.Mapped.{mapped}
use Rattle.ps_triple.proofs.Membership.{all_of, any_default}
use Rattle.ps_triple.proofs.Sound.{holds_after, holds_at_first}

past : {X : Type 0} (xs : List X) (k : ℕ) (d : X) → length xs ≤ k → get_or xs k d ≡ d
past [] k d l = refl
past (x ∷ xs) zero d l = let none_such : ⊥ = omega (arith, l) in absurd none_such
past (x ∷ xs) (suc k) d l = let m : length xs ≤ k = omega (arith, l) in past xs k d m

other_default : {X : Type 0} (xs ys : List X) (k : ℕ) (c d : X) → length xs ≡ length ys → get_or xs k c ≡ get_or ys k c → get_or xs k d ≡ get_or ys k d
other_default {X} xs ys k c d e same = at (cases_lt k (length xs))
  where
    at : (k < length xs) ⊎ (length xs ≤ k) → get_or xs k d ≡ get_or ys k d
    at (inl h) = let i : k < length ys = omega (arith, h, e) in any_default xs k d c h ∙ (same ∙ any_default ys k c d i)
    at (inr h) = let i : length ys ≤ k = omega (arith, h, e) in past xs k d h ∙ sym (past ys k d i)

-- the variables of a predicate that is in range
slots_of : (globals locals arity : ℕ) (ps : List (Var × ℤ)) → AllByRecursion (λ (p : Var × ℤ). IsDeclared globals locals arity p.0) ps →
    (P : Var → Type 0) → ((n : ℕ) → P (Global n)) → ((slot n : ℕ) → slot < arity → P (Local slot n)) → AllByRecursion (λ (p : Var × ℤ). P p.0) ps
slots_of globals locals arity [] h P g l = tt
slots_of globals locals arity ((Global n, c) ∷ ps) h P g l = (g n, slots_of globals locals arity ps h.1 P g l)
slots_of globals locals arity ((Local s n, c) ∷ ps) h P g l = (l s n h.0.0, slots_of globals locals arity ps h.1 P g l)
slots_of globals locals arity ((Havoc n, c) ∷ ps) h P g l = absurd h.0

-- the form of a command is that of its ops
form_at : (commands : List Command) (n : ℕ) → slice_index_or (forms_of commands) n empty_form ≡ form_of (ops_of commands n)
form_at [] n = refl
form_at (c ∷ commands) zero = refl
form_at (c ∷ commands) (suc n) = form_at commands n

pub form_is : (setting : Setting) (n : ℕ) → setting.symbols ≡ forms_of setting.commands → form_in setting n ≡ form_of (ops_of setting.commands n)
form_is setting n formed = ap (λ (forms : List SymbolicForm). slice_index_or forms n empty_form) formed ∙ form_at setting.commands n

declared_ops : (globals locals : ℕ) (commands : List Command) (n : ℕ) → list_all (is_declared_command globals locals) commands ≡ true →
    list_all (is_declared_op globals locals) (ops_of commands n) ≡ true
declared_ops globals locals [] n h = refl
declared_ops globals locals (c ∷ commands) zero h = (and_parts (is_declared_command globals locals c) (list_all (is_declared_command globals locals) commands) h).0
declared_ops globals locals (c ∷ commands) (suc n) h = declared_ops globals locals commands n (and_parts (is_declared_command globals locals c) (list_all (is_declared_command globals locals) commands) h).1

module _ (setting : Setting) (predicates : List Predicate) where
  each_pair : (q : Atom) → IsAtomOf setting predicates q → (P : Var → Type 0) → ((n : ℕ) → P (Global n)) → ((slot n : ℕ) → slot < (predicate_of predicates q.predicate).arity → P (Local slot n)) →
      AllByRecursion (λ (x : Var × ℤ). P x.0) (predicate_of predicates q.predicate).row.term.pairs
  each_pair q h P one two = slots_of setting.globals setting.locals (predicate_of predicates q.predicate).arity (predicate_of predicates q.predicate).row.term.pairs
      (recursion_from_All (λ (x : Var × ℤ). IsDeclared setting.globals setting.locals (predicate_of predicates q.predicate).arity x.0) (predicate_of predicates q.predicate).row.term.pairs h.0.1.1) P one two

  -- values that agree at globals and at the atom's threads
  move_values : (q : Atom) → IsAtomOf setting predicates q → (u v : Var → ℤ) → ((n : ℕ) → u (Global n) ≡ v (Global n)) →
      ((t n : ℕ) → Contains q.threads t → u (Local t n) ≡ v (Local t n)) → HoldsOf predicates u q → HoldsOf predicates v q
  move_values q filled u v one two h =
      subst (λ (z : ℤ). z ≤ℤ pos 0)
      (same_value (λ x. u (at_threads q.threads x)) (λ x. v (at_threads q.threads x)) (predicate_of predicates q.predicate).row.term
      (each_pair q filled (λ x. u (at_threads q.threads x) ≡ v (at_threads q.threads x)) one
      (λ slot n below. two (slice_index q.threads slot) n
      (Contains-get_or q.threads slot 0 (subst (λ (k : ℕ). slot < k) (sym filled.1) below)))))
      h

  rename_values : (q : Atom) → IsAtomOf setting predicates q → (new : ℕ → ℕ) (u : Var → ℤ) →
      (HoldsOf predicates u (renamed new q) → HoldsOf predicates (λ x. u (renamed_variable new x)) q)
      × (HoldsOf predicates (λ x. u (renamed_variable new x)) q → HoldsOf predicates u (renamed new q))
  rename_values q filled new u = renamed_says new u q.threads (predicate_of predicates q.predicate).row
      (All-from_recursion (λ (x : Var × ℤ). IsOfSlots (length q.threads) x.0) (predicate_of predicates q.predicate).row.term.pairs
      (each_pair q filled (IsOfSlots (length q.threads)) (λ n. tt) (λ slot n below. subst (λ (k : ℕ). slot < k) (sym filled.1) below)))

  -- a triple whose rows have no solution is valid
  module _ (t : Triple) (none : (v : Var → ℤ) → ¬ All (Holds v) (triple_rows setting predicates t))
      (formed : setting.symbols ≡ forms_of setting.commands) (declared : list_all (is_declared_command setting.globals setting.locals) setting.commands ≡ true)
      (filled_before : All (IsAtomOf setting predicates) t.pre) (filled : IsAtomOf setting predicates t.post) where
    abbrev Ops : List Op
    Ops = ops_of setting.commands t.command

    module _ (new : ℕ → ℕ) (apart : IsInjectiveOn new (threads_in t)) (s r : State) (guest hs : List ℤ) (sized : IsSized setting s) (within : new 0 < length s.locals)
        (runs : run_by (new 0) (ops_of setting.commands t.command) s hs ≡ Some r) where
      abbrev U : Var → ℤ
      U x = worth s guest (renamed_variable new x)

      abbrev W : Var → ℤ
      W = with_havocs U hs

      can : CanRun (new 0) Ops s
      can = record {
        within = within;
        named = subst₂ (λ (g l : ℕ). list_all (is_declared_op g l) Ops ≡ true) (sym sized.globals) (sym (sized.locals (new 0) [] within))
            (declared_ops setting.globals setting.locals setting.commands t.command declared);
      }

      seen : AreSeenBy (new 0) s U
      seen = record {
        globals = λ n. refl;
        locals = λ n. ap (λ (ls : List ℤ). slice_index_or ls n (pos 0)) (any_default s.locals (new 0) guest [] within);
      }

      ran : RanAs (new 0) (form_of Ops) W s r
      ran = subst (λ (o : Option State). MatchOption o (IsFalse (list_all (holds W) (form_of Ops).rows)) (RanAs (new 0) (form_of Ops) W s)) runs
          (runs_as_form Ops s (new 0) U hs can seen)

      holds_before : All (IsTrueIn predicates s guest) (map (renamed new) t.pre) → All (HoldsOf predicates W) t.pre
      holds_before before = all_of (HoldsOf predicates W) t.pre (λ q i. move_values q (All-contains (IsAtomOf setting predicates) t.pre q filled_before i) U W (λ n. refl) (λ x n j. refl)
          ((rename_values q (All-contains (IsAtomOf setting predicates) t.pre q filled_before i) new (worth s guest)).0
          (All-contains (IsTrueIn predicates s guest) (map (renamed new) t.pre) (renamed new q) before (mapped (renamed new) t.pre q i))))

      in_post : (x : ℕ) → Contains t.post.threads x → Contains (threads_in t) x
      in_post x i = there 0 (t.post.threads ++ threads_of t.pre) x (Contains-append_left t.post.threads (threads_of t.pre) x i)

      threads : (x n : ℕ) → Contains t.post.threads x → values_after W (form_of Ops).after (Local x n) ≡ slice_index_or (slice_index_or r.locals (new x) guest) n (pos 0)
      threads x n i = at (cases_eq x 0)
        where
          there_too : new 0 < length r.locals
          there_too = subst (λ (k : ℕ). new 0 < k) (sym ran.threads) within

          at : (x ≡ 0) ⊎ (x ≡ 0 → ⊥) → values_after W (form_of Ops).after (Local x n) ≡ slice_index_or (slice_index_or r.locals (new x) guest) n (pos 0)
          at (inl is) =
              ap (λ (y : ℕ). values_after W (form_of Ops).after (Local y n)) is
              ∙ (ran.seen.locals n
              ∙ (ap (λ (ls : List ℤ). slice_index_or ls n (pos 0)) (any_default r.locals (new 0) [] guest there_too)
              ∙ ap (λ (y : ℕ). slice_index_or (slice_index_or r.locals (new y) guest) n (pos 0)) (sym is)))
          at (inr other) =
              ran.unnamed x n other
              ∙ ap (λ (ls : List ℤ). slice_index_or ls n (pos 0))
              (other_default s.locals r.locals (new x) [] guest (sym ran.threads)
              (sym (ran.others (new x) (λ e. other (apart x 0 (in_post x i) (here 0 (t.post.threads ++ threads_of t.pre)) e)))))

      ends : All (IsTrueIn predicates s guest) (map (renamed new) t.pre) → IsTrueIn predicates r guest (renamed new t.post)
      ends before = (rename_values t.post filled new (worth r guest)).1
          (move_values t.post filled (values_after W (form_of Ops).after) (λ x. worth r guest (renamed_variable new x)) ran.seen.globals threads
          (subst (λ (form : SymbolicForm). list_all (holds W) form.rows ≡ true → HoldsOf predicates (values_after W form.after) t.post) (form_is setting t.command formed)
          (holds_after setting predicates t none W (holds_before before)) ran.rows))

    pub valid_triple : IsValidTriple setting predicates t
    valid_triple thread before after by s r guest hs sized within fit runs given =
        subst (λ (q : Atom). IsTrueIn predicates r guest q) (sym by.post)
        (ends by.new by.apart s r guest hs sized (subst (λ (k : ℕ). k < length s.locals) (sym by.runs) within)
        (subst (λ (k : ℕ). run_by k (ops_of setting.commands t.command) s hs ≡ Some r) (sym by.runs) runs)
        (subst (λ (qs : List Atom). All (IsTrueIn predicates s guest) qs) by.pre given))

  same_rows : (globals locals : ℕ) (u v : Var → ℤ) → ((x : Var) → is_declared globals locals x ≡ true → u x ≡ v x) → (rows : List Row) →
      list_all (is_declared_row globals locals) rows ≡ true → list_all (holds u) rows ≡ list_all (holds v) rows
  same_rows globals locals u v same [] d = refl
  same_rows globals locals u v same (r ∷ rows) d =
      let q : (is_declared_row globals locals r ≡ true) × (list_all (is_declared_row globals locals) rows ≡ true) =
      and_parts (is_declared_row globals locals r) (list_all (is_declared_row globals locals) rows) d in
      ap₂ (λ (x y : Bool). x && y) (ap (λ (z : ℤ). int_le z (pos 0)) (same_value u v r.term (pairs r.term.pairs q.0))) (same_rows globals locals u v same rows q.1)
    where
      pairs : (ps : List (Var × ℤ)) → list_all (λ (p : Var × ℤ). is_declared globals locals p.0) ps ≡ true → AllByRecursion (λ (p : Var × ℤ). u p.0 ≡ v p.0) ps
      pairs [] e = tt
      pairs (p ∷ ps) e =
          let q : (is_declared globals locals p.0 ≡ true) × (list_all (λ (p : Var × ℤ). is_declared globals locals p.0) ps ≡ true) =
          and_parts (is_declared globals locals p.0) (list_all (λ (p : Var × ℤ). is_declared globals locals p.0) ps) e in
          (same p.0 q.0, pairs ps q.1)

  -- the predicate of an initial entry whose rows have no solution holds of any threads in every initial state, where a
  -- thread that there isn't has the locals of thread 0
  pub true_at_first : (i : Initial) → ((v : Var → ℤ) → ¬ All (Holds v) (initial_rows setting predicates i)) →
      list_all (is_declared_row setting.globals 0) setting.init_once ≡ true → list_all (is_declared_row setting.globals setting.locals) setting.init_each ≡ true →
      IsTrueAtFirst setting predicates i.predicate
  true_at_first i none once_declared each_declared s q initial is =
      subst (λ (n : ℕ). HoldsAt (worth s (slice_index_or s.locals 0 [])) q.threads (predicate_of predicates n).row) (sym is)
      (holds_at_first setting predicates i none values
      (same_rows setting.globals 0 values (value_at (values_of 0 s)) once setting.init_once once_declared ∙ initial.once)
      (λ k within. each (slice_index q.threads k) k refl (cases_lt (slice_index q.threads k) (length s.locals))))
    where
      values : Var → ℤ
      values x = worth s (slice_index_or s.locals 0 []) (at_threads q.threads x)

      once : (x : Var) → is_declared setting.globals 0 x ≡ true → values x ≡ value_at (values_of 0 s) x
      once (Global n) d = refl
      once (Local t n) d = let none_such : n < 0 = ltb-true n 0 (and_parts (t == 0) (nat_lt n 0) d).1 in let none : ⊥ = omega (arith, none_such) in absurd none
      once (Havoc n) d = let none_such : false ≡ true = d in cc

      -- the extra thread, and any that there isn't, is thread 0
      by : (t k j : ℕ) → slice_index q.threads k ≡ t → slice_index_or s.locals t (slice_index_or s.locals 0 []) ≡ slice_index_or s.locals j [] →
          (x : Var) → is_declared setting.globals setting.locals x ≡ true → values (at_threads (k ∷ []) x) ≡ value_at (values_of j s) x
      by t k j of same (Global n) d = refl
      by t k j of same (Local u n) d =
          let zero_is : u ≡ 0 = eqb-true u 0 (and_parts (u == 0) (nat_lt n setting.locals) d).0 in
          ap (λ (y : ℕ). values (Local (slice_index (k ∷ []) y) n)) zero_is
          ∙ (ap (λ (y : ℕ). slice_index_or (slice_index_or s.locals y (slice_index_or s.locals 0 [])) n (pos 0)) of
          ∙ ap (λ (ls : List ℤ). slice_index_or ls n (pos 0)) same)
      by t k j of same (Havoc n) d = let none_such : false ≡ true = d in cc

      as_thread : (t k j : ℕ) → slice_index q.threads k ≡ t → slice_index_or s.locals t (slice_index_or s.locals 0 []) ≡ slice_index_or s.locals j [] → j < length s.locals →
          list_all (holds (λ x. values (at_threads (k ∷ []) x))) setting.init_each ≡ true
      as_thread t k j of same within =
          same_rows setting.globals setting.locals (λ x. values (at_threads (k ∷ []) x)) (value_at (values_of j s)) (by t k j of same) setting.init_each each_declared
          ∙ initial.each j within

      each : (t k : ℕ) → slice_index q.threads k ≡ t → (t < length s.locals) ⊎ (length s.locals ≤ t) → list_all (holds (λ x. values (at_threads (k ∷ []) x))) setting.init_each ≡ true
      each t k of (inl h) = as_thread t k t of (any_default s.locals t (slice_index_or s.locals 0 []) [] h) h
      each t k of (inr h) = as_thread t k 0 of (past s.locals t (slice_index_or s.locals 0 []) h) initial.threads
