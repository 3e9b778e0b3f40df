-- The weighted rows of a trace add up to the sum at its first cut, and in the sums at its cuts no havoc is left.
use Rattle.std.proofs.Common.{◌≡◌, ◌≢◌, Bool, true, false, not, ◌==◌, refl, sym, ap, ap₂, ◌∙◌, subst, ℕ, zero, suc, ◌<◌, ◌+◌, ℤ, pos, ◌*ℤ◌, ◌+ℤ◌, List, [], ◌∷◌, ◌++◌, length, length-append, length-drop, length-take-le, take, drop, inl, inr, ◌⊎◌, if◌then◌else◌, nat_lt, eq-eqb, eqb-true, ltb-true, arith}
use Rattle.std.specs.Prelude.{slice_get, Option, Some, option_map, unwrap_or}
use Rattle.std.specs.List.{list_all, AllByRecursion}
use Rattle.std.specs.Cmp.{both_ways as same_tests}
use Rattle.std.proofs.lemmas.Bool.{and_parts, cases_eq}
use Rattle.std.proofs.lemmas.Bool.Decides.{nat_tests}
use Rattle.std.proofs.lemmas.Int.{ints}
use Rattle.std.proofs.lemmas.List.{length-map, take-append-drop}
use Rattle.ps_command.specs.Commands.{ops_of}
use Rattle.ps_command.specs.Form.{form_of}
use Rattle.ps_command.specs.declared.setting.Setting.{Setting}
use Rattle.ps_command.specs.declared.symbolic_form.SymbolicForm.{SymbolicForm}
use Rattle.ps_command.proofs.Alike.{same_value}
use Rattle.ps_command.proofs.Forms.{variable_value}
use Rattle.ps_farkas.specs.Refutes.{weighted}
use Rattle.ps_graph.specs.declared.edge.Edge.{Edge}
use Rattle.ps_graph.specs.declared.graph.Graph.{Graph}
use Rattle.ps_interp.specs.Sums.{Weighed, first_sum, row_count, sum_before, terms_by, weighed}
use Rattle.ps_soundness.specs.Traces.{command_of_edge, trace_of}
use Rattle.ps_term.specs.Pairs.{IsCanonical, coefficient, pairs_value}
use Rattle.ps_term.specs.Substitution.{replacement, values_after}
use Rattle.ps_term.specs.Term.{value}
use Rattle.ps_term.specs.Var.{var_eq}
use Rattle.ps_term.specs.declared.row.Row.{Row}
use Rattle.ps_term.specs.declared.term.Term.{Term}
use Rattle.ps_term.specs.declared.var.Var.{Var}
use Rattle.ps_term.specs.declared.var.Var.TheVariants.{Global, Local, Havoc}
use Rattle.ps_term.proofs.Ring.{distribute}
use Rattle.ps_term.proofs.Uniqueness.{pairs_value-unit_at, unit_at}
use Rattle.ps_trace.specs.Rows.{SoFar, after_letter, form_at, letter_rows, of_thread, put_after, rows_after}
use Rattle.ps_trace.specs.Own.{is_own, is_own_form, is_own_row, is_own_term, is_own_worth}
use Rattle.ps_trace.proofs.Meeting.{is_other, keys_own, named, others, put_value, seen_by}
use Rattle.ps_triple.specs.Rows.{form_in}
use Rattle.ps_triple.proofs.Lifted.{form_is}
use Rattle.ps_atom.proofs.Tightness.{all_members}
use Rattle.ps_interp.proofs.Numbered.{asks, not_same, other_kept, own_form_in, own_term_value, rows_seen, set_seen, terms}
use Rattle.ps_interp.proofs.Vars.{HasNoHavoc}
use Rattle.ps_interp.proofs.Worth.{sum_before_canonical, sum_before_worth, weighted_append, weighted_map}

-- ---- the form of an edge is that of its command
pub there_is : {X : Type 0} (xs : List X) (n : ℕ) → n < length xs → (x : X) × (slice_get xs n ≡ Some x)
there_is [] n h = let no : ⊥ = omega (arith, h) in absurd no
there_is (x ∷ xs) zero h = (x, refl)
there_is (x ∷ xs) (suc n) h = there_is xs n (omega (arith, h))

pub forms_agree : (graph : Graph) (n : ℕ) → n < length graph.edges → form_at graph n ≡ form_in graph.setting (command_of_edge graph.edges n)
forms_agree graph n within = at (there_is graph.edges n within)
  where
    at : (e : Edge) × (slice_get graph.edges n ≡ Some e) → form_at graph n ≡ form_in graph.setting (command_of_edge graph.edges n)
    at (e, is) =
        ap (λ (o : Option Edge). form_of (unwrap_or (option_map (λ (e : Edge). ops_of graph.setting.commands e.command) o) [])) is
        ∙ (sym (form_is graph.setting e.command graph.setting.formed)
        ∙ sym (ap (λ (o : Option Edge). form_in graph.setting (unwrap_or (option_map (λ (e : Edge). e.command) o) 0)) is))

-- ---- values that agree but at later havocs
-- not a havoc from this number on
abbrev pub is_under : ℕ → Var → Bool
is_under h (Global n) = true
is_under h (Local t n) = true
is_under h (Havoc i) = nat_lt i h

abbrev pub Agree : ℕ → (Var → ℤ) → (Var → ℤ) → Type 0
Agree h v w = (x : Var) → is_under h x ≡ true → v x ≡ w x

under_more : (h m : ℕ) (x : Var) → is_under h x ≡ true → is_under (h + m) x ≡ true
under_more h m (Global n) u = refl
under_more h m (Local t n) u = refl
under_more h m (Havoc i) u = grind (arith, nat_tests)

agree_less : (h m : ℕ) (v w : Var → ℤ) → Agree (h + m) v w → Agree h v w
agree_less h m v w a x u = a x (under_more h m x u)

-- the same of each pair
no_havoc_pairs : (t : Term) → IsCanonical t.pairs → HasNoHavoc t → AllByRecursion (λ (p : Var × ℤ). is_under 0 p.0 ≡ true) t.pairs
no_havoc_pairs t c none = go t.pairs (nonzero t.pairs c) (all_members t.pairs c)
  where
    nonzero : (qs : List (Var × ℤ)) → IsCanonical qs → AllByRecursion (λ (q : Var × ℤ). q.1 ≢ pos 0) qs
    nonzero [] d = tt
    nonzero (q ∷ qs) d = (d.0, nonzero qs d.2)

    go : (qs : List (Var × ℤ)) → AllByRecursion (λ (q : Var × ℤ). q.1 ≢ pos 0) qs → AllByRecursion (λ (q : Var × ℤ). coefficient q.0 t.pairs ≡ q.1) qs →
        AllByRecursion (λ (q : Var × ℤ). is_under 0 q.0 ≡ true) qs
    go [] z a = tt
    go ((Global n, m) ∷ qs) z a = (refl, go qs z.1 a.1)
    go ((Local s n, m) ∷ qs) z a = (refl, go qs z.1 a.1)
    go ((Havoc i, m) ∷ qs) z a = absurd (z.0 (sym a.0 ∙ none i))

same_pairs : (v w : Var → ℤ) → Agree 0 v w → (ps : List (Var × ℤ)) → AllByRecursion (λ (p : Var × ℤ). is_under 0 p.0 ≡ true) ps → AllByRecursion (λ (p : Var × ℤ). v p.0 ≡ w p.0) ps
same_pairs v w a [] h = tt
same_pairs v w a (p ∷ ps) h = (a p.0 h.0, same_pairs v w a ps h.1)

-- values that agree but at havocs give a term without havocs one value
pub no_havoc_value : (v w : Var → ℤ) (t : Term) → IsCanonical t.pairs → HasNoHavoc t → Agree 0 v w → value v t ≡ value w t
no_havoc_value v w t c none a = same_value v w t (same_pairs v w a t.pairs (no_havoc_pairs t c none))

-- ---- values put together
sum_worths : (a b : Var → ℤ) (ps : List (Var × ℤ)) → pairs_value (λ (x : Var). a x +ℤ b x) ps ≡ (pairs_value a ps +ℤ pairs_value b ps)
sum_worths a b [] = refl
sum_worths a b (p ∷ ps) =
    let d : p.1 *ℤ (a p.0 +ℤ b p.0) ≡ (p.1 *ℤ a p.0) +ℤ (p.1 *ℤ b p.0) = distribute p.1 (a p.0) (b p.0) in
    let r : pairs_value (λ (x : Var). a x +ℤ b x) ps ≡ (pairs_value a ps +ℤ pairs_value b ps) = sum_worths a b ps in
    parted (p.1 *ℤ (a p.0 +ℤ b p.0)) (p.1 *ℤ a p.0) (p.1 *ℤ b p.0) (pairs_value (λ (x : Var). a x +ℤ b x) ps) (pairs_value a ps) (pairs_value b ps) d r
  where
    parted : (k m n z s t : ℤ) → k ≡ (m +ℤ n) → z ≡ (s +ℤ t) → (k +ℤ z) ≡ ((m +ℤ s) +ℤ (n +ℤ t))
    parted k m n z s t d r = omega (arith, ints, d, r)

-- ---- what a command leaves, at values that it sees alike
same_after : (h : ℕ) (f g : Var → ℤ) → ((x : Var) → is_own h x ≡ true → f x ≡ g x) → (ps : List (Var × Term)) → list_all (is_own_worth h) ps ≡ true → (y : Var) → f y ≡ g y →
    values_after f ps y ≡ values_after g ps y
same_after h f g seen [] o y e = variable_value f y ∙ (e ∙ sym (variable_value g y))
same_after h f g seen (p ∷ ps) o y e = at (var_eq y p.0) (same_after h f g seen ps both.1 y e)
  where
    both : (is_own_worth h p ≡ true) × (list_all (is_own_worth h) ps ≡ true)
    both = and_parts (is_own_worth h p) (list_all (is_own_worth h) ps) o

    at : (t : Bool) → values_after f ps y ≡ values_after g ps y → value f (if t then p.1 else replacement ps y) ≡ value g (if t then p.1 else replacement ps y)
    at true rest = own_term_value h f g seen p.1 (and_parts (is_own 0 p.0) (is_own_term h p.1) both.0).1
    at false rest = rest

-- ---- what variables are worth so far
-- The terms so far name no later havoc, and no havoc is assigned.
pub record Keeps (f : SoFar) : Type 0 where
  pub havocs : (v : Var → ℤ) (i : ℕ) → values_after v f.after (Havoc i) ≡ v (Havoc i)
  pub stays : (v w : Var → ℤ) → Agree f.havocs v w → (x : Var) → is_under 0 x ≡ true → values_after v f.after x ≡ values_after w f.after x

-- the values before the next letter, whose havocs are counted from 0
abbrev pub now : (Var → ℤ) → SoFar → Var → ℤ
now v f (Global n) = values_after v f.after (Global n)
now v f (Local t n) = values_after v f.after (Local t n)
now v f (Havoc i) = v (Havoc (f.havocs + i))

module _ (f : SoFar) (keeps : Keeps f) (k : ℕ) (form : SymbolicForm) (own : is_own_form form ≡ true) where
  abbrev keys : list_all (λ (p : Var × Term). is_own 0 p.0) form.after ≡ true
  keys = keys_own form.havocs form.after (terms form own)

  -- what the command sees
  seen_now : (v : Var → ℤ) (x : Var) → is_own form.havocs x ≡ true → now v f (of_thread k 0 x) ≡ seen_by v f k x
  seen_now v (Global n) o = refl
  seen_now v (Local t n) o = refl
  seen_now v (Havoc i) o =
      let e : f.havocs + (0 + i) ≡ f.havocs + i = omega arith in
      ap (λ (j : ℕ). v (Havoc j)) e ∙ sym (keeps.havocs v (f.havocs + i))

  seen_alike : (v w : Var → ℤ) → Agree (f.havocs + form.havocs) v w → (x : Var) → is_own form.havocs x ≡ true → seen_by v f k x ≡ seen_by w f k x
  seen_alike v w a (Global n) o = keeps.stays v w (agree_less f.havocs form.havocs v w a) (Global n) refl
  seen_alike v w a (Local t n) o = keeps.stays v w (agree_less f.havocs form.havocs v w a) (Local k n) refl
  seen_alike v w a (Havoc i) o =
      keeps.havocs v (f.havocs + i) ∙ (a (Havoc (f.havocs + i)) (below i o) ∙ sym (keeps.havocs w (f.havocs + i)))
    where
      below : (i : ℕ) → nat_lt i form.havocs ≡ true → nat_lt (f.havocs + i) (f.havocs + form.havocs) ≡ true
      below i h = grind (arith, nat_tests)

  -- a variable that the command may set, and one of another thread
  set_after : (v : Var → ℤ) (y : Var) → is_own 0 y ≡ true → values_after v (after_letter f k form).after (of_thread k f.havocs y) ≡ values_after (seen_by v f k) form.after y
  set_after v y o = named v f k form.after y keys o

  kept_after : (v : Var → ℤ) (y : Var) → is_other k y ≡ true → values_after v (after_letter f k form).after y ≡ values_after v f.after y
  kept_after v y o = ap (value v) (others v f k form.after y keys o)

  other_thread : (t : ℕ) → (t ≡ k → ⊥) → not (k == t) ≡ true
  other_thread t apart = ap not (not_same k t (λ e. apart (sym e)))

  keeps_after : Keeps (after_letter f k form)
  keeps_after = record {
    havocs = λ v i. kept_after v (Havoc i) refl ∙ keeps.havocs v i;
    stays = stays;
  }
    where
      same : (v w : Var → ℤ) → Agree (f.havocs + form.havocs) v w → (y : Var) → is_own 0 y ≡ true → is_own form.havocs y ≡ true →
          values_after v (after_letter f k form).after (of_thread k f.havocs y) ≡ values_after w (after_letter f k form).after (of_thread k f.havocs y)
      same v w a y o p =
          set_after v y o
          ∙ (same_after form.havocs (seen_by v f k) (seen_by w f k) (seen_alike v w a) form.after (terms form own) y (seen_alike v w a y p)
          ∙ sym (set_after w y o))

      stays : (v w : Var → ℤ) → Agree (f.havocs + form.havocs) v w → (x : Var) → is_under 0 x ≡ true →
          values_after v (after_letter f k form).after x ≡ values_after w (after_letter f k form).after x
      stays v w a (Global n) u = same v w a (Global n) refl refl
      stays v w a (Local t n) u = at (cases_eq t k)
        where
          at : (t ≡ k) ⊎ (t ≡ k → ⊥) → values_after v (after_letter f k form).after (Local t n) ≡ values_after w (after_letter f k form).after (Local t n)
          at (inl is) = subst (λ (j : ℕ). values_after v (after_letter f k form).after (Local j n) ≡ values_after w (after_letter f k form).after (Local j n)) (sym is) (same v w a (Local 0 n) refl refl)
          at (inr apart) =
              kept_after v (Local t n) (other_thread t apart)
              ∙ (keeps.stays v w (agree_less f.havocs form.havocs v w a) (Local t n) refl
              ∙ sym (kept_after w (Local t n) (other_thread t apart)))
      stays v w a (Havoc i) u = absurd (none i u)
        where
          none : (i : ℕ) → nat_lt i 0 ≡ true → ⊥
          none i h = grind (arith, nat_tests)

  -- the values after the letter are those that its command leaves
  left : (v : Var → ℤ) → Agree 0 (values_after (now v f) (terms_by k form)) (now v (after_letter f k form))
  left v (Global n) u = set_seen k (now v f) (seen_by v f k) form.havocs (seen_now v) form.after (Global n) (terms form own) refl refl ∙ sym (set_after v (Global n) refl)
  left v (Local t n) u = at (cases_eq t k)
    where
      at : (t ≡ k) ⊎ (t ≡ k → ⊥) → values_after (now v f) (terms_by k form) (Local t n) ≡ values_after v (after_letter f k form).after (Local t n)
      at (inl is) =
          subst (λ (j : ℕ). values_after (now v f) (terms_by k form) (Local j n) ≡ values_after v (after_letter f k form).after (Local j n)) (sym is)
          (set_seen k (now v f) (seen_by v f k) form.havocs (seen_now v) form.after (Local 0 n) (terms form own) refl refl ∙ sym (set_after v (Local 0 n) refl))
      at (inr apart) =
          other_kept k (now v f) form.havocs form.after (Local t n) (terms form own) (other_thread t apart)
          ∙ sym (kept_after v (Local t n) (other_thread t apart))
  left v (Havoc i) u = absurd (none i u)
    where
      none : (i : ℕ) → nat_lt i 0 ≡ true → ⊥
      none i h = grind (arith, nat_tests)

  -- the rows of the letter, over the values before the trace and over those before the letter
  asked : (v : Var → ℤ) (ws : List ℕ) → weighted (value v) (letter_rows f k form) ws ≡ weighted (value (seen_by v f k)) form.rows ws
  asked v ws = weighted_map (value v) (value (seen_by v f k)) (λ (r : Row). record { term = put_after f k r.term }) form.rows ws (each form.rows)
    where
      each : (rs : List Row) → AllByRecursion (λ (r : Row). value v (put_after f k r.term) ≡ value (seen_by v f k) r.term) rs
      each [] = tt
      each (r ∷ rs) = (put_value v f k r.term, each rs)

  asked_alike : (v w : Var → ℤ) (ws : List ℕ) → Agree (f.havocs + form.havocs) v w → weighted (value v) (letter_rows f k form) ws ≡ weighted (value w) (letter_rows f k form) ws
  asked_alike v w ws a = asked v ws ∙ (same form.rows ws (asks form own) ∙ sym (asked w ws))
    where
      same : (rs : List Row) (ns : List ℕ) → list_all (is_own_row form.havocs) rs ≡ true → weighted (value (seen_by v f k)) rs ns ≡ weighted (value (seen_by w f k)) rs ns
      same [] ns o = refl
      same (r ∷ rs) [] o = refl
      same (r ∷ rs) (n ∷ ns) o =
          let q : (is_own_row form.havocs r ≡ true) × (list_all (is_own_row form.havocs) rs ≡ true) = and_parts (is_own_row form.havocs r) (list_all (is_own_row form.havocs) rs) o in
          ap₂ (λ (y z : ℤ). (pos n *ℤ y) +ℤ z) (own_term_value form.havocs (seen_by v f k) (seen_by w f k) (seen_alike v w a) r.term q.0) (same rs ns q.1)

  -- the sum before the letter, at the values before it
  sum_now : (v : Var → ℤ) (ws : List ℕ) (next : Term) → IsCanonical next.pairs → HasNoHavoc next →
      (weighted (value v) (letter_rows f k form) ws +ℤ value (now v (after_letter f k form)) next) ≡ value (now v f) (sum_before k form ws next)
  sum_now v ws next c none =
      ap₂ (λ (y z : ℤ). y +ℤ z)
      (asked v ws ∙ sym (rows_seen k (now v f) (seen_by v f k) form.havocs (seen_now v) form.rows ws (asks form own)))
      (sym (no_havoc_value (values_after (now v f) (terms_by k form)) (now v (after_letter f k form)) next c none (left v)))
      ∙ sym (sum_before_worth (now v f) k form ws next)

-- ---- one more at a havoc
-- 0 everywhere but at this havoc, where it is 1
no_more : (f : SoFar) → Keeps f → (sum : Term) (before : (Var → ℤ) → ℤ) (c : ℤ) → ((v w : Var → ℤ) → Agree f.havocs v w → before v ≡ before w) →
    ((v : Var → ℤ) → (before v +ℤ value (now v f) sum) ≡ c) → HasNoHavoc sum
no_more f keeps sum before c stays total i =
    none (before (λ (x : Var). pos 0)) (before one) (pairs_value (now (λ (x : Var). pos 0) f) sum.pairs) (coefficient (Havoc i) sum.pairs) sum.constant c
    (stays (λ (x : Var). pos 0) one agree) (total (λ (x : Var). pos 0))
    (ap (λ (z : ℤ). before one +ℤ (z +ℤ sum.constant)) (sym (more sum.pairs)) ∙ total one)
  where
    one : Var → ℤ
    one = unit_at (Havoc (f.havocs + i))

    agree : Agree f.havocs (λ (x : Var). pos 0) (unit_at (Havoc (f.havocs + i)))
    agree (Global n) u = refl
    agree (Local t n) u = refl
    agree (Havoc j) u = at ((f.havocs + i) == j) refl
      where
        at : (t : Bool) → ((f.havocs + i) == j) ≡ t → pos 0 ≡ (if t then pos 1 else pos 0)
        at false e = refl
        at true e =
            let same : f.havocs + i ≡ j = eqb-true (f.havocs + i) j e in
            let less : j < f.havocs = ltb-true j f.havocs u in
            let no : ⊥ = omega (arith, same, less) in absurd no

    each : (x : Var) → now (unit_at (Havoc (f.havocs + i))) f x ≡ (now (λ (x : Var). pos 0) f x +ℤ unit_at (Havoc i) x)
    each (Global n) = sym (keeps.stays (λ (x : Var). pos 0) (unit_at (Havoc (f.havocs + i))) agree (Global n) refl) ∙ plain (values_after (λ (x : Var). pos 0) f.after (Global n))
      where
        plain : (z : ℤ) → z ≡ (z +ℤ pos 0)
        plain z = omega (arith, ints)
    each (Local t n) = sym (keeps.stays (λ (x : Var). pos 0) (unit_at (Havoc (f.havocs + i))) agree (Local t n) refl) ∙ plain (values_after (λ (x : Var). pos 0) f.after (Local t n))
      where
        plain : (z : ℤ) → z ≡ (z +ℤ pos 0)
        plain z = omega (arith, ints)
    each (Havoc j) = at (i == j) (shift i j f.havocs)
      where
        shift : (i j m : ℕ) → ((m + i) == (m + j)) ≡ (i == j)
        shift i j m = same_tests ((m + i) == (m + j)) (i == j)
            (λ e. eq-eqb i j (let s : m + i ≡ m + j = eqb-true (m + i) (m + j) e in omega (arith, s)))
            (λ e. eq-eqb (m + i) (m + j) (ap (λ (n : ℕ). m + n) (eqb-true i j e)))

        at : (t : Bool) → ((f.havocs + i) == (f.havocs + j)) ≡ t → (if (f.havocs + i) == (f.havocs + j) then pos 1 else pos 0) ≡ (pos 0 +ℤ (if t then pos 1 else pos 0))
        at true e = ap (λ (b : Bool). if b then pos 1 else pos 0) e
        at false e = ap (λ (b : Bool). if b then pos 1 else pos 0) e

    more : (ps : List (Var × ℤ)) → pairs_value (now (unit_at (Havoc (f.havocs + i))) f) ps ≡ (pairs_value (now (λ (x : Var). pos 0) f) ps +ℤ coefficient (Havoc i) ps)
    more ps =
        ap (λ (g : Var → ℤ). pairs_value g ps) (λ j x. each x j)
        ∙ (sum_worths (now (λ (x : Var). pos 0) f) (unit_at (Havoc i)) ps ∙ ap (λ (z : ℤ). pairs_value (now (λ (x : Var). pos 0) f) ps +ℤ z) (pairs_value-unit_at (Havoc i) ps))

    none : (a b p m k c : ℤ) → a ≡ b → (a +ℤ (p +ℤ k)) ≡ c → (b +ℤ ((p +ℤ m) +ℤ k)) ≡ c → m ≡ pos 0
    none a b p m k c e g h = omega (arith, ints, e, g, h)

-- ---- letter by letter
pub record Total (graph : Graph) (letters : List (ℕ × ℕ)) (ws : List ℕ) (f : SoFar) : Type 0 where
  pub free : AllByRecursion (λ (w : Weighed). HasNoHavoc w.before) (weighed graph.setting (trace_of graph.edges letters) ws)
  pub first : HasNoHavoc (first_sum (weighed graph.setting (trace_of graph.edges letters) ws))
  pub worth : (v : Var → ℤ) → weighted (value v) (rows_after graph f letters) ws ≡ value (now v f) (first_sum (weighed graph.setting (trace_of graph.edges letters) ws))

pub first_canonical : (setting : Setting) (trace : List (ℕ × ℕ)) (ws : List ℕ) → IsCanonical (first_sum (weighed setting trace ws)).pairs
first_canonical setting [] ws = tt
first_canonical setting (l ∷ ls) ws =
    sum_before_canonical l.0 (form_in setting l.1) (take (row_count setting l) ws) (first_sum (weighed setting ls (drop (row_count setting l) ws)))

pub rows_long : (f : SoFar) (k : ℕ) (form : SymbolicForm) → length (letter_rows f k form) ≡ length form.rows
rows_long f k form = length-map form.rows (λ (r : Row). record { term = put_after f k r.term })

plain_total : (a b c d e : ℤ) → (a +ℤ b) ≡ c → b ≡ (d +ℤ e) → ((a +ℤ d) +ℤ e) ≡ c
plain_total a b c d e g h = omega (arith, ints, g, h)

-- what is told of the letters that are left
abbrev pub Told : Graph → List (ℕ × ℕ) → ℤ → Type 0
Told graph letters c = (ws : List ℕ) (f : SoFar) → Keeps f →
    AllByRecursion (λ (l : ℕ × ℕ). form_at graph l.1 ≡ form_in graph.setting (command_of_edge graph.edges l.1)) letters →
    length ws ≡ length (rows_after graph f letters) →
    (before : (Var → ℤ) → ℤ) → ((v w : Var → ℤ) → Agree f.havocs v w → before v ≡ before w) →
    ((v : Var → ℤ) → (before v +ℤ weighted (value v) (rows_after graph f letters) ws) ≡ c) → Total graph letters ws f

one_more : (graph : Graph) (l : ℕ × ℕ) (ls : List (ℕ × ℕ)) (c : ℤ) → Told graph ls c → Told graph (l ∷ ls) c
one_more graph l ls c told ws f keeps agree long before stays total = record {
  free = (first_free, later.free);
  first = first_free;
  worth = worth;
}
  where
    form : SymbolicForm
    form = form_in graph.setting (command_of_edge graph.edges l.1)

    n : ℕ
    n = length (form_in graph.setting (command_of_edge graph.edges l.1)).rows

    next : SoFar
    next = after_letter f l.0 (form_in graph.setting (command_of_edge graph.edges l.1))

    here : List Row
    here = letter_rows f l.0 (form_in graph.setting (command_of_edge graph.edges l.1))

    there : List Row
    there = rows_after graph (after_letter f l.0 (form_in graph.setting (command_of_edge graph.edges l.1))) ls

    rows_are : rows_after graph f (l ∷ ls) ≡ here ++ there
    rows_are = ap (λ (g : SymbolicForm). letter_rows f l.0 g ++ rows_after graph (after_letter f l.0 g) ls) agree.0

    length_is : length ws ≡ n + length there
    length_is = long ∙ (ap length rows_are ∙ (length-append here there ∙ ap (λ (m : ℕ). m + length there) (rows_long f l.0 form)))

    taken : length (take n ws) ≡ length here
    taken = length-take-le n ws (let e : length ws ≡ n + length there = length_is in omega (arith, e)) ∙ sym (rows_long f l.0 form)

    dropped : length (drop n ws) ≡ length there
    dropped = length-drop n ws ∙ (let e : length ws ≡ n + length there = length_is in omega (arith, e))

    parts : (v : Var → ℤ) → weighted (value v) (rows_after graph f (l ∷ ls)) ws ≡ (weighted (value v) here (take n ws) +ℤ weighted (value v) there (drop n ws))
    parts v =
        ap₂ (λ (rs : List Row) (ns : List ℕ). weighted (value v) rs ns) rows_are (sym (take-append-drop n ws))
        ∙ weighted_append (value v) here there (take n ws) (drop n ws) taken

    own : is_own_form form ≡ true
    own = own_form_in graph.setting (command_of_edge graph.edges l.1)

    later : Total graph ls (drop n ws) next
    later = told (drop n ws) next (keeps_after f keeps l.0 form own) agree.1 dropped
        (λ v. before v +ℤ weighted (value v) here (take n ws))
        (λ v w a. ap₂ (λ (y z : ℤ). y +ℤ z) (stays v w (agree_less f.havocs form.havocs v w a)) (asked_alike f keeps l.0 form own v w (take n ws) a))
        (λ v. plain_total (before v) (weighted (value v) (rows_after graph f (l ∷ ls)) ws) c (weighted (value v) here (take n ws)) (weighted (value v) there (drop n ws)) (total v) (parts v))

    next_sum : Term
    next_sum = first_sum (weighed graph.setting (trace_of graph.edges ls) (drop n ws))

    worth : (v : Var → ℤ) → weighted (value v) (rows_after graph f (l ∷ ls)) ws ≡ value (now v f) (sum_before l.0 form (take n ws) next_sum)
    worth v =
        parts v
        ∙ (ap (λ (z : ℤ). weighted (value v) here (take n ws) +ℤ z) (later.worth v)
        ∙ sum_now f keeps l.0 form own v (take n ws) next_sum (first_canonical graph.setting (trace_of graph.edges ls) (drop n ws)) later.first)

    first_free : HasNoHavoc (sum_before l.0 form (take n ws) next_sum)
    first_free = no_more f keeps (sum_before l.0 form (take n ws) next_sum) before c stays
        (λ v. ap (λ (z : ℤ). before v +ℤ z) (sym (worth v)) ∙ total v)

pub total_from : (graph : Graph) (letters : List (ℕ × ℕ)) (c : ℤ) → Told graph letters c
total_from graph [] c ws f keeps agree long before stays total = record { free = tt; first = λ i. refl; worth = λ v. refl }
total_from graph (l ∷ ls) c ws f keeps agree long before stays total = one_more graph l ls c (total_from graph ls c) ws f keeps agree long before stays total
