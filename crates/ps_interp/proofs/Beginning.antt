-- The initial entry of an interpolation: its multipliers refute its rows.
use Rattle.std.proofs.Common.{◌≡◌, ◌≢◌, Bool, true, false, ◌==◌, refl, sym, ap, ap₂, ◌∙◌, subst, ℕ, zero, suc, ◌<◌, ◌≤◌, ◌+◌, ℤ, pos, ◌*ℤ◌, ◌+ℤ◌, ◌-◌, List, [], ◌∷◌, ◌++◌, append_assoc, length, length-append, length-drop, length-take-le, get_or, map, take, drop, All, nat_lt, if◌then◌else◌, eq-eqb, eqb-true, ltb-true, add-one, arith}
use Rattle.std.specs.Prelude.{slice_index}
use Rattle.std.specs.BTreeSet.{insert_key}
use Rattle.std.specs.List.{AllByRecursion, flat_map, list_all}
use Rattle.std.specs.Ordering.{MatchOrdering, match_ordering, nat_cmp}
use Rattle.std.specs.declared.cmp.Ordering.{Ordering}
use Rattle.std.specs.declared.cmp.Ordering.TheVariants.{Less, Equal, Greater}
use Rattle.std.proofs.lemmas.Bool.{and_parts}
use Rattle.std.proofs.lemmas.Bool.Decides.{nat_tests}
use Rattle.std.proofs.lemmas.Cmp.{ranked}
use Rattle.std.proofs.lemmas.Int.{ints}
use Rattle.std.proofs.lemmas.List.{get_or-map, length-map}
use Rattle.std.proofs.lemmas.List.Elements.{Contains-get_or, recursion_from_All}
use Rattle.std.proofs.lemmas.List.{take-append-drop}
use Rattle.ps_atom.specs.Atoms.{at_threads, renamed_variable}
use Rattle.ps_atom.specs.Range.{IsDeclared}
use Rattle.ps_atom.specs.declared.predicate.Predicate.{Predicate}
use Rattle.ps_atom.proofs.Chains.{IsChain, all-contains}
use Rattle.ps_command.specs.Named.{is_declared, is_declared_row}
use Rattle.ps_command.specs.declared.setting.Setting.{Setting}
use Rattle.ps_command.proofs.Alike.{same_value}
use Rattle.ps_farkas.specs.Refutes.{weighted}
use Rattle.ps_interp.specs.Entries.{place_in}
use Rattle.ps_interp.specs.Weights.{initial_weights, once_weights, thread_weights, weights_by_thread, weights_of, weights_of_others, zeros}
use Rattle.ps_term.specs.Term.{value}
use Rattle.ps_term.specs.declared.row.Row.{Row}
use Rattle.ps_term.specs.declared.term.Term.{Term}
use Rattle.ps_term.specs.declared.var.Var.{Var}
use Rattle.ps_term.specs.declared.var.Var.TheVariants.{Global, Local, Havoc}
use Rattle.ps_trace.specs.Rows.{of_thread, row_of_thread, rows_at_start, rows_of_each, threads_from, threads_in_trace}
use Rattle.ps_trace.specs.Own.{is_own, is_own_row}
use Rattle.ps_trace.proofs.Meeting.{thread_value}
use Rattle.ps_trace.proofs.Owning.{declared_rows_own}
use Rattle.ps_triple.specs.Places.{row_by}
use Rattle.ps_triple.specs.Rows.{rows_of_threads}
use Rattle.ps_triple.proofs.Renewed.{row_worth}
use Rattle.ps_interp.proofs.Extra.{AreKeys, AreLong, all_sums, counted, others_long, own_long, rows_are, rows_from, slot_sums, slots_weighted, thread_sum}
use Rattle.ps_interp.proofs.Numbered.{not_same, own_term_value}
use Rattle.ps_interp.proofs.Worth.{weighted_append, weighted_map}

-- ---- the threads of a trace strictly ascend
abbrev Up : List ℕ → Type 0
Up ks = IsChain (λ (s t : ℕ). s < t) ks

inserted_all : (P : ℕ → Type 0) (k : ℕ) (ks : List ℕ) → P k → AllByRecursion P ks → AllByRecursion P (insert_key nat_cmp ks k)
inserted_all P k [] h a = (h, tt)
inserted_all P k (x ∷ xs) h a = at (nat_cmp k x) (inserted_all P k xs h a.1)
  where
    at : (o : Ordering) → AllByRecursion P (insert_key nat_cmp xs k) → AllByRecursion P (match_ordering o (k ∷ x ∷ xs) (x ∷ xs) (x ∷ insert_key nat_cmp xs k))
    at Less rest = (h, a)
    at Equal rest = a
    at Greater rest = (a.0, rest)

above : (k x : ℕ) (xs : List ℕ) → k < x → AllByRecursion (λ (t : ℕ). x < t) xs → AllByRecursion (λ (t : ℕ). k < t) xs
above k x [] h a = tt
above k x (y ∷ ys) h a = ((let l : x < y = a.0 in omega (arith, h, l)), above k x ys h a.1)

inserted_up : (k : ℕ) (ks : List ℕ) → Up ks → Up (insert_key nat_cmp ks k)
inserted_up k [] u = (tt, tt)
inserted_up k (x ∷ xs) u = at (nat_cmp k x) (ranked k x (nat_cmp k x) refl) (inserted_up k xs u.1)
  where
    at : (o : Ordering) → MatchOrdering o (k < x) (k ≡ x) (x < k) → Up (insert_key nat_cmp xs k) → Up (match_ordering o (k ∷ x ∷ xs) (x ∷ xs) (x ∷ insert_key nat_cmp xs k))
    at Less h rest = ((h, above k x xs h u.0), u)
    at Equal h rest = u
    at Greater h rest = (inserted_all (λ (t : ℕ). x < t) k xs h u.0, rest)

threads_up : (ks : List ℕ) (letters : List (ℕ × ℕ)) → Up ks → Up (threads_from ks letters)
threads_up ks [] u = u
threads_up ks (l ∷ ls) u = threads_up (insert_key nat_cmp ks l.0) ls (inserted_up l.0 ks u)

-- ---- the multipliers of each thread
keys_apart : (count k : ℕ) (ks ws : List ℕ) → AllByRecursion (λ (t : ℕ). k < t) ks → AllByRecursion (λ (q : ℕ × List ℕ). k ≢ q.0) (weights_by_thread count ks ws)
keys_apart count k [] ws a = tt
keys_apart count k (x ∷ xs) ws a = ((λ e. let l : k < x = a.0 in let none : ⊥ = omega (arith, l, e) in none), keys_apart count k xs (drop count ws) a.1)

keys_of : (v : Var → ℤ) (each : List Row) (count : ℕ) (ks ws : List ℕ) → Up ks → AreKeys v each (weights_by_thread count ks ws)
keys_of v each count [] ws u = tt
keys_of v each count (k ∷ ks) ws u = (keys_apart count k ks (drop count ws) u.0, keys_of v each count ks (drop count ws) u.1)

rest_long : (n m : ℕ) (ws : List ℕ) → n + m ≤ length ws → m ≤ length (drop n ws)
rest_long n m ws h = let e : length (drop n ws) ≡ length ws - n = length-drop n ws in omega (arith, h, e)

each_long : (each : List Row) (k : ℕ) (ks : List ℕ) → length (rows_of_each each (k ∷ ks)) ≡ length each + length (rows_of_each each ks)
each_long each k ks =
    length-append (map (row_of_thread k 0) each) (rows_of_each each ks) ∙ ap (λ (n : ℕ). n + length (rows_of_each each ks)) (length-map each (row_of_thread k 0))

long_of : (each : List Row) (ks ws : List ℕ) → length (rows_of_each each ks) ≤ length ws → AreLong each (weights_by_thread (length each) ks ws)
long_of each [] ws h = tt
long_of each (k ∷ ks) ws h =
    let e : length (rows_of_each each (k ∷ ks)) ≡ length each + length (rows_of_each each ks) = each_long each k ks in
    (length-take-le (length each) ws (omega (arith, h, e)), long_of each ks (drop (length each) ws) (rest_long (length each) (length (rows_of_each each ks)) ws (omega (arith, h, e))))

-- ---- the rows at the start, with each thread at its slot
pub weighted_same : (part other : Term → ℤ) (rows : List Row) (ns : List ℕ) → AllByRecursion (λ (r : Row). part r.term ≡ other r.term) rows → weighted part rows ns ≡ weighted other rows ns
weighted_same part other [] ns h = refl
weighted_same part other (r ∷ rows) [] h = refl
weighted_same part other (r ∷ rows) (n ∷ ns) h = ap₂ (λ (y z : ℤ). (pos n *ℤ y) +ℤ z) h.0 (weighted_same part other rows ns h.1)

pub split_weights : (part : Term → ℤ) (rows more : List Row) (ns : List ℕ) → length rows ≤ length ns →
    weighted part (rows ++ more) ns ≡ (weighted part rows (take (length rows) ns) +ℤ weighted part more (drop (length rows) ns))
split_weights part rows more ns h =
    ap (weighted part (rows ++ more)) (sym (take-append-drop (length rows) ns))
    ∙ weighted_append part rows more (take (length rows) ns) (drop (length rows) ns) (length-take-le (length rows) ns h)

module _ (v : Var → ℤ) (ts : List ℕ) where
  abbrev pub at_slots : Var → ℤ
  at_slots x = v (renamed_variable (place_in ts) x)

  of_slot : (k : ℕ) (x : Var) → is_own 0 x ≡ true → at_slots (of_thread k 0 x) ≡ v (at_threads (place_in ts k ∷ []) x)
  of_slot k (Global n) o = refl
  of_slot k (Local t n) o = ap (λ (j : ℕ). v (Local (slice_index (place_in ts k ∷ []) j) n)) (sym (eqb-true t 0 o))
  of_slot k (Havoc i) o = absurd (grind (arith, nat_tests))

  thread_rows : (each : List Row) (k : ℕ) (ws : List ℕ) → list_all (is_own_row 0) each ≡ true →
      weighted (value at_slots) (map (row_of_thread k 0) each) ws ≡ thread_sum v each (place_in ts k) ws
  thread_rows each k ws o =
      weighted_map (value at_slots) (value (λ (x : Var). v (at_threads (place_in ts k ∷ []) x))) (row_of_thread k 0) each ws (one each o)
      ∙ sym (weighted_map (value v) (value (λ (x : Var). v (at_threads (place_in ts k ∷ []) x))) (row_by (at_threads (place_in ts k ∷ []))) each ws (other each))
    where
      one : (rs : List Row) → list_all (is_own_row 0) rs ≡ true → AllByRecursion (λ (r : Row). value at_slots (row_of_thread k 0 r).term ≡ value (λ (x : Var). v (at_threads (place_in ts k ∷ []) x)) r.term) rs
      one [] h = tt
      one (r ∷ rs) h =
          let q : (is_own_row 0 r ≡ true) × (list_all (is_own_row 0) rs ≡ true) = and_parts (is_own_row 0 r) (list_all (is_own_row 0) rs) h in
          (thread_value at_slots k 0 r.term ∙ own_term_value 0 (λ (x : Var). at_slots (of_thread k 0 x)) (λ (x : Var). v (at_threads (place_in ts k ∷ []) x)) (of_slot k) r.term q.0, one rs q.1)

      other : (rs : List Row) → AllByRecursion (λ (r : Row). value v (row_by (at_threads (place_in ts k ∷ [])) r).term ≡ value (λ (x : Var). v (at_threads (place_in ts k ∷ []) x)) r.term) rs
      other [] = tt
      other (r ∷ rs) = (row_worth (at_threads (place_in ts k ∷ [])) v r, other rs)

  threads_rows : (each : List Row) (ks ws : List ℕ) → list_all (is_own_row 0) each ≡ true → length (rows_of_each each ks) ≤ length ws →
      weighted (value at_slots) (rows_of_each each ks) ws ≡ all_sums v each ts (weights_by_thread (length each) ks ws)
  threads_rows each [] ws o h = refl
  threads_rows each (k ∷ ks) ws o h =
      parted (let e : length (rows_of_each each (k ∷ ks)) ≡ length each + length (rows_of_each each ks) = each_long each k ks in omega (arith, h, e))
      ∙ ap₂ (λ (y z : ℤ). y +ℤ z) (thread_rows each k (take (length each) ws) o)
      (threads_rows each ks (drop (length each) ws) o (let e : length (rows_of_each each (k ∷ ks)) ≡ length each + length (rows_of_each each ks) = each_long each k ks in
      rest_long (length each) (length (rows_of_each each ks)) ws (omega (arith, h, e))))
    where
      parted : length each ≤ length ws → weighted (value at_slots) (rows_of_each each (k ∷ ks)) ws
          ≡ (weighted (value at_slots) (map (row_of_thread k 0) each) (take (length each) ws) +ℤ weighted (value at_slots) (rows_of_each each ks) (drop (length each) ws))
      parted long =
          ap (weighted (value at_slots) (rows_of_each each (k ∷ ks))) (sym (take-append-drop (length each) ws))
          ∙ weighted_append (value at_slots) (map (row_of_thread k 0) each) (rows_of_each each ks) (take (length each) ws) (drop (length each) ws)
          (length-take-le (length each) ws long ∙ sym (length-map each (row_of_thread k 0)))

  once_rows : (globals : ℕ) (rows : List Row) (ws : List ℕ) → list_all (is_declared_row globals 0) rows ≡ true → weighted (value at_slots) rows ws ≡ weighted (value v) rows ws
  once_rows globals rows ws d = weighted_same (value at_slots) (value v) rows ws (go rows d)
    where
      pairs : (ps : List (Var × ℤ)) → list_all (λ (p : Var × ℤ). is_declared globals 0 p.0) ps ≡ true → AllByRecursion (λ (p : Var × ℤ). at_slots p.0 ≡ v p.0) ps
      pairs [] e = tt
      pairs ((Global n, c) ∷ ps) e = (refl, pairs ps (and_parts (nat_lt n globals) (list_all (λ (p : Var × ℤ). is_declared globals 0 p.0) ps) e).1)
      pairs ((Local t n, c) ∷ ps) e =
          let less : n < 0 = ltb-true n 0 (and_parts (t == 0) (nat_lt n 0) (and_parts (is_declared globals 0 (Local t n)) (list_all (λ (p : Var × ℤ). is_declared globals 0 p.0) ps) e).0).1 in
          let none : ⊥ = omega (arith, less) in absurd none
      pairs ((Havoc i, c) ∷ ps) e = absurd (no (and_parts false (list_all (λ (p : Var × ℤ). is_declared globals 0 p.0) ps) e).0)
        where
          no : false ≡ true → ⊥
          no e = cc

      go : (rs : List Row) → list_all (is_declared_row globals 0) rs ≡ true → AllByRecursion (λ (r : Row). value at_slots r.term ≡ value v r.term) rs
      go [] e = tt
      go (r ∷ rs) e =
          let q : (is_declared_row globals 0 r ≡ true) × (list_all (is_declared_row globals 0) rs ≡ true) = and_parts (is_declared_row globals 0 r) (list_all (is_declared_row globals 0) rs) e in
          (same_value at_slots v r.term (pairs r.term.pairs q.0), go rs q.1)

-- ---- a slot is where its thread stands
slot_place : (ts : List ℕ) (s : ℕ) → IsChain (λ (a b : ℕ). a ≢ b) ts → s < length ts → place_in ts (get_or ts s 0) ≡ s
slot_place [] s d h = let no : ⊥ = omega (arith, h) in absurd no
slot_place (t ∷ ts) zero d h = ap (λ (b : Bool). if b then 0 else suc (place_in ts t)) (eq-eqb t t refl)
slot_place (t ∷ ts) (suc s) d h = at (omega (arith, h)) (slot_place ts s d.1 (omega (arith, h)))
  where
    at : s < length ts → place_in ts (get_or ts s 0) ≡ s → place_in (t ∷ ts) (get_or ts s 0) ≡ suc s
    at low rest =
        ap (λ (b : Bool). if b then 0 else suc (place_in ts (get_or ts s 0))) (not_same t (get_or ts s 0) (all-contains (λ (u : ℕ). t ≢ u) ts (get_or ts s 0) d.0 (Contains-get_or ts s 0 low)))
        ∙ ap suc rest

-- the row of a predicate is that with its threads by slots
pub own_slots : (v : Var → ℤ) (globals locals : ℕ) (p : Predicate) (ts : List ℕ) → p.arity ≡ length ts → IsChain (λ (a b : ℕ). a ≢ b) ts →
    All (λ (q : Var × ℤ). IsDeclared globals locals p.arity q.0) p.row.term.pairs → value v (row_by (at_threads (map (place_in ts) ts)) p.row).term ≡ value v p.row.term
own_slots v globals locals p ts arity d declared =
    row_worth (at_threads (map (place_in ts) ts)) v p.row
    ∙ same_value (λ (x : Var). v (at_threads (map (place_in ts) ts) x)) v p.row.term (go p.row.term.pairs (recursion_from_All (λ (q : Var × ℤ). IsDeclared globals locals p.arity q.0) p.row.term.pairs declared))
  where
    go : (ps : List (Var × ℤ)) → AllByRecursion (λ (q : Var × ℤ). IsDeclared globals locals p.arity q.0) ps → AllByRecursion (λ (q : Var × ℤ). v (at_threads (map (place_in ts) ts) q.0) ≡ v q.0) ps
    go [] h = tt
    go ((Global n, c) ∷ ps) h = (refl, go ps h.1)
    go ((Local s n, c) ∷ ps) h =
        (ap (λ (t : ℕ). v (Local t n)) (get_or-map (place_in ts) ts s 0 0 (subst (λ (m : ℕ). s < m) arity h.0.0) ∙ slot_place ts s d (subst (λ (m : ℕ). s < m) arity h.0.0)), go ps h.1)
    go ((Havoc n, c) ∷ ps) h = absurd h.0

-- ---- the rows of the start and those of an initial entry, but for its last one
module _ (setting : Setting) (trace : List (ℕ × ℕ)) (lambda : List ℕ) (long : length (rows_at_start setting (threads_in_trace trace)) ≤ length lambda) (ts : List ℕ)
    (apart : IsChain (λ (a b : ℕ). a ≢ b) ts) where
  abbrev each : List Row
  each = setting.init_each

  abbrev pairs : List (ℕ × List ℕ)
  pairs = thread_weights setting trace lambda

  start_long : length (rows_at_start setting (threads_in_trace trace)) ≡ length setting.init_once + length (rows_of_each setting.init_each (threads_in_trace trace))
  start_long = length-append setting.init_once (rows_of_each setting.init_each (threads_in_trace trace))

  rest_there : length (rows_of_each setting.init_each (threads_in_trace trace)) ≤ length (drop (length setting.init_once) lambda)
  rest_there = rest_long (length setting.init_once) (length (rows_of_each setting.init_each (threads_in_trace trace))) lambda (let e : length (rows_at_start setting (threads_in_trace trace)) ≡ length setting.init_once + length (rows_of_each setting.init_each (threads_in_trace trace)) = start_long in omega (arith, long, e))

  once_there : length setting.init_once ≤ length lambda
  once_there = let e : length (rows_at_start setting (threads_in_trace trace)) ≡ length setting.init_once + length (rows_of_each setting.init_each (threads_in_trace trace)) = start_long in omega (arith, long, e)

  pairs_long : AreLong setting.init_each (thread_weights setting trace lambda)
  pairs_long = long_of setting.init_each (threads_in_trace trace) (drop (length setting.init_once) lambda) rest_there

  abbrev own : ℕ → List ℕ
  own = weights_of (zeros setting.init_each) (thread_weights setting trace lambda)

  abbrev others : List ℕ
  others = weights_of_others (zeros setting.init_each) (thread_weights setting trace lambda) ts

  -- at values seen by slots the start is worth what the initial rows are
  start_worth : (v : Var → ℤ) → weighted (value (at_slots v ts)) (rows_at_start setting (threads_in_trace trace)) lambda
      ≡ (weighted (value v) setting.init_once (once_weights setting lambda) +ℤ (slot_sums v setting.init_each 0 ts own +ℤ thread_sum v setting.init_each (length ts) others))
  start_worth v =
      split_weights (value (at_slots v ts)) setting.init_once (rows_of_each setting.init_each (threads_in_trace trace)) lambda once_there
      ∙ ap₂ (λ (y z : ℤ). y +ℤ z)
      (once_rows v ts setting.globals setting.init_once (take (length setting.init_once) lambda) setting.once_declared)
      (threads_rows v ts setting.init_each (threads_in_trace trace) (drop (length setting.init_once) lambda)
      (declared_rows_own setting.globals setting.locals setting.init_each setting.each_declared) rest_there
      ∙ counted v setting.init_each ts apart (thread_weights setting trace lambda)
      (keys_of v setting.init_each (length setting.init_each) (threads_in_trace trace) (drop (length setting.init_once) lambda) (threads_up [] trace tt)) pairs_long)

  flat_long : (v : Var → ℤ) (a : ℕ) (us : List ℕ) → length (flat_map own us) ≡ length (rows_from v setting.init_each a (length us))
  flat_long v a [] = refl
  flat_long v a (u ∷ us) =
      length-append (own u) (flat_map own us)
      ∙ (ap₂ (λ (m n : ℕ). m + n) (own_long setting.init_each (thread_weights setting trace lambda) u pairs_long ∙ sym (length-map setting.init_each (row_by (at_threads (a ∷ []))))) (flat_long v (suc a) us)
      ∙ sym (length-append (map (row_by (at_threads (a ∷ []))) setting.init_each) (rows_from v setting.init_each (suc a) (length us))))

  -- the rows of slots and of one thread more
  slots_long : (v : Var → ℤ) → length (flat_map own ts) ≡ length (rows_of_threads setting.init_each (length ts))
  slots_long v = flat_long v 0 ts ∙ ap length (rows_are v setting.init_each (length ts))

  extra_long : length others ≡ length (map (row_by (at_threads (length ts ∷ []))) setting.init_each)
  extra_long = others_long setting.init_each (thread_weights setting trace lambda) ts pairs_long ∙ sym (length-map setting.init_each (row_by (at_threads (length ts ∷ []))))

  threads_worth : (v : Var → ℤ) → weighted (value v) (rows_of_threads setting.init_each (length ts + 1)) (flat_map own ts ++ others)
      ≡ (slot_sums v setting.init_each 0 ts own +ℤ thread_sum v setting.init_each (length ts) others)
  threads_worth v =
      ap (λ (n : ℕ). weighted (value v) (rows_of_threads setting.init_each n) (flat_map own ts ++ others)) (add-one (length ts))
      ∙ (weighted_append (value v) (rows_of_threads setting.init_each (length ts)) (map (row_by (at_threads (length ts ∷ []))) setting.init_each) (flat_map own ts) others (slots_long v)
      ∙ ap (λ (z : ℤ). z +ℤ thread_sum v setting.init_each (length ts) others)
      (ap (λ (rows : List Row). weighted (value v) rows (flat_map own ts)) (sym (rows_are v setting.init_each (length ts)))
      ∙ slots_weighted v setting.init_each 0 ts own (λ t. own_long setting.init_each (thread_weights setting trace lambda) t pairs_long)))

  threads_long : length (flat_map own ts ++ others) ≡ length (rows_of_threads setting.init_each (length ts + 1))
  threads_long =
      length-append (flat_map own ts) others
      ∙ (ap₂ (λ (m n : ℕ). m + n) (slots_long (λ x. pos 0)) extra_long
      ∙ (sym (length-append (rows_of_threads setting.init_each (length ts)) (map (row_by (at_threads (length ts ∷ []))) setting.init_each))
      ∙ ap (λ (n : ℕ). length (rows_of_threads setting.init_each n)) (sym (add-one (length ts)))))

  -- all rows of the entry, the last one worth so much
  pub entry_worth : (v : Var → ℤ) (last : Row) (n : ℕ) →
      weighted (value v) (setting.init_once ++ (rows_of_threads setting.init_each (length ts + 1) ++ last ∷ [])) (initial_weights setting trace lambda ts ++ n ∷ [])
      ≡ (weighted (value (at_slots v ts)) (rows_at_start setting (threads_in_trace trace)) lambda +ℤ (pos n *ℤ value v last.term))
  entry_worth v last n =
      ap (weighted (value v) (setting.init_once ++ (rows_of_threads setting.init_each (length ts + 1) ++ last ∷ []))) (append_assoc (once_weights setting lambda) (flat_map own ts ++ others) (n ∷ []))
      ∙ (weighted_append (value v) setting.init_once (rows_of_threads setting.init_each (length ts + 1) ++ last ∷ []) (once_weights setting lambda) ((flat_map own ts ++ others) ++ n ∷ [])
      (length-take-le (length setting.init_once) lambda once_there)
      ∙ (ap (λ (z : ℤ). weighted (value v) setting.init_once (once_weights setting lambda) +ℤ z)
      (weighted_append (value v) (rows_of_threads setting.init_each (length ts + 1)) (last ∷ []) (flat_map own ts ++ others) (n ∷ []) threads_long)
      ∙ joined (weighted (value v) setting.init_once (once_weights setting lambda)) (weighted (value v) (rows_of_threads setting.init_each (length ts + 1)) (flat_map own ts ++ others))
      (slot_sums v setting.init_each 0 ts own +ℤ thread_sum v setting.init_each (length ts) others) (pos n *ℤ value v last.term)
      (weighted (value (at_slots v ts)) (rows_at_start setting (threads_in_trace trace)) lambda) (threads_worth v) (start_worth v)))
    where
      joined : (a b c z s : ℤ) → b ≡ c → s ≡ (a +ℤ c) → (a +ℤ (b +ℤ (z +ℤ pos 0))) ≡ (s +ℤ z)
      joined a b c z s e f = omega (arith, ints, e, f)

  pub entry_long : (last : Row) (n : ℕ) → length (initial_weights setting trace lambda ts ++ n ∷ []) ≡ length (setting.init_once ++ (rows_of_threads setting.init_each (length ts + 1) ++ last ∷ []))
  entry_long last n =
      ap length (append_assoc (once_weights setting lambda) (flat_map own ts ++ others) (n ∷ []))
      ∙ (length-append (once_weights setting lambda) ((flat_map own ts ++ others) ++ n ∷ [])
      ∙ (ap₂ (λ (a b : ℕ). a + b) (length-take-le (length setting.init_once) lambda once_there)
      (length-append (flat_map own ts ++ others) (n ∷ []) ∙ (ap (λ (m : ℕ). m + 1) threads_long ∙ sym (length-append (rows_of_threads setting.init_each (length ts + 1)) (last ∷ []))))
      ∙ sym (length-append setting.init_once (rows_of_threads setting.init_each (length ts + 1) ++ last ∷ []))))
