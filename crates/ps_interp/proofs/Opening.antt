-- The multipliers of the rows at the start of a trace.
use Rattle.std.proofs.Common.{◌≡◌, Bool, true, false, ◌==◌, refl, sym, ap, ap₂, ◌∙◌, subst, ℕ, zero, suc, ◌+◌, ◌-◌, ◌<◌, ◌≤◌, ◌^◌, List, [], ◌∷◌, ◌++◌, append_assoc, eq-eqb, lit<, length, length-append, length-drop, length-take-le, map, take, drop, get_or, All, Result, Ok, Err, if◌then◌else◌, arith}
use Rattle.std.specs.Prelude.{OnOk, is_ok}
use Rattle.std.specs.List.{AllByRecursion, list_any}
use Rattle.std.proofs.lemmas.List.{append-nil, drop-drop, drop_all, length-map}
use Rattle.std.proofs.lemmas.List.Elements.{All-push, All-from_recursion, recursion_from_All}
use Rattle.ps_command.specs.declared.setting.Setting.{Setting}
use Rattle.ps_interp.specs.Weights.{added, weights_by_thread, weights_of, weights_of_others, zeros}
use Rattle.ps_interp.specs.declared.start.ThreadWeights.{ThreadWeights}
use Rattle.ps_interp.specs.inner.Starts.{HaveWeights, IsSmall, all_weights, weights_in}
use Rattle.ps_term.specs.declared.row.Row.{Row}
use Rattle.ps_trace.specs.Rows.{row_of_thread, rows_at_start, rows_of_each}
use Rattle.ps_interp.proofs.Adding.{cut}
use Rattle.ps_interp.proofs.Extra.{AreLong, others_long}

-- ---- the multipliers are cut into those of the threads
each_long : (each : List Row) (k : ℕ) (ks : List ℕ) → length (rows_of_each each (k ∷ ks)) ≡ length each + length (rows_of_each each ks)
each_long each k ks =
    length-append (map (row_of_thread k 0) each) (rows_of_each each ks) ∙ ap (λ (n : ℕ). n + length (rows_of_each each ks)) (length-map each (row_of_thread k 0))

pub record Started (setting : Setting) (threads lambda : List ℕ) (done : List ThreadWeights) (i at : ℕ) : Type 0 where
  pub parts : all_weights done ++ weights_by_thread (length setting.init_each) (drop i threads) (drop at lambda)
      ≡ weights_by_thread (length setting.init_each) threads (drop (length setting.init_once) lambda)
  pub room : at + length (rows_of_each setting.init_each (drop i threads)) ≡ length (rows_at_start setting threads)
  pub each : HaveWeights setting.init_each done

module _ (setting : Setting) (threads lambda : List ℕ) where
  pub started_first : (done : List ThreadWeights) (at : ℕ) → done ≡ [] → at ≡ length setting.init_once → Started setting threads lambda done 0 at
  started_first done at e f = subst (λ (d : List ThreadWeights). Started setting threads lambda d 0 at) (sym e) (subst (λ (n : ℕ). Started setting threads lambda [] 0 n) (sym f) (record {
    parts = refl;
    room = sym (length-append setting.init_once (rows_of_each setting.init_each threads));
    each = λ k d h. absurd (omega (arith, h));
  }))

  module _ (done : List ThreadWeights) (i at k : ℕ) (within : length (rows_at_start setting threads) ≤ length lambda) (below : i < length threads) (is : k ≡ get_or threads i k)
      (s : Started setting threads lambda done i at) where
    here : drop i threads ≡ k ∷ drop (i + 1) threads
    here = cut threads i k below is

    rows_here : length (rows_of_each setting.init_each (drop i threads)) ≡ length setting.init_each + length (rows_of_each setting.init_each (drop (i + 1) threads))
    rows_here = ap (λ (ks : List ℕ). length (rows_of_each setting.init_each ks)) here ∙ each_long setting.init_each k (drop (i + 1) threads)

    pub started_room : at + length setting.init_each ≤ length lambda
    started_room = omega (arith, s.room, rows_here, within)

    pub started_more : (more : List ThreadWeights) (w : ThreadWeights) (count : ℕ) → more ≡ done ++ w ∷ [] → count ≡ length setting.init_each → w.thread ≡ k → w.weights.now ≡ take count (drop at lambda) →
        Started setting threads lambda more (i + 1) (at + count)
    started_more more w count all long t ws = subst (λ (d : List ThreadWeights). Started setting threads lambda d (i + 1) (at + count)) (sym all) (subst (λ (n : ℕ). Started setting threads lambda (done ++ w ∷ []) (i + 1) (at + n)) (sym long) (record {
      parts =
          ap (λ (ps : List (ℕ × List ℕ)). ps ++ later) (pushed done)
          ∙ (append_assoc (all_weights done) (weights_in w ∷ []) later
          ∙ (ap (λ (p : ℕ × List ℕ). all_weights done ++ p ∷ later) own
          ∙ (ap (λ (vs : List ℕ). all_weights done ++ (k, take (length setting.init_each) (drop at lambda)) ∷ weights_by_thread (length setting.init_each) (drop (i + 1) threads) vs) (sym (drop-drop (length setting.init_each) at lambda))
          ∙ (sym (ap (λ (ks : List ℕ). all_weights done ++ weights_by_thread (length setting.init_each) ks (drop at lambda)) here) ∙ s.parts))));
      room = let r : length (rows_of_each setting.init_each (drop i threads)) ≡ length setting.init_each + length (rows_of_each setting.init_each (drop (i + 1) threads)) = rows_here in omega (arith, s.room, r);
      each = All-push (λ (x : ThreadWeights). length x.weights.now ≡ length setting.init_each) done w s.each
          (ap length ws ∙ (ap (λ (n : ℕ). length (take n (drop at lambda))) long ∙ length-take-le (length setting.init_each) (drop at lambda)
          (let e : length (drop at lambda) ≡ length lambda - at = length-drop at lambda in let r : at + length setting.init_each ≤ length lambda = started_room in omega (arith, e, r))));
    }))
      where
        later : List (ℕ × List ℕ)
        later = weights_by_thread (length setting.init_each) (drop (i + 1) threads) (drop (at + length setting.init_each) lambda)

        pushed : (ds : List ThreadWeights) → all_weights (ds ++ w ∷ []) ≡ all_weights ds ++ weights_in w ∷ []
        pushed [] = refl
        pushed (d ∷ ds) = ap (λ (ps : List (ℕ × List ℕ)). weights_in d ∷ ps) (pushed ds)

        own : weights_in w ≡ (k, take (length setting.init_each) (drop at lambda))
        own = ap₂ (λ (n : ℕ) (ns : List ℕ). let p : ℕ × List ℕ = (n, ns) in p) t (ws ∙ ap (λ (n : ℕ). take n (drop at lambda)) long)

  pub started_all : (done : List ThreadWeights) (i at : ℕ) → Started setting threads lambda done i at → length threads ≤ i →
      (all_weights done ≡ weights_by_thread (length setting.init_each) threads (drop (length setting.init_once) lambda)) × (at ≡ length (rows_at_start setting threads))
  started_all done i at s h = (
    sym (append-nil (all_weights done)) ∙ (sym (ap (λ (ks : List ℕ). all_weights done ++ weights_by_thread (length setting.init_each) ks (drop at lambda)) (drop_all i threads h)) ∙ s.parts),
    (let r : length (rows_of_each setting.init_each (drop i threads)) ≡ 0 = ap (λ (ks : List ℕ). length (rows_of_each setting.init_each ks)) (drop_all i threads h) in omega (arith, s.room, r)),
  )

-- ---- sums for all threads in no slot
small_part : (ms ns : List ℕ) → length ms ≡ length ns → AllByRecursion IsSmall (added ms ns) → AllByRecursion IsSmall ns
small_part [] [] e h = tt
small_part [] (n ∷ ns) e h = absurd (let no : ⊥ = omega (arith, e) in no)
small_part (m ∷ ms) [] e h = tt
small_part (m ∷ ms) (n ∷ ns) e h = ((let s : m + n < 2 ^ 127 = h.0 in omega (arith, s)), small_part ms ns (omega (arith, e)) h.1)

rest_long : (each : List Row) (n : ℕ) (threads : List ThreadWeights) → AllByRecursion (λ (t : ThreadWeights). length t.weights.now ≡ length each) threads → AreLong each (all_weights (drop n threads))
rest_long each zero [] h = tt
rest_long each zero (t ∷ ts) h = (h.0, rest_long each zero ts h.1)
rest_long each (suc n) [] h = tt
rest_long each (suc n) (t ∷ ts) h = rest_long each n ts h.1

module _ (each : List Row) (slots : List ℕ) where
  abbrev others : List ThreadWeights → List ℕ
  others threads = weights_of_others (zeros each) (all_weights threads) slots

  rest_small : (left : ℕ) (threads : List ThreadWeights) → AllByRecursion (λ (t : ThreadWeights). length t.weights.now ≡ length each) threads →
      AllByRecursion IsSmall (others threads) → AllByRecursion IsSmall (others (drop left threads))
  rest_small zero threads l h = h
  rest_small (suc left) [] l h = h
  rest_small (suc left) (t ∷ ts) l h = rest_small left ts l.1 (at (list_any (λ s. s == t.thread) slots) h)
    where
      at : (b : Bool) → AllByRecursion IsSmall (if b then others ts else added t.weights.now (others ts)) → AllByRecursion IsSmall (others ts)
      at true k = k
      at false k = small_part t.weights.now (others ts) (l.0 ∙ sym (others_long each (all_weights ts) slots (rest_long each 0 ts l.1))) k

  others_small : (left : ℕ) (threads : List ThreadWeights) → HaveWeights each threads → All IsSmall (others threads) → All IsSmall (others (drop left threads))
  others_small left threads l h = All-from_recursion IsSmall (others (drop left threads))
      (rest_small left threads (recursion_from_All (λ (t : ThreadWeights). length t.weights.now ≡ length each) threads l) (recursion_from_All IsSmall (others threads) h))

-- ---- sums place by place
pub added_whole : (ws sums list : List ℕ) (i : ℕ) → list ++ added (drop i ws) (drop i sums) ≡ added ws sums → length ws ≡ length sums → length sums ≤ i → list ≡ added ws sums
added_whole ws sums list i e long end =
    sym (append-nil list) ∙ (sym (ap₂ (λ (ms ns : List ℕ). list ++ added ms ns) (drop_all i ws (omega (arith, long, end))) (drop_all i sums end)) ∙ e)

added_at : (ws sums : List ℕ) (i : ℕ) → i < length sums → length ws ≡ length sums → (i < length (added ws sums)) × (get_or (added ws sums) i 0 ≡ get_or ws i 0 + get_or sums i 0)
added_at [] [] i h e = absurd (let no : ⊥ = omega (arith, h) in no)
added_at [] (n ∷ ns) i h e = absurd (let no : ⊥ = omega (arith, e) in no)
added_at (m ∷ ms) [] i h e = absurd (let no : ⊥ = omega (arith, e) in no)
added_at (m ∷ ms) (n ∷ ns) zero h e = (omega arith, refl)
added_at (m ∷ ms) (n ∷ ns) (suc i) h e = at (added_at ms ns i (omega (arith, h)) (omega (arith, e)))
  where
    at : (i < length (added ms ns)) × (get_or (added ms ns) i 0 ≡ get_or ms i 0 + get_or ns i 0) →
        (suc i < length (added (m ∷ ms) (n ∷ ns))) × (get_or (added (m ∷ ms) (n ∷ ns)) (suc i) 0 ≡ get_or (m ∷ ms) (suc i) 0 + get_or (n ∷ ns) (suc i) 0)
    at (l, f) = (omega (arith, l), f)

pub added_past : (ws sums : List ℕ) (i : ℕ) → i < length sums → length ws ≡ length sums → ¬ IsSmall (get_or ws i 0 + get_or sums i 0) → ¬ All IsSmall (added ws sums)
added_past ws sums i h e past all = at (added_at ws sums i h e)
  where
    at : (i < length (added ws sums)) × (get_or (added ws sums) i 0 ≡ get_or ws i 0 + get_or sums i 0) → ⊥
    at (l, f) = past (subst IsSmall f (all i 0 l))

-- ---- the multipliers of one thread
pub own_found : (none : List ℕ) (threads : List ThreadWeights) (i k : ℕ) (x : ThreadWeights) → i < length threads → x ≡ get_or threads i x → x.thread ≡ k →
    weights_of none (all_weights (drop i threads)) k ≡ x.weights.now
own_found none threads i k x h e t =
    ap (λ (ts : List ThreadWeights). weights_of none (all_weights ts) k) (cut threads i x h e)
    ∙ ap (λ (b : Bool). if b then x.weights.now else weights_of none (all_weights (drop (i + 1) threads)) k) (eq-eqb x.thread k t)

pub own_none : (none : List ℕ) (threads : List ThreadWeights) (i k : ℕ) → length threads ≤ i → weights_of none (all_weights (drop i threads)) k ≡ none
own_none none threads i k h = ap (λ (ts : List ThreadWeights). weights_of none (all_weights ts) k) (drop_all i threads h)

-- ---- the sums for all threads in no slot, thread by thread
pub zeros_small : (rows : List Row) → All IsSmall (zeros rows)
zeros_small rows = All-from_recursion IsSmall (zeros rows) (go rows)
  where
    go : (rs : List Row) → AllByRecursion IsSmall (zeros rs)
    go [] = tt
    go (r ∷ rs) = ((let s : 0 < 2 ^ 127 = lit< tt in s), go rs)

one_long : (each : List Row) (threads : List ThreadWeights) (i : ℕ) (d : ThreadWeights) → HaveWeights each threads → i < length threads → length (get_or threads i d).weights.now ≡ length each
one_long each threads i d h below = h i d below

pub added_long_as : (each : List Row) (threads : List ThreadWeights) (slots sums : List ℕ) (left : ℕ) (d : ThreadWeights) → HaveWeights each threads → 0 < left → left ≤ length threads →
    sums ≡ weights_of_others (zeros each) (all_weights (drop left threads)) slots → length (get_or threads (left - 1) d).weights.now ≡ length sums
added_long_as each threads slots sums left d h some within e =
    one_long each threads (left - 1) d h (omega (arith, some, within))
    ∙ sym (ap length e ∙ others_long each (all_weights (drop left threads)) slots
    (rest_long each left threads (recursion_from_All (λ (t : ThreadWeights). length t.weights.now ≡ length each) threads h)))

pub others_past : (each : List Row) (slots : List ℕ) (threads : List ThreadWeights) (left : ℕ) (x : ThreadWeights) (sums : List ℕ) → HaveWeights each threads → 0 < left → left ≤ length threads →
    x ≡ get_or threads (left - 1) x → list_any (λ s. s == x.thread) slots ≡ false → sums ≡ weights_of_others (zeros each) (all_weights (drop left threads)) slots →
    ¬ All IsSmall (added x.weights.now sums) → ¬ All IsSmall (weights_of_others (zeros each) (all_weights threads) slots)
others_past each slots threads left x sums long some within e other is past all =
    past (subst (λ (ns : List ℕ). All IsSmall (added x.weights.now ns)) (sym is) (subst (All IsSmall) here_is (others_small each slots (left - 1) threads long all)))
  where
    here_is : weights_of_others (zeros each) (all_weights (drop (left - 1) threads)) slots ≡ added x.weights.now (weights_of_others (zeros each) (all_weights (drop left threads)) slots)
    here_is =
        ap (λ (ts : List ThreadWeights). weights_of_others (zeros each) (all_weights ts) slots)
        (cut threads (left - 1) x (omega (arith, some, within)) e ∙ ap (λ (n : ℕ). x ∷ drop n threads) (let s : left - 1 + 1 ≡ left = omega (arith, some) in s))
        ∙ ap (λ (b : Bool). if b then weights_of_others (zeros each) (all_weights (drop left threads)) slots else added x.weights.now (weights_of_others (zeros each) (all_weights (drop left threads)) slots)) other

-- what is appended where there is memory
pub ok_items : {T E : Type 0} (r : Result T E) (new all old : List ℕ) → new ≡ (if is_ok r then all else old) → OnOk r (new ≡ all)
ok_items (Ok x) new all old h = h
ok_items (Err e) new all old h = tt
