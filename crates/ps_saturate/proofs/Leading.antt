-- Steps of the making of lists of distinct threads.
use Rattle.std.proofs.Common.{◌≡◌, ◌<◌, ◌≤◌, ◌+◌, ◌-◌, ℕ, suc, Bool, true, false, List, [], ◌∷◌, ◌++◌, map, length, drop, get_or, sym, ap, ◌∙◌, append_assoc, cond, arith, add-one}
use Rattle.std.specs.List.{filter}
use Rattle.std.proofs.Math.Seq.{drop-cons}
use Rattle.ps_saturate.proofs.Trying.{append_nothing}
use Rattle.ps_saturate.specs.Patterns.{threads_from}
use Rattle.ps_saturate.specs.inner.Arranging.{arrangements, lacks, led_by, led_by_each}

led_kept : (t : ℕ) (x : List ℕ) (xs : List (List ℕ)) → lacks t x ≡ true → led_by t (x ∷ xs) ≡ (t ∷ x) ∷ led_by t xs
led_kept t x xs h = ap (λ (b : Bool). map (λ (list : List ℕ). t ∷ list) (cond b (x ∷ filter (lacks t) xs) (filter (lacks t) xs))) h

led_left : (t : ℕ) (x : List ℕ) (xs : List (List ℕ)) → lacks t x ≡ false → led_by t (x ∷ xs) ≡ led_by t xs
led_left t x xs h = ap (λ (b : Bool). map (λ (list : List ℕ). t ∷ list) (cond b (x ∷ filter (lacks t) xs) (filter (lacks t) xs))) h

-- what is left begins with the list at the place
left_at : {V : Type 0} (f : V → List ℕ) (lists : List V) (i : ℕ) (x : V) → i < length lists → x ≡ get_or lists i x → map f (drop i lists) ≡ f x ∷ map f (drop (i + 1) lists)
left_at {V} f lists i x within is =
    ap (λ (vs : List V). map f vs) (drop-cons lists i x within)
    ∙ ap (λ (y : V). f y ∷ map f (drop (suc i) lists)) (sym is)
    ∙ (let e : suc i ≡ i + 1 = sym (add-one i) in ap (λ (n : ℕ). f x ∷ map f (drop n lists)) e)

pub led_step : {V : Type 0} (f : V → List ℕ) (t : ℕ) (lists : List V) (i : ℕ) (x : V) (done next all : List (List ℕ)) → i < length lists → x ≡ get_or lists i x → lacks t (f x) ≡ true
    → next ≡ done ++ (t ∷ f x) ∷ [] → done ++ led_by t (map f (drop i lists)) ≡ all → next ++ led_by t (map f (drop (i + 1) lists)) ≡ all
led_step f t lists i x done next all within is kept next_is h =
    ap (λ (ls : List (List ℕ)). ls ++ led_by t (map f (drop (i + 1) lists))) next_is
    ∙ append_assoc done ((t ∷ f x) ∷ []) (led_by t (map f (drop (i + 1) lists)))
    ∙ ap (λ (ls : List (List ℕ)). done ++ ls) (sym (ap (led_by t) (left_at f lists i x within is) ∙ led_kept t (f x) (map f (drop (i + 1) lists)) kept))
    ∙ h

pub led_skip : {V : Type 0} (f : V → List ℕ) (t : ℕ) (lists : List V) (i : ℕ) (x : V) (done all : List (List ℕ)) → i < length lists → x ≡ get_or lists i x → lacks t (f x) ≡ false
    → done ++ led_by t (map f (drop i lists)) ≡ all → done ++ led_by t (map f (drop (i + 1) lists)) ≡ all
led_skip f t lists i x done all within is left h =
    ap (λ (ls : List (List ℕ)). done ++ ls) (sym (ap (led_by t) (left_at f lists i x within is) ∙ led_left t (f x) (map f (drop (i + 1) lists)) left)) ∙ h

-- one thread more
pub each_step : (lists : List (List ℕ)) (t count : ℕ) (done next all : List (List ℕ)) → t < count → next ≡ done ++ led_by t lists → done ++ led_by_each t (count - t) lists ≡ all → next ++ led_by_each (t + 1) (count - (t + 1)) lists ≡ all
each_step lists t count done next all less next_is h =
    ap (λ (ls : List (List ℕ)). ls ++ led_by_each (t + 1) (count - (t + 1)) lists) next_is
    ∙ append_assoc done (led_by t lists) (led_by_each (t + 1) (count - (t + 1)) lists)
    ∙ (let e : count - t ≡ suc (count - (t + 1)) = omega arith in ap (λ (n : ℕ). done ++ led_by_each t n lists) (sym e))
    ∙ h

pub each_end : (lists : List (List ℕ)) (t count : ℕ) (done all : List (List ℕ)) → count ≤ t → done ++ led_by_each t (count - t) lists ≡ all → done ≡ all
each_end lists t count done all end h =
    sym (append_nothing done) ∙ (let e : count - t ≡ 0 = omega arith in ap (λ (n : ℕ). done ++ led_by_each t n lists) (sym e)) ∙ h

-- one slot more
pub slot_step : (threads slot : ℕ) (done next : List (List ℕ)) → next ≡ led_by_each 0 threads done → done ≡ arrangements threads slot → next ≡ arrangements threads (slot + 1)
slot_step threads slot done next next_is h = next_is ∙ ap (led_by_each 0 threads) h ∙ ap (arrangements threads) (let e : suc slot ≡ slot + 1 = omega arith in e)

-- threads from one on
pub thread_step : (t count : ℕ) (done next all : List ℕ) → t < count → next ≡ done ++ (t + 1) ∷ [] → done ++ threads_from (t + 1) (count - t) ≡ all → next ++ threads_from ((t + 1) + 1) (count - (t + 1)) ≡ all
thread_step t count done next all less next_is h =
    ap (λ (ls : List ℕ). ls ++ threads_from ((t + 1) + 1) (count - (t + 1))) next_is
    ∙ append_assoc done ((t + 1) ∷ []) (threads_from ((t + 1) + 1) (count - (t + 1)))
    ∙ (let e : count - t ≡ suc (count - (t + 1)) = omega arith in ap (λ (n : ℕ). done ++ threads_from (t + 1) n) (sym e))
    ∙ h
