-- Steps in columns: how many they are, the step of a number, one step more, and the steps from a number on.
use Rattle.std.proofs.Common.{◌≡◌, refl, sym, ap, ap₂, ◌∙◌, subst, ℕ, zero, suc, ◌<◌, ◌≤◌, ◌+◌, ◌-◌, ℤ, List, [], ◌∷◌, ◌++◌, length, get_or, take, drop, add-one, arith}
use Rattle.std.specs.Prelude.{Some, option_map, slice_get, slice_index, slice_range}
use Rattle.std.proofs.lemmas.List.{drop_at, drop-append-le, get_or_read, length-append, length-drop, length_push, take_all, take-append-le}
use Rattle.ps_trace.specs.declared.step.Step.{Step}
use Rattle.ps_trace.specs.inner.Columns.{AreColumns, AreEnds, steps_from}

abbrev step_of : ℕ → List ℤ → Step
step_of thread choices = record { thread = thread; choices = choices }

length-steps_from : (start : ℕ) (ts es : List ℕ) (cs : List ℤ) → length ts ≡ length es → length (steps_from start ts es cs) ≡ length ts
length-steps_from start [] es cs h = refl
length-steps_from start (t ∷ ts) [] cs h = let no : ⊥ = omega (arith, h) in absurd no
length-steps_from start (t ∷ ts) (e ∷ es) cs h = ap suc (length-steps_from e ts es cs (omega (arith, h)))

-- ---- the step of a number
got : (start : ℕ) (ts es : List ℕ) (cs : List ℤ) (n : ℕ) → length ts ≡ length es → n < length ts →
    slice_get (steps_from start ts es cs) n ≡ Some (step_of (slice_index ts n) (slice_range cs (slice_index (start ∷ es) n) (slice_index es n)))
got start [] es cs n h w = let no : ⊥ = omega (arith, w) in absurd no
got start (t ∷ ts) [] cs n h w = let no : ⊥ = omega (arith, h) in absurd no
got start (t ∷ ts) (e ∷ es) cs zero h w = refl
got start (t ∷ ts) (e ∷ es) cs (suc n) h w = got e ts es cs n (omega (arith, h)) (omega (arith, w))

-- the same of steps that are seen as a list
module _ (ts es : List ℕ) (cs : List ℤ) (ss : List Step) (h : AreColumns ts es cs) (is : steps_from 0 ts es cs ≡ ss) where
  pub length_is : length ss ≡ length ts
  length_is = ap (λ (xs : List Step). length xs) (sym is) ∙ length-steps_from 0 ts es cs h.each

  pub step_is : (n : ℕ) → n < length ss → slice_get ss n ≡ Some (step_of (slice_index ts n) (slice_range cs (slice_index (0 ∷ es) n) (slice_index es n)))
  step_is n w = subst (λ (xs : List Step). slice_get xs n ≡ Some (step_of (slice_index ts n) (slice_range cs (slice_index (0 ∷ es) n) (slice_index es n)))) is
      (got 0 ts es cs n h.each (omega (arith, w, length_is)))

  pub thread_is : (n t : ℕ) → n < length ss → t ≡ get_or ts n t → option_map (λ (s : Step). s.thread) (slice_get ss n) ≡ Some t
  thread_is n t w e = ap (option_map (λ (s : Step). s.thread)) (step_is n w) ∙ ap Some (sym (get_or_read ts n t (omega (arith, w, length_is)) e 0))

  pub choices_are : (n : ℕ) (xs : List ℤ) → n < length ss → xs ≡ slice_range cs (slice_index (0 ∷ es) n) (slice_index es n) → option_map (λ (s : Step). s.choices) (slice_get ss n) ≡ Some xs
  choices_are n xs w e = ap (option_map (λ (s : Step). s.choices)) (step_is n w) ∙ ap Some (sym e)

last_above : (start : ℕ) (es : List ℕ) (last : ℕ) → AreEnds start es last → start ≤ last
last_above start [] last h = omega (arith, h)
last_above start (e ∷ es) last h = omega (arith, h.0, last_above e es last h.1)

pub ends_within : (start : ℕ) (es : List ℕ) (last n : ℕ) → AreEnds start es last → n < length es → (slice_index (start ∷ es) n ≤ slice_index es n) × (slice_index es n ≤ last)
ends_within start [] last n h w = let no : ⊥ = omega (arith, w) in absurd no
ends_within start (e ∷ es) last zero h w = (h.0, last_above e es last h.1)
ends_within start (e ∷ es) last (suc n) h w = ends_within e es last n h.1 (omega (arith, w))

-- ---- one step more
ends_more : (start : ℕ) (es : List ℕ) (last e : ℕ) → AreEnds start es last → last ≤ e → AreEnds start (es ++ e ∷ []) e
ends_more start [] last e h w = (omega (arith, h, w), refl)
ends_more start (f ∷ es) last e h w = (h.0, ends_more f es last e h.1 w)

pub columns_more : (ts es : List ℕ) (cs xs : List ℤ) (t e : ℕ) (us fs : List ℕ) (ys : List ℤ) → AreColumns ts es cs → e ≡ length cs + length xs → us ≡ ts ++ t ∷ [] → fs ≡ es ++ e ∷ [] → ys ≡ cs ++ xs → AreColumns us fs ys
columns_more ts es cs xs t e us fs ys h is a b d = rw (a, b, d) (record {
  each = length_push ts t ∙ (ap (λ (n : ℕ). n + 1) h.each ∙ sym (length_push es e));
  ascend = subst (AreEnds 0 (es ++ e ∷ [])) (is ∙ sym (length-append cs xs)) (ends_more 0 es (length cs) e h.ascend (omega (arith, is)));
})

part_before : (start end : ℕ) (cs xs : List ℤ) → start ≤ end → end ≤ length cs → slice_range (cs ++ xs) start end ≡ slice_range cs start end
part_before start end cs xs a b =
    ap (take (end - start)) (drop-append-le start cs xs (omega arith)) ∙ take-append-le (end - start) (drop start cs) xs (omega (arith, length-drop start cs))

part_last : (start end : ℕ) (cs xs : List ℤ) → start ≡ length cs → end ≡ length cs + length xs → slice_range (cs ++ xs) start end ≡ xs
part_last start end cs xs a b = ap (take (end - start)) (drop_at cs xs start (sym a)) ∙ take_all (end - start) xs (omega arith)

steps_more : (start : ℕ) (ts es : List ℕ) (cs xs : List ℤ) (t e : ℕ) → length ts ≡ length es → AreEnds start es (length cs) → e ≡ length cs + length xs →
    steps_from start (ts ++ t ∷ []) (es ++ e ∷ []) (cs ++ xs) ≡ steps_from start ts es cs ++ step_of t xs ∷ []
steps_more start [] [] cs xs t e h a is = ap (λ (ys : List ℤ). step_of t ys ∷ []) (part_last start e cs xs a is)
steps_more start [] (f ∷ es) cs xs t e h a is = let no : ⊥ = omega (arith, h) in absurd no
steps_more start (u ∷ ts) [] cs xs t e h a is = let no : ⊥ = omega (arith, h) in absurd no
steps_more start (u ∷ ts) (f ∷ es) cs xs t e h a is =
    ap₂ (λ (ys : List ℤ) (ss : List Step). step_of u ys ∷ ss) (part_before start f cs xs a.0 (last_above f es (length cs) a.1))
    (steps_more f ts es cs xs t e (omega (arith, h)) a.1 is)

pub pushed : (ts es : List ℕ) (cs : List ℤ) (ss : List Step) (step : Step) (e : ℕ) (us fs : List ℕ) (ys : List ℤ) → AreColumns ts es cs → steps_from 0 ts es cs ≡ ss → e ≡ length cs + length step.choices →
    us ≡ ts ++ step.thread ∷ [] → fs ≡ es ++ e ∷ [] → ys ≡ cs ++ step.choices → steps_from 0 us fs ys ≡ ss ++ step ∷ []
pushed ts es cs ss step e us fs ys h is long a b d = rw (a, b, d, ← is) (steps_more 0 ts es cs step.choices step.thread e h.each h.ascend long)

-- ---- the steps from a number on
pub next_step : (ss : List Step) (n t : ℕ) (cs : List ℤ) → option_map (λ (s : Step). s.thread) (slice_get ss n) ≡ Some t → option_map (λ (s : Step). s.choices) (slice_get ss n) ≡ Some cs →
    drop n ss ≡ step_of t cs ∷ drop (n + 1) ss
next_step [] n t cs a b = absurd cc
next_step (s ∷ ss) zero t cs a b =
    let thread : s.thread ≡ t = cc in
    let choices : s.choices ≡ cs = cc in
    ap₂ (λ (k : ℕ) (xs : List ℤ). step_of k xs ∷ ss) thread choices
next_step (s ∷ ss) (suc n) t cs a b = rw add-one (rw add-one at (next_step ss n t cs a b))
