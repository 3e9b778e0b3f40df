-- Choices that are taken one after another.
use Rattle.std.proofs.Common.{◌≡◌, ◌≢◌, Bool, true, false, refl, sym, ap, ◌∙◌, ℕ, suc, ◌<◌, ◌+◌, ℤ, List, [], ◌∷◌, ◌++◌, length, get_or, drop, append_assoc, if◌then◌else◌}
use Rattle.std.specs.Prelude.{Option, Some, None, option_map}
use Rattle.std.specs.Ordering.{int_eq}
use Rattle.std.specs.Option.{option_and_then}
use Rattle.std.proofs.lemmas.List.{drop_more}
use Rattle.ps_graph.specs.Picks.{choice_of, fit, havocs_of, if_all_used}
use Rattle.ps_graph.specs.declared.edge.Pick.{Pick}
use Rattle.ps_graph.specs.declared.edge.Pick.TheVariants.{Star, Value}
use Rattle.ps_trace.specs.inner.Picking.{havocs_from, with_choice}

some_none : {X : Type 0} (x : X) → None ≡ Some x → ⊥
some_none x e = cc

-- a value before those that are used
value_first : (c : ℤ) (o : Option (List ℤ × List ℤ)) →
    option_and_then if_all_used (option_map (λ (q : List ℤ × List ℤ). (c ∷ q.0, q.1)) o) ≡ option_map (λ (hs : List ℤ). c ∷ hs) (option_and_then if_all_used o)
value_first c None = refl
value_first c (Some (hs, [])) = refl
value_first c (Some (hs, d ∷ ds)) = refl

step_from : (so_far : List ℤ) (p : Pick) (c : ℤ) (ps : List Pick) (cs : List ℤ) →
    havocs_from so_far (p ∷ ps) (c ∷ cs) ≡ option_and_then (λ (hs : List ℤ). havocs_from hs ps cs) (with_choice so_far p c)
step_from so_far (Star b) c ps cs = at (int_eq c (choice_of b))
  where
    at : (t : Bool) → option_map (λ (hs : List ℤ). so_far ++ hs) (option_and_then if_all_used (if t then fit ps cs else None))
        ≡ option_and_then (λ (hs : List ℤ). havocs_from hs ps cs) (if t then Some so_far else None)
    at true = refl
    at false = refl
step_from so_far Value c ps cs = ap (option_map (λ (hs : List ℤ). so_far ++ hs)) (value_first c (fit ps cs)) ∙ at (havocs_of ps cs)
  where
    at : (o : Option (List ℤ)) → option_map (λ (hs : List ℤ). so_far ++ hs) (option_map (λ (hs : List ℤ). c ∷ hs) o) ≡ option_map (λ (hs : List ℤ). (so_far ++ c ∷ []) ++ hs) o
    at None = refl
    at (Some hs) = ap Some (sym (append_assoc so_far (c ∷ []) hs))

pub picked_on : (picks : List Pick) (choices : List ℤ) (i : ℕ) (p : Pick) (c : ℤ) (so_far new : List ℤ) (b : Bool) → i < length picks → i < length choices →
    with_choice so_far (get_or picks i p) (get_or choices i c) ≡ (if b then Some new else None) → havocs_of picks choices ≡ havocs_from so_far (drop i picks) (drop i choices) →
    havocs_of picks choices ≡ (if b then havocs_from new (drop (i + 1) picks) (drop (i + 1) choices) else None)
picked_on picks choices i p c so_far new b w v e h =
    h ∙ ap (λ (ps : List Pick). havocs_from so_far ps (drop i choices)) (drop_more picks i p w)
    ∙ ap (havocs_from so_far (get_or picks i p ∷ drop (i + 1) picks)) (drop_more choices i c v)
    ∙ step_from so_far (get_or picks i p) (get_or choices i c) (drop (i + 1) picks) (drop (i + 1) choices)
    ∙ ap (option_and_then (λ (hs : List ℤ). havocs_from hs (drop (i + 1) picks) (drop (i + 1) choices))) e ∙ at b
  where
    at : (t : Bool) → option_and_then (λ (hs : List ℤ). havocs_from hs (drop (i + 1) picks) (drop (i + 1) choices)) (if t then Some new else None)
        ≡ (if t then havocs_from new (drop (i + 1) picks) (drop (i + 1) choices) else None)
    at true = refl
    at false = refl

nothing_before : (o : Option (List ℤ)) → o ≡ option_map (λ (hs : List ℤ). [] ++ hs) o
nothing_before None = refl
nothing_before (Some hs) = refl

pub picked_start : (picks : List Pick) (choices so_far : List ℤ) → so_far ≡ [] → havocs_of picks choices ≡ havocs_from so_far picks choices
picked_start picks choices so_far e = nothing_before (havocs_of picks choices) ∙ ap (λ (gs : List ℤ). havocs_from gs picks choices) (sym e)

pub picked_end : (picks ps : List Pick) (choices cs so_far : List ℤ) → ps ≡ [] → cs ≡ [] → havocs_of picks choices ≡ havocs_from so_far ps cs → havocs_of picks choices ≡ Some so_far
picked_end picks ps choices cs so_far e f h =
    h ∙ ap (λ (qs : List Pick). havocs_from so_far qs cs) e ∙ ap (havocs_from so_far []) f ∙ ap Some (append_nil so_far)
  where
    append_nil : (hs : List ℤ) → hs ++ [] ≡ hs
    append_nil [] = refl
    append_nil (h ∷ hs) = ap (λ (gs : List ℤ). h ∷ gs) (append_nil hs)

-- each pick takes one choice
unequal : (ps : List Pick) (cs : List ℤ) → length ps ≢ length cs → havocs_from [] ps cs ≡ None
unequal [] [] n = absurd (n refl)
unequal [] (c ∷ cs) n = refl
unequal (Star b ∷ ps) [] n = refl
unequal (Value ∷ ps) [] n = refl
unequal (p ∷ ps) (c ∷ cs) n = step_from [] p c ps cs ∙ at (with_choice [] p c) (λ e. n (ap suc e)) (λ m. unequal ps cs m)
  where
    moved : (hs : List ℤ) (o : Option (List ℤ)) → option_map (λ (gs : List ℤ). [] ++ gs) o ≡ None → option_map (λ (gs : List ℤ). hs ++ gs) o ≡ None
    moved hs None e = refl
    moved hs (Some gs) e = absurd (some_none gs (sym e))

    at : (o : Option (List ℤ)) → length ps ≢ length cs → (length ps ≢ length cs → havocs_from [] ps cs ≡ None) → option_and_then (λ (hs : List ℤ). havocs_from hs ps cs) o ≡ None
    at None m rest = refl
    at (Some hs) m rest = moved hs (havocs_of ps cs) (rest m)

pub picked_none : (ps : List Pick) (cs : List ℤ) → length ps ≢ length cs → havocs_of ps cs ≡ None
picked_none ps cs n = nothing_before (havocs_of ps cs) ∙ unequal ps cs n
