-- The edges that leave each location, added one after another.
use Rattle.std.proofs.Common.{◌≡◌, ◌≢◌, Bool, true, false, ◌==◌, refl, sym, ap, ap₂, ◌∙◌, subst, ℕ, zero, suc, ◌<◌, ◌+◌, List, [], ◌∷◌, ◌++◌, length, take, get_or, if◌then◌else◌, arith}
use Rattle.std.specs.Prelude.{slice_index_or, slice_set, replicate}
use Rattle.std.specs.List.{AllByRecursion}
use Rattle.std.proofs.lemmas.Bool.{eqb-true, eqb-false}
use Rattle.std.proofs.lemmas.List.{get_or-set_same, get_or-set_other, map-append, take_more}
use Rattle.std.proofs.lemmas.List.Elements.{filter-append}
use Rattle.ps_graph.specs.Follows.{leaving}
use Rattle.ps_graph.specs.declared.edge.Edge.{Edge}
use Rattle.ps_trace.specs.inner.Leaving.{AreLeaving, edges_by, HoldsAll, no_edge}

-- an edge more at the end
get_front : (xs : List Edge) (y : Edge) (n : ℕ) → n < length xs → slice_index_or (xs ++ y ∷ []) n no_edge ≡ slice_index_or xs n no_edge
get_front [] y n w = let no : ⊥ = omega (arith, w) in absurd no
get_front (x ∷ xs) y zero w = refl
get_front (x ∷ xs) y (suc n) w = get_front xs y n (omega (arith, w))

get_last : (xs : List Edge) (y : Edge) → slice_index_or (xs ++ y ∷ []) (length xs) no_edge ≡ y
get_last [] y = refl
get_last (x ∷ xs) y = get_last xs y

by_front : (xs : List Edge) (y : Edge) (ns : List ℕ) → AllByRecursion (λ (n : ℕ). n < length xs) ns → edges_by (xs ++ y ∷ []) ns ≡ edges_by xs ns
by_front xs y [] w = refl
by_front xs y (n ∷ ns) w = ap₂ (λ (e : Edge) (es : List Edge). e ∷ es) (get_front xs y n w.0) (by_front xs y ns w.1)

length_push : (xs : List Edge) (y : Edge) → length (xs ++ y ∷ []) ≡ length xs + 1
length_push [] y = omega arith
length_push (x ∷ xs) y = let h : length (xs ++ y ∷ []) ≡ length xs + 1 = length_push xs y in omega (arith, h)

wider : (m n : ℕ) (ns : List ℕ) → m < n → AllByRecursion (λ (k : ℕ). k < m) ns → AllByRecursion (λ (k : ℕ). k < n) ns
wider m n [] l w = tt
wider m n (k ∷ ns) l w = (let k_in : k < m = w.0 in omega arith, wider m n ns l w.1)

all_push : (m : ℕ) (ns : List ℕ) (k : ℕ) → AllByRecursion (λ (j : ℕ). j < m) ns → k < m → AllByRecursion (λ (j : ℕ). j < m) (ns ++ k ∷ [])
all_push m [] k w l = (l, tt)
all_push m (n ∷ ns) k w l = (w.0, all_push m ns k w.1 l)

leaving_push : (a : ℕ) (xs : List Edge) (y : Edge) → leaving a (xs ++ y ∷ []) ≡ leaving a xs ++ leaving a (y ∷ [])
leaving_push a xs y = filter-append (λ (e : Edge). e.source == a) xs (y ∷ [])

append_nil : (xs : List Edge) → xs ++ [] ≡ xs
append_nil [] = refl
append_nil (x ∷ xs) = ap (λ (ys : List Edge). x ∷ ys) (append_nil xs)

-- the list of the edge's source gets it
mine : (xs : List Edge) (y : Edge) (a : ℕ) (ns : List ℕ) → y.source ≡ a → (y.source == a) ≡ true → AreLeaving xs a ns → AreLeaving (xs ++ y ∷ []) a (ns ++ length xs ∷ [])
mine xs y a ns s t h = record {
  same = map-append (λ (n : ℕ). slice_index_or (xs ++ y ∷ []) n no_edge) ns (length xs ∷ [])
      ∙ ap₂ (λ (es : List Edge) (e : Edge). es ++ e ∷ []) (by_front xs y ns h.within ∙ h.same) (get_last xs y)
      ∙ ap (λ (es : List Edge). leaving a xs ++ es) (sym (ap (λ (b : Bool). if b then y ∷ [] else []) t))
      ∙ sym (leaving_push a xs y);
  within = subst (λ (m : ℕ). AllByRecursion (λ (k : ℕ). k < m) (ns ++ length xs ∷ [])) (sym (length_push xs y))
      (all_push (length xs + 1) ns (length xs) (wider (length xs) (length xs + 1) ns (omega arith) h.within) (omega arith));
}

-- the others don't
other : (xs : List Edge) (y : Edge) (a : ℕ) (ns : List ℕ) → (y.source == a) ≡ false → AreLeaving xs a ns → AreLeaving (xs ++ y ∷ []) a ns
other xs y a ns t h = record {
  same = by_front xs y ns h.within ∙ h.same ∙ sym (append_nil (leaving a xs))
      ∙ ap (λ (es : List Edge). leaving a xs ++ es) (sym (ap (λ (b : Bool). if b then y ∷ [] else []) t))
      ∙ sym (leaving_push a xs y);
  within = subst (λ (m : ℕ). AllByRecursion (λ (k : ℕ). k < m) ns) (sym (length_push xs y)) (wider (length xs) (length xs + 1) ns (omega arith) h.within);
}

more : (xs : List Edge) (y : Edge) (lists : List (List ℕ)) → y.source < length lists → HoldsAll xs lists →
    HoldsAll (xs ++ y ∷ []) (slice_set lists y.source (slice_index_or lists y.source [] ++ length xs ∷ []))
more xs y lists w h a = at (y.source == a) refl
  where
    at : (t : Bool) → (y.source == a) ≡ t → AreLeaving (xs ++ y ∷ []) a (slice_index_or (slice_set lists y.source (slice_index_or lists y.source [] ++ length xs ∷ [])) a [])
    at true t =
        let same : y.source ≡ a = eqb-true y.source a t in
        subst (λ (ns : List ℕ). AreLeaving (xs ++ y ∷ []) a ns)
        (sym (ap (λ (b : ℕ). slice_index_or (slice_set lists y.source (slice_index_or lists y.source [] ++ length xs ∷ [])) b []) (sym same)
        ∙ get_or-set_same lists y.source (slice_index_or lists y.source [] ++ length xs ∷ []) [] w))
        (subst (λ (b : ℕ). AreLeaving (xs ++ y ∷ []) a (slice_index_or lists b [] ++ length xs ∷ [])) (sym same) (mine xs y a (slice_index_or lists a []) same t (h a)))
    at false t =
        let apart : y.source ≢ a = eqb-false y.source a t in
        subst (λ (ns : List ℕ). AreLeaving (xs ++ y ∷ []) a ns)
        (sym (get_or-set_other lists y.source a (slice_index_or lists y.source [] ++ length xs ∷ []) [] (λ e. apart (sym e))))
        (other xs y a (slice_index_or lists a []) t (h a))

pub get_default : {X : Type 0} (xs : List X) (i : ℕ) (c d : X) → i < length xs → get_or xs i c ≡ get_or xs i d
get_default [] i c d w = let no : ⊥ = omega (arith, w) in absurd no
get_default (x ∷ xs) zero c d w = refl
get_default (x ∷ xs) (suc i) c d w = get_default xs i c d (omega (arith, w))

length_take : (xs : List Edge) (i : ℕ) → i < length xs → length (take i xs) ≡ i
length_take [] i w = let no : ⊥ = omega (arith, w) in absurd no
length_take (x ∷ xs) zero w = refl
length_take (x ∷ xs) (suc i) w = ap suc (length_take xs i (omega (arith, w)))

pub exits_more : (edges : List Edge) (lists new : List (List ℕ)) (i : ℕ) (e : Edge) (old : List ℕ) → i < length edges → e ≡ get_or edges i e → e.source < length lists →
    HoldsAll (take i edges) lists → old ≡ get_or lists e.source old → new ≡ slice_set lists e.source (old ++ i ∷ []) → HoldsAll (take (i + 1) edges) new
exits_more edges lists new i e old w is s h o made =
    let said : HoldsAll (take i edges ++ e ∷ []) (slice_set lists e.source (slice_index_or lists e.source [] ++ length (take i edges) ∷ [])) = more (take i edges) e lists s h in
    let front : take i edges ++ e ∷ [] ≡ take (i + 1) edges = sym (take_more edges i e w ∙ ap (λ (x : Edge). take i edges ++ x ∷ []) (sym is)) in
    let whole : slice_set lists e.source (slice_index_or lists e.source [] ++ length (take i edges) ∷ []) ≡ new =
    ap₂ (λ (ns : List ℕ) (n : ℕ). slice_set lists e.source (ns ++ n ∷ [])) (sym (o ∙ get_default lists e.source old [] s)) (length_take edges i w) ∙ sym made in
    λ a. subst (λ (xs : List Edge). AreLeaving xs a (slice_index_or new a [])) front (subst (λ (ls : List (List ℕ)). AreLeaving (take i edges ++ e ∷ []) a (slice_index_or ls a [])) whole (said a))

abbrev none_list : List ℕ
none_list = []

none_at : (n a : ℕ) → slice_index_or (replicate n none_list) a [] ≡ []
none_at zero a = refl
none_at (suc n) zero = refl
none_at (suc n) (suc a) = none_at n a

pub no_exits : (n : ℕ) (lists : List (List ℕ)) → lists ≡ replicate n [] → HoldsAll [] lists
no_exits n lists e a = subst (λ (ns : List ℕ). AreLeaving [] a ns) (sym (ap (λ (ls : List (List ℕ)). slice_index_or ls a []) e ∙ none_at n a)) (record { same = refl; within = tt })
