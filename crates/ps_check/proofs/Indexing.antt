-- Configurations by their locations, where those start that begin alike, and which of them are found.
use Rattle.std.proofs.Common.{◌≡◌, ◌≢◌, ◌≤◌, ◌<◌, ◌+◌, ◌==◌, ℕ, zero, suc, Bool, true, false, cond, List, [], ◌∷◌, ◌++◌, length, get_or, take, refl, sym, ap, subst, ◌∙◌, inl, inr, ◌⊎◌, Contains, Some, Global, length-append, arith}
use Rattle.std.specs.Prelude.{slice_get}
use Rattle.std.specs.List.{count_by, filter}
use Rattle.std.specs.List.Sorted.{IsPermutation}
use Rattle.std.specs.declared.vec.Vec.{Vec}
use Rattle.std.proofs.lemmas.Bool.{cases_eq, cases_lt, ne_eqb, false≢true}
use Rattle.std.proofs.lemmas.List.{length-map, map_push, take-take}
use Rattle.std.proofs.lemmas.List.Elements.{Contains-append_left, Contains-push, Contains-push_cases}
use Rattle.std.proofs.lemmas.List.Recursion.{is_count_by}
use Rattle.std.proofs.lemmas.List.Sorted.{Contains-permutation, IsPermutation-sym, length_permutation, sum_by-IsPermutation}
use Rattle.std.proofs.lemmas.Option.{same_Some, slice_get_within}
use Rattle.ps_check.specs.declared.located.Located.{Located}
use Rattle.ps_check.specs.inner.Index.{AreAlike, AreCandidates, AreLocated, AreStartsAfter, AreStartsBefore, AreStartsOf, AreThoseWithin, IsBeyond, IsLocated, IsStart, locations_of}
use Rattle.ps_check.proofs.Adding.{list_at}
use Rattle.ps_check.proofs.Before.{at_place_in, place_in}
use Rattle.ps_config.specs.Configurations.{Configuration, Covers}
use Rattle.ps_config.specs.Forms.{IsConfig}
use Rattle.ps_cover.specs.Within.{IsWithinList, times}
use Rattle.ps_cover.proofs.Counted.{locations_within}
use Rattle.ps_demand.specs.Pools.{lists_of}
use Rattle.ps_list.proofs.Members.{nothing}

-- ---- how often numbers stand

times_count : (n : ℕ) (xs : List ℕ) → times n xs ≡ count_by (λ (m : ℕ). m == n) xs
times_count n xs = is_count_by (times n) (λ (m : ℕ). m == n) refl (λ x ys. one (x == n) x ys) xs
  where
    one : (b : Bool) (x : ℕ) (ys : List ℕ) → length (cond b (x ∷ filter (λ (m : ℕ). m == n) ys) (filter (λ (m : ℕ). m == n) ys)) ≡ cond b (1 + times n ys) (times n ys)
    one true x ys = omega arith
    one false x ys = refl

pub times_permuted : (n : ℕ) (xs ys : List ℕ) → IsPermutation xs ys → times n ys ≡ times n xs
times_permuted n xs ys p = times_count n ys ∙ sum_by-IsPermutation (λ (m : ℕ). cond (m == n) 1 0) xs ys p ∙ sym (times_count n xs)

times_taken : (n k : ℕ) (xs : List ℕ) → times n (take k xs) ≤ times n xs
times_taken n zero xs = omega arith
times_taken n (suc k) [] = omega arith
times_taken n (suc k) (x ∷ xs) = one (x == n) (times_taken n k xs)
  where
    one : (b : Bool) → times n (take k xs) ≤ times n xs
        → length (cond b (x ∷ filter (λ (m : ℕ). m == n) (take k xs)) (filter (λ (m : ℕ). m == n) (take k xs))) ≤ length (cond b (x ∷ filter (λ (m : ℕ). m == n) xs) (filter (λ (m : ℕ). m == n) xs))
    one true h = omega (arith, h)
    one false h = h

times_pushed : (n x : ℕ) (xs : List ℕ) → x ≢ n → times n (xs ++ x ∷ []) ≡ times n xs
times_pushed n x [] other = one (x == n) (ne_eqb x n other)
  where
    one : (b : Bool) → b ≡ false → length (cond b (x ∷ []) []) ≡ 0
    one true h = absurd (false≢true (sym h))
    one false h = refl
times_pushed n x (y ∷ xs) other = one (y == n) (times_pushed n x xs other)
  where
    one : (b : Bool) → times n (xs ++ x ∷ []) ≡ times n xs
        → length (cond b (y ∷ filter (λ (m : ℕ). m == n) (xs ++ x ∷ [])) (filter (λ (m : ℕ). m == n) (xs ++ x ∷ []))) ≡ length (cond b (y ∷ filter (λ (m : ℕ). m == n) xs) (filter (λ (m : ℕ). m == n) xs))
    one true h = omega (arith, h)
    one false h = h

pub within_none : (others : List ℕ) → IsWithinList [] others
within_none others n = omega arith

pub within_more : (xs others : List ℕ) (x : ℕ) → IsWithinList xs others → times x (xs ++ x ∷ []) ≤ times x others → IsWithinList (xs ++ x ∷ []) others
within_more xs others x within le n = elim (cases_eq x n) [
  | inl same ↦ subst (λ (k : ℕ). times k (xs ++ x ∷ []) ≤ times k others) same le
  | inr other ↦ (let is : times n (xs ++ x ∷ []) ≡ times n xs = times_pushed n x xs other in let so_far : times n xs ≤ times n others = within n in omega (arith, is, so_far))
]

-- ---- a list with one member more

pub pushed_cases : {X : Type 0} (xs : List X) (y : X) (k : ℕ) (z : X) → slice_get (xs ++ y ∷ []) k ≡ Some z → (slice_get xs k ≡ Some z) ⊎ ((k ≡ length xs) × (y ≡ z))
pushed_cases [] y zero z is = inr (refl, same_Some y z is)
pushed_cases [] y (suc k) z is = absurd (let inside : suc k < 1 = slice_get_within (y ∷ []) (suc k) z is in let f : ⊥ = omega (arith, inside) in f)
pushed_cases (x ∷ xs) y zero z is = inl is
pushed_cases (x ∷ xs) y (suc k) z is = elim (pushed_cases xs y k z is) [
  | inl earlier ↦ inl earlier
  | inr last ↦ inr ((let same : k ≡ length xs = last.0 in omega (arith, same)), last.1)
]

-- ---- locations

pub located_none : (configurations : List Configuration) (located : List Located) → located ≡ [] → AreLocated configurations 0 located
located_none configurations located is = record {
  many = ap length is;
  each = λ l h. absurd (nothing l (subst (λ (ls : List Located). Contains ls l) is h));
  all = λ k less. absurd (let f : ⊥ = omega (arith, less) in f);
}

pub located_more : (configurations : List Configuration) (n : ℕ) (old new : List Located) (l : Located) → AreLocated configurations n old → new ≡ old ++ l ∷ [] → l.number ≡ n → IsLocated configurations l
    → AreLocated configurations (n + 1) new
located_more configurations n old new l a is same one = record {
  many = (let long : length new ≡ length (old ++ l ∷ []) = ap length is in let more : length (old ++ l ∷ []) ≡ length old + 1 = length-append old (l ∷ []) in let so_far : length old ≡ n = a.many in
      omega (arith, long, more, so_far));
  each = λ m h. elim (Contains-push_cases old l m (subst (λ (ls : List Located). Contains ls m) is h)) [
    | inl earlier ↦ a.each m earlier
    | inr e ↦ subst (λ (k : Located). IsLocated configurations k) e one
  ];
  all = λ k less. elim (cases_lt k n) [
    | inl below ↦ (let w = a.all k below in (w.0, subst (λ (ls : List Located). Contains ls w.0) (sym is) (Contains-append_left old (l ∷ []) w.0 w.1), w.2))
    | inr past ↦ (l, subst (λ (ls : List Located). Contains ls l) (sym is) (Contains-push old l), (same ∙ (let e : n ≡ k = omega (arith, less, past) in e)))
  ];
}

pub located_one : (configurations : List Configuration) (c : Configuration) (at : List (ℕ × ℕ)) (l : Located) → slice_get configurations l.number ≡ Some c → IsConfig c → at ≡ c.at
    → IsPermutation (locations_of at) l.locations.items → IsLocated configurations l
located_one configurations c at l is form viewed p = record {
  config = c;
  is = is;
  form = form;
  same = λ n. times_permuted n (locations_of at) l.locations.items p ∙ ap (λ (ps : List (ℕ × ℕ)). times n (locations_of ps)) viewed;
}

pub located_sorted : (configurations : List Configuration) (n : ℕ) (old new : List Located) → AreLocated configurations n old → IsPermutation old new → AreLocated configurations n new
located_sorted configurations n old new a p = record {
  many = length_permutation old new p ∙ a.many;
  each = λ l h. a.each l (Contains-permutation new old l (IsPermutation-sym old new p) h);
  all = λ k less. (let w = a.all k less in (w.0, Contains-permutation old new w.0 p w.1, w.2));
}

-- ---- starts

starts_here : (located : List Located) (place count : ℕ) → AreAlike located place place count
starts_here located place count k one other from to at_k at_place =
    let same : k ≡ place = omega (arith, from, to) in
    ap (λ (l : Located). take count l.locations.items) (same_Some one other (sym at_k ∙ subst (λ (m : ℕ). slice_get located m ≡ Some other) (sym same) at_place))

pub starts_first : (located : List Located) (place : ℕ) (l : Located) (before own : List ℕ) (from : ℕ) → place ≡ 0 → slice_get located place ≡ Some l → AreStartsAfter before 0 from (length l.locations.items) own → from ≡ 0
    → AreStartsOf located place own
starts_first located place l before own from first is a at_first = record {
  many = λ m at. a.many ∙ ap (λ (k : Located). length k.locations.items) (same_Some l m (sym is ∙ at));
  each = λ k start at. elim (a.each k start at) [
    | inl earlier ↦ absurd (let less : k < 0 = earlier.0 in let f : ⊥ = omega (arith, less) in f)
    | inr here ↦
        let same : start ≡ place = here.1 ∙ at_first ∙ sym first in
        (omega (arith, same), subst (λ (m : ℕ). AreAlike located m place (k + 1)) (sym same) (starts_here located place (k + 1)))
  ];
}

pub starts_next : (located : List Located) (before place shared : ℕ) (b l : Located) (starts own : List ℕ) → place ≡ before + 1 → slice_get located before ≡ Some b → slice_get located place ≡ Some l → AreStartsOf located before starts
    → take shared b.locations.items ≡ take shared l.locations.items → AreStartsAfter starts shared place (length l.locations.items) own → AreStartsOf located place own
starts_next located before place shared b l starts own next at_before at_place of_b alike a = record {
  many = λ m at. a.many ∙ ap (λ (k : Located). length k.locations.items) (same_Some l m (sym at_place ∙ at));
  each = λ k start at. elim (a.each k start at) [
    | inl earlier ↦
        let w = of_b.each k start earlier.1 in
        let le : start ≤ before = w.0 in
        (omega (arith, le, next), from_before k start earlier.0 w.1)
    | inr here ↦
        let same : start ≡ place = here.1 in
        (omega (arith, same), subst (λ (m : ℕ). AreAlike located m place (k + 1)) (sym same) (starts_here located place (k + 1)))
  ];
}
  where
    -- fewer than are shared
    front : (k : ℕ) → k < shared → take (k + 1) b.locations.items ≡ take (k + 1) l.locations.items
    front k less =
        let le : k + 1 ≤ shared = omega (arith, less) in
        sym (take-take (k + 1) shared b.locations.items le) ∙ ap (take (k + 1)) alike ∙ take-take (k + 1) shared l.locations.items le

    from_before : (k start : ℕ) → k < shared → AreAlike located start before (k + 1) → AreAlike located start place (k + 1)
    from_before k start less same j one other from to at_j at_other =
        let is_l : l ≡ other = same_Some l other (sym at_place ∙ at_other) in
        elim (cases_lt j place) [
          | inl earlier ↦ same j one b from (omega (arith, earlier, next)) at_j at_before ∙ front k less ∙ ap (λ (m : Located). take (k + 1) m.locations.items) is_l
          | inr last ↦ starts_here located place (k + 1) j one other last to at_j at_other
        ]

pub after_none : (before starts : List ℕ) (shared place : ℕ) → starts ≡ [] → AreStartsAfter before shared place 0 starts
after_none before starts shared place is = record {
  many = ap length is;
  each = λ k start at. absurd (let inside : k < length starts = slice_get_within starts k start at in let none : length starts ≡ 0 = ap length is in let f : ⊥ = omega (arith, inside, none) in f);
}

pub after_more : (before old new : List ℕ) (shared place count start : ℕ) → AreStartsAfter before shared place count old → new ≡ old ++ start ∷ [] → IsStart before shared place count start → AreStartsAfter before shared place (count + 1) new
after_more before old new shared place count start a is one = record {
  many = (let long : length new ≡ length (old ++ start ∷ []) = ap length is in let more : length (old ++ start ∷ []) ≡ length old + 1 = length-append old (start ∷ []) in let so_far : length old ≡ count = a.many in
      omega (arith, long, more, so_far));
  each = λ k n at. elim (pushed_cases old start k n (subst (λ (ns : List ℕ). slice_get ns k ≡ Some n) is at)) [
    | inl earlier ↦ a.each k n earlier
    | inr last ↦ subst (λ (m : ℕ). IsStart before shared place m n) (sym (last.0 ∙ a.many)) (subst (λ (m : ℕ). IsStart before shared place count m) last.1 one)
  ];
}

pub starts_none : (located : List Located) (starts : List (Vec ℕ Global)) → starts ≡ [] → AreStartsBefore located 0 (lists_of starts)
starts_none located starts is = record {
  many = ap (λ (vs : List (Vec ℕ Global)). length (lists_of vs)) is;
  each = λ k own at. absurd (let inside : k < length (lists_of starts) = slice_get_within (lists_of starts) k own at in let none : length (lists_of starts) ≡ 0 = ap (λ (vs : List (Vec ℕ Global)). length (lists_of vs)) is in
      let f : ⊥ = omega (arith, inside, none) in f);
}

pub starts_more : (located : List Located) (place : ℕ) (old new : List (Vec ℕ Global)) (own : Vec ℕ Global) → AreStartsBefore located place (lists_of old) → new ≡ old ++ own ∷ [] → AreStartsOf located place own.items
    → AreStartsBefore located (place + 1) (lists_of new)
starts_more located place old new own a is one = record {
  many = (let long : length (lists_of new) ≡ length (lists_of old ++ own.items ∷ []) = ap length pushed in
      let more : length (lists_of old ++ own.items ∷ []) ≡ length (lists_of old) + 1 = length-append (lists_of old) (own.items ∷ []) in
      let so_far : length (lists_of old) ≡ place = a.many in omega (arith, long, more, so_far));
  each = λ k list at. elim (pushed_cases (lists_of old) own.items k list (subst (λ (ls : List (List ℕ)). slice_get ls k ≡ Some list) pushed at)) [
    | inl earlier ↦ a.each k list earlier
    | inr last ↦ subst (λ (m : ℕ). AreStartsOf located m list) (sym (last.0 ∙ a.many)) (subst (λ (xs : List ℕ). AreStartsOf located place xs) last.1 one)
  ];
}
  where
    pushed : lists_of new ≡ lists_of old ++ own.items ∷ []
    pushed = ap (λ (vs : List (Vec ℕ Global)). lists_of vs) is ∙ map_push (λ (v : Vec ℕ Global). v.items) old own

-- the starts of a place as they are read
pub starts_at : (located : List Located) (starts : List (Vec ℕ Global)) (n place : ℕ) (v : Vec ℕ Global) (own : List ℕ) → AreStartsBefore located n (lists_of starts) → place < n → v ≡ get_or starts place v → own ≡ v.items
    → AreStartsOf located place own
starts_at located starts n place v own a inside is viewed =
    let long : length (lists_of starts) ≡ length starts = length-map starts (λ (w : Vec ℕ Global). w.items) in
    let many : length (lists_of starts) ≡ n = a.many in
    a.each place own (list_at starts place v own (omega (arith, inside, long, many)) is viewed)

-- ---- the search

-- of those from the end on, the numbers of all whose locations are within the others
pub record AreFound (located : List Located) (others : List ℕ) (end : ℕ) (numbers : List ℕ) : Type 0 where
  pub inside : end ≤ length located
  pub only : (n : ℕ) → Contains numbers n → (l : Located) × Contains located l × (l.number ≡ n) × IsWithinList l.locations.items others
  pub all : (k : ℕ) (l : Located) → end ≤ k → slice_get located k ≡ Some l → IsWithinList l.locations.items others → Contains numbers l.number

module _ (located : List Located) (others : List ℕ) where
  pub found_none : (end : ℕ) (numbers : List ℕ) → end ≡ length located → numbers ≡ [] → AreFound located others end numbers
  found_none end numbers at_end is = record {
    inside = omega (arith, at_end);
    only = λ n h. absurd (nothing n (subst (λ (ns : List ℕ). Contains ns n) is h));
    all = λ k l past at w. absurd (let inside : k < length located = slice_get_within located k l at in let f : ⊥ = omega (arith, inside, past, at_end) in f);
  }

  pub found_more : (end place : ℕ) (l : Located) (old new : List ℕ) → AreFound located others end old → end ≤ place + 1 → place < length located → slice_get located place ≡ Some l → IsWithinList l.locations.items others
      → new ≡ old ++ l.number ∷ [] → AreFound located others place new
  found_more end place l old new a next inside is within pushed = record {
    inside = omega (arith, inside);
    only = λ n h. elim (Contains-push_cases old l.number n (subst (λ (ns : List ℕ). Contains ns n) pushed h)) [
      | inl earlier ↦ a.only n earlier
      | inr same ↦ (l, at_place_in located place l is, same, within)
    ];
    all = λ k m past at w. subst (λ (ns : List ℕ). Contains ns m.number) (sym pushed) (elim (cases_lt place k) [
      | inl later ↦ Contains-append_left old (l.number ∷ []) m.number (a.all k m (omega (arith, later, next)) at w)
      | inr first ↦
          let same : k ≡ place = omega (arith, past, first) in
          let e : l ≡ m = same_Some l m (sym is ∙ subst (λ (j : ℕ). slice_get located j ≡ Some m) same at) in
          subst (λ (j : Located). Contains (old ++ l.number ∷ []) j.number) e (Contains-push old l.number)
    ]);
  }

  -- all that begin as this one does are passed
  pub found_passed : (end place beyond start : ℕ) (l : Located) (own numbers : List ℕ) → AreFound located others end numbers → end ≤ place + 1 → place < length located → slice_get located place ≡ Some l
      → IsBeyond l.locations.items others beyond → AreStartsOf located place own → slice_get own beyond ≡ Some start → AreFound located others start numbers
  found_passed end place beyond start l own numbers a next inside is out starts at_beyond = record {
    inside = (let le : start ≤ place = (starts.each beyond start at_beyond).0 in omega (arith, le, inside));
    only = a.only;
    all = λ k m past at w. elim (cases_lt place k) [
      | inl later ↦ a.all k m (omega (arith, later, next)) at w
      | inr first ↦
          let alike : take (beyond + 1) m.locations.items ≡ take (beyond + 1) l.locations.items = (starts.each beyond start at_beyond).1 k m l past first at is in
          absurd (out.beyond (subst (λ (xs : List ℕ). IsWithinList xs others) alike (λ n. (let few : times n (take (beyond + 1) m.locations.items) ≤ times n m.locations.items = times_taken n (beyond + 1) m.locations.items in
          let le : times n m.locations.items ≤ times n others = w n in omega (arith, few, le)))))
    ];
  }

  pub found_all : (end : ℕ) (numbers : List ℕ) → end ≡ 0 → AreFound located others end numbers → AreThoseWithin located others numbers
  found_all end numbers is a = record {
    only = a.only;
    all = λ l h w. a.all h.0 l (omega (arith, is)) (place_in located l h) w;
  }

-- ---- candidates

pub candidates_are : (configurations : List Configuration) (located : List Located) (at : List (ℕ × ℕ)) (others numbers : List ℕ) → AreLocated configurations (length configurations) located → others ≡ locations_of at
    → AreThoseWithin located others numbers → AreCandidates configurations at numbers
candidates_are configurations located at others numbers a is those = record {
  only = λ n h.
      let w = those.only n h in
      let l : IsLocated configurations w.0 = a.each w.0 w.1 in (
        l.config,
        subst (λ (k : ℕ). slice_get configurations k ≡ Some l.config) w.2 l.is,
        (λ m. (let few : times m w.0.locations.items ≤ times m others = w.3 m in let same : times m w.0.locations.items ≡ times m (locations_of l.config.at) = l.same m in
            let whole : times m others ≡ times m (locations_of at) = ap (times m) is in omega (arith, few, same, whole))),
      );
  all = λ n c atoms at_n covers.
      let w = a.all n (slice_get_within configurations n c at_n) in
      let l : IsLocated configurations w.0 = a.each w.0 w.1 in
      let e : c ≡ l.config = same_Some c l.config (sym at_n ∙ subst (λ (k : ℕ). slice_get configurations k ≡ Some l.config) w.2 l.is) in
      let within : IsWithinList (locations_of l.config.at) (locations_of at) =
      locations_within l.config (record { at = at; atoms = atoms }) l.form (subst (λ (d : Configuration). Covers d (record { at = at; atoms = atoms })) e covers) in
      subst (λ (k : ℕ). Contains numbers k) w.2
      (those.all w.0 w.1 (λ m. (let few : times m (locations_of l.config.at) ≤ times m (locations_of at) = within m in let same : times m w.0.locations.items ≡ times m (locations_of l.config.at) = l.same m in
      let whole : times m others ≡ times m (locations_of at) = ap (times m) is in omega (arith, few, same, whole))));
}
