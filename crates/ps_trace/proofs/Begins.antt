-- Letters with which threads begin, and the body that at most one thread runs.
use Rattle.std.proofs.Common.{◌≡◌, ◌≢◌, Bool, true, false, ◌&&◌, ◌==◌, refl, sym, ◌∙◌, ap, ap₂, subst, ℕ, zero, suc, ◌<◌, ◌≤◌, ◌+◌, List, [], ◌∷◌, ◌++◌, length, take, get_or, eq-eqb, arith, nat_lt, ltb-true}
use Rattle.std.specs.Prelude.{slice_get, slice_index_or, Option, Some, None, is_none, MatchOption}
use Rattle.std.proofs.lemmas.Bool.{eqb-true, eqb-false}
use Rattle.std.proofs.lemmas.Bool.Decides.{nat_tests}
use Rattle.std.proofs.lemmas.List.{get_or-map, take-map}
use Rattle.std.proofs.lemmas.Option.{same_Some, slice_get_within, get_or_from_slice_get, slice_get-get_or}
use Rattle.ps_graph.proofs.Errors.{and_parts}
use Rattle.ps_graph.specs.ErrorTrace.{BeginsOnce, IsErrorTrace, RunsBody, edges_of, error_at_last, is_path}
use Rattle.ps_graph.specs.declared.edge.Edge.{Edge}
use Rattle.ps_graph.specs.declared.graph.Graph.{Graph}
use Rattle.ps_trace.proofs.Following.{edges_first, edges_other, path_again, path_front}
use Rattle.ps_trace.specs.Traces.{letter_pair, pairs_in}
use Rattle.ps_trace.specs.declared.trace.Letter.{Letter}
use Rattle.ps_trace.specs.inner.Paths.{ArePaths, BeginOnceAtMost, is_empty, IsNextStart, letter_at, NoneStarts, once_entry, StartAtMostOnce, starts}

false_true : false ≡ true → ⊥
false_true e = cc

-- ---- the letters of one thread

-- a thread that occurs has a first letter
record First (k : ℕ) (xs : List (ℕ × ℕ)) : Type 0 where
  pub place : ℕ
  pub within : place < length xs
  pub own : (letter_at xs place).0 ≡ k
  pub none : edges_of k (take place xs) ≡ []
  pub rest : List ℕ
  pub all : edges_of k xs ≡ (letter_at xs place).1 ∷ rest

first_letter : (k : ℕ) (xs : List (ℕ × ℕ)) → 0 < length (edges_of k xs) → First k xs
first_letter k [] w = let no : ⊥ = omega (arith, w) in absurd no
first_letter k (l ∷ xs) w = at (l.0 == k) refl (λ r. first_letter k xs r)
  where
    at : (t : Bool) → (l.0 == k) ≡ t → (0 < length (edges_of k xs) → First k xs) → First k (l ∷ xs)
    at true t rest = record { place = zero; within = omega arith; own = eqb-true l.0 k t; none = refl; rest = edges_of k xs; all = edges_first k l xs t }
    at false t rest =
        let f : First k xs = rest (subst (λ (ns : List ℕ). 0 < length ns) (edges_other k l xs t) w) in
        let fits : f.place < length xs = f.within in
        record {
          place = suc f.place;
          within = omega (arith, fits);
          own = f.own;
          none = edges_other k l (take f.place xs) t ∙ f.none;
          rest = f.rest;
          all = edges_other k l xs t ∙ f.all;
        }

-- the edges of a thread, parted at a letter of it
edges_at : (k : ℕ) (xs : List (ℕ × ℕ)) (i : ℕ) → i < length xs → (letter_at xs i).0 ≡ k → (ms : List ℕ) × (edges_of k xs ≡ edges_of k (take i xs) ++ (letter_at xs i).1 ∷ ms)
edges_at k [] i w e = let no : ⊥ = omega (arith, w) in absurd no
edges_at k (l ∷ xs) zero w e = (edges_of k xs, edges_first k l xs (eq-eqb l.0 k e))
edges_at k (l ∷ xs) (suc i) w e = at (l.0 == k) refl (edges_at k xs i (omega (arith, w)) e)
  where
    at : (t : Bool) → (l.0 == k) ≡ t → (ms : List ℕ) × (edges_of k xs ≡ edges_of k (take i xs) ++ (letter_at xs i).1 ∷ ms) →
        (ms : List ℕ) × (edges_of k (l ∷ xs) ≡ edges_of k (l ∷ take i xs) ++ (letter_at xs i).1 ∷ ms)
    at true t (ms, h) =
        (ms, edges_first k l xs t ∙ ap (λ (ns : List ℕ). l.1 ∷ ns) h ∙ ap (λ (ns : List ℕ). ns ++ (letter_at xs i).1 ∷ ms) (sym (edges_first k l (take i xs) t)))
    at false t (ms, h) =
        (ms, edges_other k l xs t ∙ h ∙ ap (λ (ns : List ℕ). ns ++ (letter_at xs i).1 ∷ ms) (sym (edges_other k l (take i xs) t)))

-- after a letter of the thread it isn't new
not_new : (k : ℕ) (xs : List (ℕ × ℕ)) (i j : ℕ) → i < j → i < length xs → (letter_at xs i).0 ≡ k → is_empty (edges_of k (take j xs)) ≡ false
not_new k [] i j b w e = let no : ⊥ = omega (arith, w) in absurd no
not_new k (l ∷ xs) i zero b w e = let no : ⊥ = omega (arith, b) in absurd no
not_new k (l ∷ xs) zero (suc j) b w e = ap is_empty (edges_first k l (take j xs) (eq-eqb l.0 k e))
not_new k (l ∷ xs) (suc i) (suc j) b w e = at (l.0 == k) refl (not_new k xs i j (omega (arith, b)) (omega (arith, w)) e)
  where
    at : (t : Bool) → (l.0 == k) ≡ t → is_empty (edges_of k (take j xs)) ≡ false → is_empty (edges_of k (l ∷ take j xs)) ≡ false
    at true t h = ap is_empty (edges_first k l (take j xs) t)
    at false t h = ap is_empty (edges_other k l (take j xs) t) ∙ h

empty_is : (ns : List ℕ) → is_empty ns ≡ true → ns ≡ []
empty_is [] h = refl
empty_is (n ∷ ns) h = absurd (false_true h)

start_parts : (edges : List Edge) (a : ℕ) (xs : List (ℕ × ℕ)) (i : ℕ) → starts edges a xs i ≡ true →
    (is_path edges a ((letter_at xs i).1 ∷ []) ≡ true) × (is_empty (edges_of (letter_at xs i).0 (take i xs)) ≡ true)
start_parts edges a xs i h = and_parts (is_path edges a ((letter_at xs i).1 ∷ [])) (is_empty (edges_of (letter_at xs i).0 (take i xs))) h

-- ---- threads that begin at the entry of the body

module _ (graph : Graph) (xs : List (ℕ × ℕ)) (h : ArePaths graph xs) (body a : ℕ) (once : graph.once ≡ Some body) (got : slice_get graph.entries body ≡ Some a) where
  within : body < length graph.entries
  within = slice_get_within graph.entries body a got

  entry : slice_index_or graph.entries body 0 ≡ a
  entry = get_or_from_slice_get graph.entries body a 0 got

  begin_of_start : (i : ℕ) → i < length xs → starts graph.edges a xs i ≡ true → BeginsOnce graph xs (letter_at xs i).0
  begin_of_start i w s = on (edges_at (letter_at xs i).0 xs i w refl) (h (letter_at xs i).0)
    where
      on : (ms : List ℕ) × (edges_of (letter_at xs i).0 xs ≡ edges_of (letter_at xs i).0 (take i xs) ++ (letter_at xs i).1 ∷ ms) →
          (b : ℕ) × RunsBody graph xs (letter_at xs i).0 b → BeginsOnce graph xs (letter_at xs i).0
      on (ms, e) (b, r) =
          let p : (is_path graph.edges a ((letter_at xs i).1 ∷ []) ≡ true) × (is_empty (edges_of (letter_at xs i).0 (take i xs)) ≡ true) = start_parts graph.edges a xs i s in
          let none : edges_of (letter_at xs i).0 (take i xs) ≡ [] = empty_is (edges_of (letter_at xs i).0 (take i xs)) p.1 in
          let all : edges_of (letter_at xs i).0 xs ≡ (letter_at xs i).1 ∷ ms = e ∙ ap (λ (ns : List ℕ). ns ++ (letter_at xs i).1 ∷ ms) none in
          let some : 0 < length ((letter_at xs i).1 ∷ ms) = omega arith in
          let path : is_path graph.edges a ((letter_at xs i).1 ∷ ms) ≡ true =
          path_again graph.edges a (slice_index_or graph.entries b 0) (letter_at xs i).1 ms p.0 (ap (is_path graph.edges (slice_index_or graph.entries b 0)) (sym all) ∙ r.path) in (
            body,
            once,
            subst (λ (ns : List ℕ). 0 < length ns) (sym all) some,
            record { exists = within; path = ap₂ (is_path graph.edges) entry all ∙ path },
          )

  start_of_begin : (k : ℕ) → BeginsOnce graph xs k → (i : ℕ) × (i < length xs) × ((letter_at xs i).0 ≡ k) × (starts graph.edges a xs i ≡ true)
  start_of_begin k (b, o, some, r) =
      let f : First k xs = first_letter k xs some in
      let same : b ≡ body = same_Some b body (sym o ∙ once) in
      let at_entry : slice_index_or graph.entries b 0 ≡ a = ap (λ (n : ℕ). slice_index_or graph.entries n 0) same ∙ entry in
      let path : is_path graph.edges a ((letter_at xs f.place).1 ∷ f.rest) ≡ true = ap₂ (is_path graph.edges) (sym at_entry) (sym f.all) ∙ r.path in
      let first : is_path graph.edges a ((letter_at xs f.place).1 ∷ []) ≡ true = path_front graph.edges a ((letter_at xs f.place).1 ∷ []) f.rest path in
      let new : is_empty (edges_of (letter_at xs f.place).0 (take f.place xs)) ≡ true = ap (λ (j : ℕ). is_empty (edges_of j (take f.place xs))) f.own ∙ ap is_empty f.none in
      (f.place, f.within, f.own, ap₂ (λ (x y : Bool). x && y) first new)

  pub once_forth : BeginOnceAtMost graph xs → StartAtMostOnce graph.edges a xs
  once_forth only i j wi wj si sj = at (i == j) refl
    where
      same : (letter_at xs i).0 ≡ (letter_at xs j).0
      same = only (letter_at xs i).0 (letter_at xs j).0 (begin_of_start i wi si) (begin_of_start j wj sj)

      before : (u : Bool) → nat_lt i j ≡ u → (i == j) ≡ false → ⊥
      before true u n = false_true (sym (not_new (letter_at xs j).0 xs i j (ltb-true i j u) wi same) ∙ (start_parts graph.edges a xs j sj).1)
      before false u n =
          let other : i ≢ j = eqb-false i j n in
          let after : j < i = grind (arith, nat_tests) in
          false_true (sym (not_new (letter_at xs i).0 xs j i after wj (sym same)) ∙ (start_parts graph.edges a xs i si).1)

      at : (t : Bool) → (i == j) ≡ t → i ≡ j
      at true t = eqb-true i j t
      at false t = absurd (before (nat_lt i j) refl t)

  pub once_back : StartAtMostOnce graph.edges a xs → BeginOnceAtMost graph xs
  once_back only j k bj bk =
      let p : (i : ℕ) × (i < length xs) × ((letter_at xs i).0 ≡ j) × (starts graph.edges a xs i ≡ true) = start_of_begin j bj in
      let q : (i : ℕ) × (i < length xs) × ((letter_at xs i).0 ≡ k) × (starts graph.edges a xs i ≡ true) = start_of_begin k bk in
      sym p.2 ∙ ap (λ (i : ℕ). (letter_at xs i).0) (only p.0 q.0 p.1 q.1 p.3 q.3) ∙ q.2

-- no thread begins where there is no such entry
pub none_begins : (graph : Graph) (xs : List (ℕ × ℕ)) → once_entry graph.once graph.entries ≡ None → BeginOnceAtMost graph xs
none_begins graph xs none j k (b, o, some, r) bk =
    let got : slice_get graph.entries b ≡ Some (slice_index_or graph.entries b 0) = slice_get-get_or graph.entries b 0 r.exists in
    let is : once_entry graph.once graph.entries ≡ Some (slice_index_or graph.entries b 0) = ap (λ (x : Option ℕ). once_entry x graph.entries) o ∙ got in
    let no : None ≡ Some (slice_index_or graph.entries b 0) = sym none ∙ is in
    cc

-- the body and its entry
pub entry_body : (once : Option ℕ) (entries : List ℕ) (a : ℕ) → once_entry once entries ≡ Some a → (body : ℕ) × (once ≡ Some body) × (slice_get entries body ≡ Some a)
entry_body None entries a h = cc
entry_body (Some body) entries a h = (body, refl, h)

pub once_is : (graph : Graph) (xs : List (ℕ × ℕ)) (a : ℕ) → ArePaths graph xs → once_entry graph.once graph.entries ≡ Some a →
    (StartAtMostOnce graph.edges a xs → BeginOnceAtMost graph xs) × (BeginOnceAtMost graph xs → StartAtMostOnce graph.edges a xs)
once_is graph xs a h e =
    let q : (body : ℕ) × (graph.once ≡ Some body) × (slice_get graph.entries body ≡ Some a) = entry_body graph.once graph.entries a e in
    (once_back graph xs h q.0 a q.1 q.2, once_forth graph xs h q.0 a q.1 q.2)

-- ---- places of such letters

no_start : (edges : List Edge) (a : ℕ) (xs : List (ℕ × ℕ)) (from to i : ℕ) → NoneStarts edges a xs from to → from ≤ i → i < to → starts edges a xs i ≡ true → ⊥
no_start edges a xs from to i none f t s = false_true (sym (none i f t) ∙ s)

pub none_twice : (edges : List Edge) (a : ℕ) (xs : List (ℕ × ℕ)) → NoneStarts edges a xs 0 (length xs) → StartAtMostOnce edges a xs
none_twice edges a xs none i j wi wj si sj = absurd (no_start edges a xs 0 (length xs) i none (omega arith) wi si)

pub one_start : (edges : List Edge) (a : ℕ) (xs : List (ℕ × ℕ)) (p : ℕ) (o : Option ℕ) → IsNextStart edges a xs 0 p →
    MatchOption o (NoneStarts edges a xs (p + 1) (length xs)) (IsNextStart edges a xs (p + 1)) →
    (is_none o ≡ true → StartAtMostOnce edges a xs) × (StartAtMostOnce edges a xs → is_none o ≡ true)
one_start edges a xs p None first h = (λ t i j wi wj si sj. at i wi si ∙ sym (at j wj sj), λ only. refl)
  where
    at : (i : ℕ) → i < length xs → starts edges a xs i ≡ true → i ≡ p
    at i w s = on (nat_lt i p) refl (nat_lt p i) refl
      where
        on : (t : Bool) → nat_lt i p ≡ t → (u : Bool) → nat_lt p i ≡ u → i ≡ p
        on true t u v = absurd (no_start edges a xs 0 p i first.none (omega arith) (ltb-true i p t) s)
        on false t true u =
            let later : p < i = ltb-true p i u in
            let after : p + 1 ≤ i = omega arith in
            absurd (no_start edges a xs (p + 1) (length xs) i h after w s)
        on false t false u = grind (arith, nat_tests)
one_start edges a xs p (Some q) first h = (
  λ t. absurd (false_true t),
  λ only.
      (let same : p ≡ q = only p q first.within h.within first.starts_there h.starts_there in
      let after : p + 1 ≤ q = h.from_there in
      let no : ⊥ = omega arith in absurd no),
)

-- ---- answers
pub starts_is : (edges : List Edge) (a : ℕ) (ls : List Letter) (i : ℕ) (d : Letter) → i < length ls → is_path edges a ((get_or ls i d).edge ∷ []) ≡ true →
    is_empty (edges_of (get_or ls i d).thread (pairs_in (take i ls))) ≡ starts edges a (pairs_in ls) i
starts_is edges a ls i d w p =
    let one : letter_at (pairs_in ls) i ≡ letter_pair (get_or ls i d) = get_or-map letter_pair ls i d (0, 0) w in
    let before : take i (pairs_in ls) ≡ pairs_in (take i ls) = take-map letter_pair i ls in
    sym (ap₂ (λ (l : ℕ × ℕ) (xs : List (ℕ × ℕ)). is_path edges a (l.1 ∷ []) && is_empty (edges_of l.0 xs)) one before
    ∙ ap (λ (b : Bool). b && is_empty (edges_of (get_or ls i d).thread (pairs_in (take i ls)))) p)

pub error_trace_is : (graph : Graph) (edges : List Edge) (xs ys : List (ℕ × ℕ)) (r e : Bool) → edges ≡ graph.edges → xs ≡ ys →
    ((r ≡ true → ArePaths graph xs × BeginOnceAtMost graph xs) × (ArePaths graph xs × BeginOnceAtMost graph xs → r ≡ true)) → r ≡ true → e ≡ error_at_last edges xs →
    (e ≡ true → IsErrorTrace graph ys) × (IsErrorTrace graph ys → e ≡ true)
error_trace_is graph edges xs ys r e same is q t f = (forth, λ h. error ∙ h.error)
  where
    error : e ≡ error_at_last graph.edges ys
    error = f ∙ ap₂ error_at_last same is

    forth : e ≡ true → IsErrorTrace graph ys
    forth h = subst (λ (zs : List (ℕ × ℕ)). IsErrorTrace graph zs) is (record { paths = (q.0 t).0; once = (q.0 t).1; error = ap (error_at_last graph.edges) is ∙ sym error ∙ h })

pub no_error_trace : (graph : Graph) (xs ys : List (ℕ × ℕ)) (r : Bool) → xs ≡ ys →
    ((r ≡ true → ArePaths graph xs × BeginOnceAtMost graph xs) × (ArePaths graph xs × BeginOnceAtMost graph xs → r ≡ true)) → r ≡ false → IsErrorTrace graph ys → ⊥
no_error_trace graph xs ys r is q f h =
    let g : IsErrorTrace graph xs = subst (λ (zs : List (ℕ × ℕ)). IsErrorTrace graph zs) (sym is) h in
    false_true (sym f ∙ q.1 (g.paths, g.once))
