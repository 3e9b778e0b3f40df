-- Letters whose edges go on with the paths of their threads.
use Rattle.std.proofs.Common.{◌≡◌, ◌≢◌, Bool, true, false, not, ◌&&◌, ◌||◌, ◌==◌, refl, sym, ◌∙◌, ap, ap₂, subst, ℕ, zero, suc, ◌<◌, ◌+◌, ◌-◌, List, [], ◌∷◌, ◌++◌, length, map, append_assoc, if◌then◌else◌, eq-eqb, ne_eqb, get_or, take, drop, arith}
use Rattle.std.specs.Prelude.{filter, slice_get, slice_index_or, Option, Some, None, option_map, unwrap_or}
use Rattle.std.specs.List.{list_any}
use Rattle.std.proofs.lemmas.Bool.{eqb-true}
use Rattle.std.proofs.lemmas.Bool.Decides.{nat_tests}
use Rattle.std.proofs.lemmas.List.{drop_more, length-drop, take-append-drop, take_more, map_push, map-append}
use Rattle.ps_graph.proofs.Errors.{and_parts}
use Rattle.ps_graph.specs.ErrorTrace.{RunsBody, edges_of, enters_error, error_at_last, is_path}
use Rattle.ps_graph.specs.declared.edge.Edge.{Edge}
use Rattle.ps_graph.specs.declared.graph.Graph.{Graph}
use Rattle.ps_trace.specs.Traces.{letter_pair, pairs_in}
use Rattle.ps_trace.specs.declared.trace.Letter.{Letter}
use Rattle.ps_trace.specs.inner.Paths.{ArePaths, EndsIn, links}

abbrev numbers : List (ℕ × ℕ) → List ℕ
numbers ls = map (λ (l : ℕ × ℕ). l.1) ls

abbrev chosen_by : ℕ → List (ℕ × ℕ) → List (ℕ × ℕ)
chosen_by k ls = filter (λ (l : ℕ × ℕ). l.0 == k) ls

-- ---- the edges of a thread

pub edges_more : (k : ℕ) (xs ys : List (ℕ × ℕ)) → edges_of k (xs ++ ys) ≡ edges_of k xs ++ edges_of k ys
edges_more k [] ys = refl
edges_more k (l ∷ xs) ys = at (l.0 == k) (edges_more k xs ys)
  where
    at : (t : Bool) → edges_of k (xs ++ ys) ≡ edges_of k xs ++ edges_of k ys →
        numbers (if t then l ∷ chosen_by k (xs ++ ys) else chosen_by k (xs ++ ys))
        ≡ numbers (if t then l ∷ chosen_by k xs else chosen_by k xs) ++ edges_of k ys
    at true h = ap (λ (ns : List ℕ). l.1 ∷ ns) h
    at false h = h

pub edges_first : (k : ℕ) (l : ℕ × ℕ) (ls : List (ℕ × ℕ)) → (l.0 == k) ≡ true → edges_of k (l ∷ ls) ≡ l.1 ∷ edges_of k ls
edges_first k l ls h = ap (λ (t : Bool). numbers (if t then l ∷ chosen_by k ls else chosen_by k ls)) h

pub edges_other : (k : ℕ) (l : ℕ × ℕ) (ls : List (ℕ × ℕ)) → (l.0 == k) ≡ false → edges_of k (l ∷ ls) ≡ edges_of k ls
edges_other k l ls h = ap (λ (t : Bool). numbers (if t then l ∷ chosen_by k ls else chosen_by k ls)) h

pub own_edges : (l : ℕ × ℕ) (ls : List (ℕ × ℕ)) → edges_of l.0 (l ∷ ls) ≡ l.1 ∷ edges_of l.0 ls
own_edges l ls = edges_first l.0 l ls (eq-eqb l.0 l.0 refl)

-- ---- paths

abbrev goes_from : List Edge → ℕ → List ℕ → Edge → Bool
goes_from edges a ns e = e.source == a && is_path edges e.target ns

abbrev path_by : List Edge → ℕ → List ℕ → Option Edge → Bool
path_by edges a ns o = unwrap_or (option_map (goes_from edges a ns) o) false

and_last : (p q : Bool) → (p && q) ≡ ((p && true) && q)
and_last true q = refl
and_last false q = refl

and_assoc : (p q r : Bool) → (p && (q && r)) ≡ ((p && q) && r)
and_assoc true q r = refl
and_assoc false q r = refl

-- a path with one edge more
pub path_more : (edges : List Edge) (a : ℕ) (ns : List ℕ) (m n : ℕ) → is_path edges a (ns ++ m ∷ n ∷ []) ≡ (is_path edges a (ns ++ m ∷ []) && links edges m n)
path_more edges a [] m n = at (slice_get edges m)
  where
    at : (o : Option Edge) → path_by edges a (n ∷ []) o ≡ (path_by edges a [] o && unwrap_or (option_map (λ (d : Edge). is_path edges d.target (n ∷ [])) o) false)
    at None = refl
    at (Some d) = and_last (d.source == a) (is_path edges d.target (n ∷ []))
path_more edges a (x ∷ ns) m n = at (slice_get edges x) (λ b. path_more edges b ns m n)
  where
    at : (o : Option Edge) → ((b : ℕ) → is_path edges b (ns ++ m ∷ n ∷ []) ≡ (is_path edges b (ns ++ m ∷ []) && links edges m n)) →
        path_by edges a (ns ++ m ∷ n ∷ []) o ≡ (path_by edges a (ns ++ m ∷ []) o && links edges m n)
    at None h = refl
    at (Some e) h = ap (λ (b : Bool). e.source == a && b) (h e.target) ∙ and_assoc (e.source == a) (is_path edges e.target (ns ++ m ∷ [])) (links edges m n)

-- the front of a path is one
pub path_front : (edges : List Edge) (a : ℕ) (ns ms : List ℕ) → is_path edges a (ns ++ ms) ≡ true → is_path edges a ns ≡ true
path_front edges a [] ms h = refl
path_front edges a (n ∷ ns) ms h = at (slice_get edges n) h (λ b. path_front edges b ns ms)
  where
    at : (o : Option Edge) → path_by edges a (ns ++ ms) o ≡ true → ((b : ℕ) → is_path edges b (ns ++ ms) ≡ true → is_path edges b ns ≡ true) → path_by edges a ns o ≡ true
    at None h rest = h
    at (Some e) h rest =
        let q : ((e.source == a) ≡ true) × (is_path edges e.target (ns ++ ms) ≡ true) = and_parts (e.source == a) (is_path edges e.target (ns ++ ms)) h in
        ap₂ (λ (x y : Bool). x && y) q.0 (rest e.target q.1)

-- a path from a location that its first edge leaves
pub path_again : (edges : List Edge) (a b n : ℕ) (ns : List ℕ) → is_path edges a (n ∷ []) ≡ true → is_path edges b (n ∷ ns) ≡ true → is_path edges a (n ∷ ns) ≡ true
path_again edges a b n ns one all = at (slice_get edges n) one all
  where
    at : (o : Option Edge) → path_by edges a [] o ≡ true → path_by edges b ns o ≡ true → path_by edges a ns o ≡ true
    at None one all = one
    at (Some e) one all = ap₂ (λ (x y : Bool). x && y) (and_parts (e.source == a) true one).0 (and_parts (e.source == b) (is_path edges e.target ns) all).1

-- ---- the paths of all threads

-- the paths of the letters before
pub paths_front : (graph : Graph) (xs ys : List (ℕ × ℕ)) → ArePaths graph (xs ++ ys) → ArePaths graph xs
paths_front graph xs ys h = λ k. at k (h k)
  where
    at : (k : ℕ) → (body : ℕ) × RunsBody graph (xs ++ ys) k body → (body : ℕ) × RunsBody graph xs k body
    at k (body, r) =
        let a : ℕ = slice_index_or graph.entries body 0 in (
          body,
          record {
            exists = r.exists;
            path = path_front graph.edges (slice_index_or graph.entries body 0) (edges_of k xs) (edges_of k ys)
                (ap (is_path graph.edges (slice_index_or graph.entries body 0)) (sym (edges_more k xs ys)) ∙ r.path);
          },
        )

-- the path of one body with an edge more
abbrev pub GoesOn : Graph → List ℕ → ℕ → Type 0
GoesOn graph ns n = (body : ℕ) × (body < length graph.entries) × (is_path graph.edges (slice_index_or graph.entries body 0) (ns ++ n ∷ []) ≡ true)

pub paths_more : (graph : Graph) (xs : List (ℕ × ℕ)) (l : ℕ × ℕ) → ArePaths graph xs → GoesOn graph (edges_of l.0 xs) l.1 → ArePaths graph (xs ++ l ∷ [])
paths_more graph xs l h (body, within, p) = λ k. at k (l.0 == k) refl
  where
    at : (k : ℕ) (t : Bool) → (l.0 == k) ≡ t → (b : ℕ) × RunsBody graph (xs ++ l ∷ []) k b
    at k true t =
        let same : l.0 ≡ k = eqb-true l.0 k t in
        let is : edges_of k (xs ++ l ∷ []) ≡ edges_of l.0 xs ++ l.1 ∷ [] =
        edges_more k xs (l ∷ []) ∙ ap₂ (λ (ns ms : List ℕ). ns ++ ms) (ap (λ (j : ℕ). edges_of j xs) (sym same)) (edges_first k l [] t) in
        (body, record { exists = within; path = ap (is_path graph.edges (slice_index_or graph.entries body 0)) is ∙ p })
    at k false t =
        let q : (b : ℕ) × RunsBody graph xs k b = h k in
        let none : edges_of k (xs ++ l ∷ []) ≡ edges_of k xs ++ [] = edges_more k xs (l ∷ []) ∙ ap (λ (ms : List ℕ). edges_of k xs ++ ms) (edges_other k l [] t) in
        (q.0, record { exists = q.1.exists; path = ap (is_path graph.edges (slice_index_or graph.entries q.0 0)) (none ∙ append_nil (edges_of k xs)) ∙ q.1.path })
      where
        append_nil : (ns : List ℕ) → ns ++ [] ≡ ns
        append_nil [] = refl
        append_nil (n ∷ ns) = ap (λ (ms : List ℕ). n ∷ ms) (append_nil ns)

pub paths_last : (graph : Graph) (xs : List (ℕ × ℕ)) (l : ℕ × ℕ) → ArePaths graph (xs ++ l ∷ []) → GoesOn graph (edges_of l.0 xs) l.1
paths_last graph xs l h = at (h l.0)
  where
    at : (body : ℕ) × RunsBody graph (xs ++ l ∷ []) l.0 body → GoesOn graph (edges_of l.0 xs) l.1
    at (body, r) =
        (body, r.exists, ap (is_path graph.edges (slice_index_or graph.entries body 0)) (sym (edges_more l.0 xs (l ∷ []) ∙ ap (λ (ns : List ℕ). edges_of l.0 xs ++ ns) (own_edges l []))) ∙ r.path)

-- a letter of a thread whose last edge is known
pub goes_after : (graph : Graph) (xs : List (ℕ × ℕ)) (l : ℕ × ℕ) (m : ℕ) → ArePaths graph xs → EndsIn (edges_of l.0 xs) m →
    (links graph.edges m l.1 ≡ true → ArePaths graph (xs ++ l ∷ [])) × (ArePaths graph (xs ++ l ∷ []) → links graph.edges m l.1 ≡ true)
goes_after graph xs l m h (ms, e) = (λ t. paths_more graph xs l h (on (h l.0) t), λ p. back (paths_last graph xs l p))
  where
    joined : edges_of l.0 xs ++ l.1 ∷ [] ≡ ms ++ m ∷ l.1 ∷ []
    joined = ap (λ (ns : List ℕ). ns ++ l.1 ∷ []) e ∙ append_assoc ms (m ∷ []) (l.1 ∷ [])

    on : (body : ℕ) × RunsBody graph xs l.0 body → links graph.edges m l.1 ≡ true → GoesOn graph (edges_of l.0 xs) l.1
    on (body, r) t =
        let a : ℕ = slice_index_or graph.entries body 0 in
        let so_far : is_path graph.edges a (ms ++ m ∷ []) ≡ true = ap (is_path graph.edges a) (sym e) ∙ r.path in
        (body, r.exists, ap (is_path graph.edges a) joined ∙ path_more graph.edges a ms m l.1 ∙ ap₂ (λ (x y : Bool). x && y) so_far t)

    back : GoesOn graph (edges_of l.0 xs) l.1 → links graph.edges m l.1 ≡ true
    back (body, within, p) =
        let a : ℕ = slice_index_or graph.entries body 0 in
        (and_parts (is_path graph.edges a (ms ++ m ∷ [])) (links graph.edges m l.1) (sym (path_more graph.edges a ms m l.1) ∙ ap (is_path graph.edges a) (sym joined) ∙ p)).1

-- an entry that passes a test, both ways
some_entry : (test : ℕ → Bool) (xs : List ℕ) → list_any test xs ≡ true → (i : ℕ) × (i < length xs) × (test (slice_index_or xs i 0) ≡ true)
some_entry test [] h = let no : false ≡ true = h in cc
some_entry test (x ∷ xs) h = at (test x) refl h (λ r. some_entry test xs r)
  where
    at : (t : Bool) → test x ≡ t → (t || list_any test xs) ≡ true → (list_any test xs ≡ true → (i : ℕ) × (i < length xs) × (test (slice_index_or xs i 0) ≡ true)) →
        (i : ℕ) × (i < length (x ∷ xs)) × (test (slice_index_or (x ∷ xs) i 0) ≡ true)
    at true t h rest = (zero, omega arith, t)
    at false t h rest = on (rest h)
      where
        on : (i : ℕ) × (i < length xs) × (test (slice_index_or xs i 0) ≡ true) → (i : ℕ) × (i < length (x ∷ xs)) × (test (slice_index_or (x ∷ xs) i 0) ≡ true)
        on (i, w, t) = (suc i, omega (arith, w), t)

or_true : (b : Bool) → (b || true) ≡ true
or_true true = refl
or_true false = refl

entry_some : (test : ℕ → Bool) (xs : List ℕ) (i : ℕ) → i < length xs → test (slice_index_or xs i 0) ≡ true → list_any test xs ≡ true
entry_some test [] i w t = let no : ⊥ = omega (arith, w) in absurd no
entry_some test (x ∷ xs) zero w t = ap (λ (b : Bool). b || list_any test xs) t
entry_some test (x ∷ xs) (suc i) w t = ap (λ (b : Bool). test x || b) (entry_some test xs i (omega (arith, w)) t) ∙ or_true (test x)

-- a letter of a thread that has none before
pub goes_first : (graph : Graph) (xs : List (ℕ × ℕ)) (l : ℕ × ℕ) → ArePaths graph xs → edges_of l.0 xs ≡ [] →
    (list_any (λ (a : ℕ). is_path graph.edges a (l.1 ∷ [])) graph.entries ≡ true → ArePaths graph (xs ++ l ∷ []))
    × (ArePaths graph (xs ++ l ∷ []) → list_any (λ (a : ℕ). is_path graph.edges a (l.1 ∷ [])) graph.entries ≡ true)
goes_first graph xs l h e =
    (λ t. paths_more graph xs l h (on (some_entry (λ (a : ℕ). is_path graph.edges a (l.1 ∷ [])) graph.entries t)), λ p. back (paths_last graph xs l p))
  where
    joined : edges_of l.0 xs ++ l.1 ∷ [] ≡ l.1 ∷ []
    joined = ap (λ (ns : List ℕ). ns ++ l.1 ∷ []) e

    on : (i : ℕ) × (i < length graph.entries) × (is_path graph.edges (slice_index_or graph.entries i 0) (l.1 ∷ []) ≡ true) → GoesOn graph (edges_of l.0 xs) l.1
    on (i, w, t) = (i, w, ap (is_path graph.edges (slice_index_or graph.entries i 0)) joined ∙ t)

    back : GoesOn graph (edges_of l.0 xs) l.1 → list_any (λ (a : ℕ). is_path graph.edges a (l.1 ∷ [])) graph.entries ≡ true
    back (i, w, p) = entry_some (λ (a : ℕ). is_path graph.edges a (l.1 ∷ [])) graph.entries i w (ap (is_path graph.edges (slice_index_or graph.entries i 0)) (sym joined) ∙ p)

-- ---- the last edge

-- from a letter that enters the error
pub error_here : (edges : List Edge) (l : ℕ × ℕ) (ls : List (ℕ × ℕ)) → enters_error edges l.1 ≡ true → error_at_last edges (l ∷ ls) ≡ (length ls == 0)
error_here edges l [] h = h
error_here edges l (m ∷ ls) h =
    let some : length (m ∷ ls) ≢ 0 = λ e. (let no : ⊥ = omega (arith, e) in no) in
    ap (λ (b : Bool). not b && error_at_last edges (m ∷ ls)) h ∙ sym (ne_eqb (length (m ∷ ls)) 0 some)

-- from one that doesn't
pub error_later : (edges : List Edge) (l : ℕ × ℕ) (ls : List (ℕ × ℕ)) → enters_error edges l.1 ≡ false → error_at_last edges (l ∷ ls) ≡ error_at_last edges ls
error_later edges l [] h = h
error_later edges l (m ∷ ls) h = ap (λ (b : Bool). not b && error_at_last edges (m ∷ ls)) h

-- ---- in code: letters from a place on, and up to it

pub none_here : (k : ℕ) (ls : List Letter) (i : ℕ) (d : Letter) → i < length ls → edges_of k (pairs_in (drop (i + 1) ls)) ≡ [] → (get_or ls i d).thread ≢ k →
    edges_of k (pairs_in (drop i ls)) ≡ []
none_here k ls i d w none other =
    ap (λ (xs : List Letter). edges_of k (pairs_in xs)) (drop_more ls i d w)
    ∙ edges_other k (letter_pair (get_or ls i d)) (pairs_in (drop (i + 1) ls)) (ne_eqb (get_or ls i d).thread k other) ∙ none

pub last_here : (k : ℕ) (ls : List Letter) (i : ℕ) (d : Letter) → i < length ls → edges_of k (pairs_in (drop (i + 1) ls)) ≡ [] → (get_or ls i d).thread ≡ k →
    EndsIn (edges_of k (pairs_in ls)) (get_or ls i d).edge
last_here k ls i d w none own = (
  edges_of k (pairs_in (take i ls)),
  ap (λ (xs : List Letter). edges_of k (pairs_in xs)) (sym (take-append-drop i ls))
      ∙ ap (edges_of k) (map-append letter_pair (take i ls) (drop i ls))
      ∙ edges_more k (pairs_in (take i ls)) (pairs_in (drop i ls))
      ∙ ap (λ (ns : List ℕ). edges_of k (pairs_in (take i ls)) ++ ns)
      (ap (λ (xs : List Letter). edges_of k (pairs_in xs)) (drop_more ls i d w)
      ∙ edges_first k (letter_pair (get_or ls i d)) (pairs_in (drop (i + 1) ls)) (eq-eqb (get_or ls i d).thread k own)
      ∙ ap (λ (ns : List ℕ). (get_or ls i d).edge ∷ ns) none),
)

pub pairs_more : (ls : List Letter) (i : ℕ) (d : Letter) → i < length ls → pairs_in (take (i + 1) ls) ≡ pairs_in (take i ls) ++ letter_pair (get_or ls i d) ∷ []
pairs_more ls i d w = ap pairs_in (take_more ls i d w) ∙ map_push letter_pair (take i ls) (get_or ls i d)

-- where a letter doesn't go on, the letters have no paths
pub no_paths : (graph : Graph) (ls : List Letter) (i : ℕ) → ArePaths graph (pairs_in ls) → ArePaths graph (pairs_in (take i ls))
no_paths graph ls i h =
    paths_front graph (pairs_in (take i ls)) (pairs_in (drop i ls))
    (λ k. elim_path k (h k))
  where
    same : pairs_in ls ≡ pairs_in (take i ls) ++ pairs_in (drop i ls)
    same = ap pairs_in (sym (take-append-drop i ls)) ∙ map-append letter_pair (take i ls) (drop i ls)

    elim_path : (k : ℕ) → (body : ℕ) × RunsBody graph (pairs_in ls) k body → (body : ℕ) × RunsBody graph (pairs_in (take i ls) ++ pairs_in (drop i ls)) k body
    elim_path k (body, r) = (body, subst (λ (xs : List (ℕ × ℕ)). RunsBody graph xs k body) same r)

-- no letters are paths where there is a body
pub no_letters : (graph : Graph) → 0 < length graph.entries → ArePaths graph []
no_letters graph some k = (0, record { exists = some; path = refl })

pub error_stops : (edges : List Edge) (ls : List Letter) (i : ℕ) (d : Letter) → i < length ls → enters_error edges (get_or ls i d).edge ≡ true →
    error_at_last edges (pairs_in (drop i ls)) ≡ (i + 1 == length ls)
error_stops edges ls i d w h =
    ap (λ (xs : List Letter). error_at_last edges (pairs_in xs)) (drop_more ls i d w)
    ∙ error_here edges (letter_pair (get_or ls i d)) (pairs_in (drop (i + 1) ls)) h
    ∙ (let e : length (pairs_in (drop (i + 1) ls)) ≡ length ls - (i + 1) = length_pairs (drop (i + 1) ls) ∙ length-drop (i + 1) ls in
    grind (arith, nat_tests, e))
  where
    length_pairs : (xs : List Letter) → length (pairs_in xs) ≡ length xs
    length_pairs [] = refl
    length_pairs (x ∷ xs) = ap suc (length_pairs xs)

pub error_passes : (edges : List Edge) (ls : List Letter) (i : ℕ) (d : Letter) → i < length ls → enters_error edges (get_or ls i d).edge ≡ false →
    error_at_last edges (pairs_in (drop i ls)) ≡ error_at_last edges (pairs_in (drop (i + 1) ls))
error_passes edges ls i d w h =
    ap (λ (xs : List Letter). error_at_last edges (pairs_in xs)) (drop_more ls i d w)
    ∙ error_later edges (letter_pair (get_or ls i d)) (pairs_in (drop (i + 1) ls)) h

-- ---- answers
pub along : {X : Type 0} (a b : Bool) → a ≡ b → ((b ≡ true → X) × (X → b ≡ true)) → ((a ≡ true → X) × (X → a ≡ true))
along a b e q = (λ t. q.0 (sym e ∙ t), λ x. e ∙ q.1 x)

pub no_body : (graph : Graph) (entries : List ℕ) (xs : List (ℕ × ℕ)) → entries ≡ graph.entries → length entries ≡ 0 → ArePaths graph xs → ⊥
no_body graph entries xs e none h = at (h 0)
  where
    at : (body : ℕ) × RunsBody graph xs 0 body → ⊥
    at (body, r) =
        let w : body < length graph.entries = r.exists in
        let n : length graph.entries ≡ 0 = ap length (sym e) ∙ none in
        omega arith

-- a letter after which the letters so far are no paths
pub stops_here : (graph : Graph) (ls : List Letter) (i : ℕ) (d : Letter) → i < length ls → ¬ ArePaths graph (pairs_in (take i ls) ++ letter_pair (get_or ls i d) ∷ []) → ¬ ArePaths graph (pairs_in ls)
stops_here graph ls i d w no_more h = no_more (λ k. at k (no_paths graph ls (i + 1) h k))
  where
    at : (k : ℕ) → (body : ℕ) × RunsBody graph (pairs_in (take (i + 1) ls)) k body → (body : ℕ) × RunsBody graph (pairs_in (take i ls) ++ letter_pair (get_or ls i d) ∷ []) k body
    at k (body, r) = (body, subst (λ (xs : List (ℕ × ℕ)). RunsBody graph xs k body) (pairs_more ls i d w) r)

pub goes_here : (graph : Graph) (ls : List Letter) (i : ℕ) (d : Letter) → i < length ls → ArePaths graph (pairs_in (take i ls) ++ letter_pair (get_or ls i d) ∷ []) → ArePaths graph (pairs_in (take (i + 1) ls))
goes_here graph ls i d w h k = at (h k)
  where
    at : (body : ℕ) × RunsBody graph (pairs_in (take i ls) ++ letter_pair (get_or ls i d) ∷ []) k body → (body : ℕ) × RunsBody graph (pairs_in (take (i + 1) ls)) k body
    at (body, r) = (body, subst (λ (xs : List (ℕ × ℕ)). RunsBody graph xs k body) (sym (pairs_more ls i d w)) r)
