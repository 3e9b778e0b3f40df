-- Letters of which each thread's edges are a path, and letters that move threads from location to location.
use Rattle.std.proofs.Common.{◌≡◌, Bool, true, false, ◌&&◌, ◌==◌, refl, sym, ◌∙◌, ap, ap₂, subst, ℕ, ◌+◌, ℤ, List, [], ◌∷◌, length, map, if◌then◌else◌, eq-eqb, arith}
use Rattle.std.specs.Prelude.{filter, slice_get, Option, Some, None, option_map, unwrap_or}
use Rattle.std.specs.Ordering.{int_eq}
use Rattle.std.specs.Option.{option_and_then}
use Rattle.std.proofs.lemmas.Bool.{eqb-true}
use Rattle.std.proofs.lemmas.Option.{same_Some}
use Rattle.ps_graph.specs.ErrorTrace.{edges_of, is_path}
use Rattle.ps_graph.specs.Picks.{choice_of, fit, if_all_used, havocs_of, values_in}
use Rattle.ps_graph.specs.declared.edge.Edge.{Edge}
use Rattle.ps_graph.specs.declared.edge.Pick.{Pick}
use Rattle.ps_graph.specs.declared.edge.Pick.TheVariants.{Star, Value}

-- where each thread is after one of them moved
abbrev pub moved_to : (ℕ → ℕ) → ℕ → ℕ → ℕ → ℕ
moved_to at k goal j = if k == j then goal else at j

-- each letter's edge leaves the location at which its thread then is, and takes the thread to its target
abbrev pub Located : List Edge → (ℕ → ℕ) → List (ℕ × ℕ) → Type 0
Located edges at [] = Unit {0}
Located edges at (l ∷ ls) =
    (e : Edge) × (slice_get edges l.1 ≡ Some e) × (e.source ≡ at l.0) × Located edges (moved_to at l.0 e.target) ls

-- the choices that fit the picks and give these havoc values
abbrev pub woven : List Pick → List ℤ → List ℤ
woven [] hs = []
woven (Star b ∷ ps) hs = choice_of b ∷ woven ps hs
woven (Value ∷ ps) [] = []
woven (Value ∷ ps) (h ∷ hs) = h ∷ woven ps hs

abbrev after_letter : List Edge → ℕ → List ℕ → Edge → Bool
after_letter edges a ns e = e.source == a && is_path edges e.target ns

-- the first edge of a path
first_edge : (edges : List Edge) (a : ℕ) (ns : List ℕ) (o : Option Edge) → unwrap_or (option_map (after_letter edges a ns) o) false ≡ true →
    (e : Edge) × (o ≡ Some e) × (e.source ≡ a) × (is_path edges e.target ns ≡ true)
first_edge edges a ns None h = let no_such : false ≡ true = h in cc
first_edge edges a ns (Some e) h = at (e.source == a) (is_path edges e.target ns) refl refl h
  where
    at : (p q : Bool) → (e.source == a) ≡ p → is_path edges e.target ns ≡ q → (p && q) ≡ true →
        (f : Edge) × (Some e ≡ Some f) × (f.source ≡ a) × (is_path edges f.target ns ≡ true)
    at true true p q h = (e, refl, eqb-true e.source a p, q)
    at true false p q h = let no_such : false ≡ true = h in cc
    at false q p r h = let no_such : false ≡ true = h in cc

-- a path that begins with an edge
with_edge : (edges : List Edge) (a n : ℕ) (ns : List ℕ) (e : Edge) → slice_get edges n ≡ Some e → e.source ≡ a → is_path edges e.target ns ≡ true →
    is_path edges a (n ∷ ns) ≡ true
with_edge edges a n ns e g s p =
    ap (λ (o : Option Edge). unwrap_or (option_map (after_letter edges a ns) o) false) g ∙ ap₂ (λ x y. x && y) (eq-eqb e.source a s) p

abbrev numbers : List (ℕ × ℕ) → List ℕ
numbers ls = map (λ (l : ℕ × ℕ). l.1) ls

abbrev chosen_by : ℕ → List (ℕ × ℕ) → List (ℕ × ℕ)
chosen_by k ls = filter (λ (l : ℕ × ℕ). l.0 == k) ls

-- where each thread's edges are a path from where it is, the letters move the threads
pub located_of_paths : (edges : List Edge) (ls : List (ℕ × ℕ)) (at : ℕ → ℕ) → ((k : ℕ) → is_path edges (at k) (edges_of k ls) ≡ true) → Located edges at ls
located_of_paths edges [] at paths = tt
located_of_paths edges (l ∷ ls) at paths =
    on (first_edge edges (at l.0) (edges_of l.0 ls) (slice_get edges l.1) (own (l.0 == l.0) (eq-eqb l.0 l.0 refl) (paths l.0)))
    (λ e rest. located_of_paths edges ls (moved_to at l.0 e.target) rest)
  where
    own : (t : Bool) → t ≡ true → is_path edges (at l.0) (numbers (if t then l ∷ chosen_by l.0 ls else chosen_by l.0 ls)) ≡ true →
        is_path edges (at l.0) (l.1 ∷ edges_of l.0 ls) ≡ true
    own true t h = h
    own false t h = let no_such : false ≡ true = t in cc

    others : (e : Edge) → slice_get edges l.1 ≡ Some e → is_path edges e.target (edges_of l.0 ls) ≡ true → (k : ℕ) (t : Bool) → (l.0 == k) ≡ t →
        is_path edges (at k) (numbers (if t then l ∷ chosen_by k ls else chosen_by k ls)) ≡ true →
        is_path edges (if t then e.target else at k) (edges_of k ls) ≡ true
    others e g p k true t h = subst (λ (j : ℕ). is_path edges e.target (edges_of j ls) ≡ true) (eqb-true l.0 k t) p
    others e g p k false t h = h

    on : (e : Edge) × (slice_get edges l.1 ≡ Some e) × (e.source ≡ at l.0) × (is_path edges e.target (edges_of l.0 ls) ≡ true) →
        ((e : Edge) → ((k : ℕ) → is_path edges (moved_to at l.0 e.target k) (edges_of k ls) ≡ true) → Located edges (moved_to at l.0 e.target) ls) →
        Located edges at (l ∷ ls)
    on (e, g, s, p) rest = (e, g, s, rest e (λ k. others e g p k (l.0 == k) refl (paths k)))

-- and the other way round
pub paths_of_located : (edges : List Edge) (ls : List (ℕ × ℕ)) (at : ℕ → ℕ) → Located edges at ls → (k : ℕ) → is_path edges (at k) (edges_of k ls) ≡ true
paths_of_located edges [] at h k = refl
paths_of_located edges (l ∷ ls) at (e, g, s, h) k = on (l.0 == k) refl (paths_of_located edges ls (moved_to at l.0 e.target) h k)
  where
    on : (t : Bool) → (l.0 == k) ≡ t → is_path edges (if t then e.target else at k) (edges_of k ls) ≡ true →
        is_path edges (at k) (numbers (if t then l ∷ chosen_by k ls else chosen_by k ls)) ≡ true
    on true t p = with_edge edges (at k) l.1 (edges_of k ls) e g (s ∙ ap at (eqb-true l.0 k t)) p
    on false t p = p

choice_fits : (b : Bool) → int_eq (choice_of b) (choice_of b) ≡ true
choice_fits true = refl
choice_fits false = refl

-- woven choices fit, and give the havoc values back
fit-woven : (ps : List Pick) (hs : List ℤ) → length hs ≡ values_in ps → fit ps (woven ps hs) ≡ Some (hs, [])
fit-woven [] [] h = refl
fit-woven [] (z ∷ hs) h = let no_such : ⊥ = omega (arith, h) in absurd no_such
fit-woven (Star b ∷ ps) hs h = rw (choice_fits b) (fit-woven ps hs h)
fit-woven (Value ∷ ps) [] h = let no_such : ⊥ = omega (arith, h) in absurd no_such
fit-woven (Value ∷ ps) (z ∷ hs) h =
    let shorter : length hs ≡ values_in ps = omega (arith, h) in
    ap (option_map (λ (q : List ℤ × List ℤ). let r : List ℤ × List ℤ = (z ∷ q.0, q.1) in r)) (fit-woven ps hs shorter)

pub havocs_of-woven : (ps : List Pick) (hs : List ℤ) → length hs ≡ values_in ps → havocs_of ps (woven ps hs) ≡ Some hs
havocs_of-woven ps hs h = ap (option_and_then if_all_used) (fit-woven ps hs h)

-- the number of havoc values, where there are any
abbrev Counts : ℕ → Option (List ℤ × List ℤ) → Type 0
Counts n None = Unit {0}
Counts n (Some q) = length q.0 ≡ n

-- choices that fit give as many havoc values as the picks have
fit_counts : (ps : List Pick) (cs : List ℤ) → Counts (values_in ps) (fit ps cs)
fit_counts [] cs = refl
fit_counts (_ ∷ ps) [] = tt
fit_counts (Star b ∷ ps) (c ∷ cs) = at (int_eq c (choice_of b)) (fit_counts ps cs)
  where
    at : (t : Bool) → Counts (values_in ps) (fit ps cs) → Counts (values_in ps) (if t then fit ps cs else None)
    at true h = h
    at false h = tt
fit_counts (Value ∷ ps) (c ∷ cs) = at (fit ps cs) (fit_counts ps cs)
  where
    at : (o : Option (List ℤ × List ℤ)) → Counts (values_in ps) o →
        Counts (1 + values_in ps) (option_map (λ (q : List ℤ × List ℤ). let r : List ℤ × List ℤ = (c ∷ q.0, q.1) in r) o)
    at None h = tt
    at (Some q) h = omega (arith, h)

pub havocs_count : (ps : List Pick) (cs hs : List ℤ) → havocs_of ps cs ≡ Some hs → length hs ≡ values_in ps
havocs_count ps cs hs h = at (fit ps cs) (fit_counts ps cs) h
  where
    at : (o : Option (List ℤ × List ℤ)) → Counts (values_in ps) o → option_and_then if_all_used o ≡ Some hs → length hs ≡ values_in ps
    at None c e = cc
    at (Some (gs, [])) c e = ap length (sym (same_Some gs hs e)) ∙ c
    at (Some (gs, d ∷ ds)) c e = cc
