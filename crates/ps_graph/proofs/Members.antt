-- Members of lists, by recursion, and of lists of edges and paths.
use Rattle.std.proofs.Common.{◌≡◌, Bool, true, false, ◌==◌, refl, sym, ◌∙◌, ap, subst, ℕ, zero, suc, ℤ, List, [], ◌∷◌, ◌++◌, ◌⊎◌, inl, inr, if◌then◌else◌, eq-eqb, arith}
use Rattle.std.specs.Prelude.{Contains}
use Rattle.std.proofs.lemmas.Bool.{eqb-true}
use Rattle.ps_command.specs.Values.{Values}
use Rattle.ps_command.specs.declared.command.Command.{Command}
use Rattle.ps_graph.proofs.Agreement.{gives, Sound, Found}
use Rattle.ps_graph.specs.Follows.{Realises, AreRealised, going_to, leaving}
use Rattle.ps_graph.specs.Paths.{Act}
use Rattle.ps_graph.specs.Step.{Completion, Blocked}
use Rattle.ps_graph.specs.declared.edge.Edge.{Edge}

-- one of the list, by recursion
abbrev pub IsIn : {X : Type 0} → X → List X → Type 0
IsIn x [] = ⊥
IsIn x (y ∷ ys) = (x ≡ y) ⊎ IsIn x ys

pub contains_of_in : {X : Type 0} → (x : X) (xs : List X) → IsIn x xs → Contains xs x
contains_of_in x [] h = absurd h
contains_of_in x (y ∷ xs) (inl e) = (zero, omega arith, sym e)
contains_of_in {X} x (y ∷ xs) (inr h) = at (contains_of_in x xs h)
  where
    at : Contains xs x → Contains (y ∷ xs) x
    at (k, within, e) = (suc k, omega (arith, within), e)

pub in_of_contains : {X : Type 0} → (x : X) (xs : List X) → Contains xs x → IsIn x xs
in_of_contains x [] (k, within, e) = let none : ⊥ = omega (arith, within) in absurd none
in_of_contains x (y ∷ xs) (zero, within, e) = inl (sym e)
in_of_contains x (y ∷ xs) (suc k, within, e) = inr (in_of_contains x xs (k, omega (arith, within), e))

pub in_left : {X : Type 0} → (x : X) (xs ys : List X) → IsIn x xs → IsIn x (xs ++ ys)
in_left x [] ys h = absurd h
in_left x (y ∷ xs) ys (inl e) = inl e
in_left x (y ∷ xs) ys (inr h) = inr (in_left x xs ys h)

pub in_right : {X : Type 0} → (x : X) (xs ys : List X) → IsIn x ys → IsIn x (xs ++ ys)
in_right x [] ys h = h
in_right x (y ∷ xs) ys h = inr (in_right x xs ys h)

pub in_either : {X : Type 0} → (x : X) (xs ys : List X) → IsIn x (xs ++ ys) → IsIn x xs ⊎ IsIn x ys
in_either x [] ys h = inr h
in_either x (y ∷ xs) ys (inl e) = inl (inl e)
in_either x (y ∷ xs) ys (inr h) = elim (in_either x xs ys h) [ inl g ↦ inl (inr g) | inr g ↦ inr g ]

-- the edges that leave a location are those whose source it is
pub in_leaving : (a : ℕ) (e : Edge) (edges : List Edge) → IsIn e edges → e.source ≡ a → IsIn e (leaving a edges)
in_leaving a e [] h s = h
in_leaving a e (d ∷ edges) (inl same) s = at (d.source == a) (eq-eqb d.source a (ap (λ (f : Edge). f.source) (sym same) ∙ s))
  where
    at : (t : Bool) → t ≡ true → IsIn e (if t then d ∷ leaving a edges else leaving a edges)
    at true h = inl same
    at false h = let no_such : false ≡ true = h in cc
in_leaving a e (d ∷ edges) (inr h) s = at (d.source == a) (in_leaving a e edges h s)
  where
    at : (t : Bool) → IsIn e (leaving a edges) → IsIn e (if t then d ∷ leaving a edges else leaving a edges)
    at true g = inr g
    at false g = g

pub of_leaving : (a : ℕ) (e : Edge) (edges : List Edge) → IsIn e (leaving a edges) → IsIn e edges × (e.source ≡ a)
of_leaving a e [] h = absurd h
of_leaving a e (d ∷ edges) h = at (d.source == a) refl h (of_leaving a e edges)
  where
    at : (t : Bool) → (d.source == a) ≡ t → IsIn e (if t then d ∷ leaving a edges else leaving a edges) →
        (IsIn e (leaving a edges) → IsIn e edges × (e.source ≡ a)) → IsIn e (d ∷ edges) × (e.source ≡ a)
    at true t (inl same) rest = (inl same, ap (λ (f : Edge). f.source) same ∙ eqb-true d.source a t)
    at true t (inr g) rest = (inr (rest g).0, (rest g).1)
    at false t g rest = (inr (rest g).0, (rest g).1)

-- the paths that go on to one location
pub in_going : (goal : ℕ) (p : List Act) (ps : List (List Act)) → IsIn p ps → IsIn (p, goal) (going_to goal ps)
in_going goal p [] h = h
in_going goal p (q ∷ ps) (inl e) = inl (ap (λ (r : List Act). let s : List Act × ℕ = (r, goal) in s) e)
in_going goal p (q ∷ ps) (inr h) = inr (in_going goal p ps h)

pub of_going : (goal : ℕ) (p : List Act × ℕ) (ps : List (List Act)) → IsIn p (going_to goal ps) → IsIn p.0 ps × (p.1 ≡ goal)
of_going goal p [] h = absurd h
of_going goal p (q ∷ ps) (inl e) = (inl (ap (λ (r : List Act × ℕ). r.0) e), ap (λ (r : List Act × ℕ). r.1) e)
of_going goal p (q ∷ ps) (inr h) = (inr (of_going goal p ps h).0, (of_going goal p ps h).1)

-- each path has its edge, and each edge its path
pub edge_of : (commands : List Command) (a : ℕ) (p : List Act × ℕ) (ps : List (List Act × ℕ)) (es : List Edge) →
    AreRealised commands a ps es → IsIn p ps → (e : Edge) × IsIn e es × Realises commands a p.0 p.1 e
edge_of commands a p [] [] d h = absurd h
edge_of commands a p [] (e ∷ es) d h = absurd h
edge_of commands a p (q ∷ ps) [] d h = absurd d
edge_of commands a p (q ∷ ps) (e ∷ es) d (inl same) = (e, inl refl, subst (λ (r : List Act × ℕ). Realises commands a r.0 r.1 e) (sym same) d.0)
edge_of commands a p (q ∷ ps) (e ∷ es) d (inr h) = at (edge_of commands a p ps es d.1 h)
  where
    at : (f : Edge) × IsIn f es × Realises commands a p.0 p.1 f → (f : Edge) × IsIn f (e ∷ es) × Realises commands a p.0 p.1 f
    at (f, g, w) = (f, inr g, w)

pub path_of : (commands : List Command) (a : ℕ) (e : Edge) (ps : List (List Act × ℕ)) (es : List Edge) →
    AreRealised commands a ps es → IsIn e es → (p : List Act × ℕ) × IsIn p ps × Realises commands a p.0 p.1 e
path_of commands a e [] [] d h = absurd h
path_of commands a e [] (f ∷ es) d h = absurd d
path_of commands a e (q ∷ ps) [] d h = absurd h
path_of commands a e (q ∷ ps) (f ∷ es) d (inl same) = (q, inl refl, subst (λ (r : Edge). Realises commands a q.0 q.1 r) (sym same) d.0)
path_of commands a e (q ∷ ps) (f ∷ es) d (inr h) = at (path_of commands a e ps es d.1 h)
  where
    at : (p : List Act × ℕ) × IsIn p ps × Realises commands a p.0 p.1 e → (p : List Act × ℕ) × IsIn p (q ∷ ps) × Realises commands a p.0 p.1 e
    at (p, g, w) = (p, inr g, w)

pub found_path : (ps : List (List Act)) (v : Values) (cs : List ℤ) (o : Completion) → Found ps v cs o → (p : List Act) × IsIn p ps × (gives p v cs ≡ o)
found_path [] v cs o f = absurd f
found_path (p ∷ ps) v cs o (inl e) = (p, inl refl, e)
found_path (p ∷ ps) v cs o (inr f) = at (found_path ps v cs o f)
  where
    at : (q : List Act) × IsIn q ps × (gives q v cs ≡ o) → (q : List Act) × IsIn q (p ∷ ps) × (gives q v cs ≡ o)
    at (q, g, e) = (q, inr g, e)

pub sound_path : (ps : List (List Act)) (v : Values) (cs : List ℤ) (o : Completion) (p : List Act) → Sound ps v cs o → IsIn p ps →
    (gives p v cs ≡ Blocked) ⊎ (gives p v cs ≡ o)
sound_path [] v cs o p s h = absurd h
sound_path (q ∷ ps) v cs o p s (inl e) = subst (λ (r : List Act). (gives r v cs ≡ Blocked) ⊎ (gives r v cs ≡ o)) (sym e) s.0
sound_path (q ∷ ps) v cs o p s (inr h) = sound_path ps v cs o p s.1 h
