-- Lists of sets that are tried one after another.
use Rattle.std.proofs.Common.{◌≡◌, ℕ, suc, List, [], ◌∷◌, ◌++◌, map, refl, sym, ap, ap₂, ◌∙◌, subst, append_assoc, Contains}
use Rattle.std.proofs.lemmas.List.Elements.{All-weaker, Contains-append_left}
use Rattle.ps_atom.specs.declared.atom.Atom.{Atom}
use Rattle.ps_saturate.specs.inner.Choosing.{after_all, choices}
use Rattle.ps_saturate.specs.inner.Trials.{AreTried, IsBlocked, IsTried}
use Rattle.ps_saturate.specs.inner.Trials.IsTried.{blocked as was_blocked}
use Rattle.ps_saturate.specs.declared.trial.Trial.{Trial}
use Rattle.ps_triple.specs.declared.triple.Triple.{Triple}

-- ---- one list after another

pub tried_append : (trial : Trial) (us vs : List (List Atom)) (f g h : List Triple) → AreTried trial us f g → AreTried trial vs g h → AreTried trial (us ++ vs) f h
tried_append trial [] vs f g h a b = subst (λ (e : List Triple). AreTried trial vs e h) (sym a) b
tried_append trial (s ∷ us) vs f g h a b = (a.0, a.1, tried_append trial us vs a.0 g h a.2 b)

-- ---- sets with one more member

after_led : {X : Type 0} (first : List X) (x : X) (cs : List (List X)) → map (λ (c : List X). first ++ c) (map (λ (c : List X). x ∷ c) cs) ≡ map (λ (c : List X). (first ++ x ∷ []) ++ c) cs
after_led first x [] = refl
after_led {X} first x (c ∷ cs) = ap₂ (λ (d : List X) (ds : List (List X)). d ∷ ds) (sym (append_assoc first (x ∷ []) c)) (after_led first x cs)

pub map_append : {X Y : Type 0} (f : X → Y) (us vs : List X) → map f (us ++ vs) ≡ map f us ++ map f vs
map_append f [] vs = refl
map_append {X} {Y} f (a ∷ us) vs = ap (λ (ys : List Y). f a ∷ ys) (map_append f us vs)

-- the sets with so many more members are those that begin with the first one, and those without it
pub after_choices : {X : Type 0} (first : List X) (x : X) (xs : List X) (n : ℕ)
    → after_all first (choices (x ∷ xs) (suc n)) ≡ after_all (first ++ x ∷ []) (choices xs n) ++ after_all first (choices xs (suc n))
after_choices {X} first x xs n =
    map_append (λ (c : List X). first ++ c) (map (λ (c : List X). x ∷ c) (choices xs n)) (choices xs (suc n))
    ∙ ap (λ (cs : List (List X)). cs ++ after_all first (choices xs (suc n))) (after_led first x (choices xs n))

pub append_nothing : {X : Type 0} (xs : List X) → xs ++ [] ≡ xs
append_nothing [] = refl
append_nothing {X} (x ∷ xs) = ap (λ (ys : List X). x ∷ ys) (append_nothing xs)

no_more : {X : Type 0} (first xs : List X) → after_all first (choices xs 0) ≡ first ∷ []
no_more {X} first [] = ap (λ (c : List X). c ∷ []) (append_nothing first)
no_more {X} first (x ∷ xs) = ap (λ (c : List X). c ∷ []) (append_nothing first)

-- with no more members it is the set alone
pub tried_alone : (trial : Trial) (set rest : List Atom) (f g : List Triple) (more : ℕ) → more ≡ 0 → IsTried trial f set g → AreTried trial (after_all set (choices rest more)) f g
tried_alone trial set rest f g more none h =
    subst (λ (n : ℕ). AreTried trial (after_all set (choices rest n)) f g) (sym none)
    (subst (λ (sets : List (List Atom)). AreTried trial sets f g) (sym (no_more set rest)) (g, h, refl))

-- ---- sets with a part that was found

blocked_more : (found : List Triple) (set c : List Atom) → IsBlocked found set → IsBlocked found (set ++ c)
blocked_more found set c h = (h.0, h.1, All-weaker (Contains set) (Contains (set ++ c)) (λ q k. Contains-append_left set c q k) h.0.pre h.2)

pub tried_blocked : (trial : Trial) (set : List Atom) (cs : List (List Atom)) (found : List Triple) → IsBlocked found set → AreTried trial (after_all set cs) found found
tried_blocked trial set [] found h = refl
tried_blocked trial set (c ∷ cs) found h = (found, was_blocked (blocked_more found set c h), tried_blocked trial set cs found h)

-- ---- a walk: what is done, with what is left, is all

abbrev pub Walks : Trial → List Atom → List Atom → List Atom → ℕ → List Triple → List Triple → Type 0
Walks trial set all left more found so_far = (new : List Triple) →
    AreTried trial (after_all set (choices left more)) so_far new → AreTried trial (after_all set (choices all more)) found new

pub walks_none : (trial : Trial) (set all : List Atom) (more : ℕ) (found : List Triple) → Walks trial set all all more found found
walks_none trial set all more found new h = h

pub walks_step : (trial : Trial) (set all : List Atom) (q : Atom) (left : List Atom) (n : ℕ) (found so_far next : List Triple)
    → Walks trial set all (q ∷ left) (suc n) found so_far → AreTried trial (after_all (set ++ q ∷ []) (choices left n)) so_far next
    → Walks trial set all left (suc n) found next
walks_step trial set all q left n found so_far next walks one new rest =
    walks new (subst (λ (sets : List (List Atom)). AreTried trial sets so_far new) (sym (after_choices set q left n))
    (tried_append trial (after_all (set ++ q ∷ []) (choices left n)) (after_all set (choices left (suc n))) so_far next new one rest))

pub walks_end : (trial : Trial) (set all : List Atom) (n : ℕ) (found so_far : List Triple) → Walks trial set all [] (suc n) found so_far → AreTried trial (after_all set (choices all (suc n))) found so_far
walks_end trial set all n found so_far walks = walks so_far refl
