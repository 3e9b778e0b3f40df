-- The names that are known, as a list of declared ones has them.
use Rattle.std.proofs.Common.{◌≡◌, ℕ, suc, ◌+◌, Bool, true, false, ◌||◌, List, [], ◌∷◌, ◌++◌, Option, Some, None, refl, sym, ap, ◌∙◌, arith}
use Rattle.std.specs.Prelude.{Contains, option_map, if◌then◌else◌}
use Rattle.std.specs.Str.{bytes_eq}
use Rattle.std.specs.List.{All}
use Rattle.std.proofs.lemmas.List.Elements.{All-cons, All-contains, All-nil, All-weaker}
use Rattle.std.proofs.lemmas.Slice.Eq.{bytes_eq-Decides}
use Rattle.ps_term.specs.declared.var.Var.TheVariants.{Global, Local}
use Rattle.ps_parse.specs.Inner.Passed.{has_name}
use Rattle.ps_grammar.specs.Declarations.{names_of, nothing_declared}
use Rattle.ps_grammar.specs.Names.{Names, first_of, position_from, variable_of_name}

-- whether there is one
abbrev pub is_there : {A : Type 0} → Option A → Bool
is_there (Some x) = true
is_there None = false

there_map : {A B : Type 0} (f : A → B) (o : Option A) → is_there (option_map f o) ≡ is_there o
there_map f None = refl
there_map f (Some x) = refl

there_first : {A : Type 0} (o p : Option A) → is_there (first_of o p) ≡ (is_there o || is_there p)
there_first None p = refl
there_first (Some x) p = refl

there_position : (i : ℕ) (y : List ℕ) (xs : List (List ℕ)) → is_there (position_from i y xs) ≡ has_name y xs
there_position i y [] = refl
there_position i y (x ∷ xs) = by_test (bytes_eq x y) (there_position (i + 1) y xs)
  where
    by_test : (t : Bool) → is_there (position_from (i + 1) y xs) ≡ has_name y xs → is_there (if t then Some i else position_from (i + 1) y xs) ≡ (t || has_name y xs)
    by_test true h = refl
    by_test false h = h

-- a name is known where it is one of the globals or of the locals
pub known_is : (names : Names) (y : List ℕ) → is_there (variable_of_name names y) ≡ (has_name y names.globals || has_name y names.locals)
known_is names y =
    there_first (option_map Global (position_from 0 y names.globals)) (option_map (Local 0) (position_from 0 y names.locals))
    ∙ ap (λ (t : Bool). t || is_there (option_map (Local 0) (position_from 0 y names.locals))) (there_map Global (position_from 0 y names.globals) ∙ there_position 0 y names.globals)
    ∙ ap (λ (t : Bool). has_name y names.globals || t) (there_map (Local 0) (position_from 0 y names.locals) ∙ there_position 0 y names.locals)

-- ---- one name more

pub has_name-append : (y : List ℕ) (xs ys : List (List ℕ)) → has_name y (xs ++ ys) ≡ (has_name y xs || has_name y ys)
has_name-append y [] ys = refl
has_name-append y (x ∷ xs) ys = by_test (bytes_eq x y) (has_name-append y xs ys)
  where
    by_test : (t : Bool) → has_name y (xs ++ ys) ≡ (has_name y xs || has_name y ys) → (t || has_name y (xs ++ ys)) ≡ ((t || has_name y xs) || has_name y ys)
    by_test true h = refl
    by_test false h = h

more_globals : (a b c : Bool) → ((a || (c || false)) || b) ≡ (c || (a || b))
more_globals true b true = refl
more_globals true b false = refl
more_globals false b true = refl
more_globals false b false = refl

more_locals : (a b c : Bool) → (a || (b || (c || false))) ≡ (c || (a || b))
more_locals true b true = refl
more_locals true b false = refl
more_locals false true true = refl
more_locals false true false = refl
more_locals false false true = refl
more_locals false false false = refl

-- The names of the list are known, and no others.
pub record Knows (names : Names) (list : List (List ℕ)) : Type 0 where
  pub same : (y : List ℕ) → is_there (variable_of_name names y) ≡ has_name y list

pub knows_none : Knows (names_of nothing_declared) []
knows_none = record { same = λ y. refl }

pub knows_global : (globals locals list : List (List ℕ)) (x : List ℕ) → Knows (record { globals = globals; locals = locals }) list → Knows (record { globals = globals ++ x ∷ []; locals = locals }) (x ∷ list)
knows_global globals locals list x h = record {
  same = λ y.
      known_is (record { globals = globals ++ x ∷ []; locals = locals }) y
      ∙ ap (λ (t : Bool). t || has_name y locals) (has_name-append y globals (x ∷ []))
      ∙ more_globals (has_name y globals) (has_name y locals) (bytes_eq x y)
      ∙ ap (λ (t : Bool). bytes_eq x y || t) (sym (known_is (record { globals = globals; locals = locals }) y) ∙ h.same y);
}

pub knows_local : (globals locals list : List (List ℕ)) (x : List ℕ) → Knows (record { globals = globals; locals = locals }) list → Knows (record { globals = globals; locals = locals ++ x ∷ [] }) (x ∷ list)
knows_local globals locals list x h = record {
  same = λ y.
      known_is (record { globals = globals; locals = locals ++ x ∷ [] }) y
      ∙ ap (λ (t : Bool). has_name y globals || t) (has_name-append y locals (x ∷ []))
      ∙ more_locals (has_name y globals) (has_name y locals) (bytes_eq x y)
      ∙ ap (λ (t : Bool). bytes_eq x y || t) (sym (known_is (record { globals = globals; locals = locals }) y) ∙ h.same y);
}

-- ---- what the list contains

contains_more : (x y : List ℕ) (xs : List (List ℕ)) → Contains xs y → Contains (x ∷ xs) y
contains_more x y xs h = (suc h.0, omega (arith, h.1), h.2)

pub contains_named : (y : List ℕ) (xs : List (List ℕ)) → has_name y xs ≡ true → Contains xs y
contains_named y [] h = absurd cc
contains_named y (x ∷ xs) h = by_test (bytes_eq x y) refl h (contains_named y xs)
  where
    by_test : (t : Bool) → bytes_eq x y ≡ t → (t || has_name y xs) ≡ true → (has_name y xs ≡ true → Contains xs y) → Contains (x ∷ xs) y
    by_test true e g k = (0, omega arith, (bytes_eq-Decides x y).0 e)
    by_test false e g k = contains_more x y xs (k g)

named_more : (x y : List ℕ) (xs : List (List ℕ)) → has_name y xs ≡ true → has_name y (x ∷ xs) ≡ true
named_more x y xs h = by_test (bytes_eq x y)
  where
    by_test : (t : Bool) → (t || has_name y xs) ≡ true
    by_test true = refl
    by_test false = h

named_first : (x : List ℕ) (xs : List (List ℕ)) → has_name x (x ∷ xs) ≡ true
named_first x xs = ap (λ (t : Bool). t || has_name x xs) ((bytes_eq-Decides x x).1 refl)

all_named : (xs : List (List ℕ)) → All (λ (z : List ℕ). has_name z xs ≡ true) xs
all_named [] = All-nil (λ (z : List ℕ). has_name z [] ≡ true)
all_named (x ∷ xs) =
    All-cons (λ (z : List ℕ). has_name z (x ∷ xs) ≡ true) x xs (named_first x xs)
    (All-weaker (λ (z : List ℕ). has_name z xs ≡ true) (λ (z : List ℕ). has_name z (x ∷ xs) ≡ true) (λ z h. named_more x z xs h) xs (all_named xs))

pub named_contains : (y : List ℕ) (xs : List (List ℕ)) → Contains xs y → has_name y xs ≡ true
named_contains y xs h = All-contains (λ (z : List ℕ). has_name z xs ≡ true) xs y (all_named xs) h

pub contains_known : (names : Names) (list : List (List ℕ)) (y : List ℕ) → Knows names list → is_there (variable_of_name names y) ≡ true → Contains list y
contains_known names list y h known = contains_named y list (sym (h.same y) ∙ known)

pub not_contains : (names : Names) (list : List (List ℕ)) (y : List ℕ) → Knows names list → is_there (variable_of_name names y) ≡ false → Contains list y → ⊥
not_contains names list y h unknown c = differ (sym unknown ∙ h.same y ∙ named_contains y list c)
  where
    differ : false ≡ true → ⊥
    differ e = cc
