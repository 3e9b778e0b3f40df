-- Worked examples: steps of one thread.
use Rattle.std.specs.Prelude.{◌≡◌, pos, negsuc, ◌^◌, List, [], ◌∷◌, Some, None}
use Rattle.ps_graph.specs.Examples.{does, number, compare_with, x, seeing}
use Rattle.ps_graph.specs.Step.{Runs, Failed, step}
use Rattle.ps_tree.specs.declared.cond.Test.TheVariants.{Star, Cond as Where}
use Rattle.ps_tree.specs.declared.relation.Sign.TheVariants.{GreaterEq}
use Rattle.ps_tree.specs.declared.stmt.Stmt.{Stmt}
use Rattle.ps_tree.specs.declared.stmt.StmtKind.TheVariants.{Assign, Havoc, Assume, Assert, Skip, Atomic, If, While}

-- `assert x >= 0;`
abbrev pub at_least_zero : Stmt
at_least_zero = does (Assert (compare_with x GreaterEq (pos 0)))

-- `havoc x;`
abbrev pub anything : Stmt
anything = does (Havoc x)

-- `atomic { havoc x; if (*) { assert x >= 0; } }`
abbrev pub guess : List Stmt
guess = does (Atomic (anything ∷ does (If Star (at_least_zero ∷ []) []) ∷ [])) ∷ []

-- it fails in one step with the choices -1 and 1
abbrev pub GuessFails : Type 0
GuessFails = step (Runs guess) (seeing (pos 5)) (negsuc 0 ∷ pos 1 ∷ []) ≡ Some (seeing (negsuc 0), Failed)

-- it passes with the choices -1 and 0
abbrev pub GuessPasses : Type 0
GuessPasses = step (Runs guess) (seeing (pos 5)) (negsuc 0 ∷ pos 0 ∷ []) ≡ Some (seeing (negsuc 0), Runs [])

-- one choice too few is no step
abbrev pub TooFewChoices : Type 0
TooFewChoices = step (Runs guess) (seeing (pos 5)) (negsuc 0 ∷ []) ≡ None

-- one choice too many is no step, of a run that passes and of one that fails
abbrev pub TooManyChoices : Type 0
TooManyChoices = (step (Runs guess) (seeing (pos 5)) (negsuc 0 ∷ pos 0 ∷ pos 0 ∷ []) ≡ None)
    × (step (Runs guess) (seeing (pos 5)) (negsuc 0 ∷ pos 1 ∷ pos 1 ∷ []) ≡ None)

-- a number other than 1 and 0 is no choice of a `*`
abbrev pub NoSuchChoice : Type 0
NoSuchChoice = step (Runs guess) (seeing (pos 5)) (negsuc 0 ∷ pos 2 ∷ []) ≡ None

-- `if (*) { skip; } else { havoc x; }` and `while (*) { havoc x; }` take one choice, no more and no less
abbrev pub TestsTakeOne : Type 0
TestsTakeOne =
    let s : Stmt = does (If Star (does Skip ∷ []) (anything ∷ [])) in
    let w : Stmt = does (While Star (anything ∷ [])) in
    (step (Runs (s ∷ [])) (seeing (pos 5)) (pos 0 ∷ []) ≡ Some (seeing (pos 5), Runs (anything ∷ [])))
    × (step (Runs (s ∷ [])) (seeing (pos 5)) (pos 1 ∷ []) ≡ Some (seeing (pos 5), Runs (does Skip ∷ [])))
    × (step (Runs (s ∷ [])) (seeing (pos 5)) (pos 0 ∷ pos 7 ∷ []) ≡ None)
    × (step (Runs (s ∷ [])) (seeing (pos 5)) [] ≡ None)
    × (step (Runs (w ∷ [])) (seeing (pos 5)) (pos 1 ∷ []) ≡ Some (seeing (pos 5), Runs (anything ∷ w ∷ [])))
    × (step (Runs (w ∷ [])) (seeing (pos 5)) (pos 0 ∷ []) ≡ Some (seeing (pos 5), Runs []))
    × (step (Runs (w ∷ [])) (seeing (pos 5)) (pos 1 ∷ pos 1 ∷ []) ≡ None)
    × (step (Runs (w ∷ [])) (seeing (pos 5)) [] ≡ None)

-- `skip;` changes nothing and takes no choice
abbrev pub SkipTakesNone : Type 0
SkipTakesNone = (step (Runs (does Skip ∷ [])) (seeing (pos 5)) [] ≡ Some (seeing (pos 5), Runs []))
    × (step (Runs (does Skip ∷ [])) (seeing (pos 5)) (pos 0 ∷ []) ≡ None)

-- `havoc x;` takes any number, without bound
abbrev pub HavocTakesAny : Type 0
HavocTakesAny = (step (Runs (anything ∷ [])) (seeing (pos 5)) (pos (2 ^ 200) ∷ []) ≡ Some (seeing (pos (2 ^ 200)), Runs []))
    × (step (Runs (anything ∷ [])) (seeing (pos 5)) (negsuc 8 ∷ []) ≡ Some (seeing (negsuc 8), Runs []))
    × (step (Runs (anything ∷ [])) (seeing (pos 5)) [] ≡ None)

-- `assume x >= 1;` has no step where it is false, and goes on where it is true
abbrev pub FalseAssumeStops : Type 0
FalseAssumeStops =
    let s : Stmt = does (Assume (compare_with x GreaterEq (pos 1))) in
    (step (Runs (s ∷ [])) (seeing (pos 0)) [] ≡ None) × (step (Runs (s ∷ [])) (seeing (pos 1)) [] ≡ Some (seeing (pos 1), Runs []))

-- `assert x >= 0;` fails the thread where it is false, whatever comes after it
abbrev pub FalseAssertFails : Type 0
FalseAssertFails = (step (Runs (at_least_zero ∷ anything ∷ [])) (seeing (negsuc 0)) [] ≡ Some (seeing (negsuc 0), Failed))
    × (step (Runs (at_least_zero ∷ anything ∷ [])) (seeing (pos 0)) [] ≡ Some (seeing (pos 0), Runs (anything ∷ [])))

-- a failed thread has no step, and neither has one that has nothing left to run
abbrev pub EndedThreadsStay : Type 0
EndedThreadsStay = (step Failed (seeing (pos 0)) [] ≡ None) × (step (Runs []) (seeing (pos 0)) [] ≡ None)

-- `if (x >= 1) { x := 7; }` without else, where the test is false, goes on to what comes after it; where it is true, the
-- block comes first
abbrev pub IfWithoutElse : Type 0
IfWithoutElse =
    let seven : Stmt = does (Assign x (number (pos 7))) in
    let s : Stmt = does (If (Where (compare_with x GreaterEq (pos 1))) (seven ∷ []) []) in
    (step (Runs (s ∷ anything ∷ [])) (seeing (pos 0)) [] ≡ Some (seeing (pos 0), Runs (anything ∷ [])))
    × (step (Runs (s ∷ anything ∷ [])) (seeing (pos 1)) [] ≡ Some (seeing (pos 1), Runs (seven ∷ anything ∷ [])))

-- `atomic { x := 9; assume x >= 10; }` isn't possible, and `atomic { x := 9; assert x >= 10; assume x >= 10; }` fails,
-- since the assertion comes first
abbrev pub AtomicPartly : Type 0
AtomicPartly =
    let nine : Stmt = does (Assign x (number (pos 9))) in
    let needs_ten : Stmt = does (Assume (compare_with x GreaterEq (pos 10))) in
    let claims_ten : Stmt = does (Assert (compare_with x GreaterEq (pos 10))) in
    (step (Runs (does (Atomic (nine ∷ needs_ten ∷ [])) ∷ [])) (seeing (pos 5)) [] ≡ None)
    × (step (Runs (does (Atomic (nine ∷ claims_ten ∷ needs_ten ∷ [])) ∷ [])) (seeing (pos 5)) [] ≡ Some (seeing (pos 9), Failed))
