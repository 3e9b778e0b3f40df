-- Worked examples of a text and its tree, of its first fault, and of what is read off the words before a place: the levels
-- that are open, the names that are declared, the rows that hold at the start, those that an item ahead gives, and which
-- causes of refusals stand there.
use Rattle.std.specs.Prelude.{◌≡◌, ℕ, ◌≤◌, negsuc, false, List, [], ◌∷◌, ◌++◌, Some}
use Rattle.ps_grammar.specs.Programs.{IsProgramText}
use Rattle.ps_grammar.specs.Words.{Word}
use Rattle.ps_parse.specs.declared.level.Level.TheVariants as level
use Rattle.ps_parse.specs.Causes.{GivesRows, IsCauseAt, declared_in, is_after_factor, levels, rows_passed, words_at}
use Rattle.ps_parse.specs.Reads.{IsFirstGrammarFault}
use Rattle.ps_parse.specs.declared.read_refusal.ReadRefusal.TheVariants as refusal
use Rattle.ps_term.specs.declared.var.Var.TheVariants.{Global}
use Rattle.ps_token.specs.declared.token_kind.TokenKind.{TokenKind}
use Rattle.ps_token.specs.declared.token_kind.TokenKind.TheVariants as kind
use Rattle.ps_tree.specs.declared.cond.Test.TheVariants as test
use Rattle.ps_tree.specs.declared.program.Program.{Program}
use Rattle.ps_tree.specs.declared.stmt.StmtKind.TheVariants as stmt

-- ---- a text and its tree

-- a mark or a reserved name in the first line, and the name `x`
abbrev pub mark_at : TokenKind → ℕ → Word
mark_at k column = record { kind = k; text = []; place = record { line = 1; column = column } }

abbrev pub name_at : ℕ → Word
name_at column = record { kind = kind.Name; text = 120 ∷ []; place = record { line = 1; column = column } }

-- `global x = - 1 ; thread { havoc x ; if ( * ) { skip ; } }`
abbrev pub text : List Word
text =
    mark_at kind.Global 1 ∷ name_at 2 ∷ mark_at kind.Equal 3 ∷ mark_at kind.Minus 4
    ∷ record { kind = kind.Number; text = 49 ∷ []; place = record { line = 1; column = 5 } } ∷ mark_at kind.Semicolon 6
    ∷ mark_at kind.Thread 7 ∷ mark_at kind.OpenBrace 8 ∷ mark_at kind.Havoc 9 ∷ name_at 10 ∷ mark_at kind.Semicolon 11
    ∷ mark_at kind.If 12 ∷ mark_at kind.OpenParen 13 ∷ mark_at kind.Star 14 ∷ mark_at kind.CloseParen 15
    ∷ mark_at kind.OpenBrace 16 ∷ mark_at kind.Skip 17 ∷ mark_at kind.Semicolon 18 ∷ mark_at kind.CloseBrace 19
    ∷ mark_at kind.CloseBrace 20 ∷ []

-- `x` is global 0 with the value -1, and each statement stands at its first word
abbrev pub tree : Program
tree = record {
  globals = record { name = 120 ∷ []; value = Some (negsuc 0) } ∷ [];
  locals = [];
  inits = [];
  body =
      record { place = record { line = 1; column = 9 }; kind = stmt.Havoc (Global 0) }
      ∷ record { place = record { line = 1; column = 12 }; kind = stmt.If test.Star (record { place = record { line = 1; column = 17 }; kind = stmt.Skip } ∷ []) [] } ∷ [];
}

abbrev pub TextIsRead : Type 0
TextIsRead = IsProgramText text tree

-- `thread { skip }` has its first fault at the closing brace, where `;` is wanted
abbrev pub FaultStandsAtBrace : Type 0
FaultStandsAtBrace =
    IsFirstGrammarFault (mark_at kind.Thread 1 ∷ mark_at kind.OpenBrace 2 ∷ mark_at kind.Skip 3 ∷ mark_at kind.CloseBrace 4 ∷ [])
    (record { line = 1; column = 5 }) (record { line = 1; column = 4 })

-- ---- words, whose places don't matter

abbrev pub word : TokenKind → List ℕ → Word
word k text = record { kind = k; text = text; place = record { line = 1; column = 1 } }

abbrev pub mark : TokenKind → Word
mark k = word k []

abbrev pub x : Word
x = word kind.Name (120 ∷ [])

abbrev pub y : Word
y = word kind.Name (121 ∷ [])

abbrev pub zero : Word
zero = word kind.Number (48 ∷ [])

-- the words that were passed, the nearest first, from the words in their order
abbrev pub turned : List Word → List Word → List Word
turned back [] = back
turned back (w ∷ ws) = turned (w ∷ back) ws

-- ---- what the words before a place say

-- `! ( x > 0`
abbrev pub negated : List Word
negated = mark kind.Not ∷ mark kind.OpenParen ∷ x ∷ mark kind.Greater ∷ zero ∷ []

-- `atomic { if (`
abbrev pub in_atomic : List Word
in_atomic = mark kind.Atomic ∷ mark kind.OpenBrace ∷ mark kind.If ∷ mark kind.OpenParen ∷ []

-- `)` and `&&` end a negation with parentheses, `! x > 0` stays open until `&&`, and `atomic { } {` is outside again
abbrev pub LevelsAreOpen : Type 0
LevelsAreOpen =
    (levels (turned [] negated) ≡ level.Parens ∷ level.Negation ∷ [])
    × (levels (turned [] (negated ++ mark kind.CloseParen ∷ mark kind.And ∷ [])) ≡ [])
    × (levels (turned [] (mark kind.Not ∷ x ∷ mark kind.Greater ∷ zero ∷ [])) ≡ level.Negation ∷ [])
    × (levels (turned [] in_atomic) ≡ level.Parens ∷ level.AtomicBlock ∷ [])
    × (levels (turned [] (mark kind.Atomic ∷ mark kind.OpenBrace ∷ mark kind.CloseBrace ∷ mark kind.OpenBrace ∷ [])) ≡ level.Block ∷ [])

-- `global x ; local y ;`
abbrev pub declarations : List Word
declarations = mark kind.Global ∷ x ∷ mark kind.Semicolon ∷ mark kind.Local ∷ y ∷ mark kind.Semicolon ∷ []

-- of the names that follow, none is declared by standing there: `thread { havoc x`
abbrev pub NamesAreDeclared : Type 0
NamesAreDeclared =
    (declared_in (turned [] declarations) ≡ (121 ∷ []) ∷ (120 ∷ []) ∷ [])
    × (declared_in (turned [] (declarations ++ mark kind.Thread ∷ mark kind.OpenBrace ∷ mark kind.Havoc ∷ x ∷ [])) ≡ (121 ∷ []) ∷ (120 ∷ []) ∷ [])

-- `global x = 0 ;`
abbrev pub valued : List Word
valued = mark kind.Global ∷ x ∷ mark kind.Equal ∷ zero ∷ mark kind.Semicolon ∷ []

-- two rows of the value, two of `init x == 0` and one of `&& x > 0`; or one of `init x < 0`
abbrev pub RowsAreCounted : Type 0
RowsAreCounted =
    (rows_passed (turned [] (valued ++ mark kind.Init ∷ x ∷ mark kind.EqualEqual ∷ zero ∷ mark kind.And ∷ x ∷ mark kind.Greater ∷ zero ∷ mark kind.Semicolon ∷ [])) ≡ 5)
    × (rows_passed (turned [] (valued ++ mark kind.Init ∷ x ∷ mark kind.Less ∷ zero ∷ mark kind.Semicolon ∷ [])) ≡ 3)

-- the words that were passed and those ahead are the whole
abbrev pub WordsAreWhole : Type 0
WordsAreWhole = words_at (turned [] negated) in_atomic ≡ negated ++ in_atomic

-- ---- the rows of an item ahead

-- `init x > 0 * y *`: the relation is whole, as nothing goes on in `0 * y`. `init x == y && x ;`: two rows of the first
-- relation, and the second has no sign. `global x = - 0 0`: the value's two rows, whatever follows.
abbrev pub one_row : List Word
one_row = mark kind.Init ∷ x ∷ mark kind.Greater ∷ zero ∷ mark kind.Star ∷ y ∷ mark kind.Star ∷ []

abbrev pub two_rows : List Word
two_rows = mark kind.Init ∷ x ∷ mark kind.EqualEqual ∷ y ∷ mark kind.And ∷ x ∷ mark kind.Semicolon ∷ []

abbrev pub value_rows : List Word
value_rows = mark kind.Global ∷ x ∷ mark kind.Equal ∷ mark kind.Minus ∷ zero ∷ zero ∷ []

abbrev pub ItemsGiveRows : Type 0
ItemsGiveRows = GivesRows one_row 1 × GivesRows two_rows 2 × GivesRows value_rows 2

-- `init x > x * y`: `x > x` isn't whole, as `*` goes on in it
abbrev pub quadratic : List Word
quadratic = mark kind.Init ∷ x ∷ mark kind.Greater ∷ x ∷ mark kind.Star ∷ y ∷ []

-- `init x != y`
abbrev pub unequal : List Word
unequal = mark kind.Init ∷ x ∷ mark kind.NotEqual ∷ y ∷ []

-- `init x == y && x == y + ;`: the second relation isn't whole
abbrev pub unfinished : List Word
unfinished = mark kind.Init ∷ x ∷ mark kind.EqualEqual ∷ y ∷ mark kind.And ∷ x ∷ mark kind.EqualEqual ∷ y ∷ mark kind.Plus ∷ mark kind.Semicolon ∷ []

-- `global x = ;`
abbrev pub valueless : List Word
valueless = mark kind.Global ∷ x ∷ mark kind.Equal ∷ mark kind.Semicolon ∷ []

abbrev pub ItemsGiveNoMore : Type 0
ItemsGiveNoMore =
    ((rows : ℕ) → GivesRows quadratic rows → rows ≤ 0) × ((rows : ℕ) → GivesRows unequal rows → rows ≤ 0)
    × ((rows : ℕ) → GivesRows unfinished rows → rows ≤ 2) × ((rows : ℕ) → GivesRows valueless rows → rows ≤ 0)

-- ---- causes

-- `havoc x` where nothing is declared, `global x ; local x`, `x * y` but not `0 * y`, and `atomic { while`
abbrev pub CausesStand : Type 0
CausesStand =
    IsCauseAt (turned [] (mark kind.Thread ∷ mark kind.OpenBrace ∷ mark kind.Havoc ∷ [])) x [] (refusal.UnknownName x.place)
    × IsCauseAt (turned [] (mark kind.Global ∷ x ∷ mark kind.Semicolon ∷ mark kind.Local ∷ [])) x [] (refusal.Twice x.place)
    × IsCauseAt (turned [] (x ∷ mark kind.Star ∷ [])) y [] (refusal.NotLinear y.place)
    × (is_after_factor (turned [] (zero ∷ mark kind.Star ∷ [])) ≡ false)
    × IsCauseAt (turned [] (mark kind.Atomic ∷ mark kind.OpenBrace ∷ [])) (mark kind.While) [] (refusal.LoopInAtomic (mark kind.While).place)
