-- Which texts of the grammar are programs: names are declared before they are used, and once; no `!=` stands in an
-- `init` and no `while` in an `atomic`; and the limits are kept.
use Rattle.std.specs.Prelude.{◌≡◌, ◌≢◌, ◌≤◌, ◌<◌, ℕ, ◌-◌, Bool, true, false, List, [], ◌∷◌, None, All, length}
use Rattle.ps_tree.specs.declared.relation.Sign.TheVariants as sign
use Rattle.ps_grammar.specs.Grammar.{ProductText, number, name, number_name, name_number, SumText, RelationText, CondText, last_conj, or_else, ConjText, last_unary, and_also, UnaryText, negation, in_parens, relation, TestText, either, condition, StmtText, assign, havoc, assume, assert, skip, atomic, if_then, if_else, while_do, BlockText, block_end, block_more, ItemText, global, local, init, ProgramText}
use Rattle.ps_grammar.specs.Declarations.{Declared, most_globals, most_levels, most_locals, most_rows, names_of, nothing_declared}
use Rattle.ps_grammar.specs.Names.{Names, variable_of_name}
use Rattle.ps_grammar.specs.Trees.{with_item, with_items}

abbrev pub IsKnownName : Names → List ℕ → Type 0
IsKnownName names x = variable_of_name names x ≢ None

abbrev pub ProductFits : Names → ProductText → Type 0
ProductFits names (number n) = Unit {0}
ProductFits names (name x) = IsKnownName names x
ProductFits names (number_name n x) = IsKnownName names x
ProductFits names (name_number x n) = IsKnownName names x

abbrev pub SumTextFits : Names → SumText → Type 0
SumTextFits names s = ProductFits names s.first × All (λ (p : Bool × ProductText). ProductFits names p.1) s.further

abbrev pub RelationFits : Names → RelationText → Type 0
RelationFits names r = SumTextFits names r.left × SumTextFits names r.right

-- a condition in which at most so many levels of `!` and `(` are opened
abbrev mutual
  pub CondFits : Names → ℕ → CondText → Type 0
  CondFits names levels (last_conj c) = ConjFits names levels c
  CondFits names levels (or_else c rest) = ConjFits names levels c × CondFits names levels rest

  pub ConjFits : Names → ℕ → ConjText → Type 0
  ConjFits names levels (last_unary u) = UnaryFits names levels u
  ConjFits names levels (and_also u rest) = UnaryFits names levels u × ConjFits names levels rest

  pub UnaryFits : Names → ℕ → UnaryText → Type 0
  UnaryFits names levels (negation u) = (1 ≤ levels) × UnaryFits names (levels - 1) u
  UnaryFits names levels (in_parens c) = (1 ≤ levels) × CondFits names (levels - 1) c
  UnaryFits names levels (relation r) = RelationFits names r

-- a test in its parentheses, which open a level
abbrev pub TestFits : Names → ℕ → TestText → Type 0
TestFits names levels either = 1 ≤ levels
TestFits names levels (condition c) = (1 ≤ levels) × CondFits names (levels - 1) c

-- statements in which at most so many levels are opened, inside an atomic block or not
abbrev mutual
  pub StmtFits : Names → ℕ → Bool → StmtText → Type 0
  StmtFits names levels inside (assign x s) = IsKnownName names x × SumTextFits names s
  StmtFits names levels inside (havoc x) = IsKnownName names x
  StmtFits names levels inside (assume c) = CondFits names levels c
  StmtFits names levels inside (assert c) = CondFits names levels c
  StmtFits names levels inside skip = Unit {0}
  StmtFits names levels inside (atomic b) = (1 ≤ levels) × RestFits names (levels - 1) true b
  StmtFits names levels inside (if_then t b) = TestFits names levels t × (1 ≤ levels) × RestFits names (levels - 1) inside b
  StmtFits names levels inside (if_else t b c) = TestFits names levels t × (1 ≤ levels) × RestFits names (levels - 1) inside b × RestFits names (levels - 1) inside c
  StmtFits names levels inside (while_do t b) = (inside ≡ false) × TestFits names levels t × (1 ≤ levels) × RestFits names (levels - 1) inside b

  pub RestFits : Names → ℕ → Bool → BlockText → Type 0
  RestFits names levels inside block_end = Unit {0}
  RestFits names levels inside (block_more s b) = StmtFits names levels inside s × RestFits names levels inside b

-- the name isn't declared yet
abbrev pub IsNew : Declared → List ℕ → Type 0
IsNew d x = variable_of_name (names_of d) x ≡ None

abbrev pub ItemFits : Declared → ItemText → Type 0
ItemFits d (global x v) = IsNew d x × (length d.globals < most_globals) × ((with_item d (global x v)).rows ≤ most_rows)
ItemFits d (local x) = IsNew d x × (length d.locals < most_locals) × ((with_item d (local x)).rows ≤ most_rows)
ItemFits d (init r rs) =
    All (λ (s : RelationText). RelationFits (names_of d) s × (s.sign ≢ sign.NotEqual)) (r ∷ rs) × ((with_item d (init r rs)).rows ≤ most_rows)

abbrev pub ItemsFit : Declared → List ItemText → Type 0
ItemsFit d [] = Unit {0}
ItemsFit d (i ∷ is) = ItemFits d i × ItemsFit (with_item d i) is

-- the text of the grammar is a program
pub record ProgramFits (p : ProgramText) : Type 0 where
  pub items : ItemsFit nothing_declared p.items
  pub body : RestFits (names_of (with_items nothing_declared p.items)) (most_levels - 1) false p.body
