-- The syntax tree of a text of the grammar, with its names resolved and the places of its words.
use Rattle.std.specs.Prelude.{ℕ, ◌+◌, ℤ, pos, Bool, List, [], ◌∷◌, ◌++◌, map, drop, length, Option, Some, None}
use Rattle.std.specs.List.{flat_map}
use Rattle.ps_token.specs.declared.place.Place.{Place}
use Rattle.ps_term.specs.declared.var.Var.{Var}
use Rattle.ps_term.specs.declared.var.Var.TheVariants.{Global}
use Rattle.ps_tree.specs.declared.cond.Cond.{Cond}
use Rattle.ps_tree.specs.declared.cond.Cond.TheVariants as cond
use Rattle.ps_tree.specs.declared.cond.Test.{Test}
use Rattle.ps_tree.specs.declared.cond.Test.TheVariants as test
use Rattle.ps_tree.specs.declared.program.Program.{Program}
use Rattle.ps_tree.specs.declared.relation.Relation.{Relation}
use Rattle.ps_tree.specs.declared.stmt.Stmt.{Stmt}
use Rattle.ps_tree.specs.declared.stmt.StmtKind.{StmtKind}
use Rattle.ps_tree.specs.declared.stmt.StmtKind.TheVariants as stmt
use Rattle.ps_tree.specs.declared.sum.Sum.{Sum}
use Rattle.ps_grammar.specs.Grammar.{ProductText, number, name, number_name, name_number, SumText, RelationText, CondText, last_conj, or_else, ConjText, last_unary, and_also, UnaryText, negation, in_parens, relation, TestText, either, condition, StmtText, assign, havoc, assume, assert, skip, atomic, if_then, if_else, while_do, BlockText, block_end, block_more, ValueText, ItemText, global, local, init, ProgramText}
use Rattle.ps_grammar.specs.Declarations.{Declared, names_of, nothing_declared, rows_of_sign, rows_of_value}
use Rattle.ps_grammar.specs.Names.{Names, variable_of_name}
use Rattle.ps_grammar.specs.Spelling.{item_pieces, rest_pieces, stmt_pieces, test_pieces}
use Rattle.ps_grammar.specs.Numbers.{number_value, signed}

-- the variable that is there (of a name that isn't declared there is none, and no text with one fits)
abbrev pub variable_or_first : Option Var → Var
variable_or_first (Some x) = x
variable_or_first None = Global 0

abbrev pub variable_named : Names → List ℕ → Var
variable_named names x = variable_or_first (variable_of_name names x)

abbrev pub product_tree : Names → ProductText → ℤ × Option Var
product_tree names (number n) = (number_value n, None)
product_tree names (name x) = (pos 1, Some (variable_named names x))
product_tree names (number_name n x) = (number_value n, Some (variable_named names x))
product_tree names (name_number x n) = (number_value n, Some (variable_named names x))

abbrev pub sum_tree : Names → SumText → Sum
sum_tree names s =
    record { terms = signed s.negative (product_tree names s.first) ∷ map (λ (p : Bool × ProductText). signed p.0 (product_tree names p.1)) s.further }

abbrev pub relation_tree : Names → RelationText → Relation
relation_tree names r = record { left = sum_tree names r.left; sign = r.sign; right = sum_tree names r.right }

-- one member is itself, several are a condition of them
abbrev pub gathered : (List Cond → Cond) → List Cond → Cond
gathered all [] = all []
gathered all (c ∷ []) = c
gathered all (c ∷ d ∷ ds) = all (c ∷ d ∷ ds)

abbrev mutual
  pub cond_members : Names → CondText → List Cond
  cond_members names (last_conj c) = gathered cond.And (conj_members names c) ∷ []
  cond_members names (or_else c rest) = gathered cond.And (conj_members names c) ∷ cond_members names rest

  pub conj_members : Names → ConjText → List Cond
  conj_members names (last_unary u) = unary_tree names u ∷ []
  conj_members names (and_also u rest) = unary_tree names u ∷ conj_members names rest

  pub unary_tree : Names → UnaryText → Cond
  unary_tree names (negation u) = cond.Not (unary_tree names u)
  unary_tree names (in_parens c) = gathered cond.Or (cond_members names c)
  unary_tree names (relation r) = cond.Rel (relation_tree names r)

abbrev pub cond_tree : Names → CondText → Cond
cond_tree names c = gathered cond.Or (cond_members names c)

abbrev pub test_tree : Names → TestText → Test
test_tree names either = test.Star
test_tree names (condition c) = test.Cond (cond_tree names c)

-- the first of the places
abbrev pub place_of_first : List Place → Place
place_of_first [] = record { line = 0; column = 0 }
place_of_first (p ∷ ps) = p

-- Statements, from the places of their words: each stands at that of its first word.
abbrev mutual
  pub stmt_tree : Names → StmtText → List Place → StmtKind
  stmt_tree names (assign x s) places = stmt.Assign (variable_named names x) (sum_tree names s)
  stmt_tree names (havoc x) places = stmt.Havoc (variable_named names x)
  stmt_tree names (assume c) places = stmt.Assume (cond_tree names c)
  stmt_tree names (assert c) places = stmt.Assert (cond_tree names c)
  stmt_tree names skip places = stmt.Skip
  stmt_tree names (atomic b) places = stmt.Atomic (block_trees names b (drop 2 places))
  stmt_tree names (if_then t b) places = stmt.If (test_tree names t) (block_trees names b (drop (length (test_pieces t) + 2) places)) []
  stmt_tree names (if_else t b c) places =
      stmt.If (test_tree names t) (block_trees names b (drop (length (test_pieces t) + 2) places))
      (block_trees names c (drop (length (rest_pieces b) + (length (test_pieces t) + 4)) places))
  stmt_tree names (while_do t b) places = stmt.While (test_tree names t) (block_trees names b (drop (length (test_pieces t) + 2) places))

  pub block_trees : Names → BlockText → List Place → List Stmt
  block_trees names block_end places = []
  block_trees names (block_more s b) places =
      record { place = place_of_first places; kind = stmt_tree names s places } ∷ block_trees names b (drop (length (stmt_pieces s)) places)

-- ---- declarations

abbrev pub declared_value : Option ValueText → Option ℤ
declared_value None = None
declared_value (Some v) = Some (signed v.negative (number_value v.digits, None)).0

abbrev pub rows_of_relations : List RelationText → ℕ
rows_of_relations [] = 0
rows_of_relations (r ∷ rs) = rows_of_sign r.sign + rows_of_relations rs

-- what is declared after an item
abbrev pub with_item : Declared → ItemText → Declared
with_item d (global x v) =
    record { globals = d.globals ++ record { name = x; value = declared_value v } ∷ []; locals = d.locals; inits = d.inits; rows = d.rows + rows_of_value (declared_value v) }
with_item d (local x) = record { globals = d.globals; locals = d.locals ++ x ∷ []; inits = d.inits; rows = d.rows + 0 }
with_item d (init r rs) =
    record { globals = d.globals; locals = d.locals; inits = d.inits ++ map (relation_tree (names_of d)) (r ∷ rs); rows = d.rows + rows_of_relations (r ∷ rs) }

abbrev pub with_items : Declared → List ItemText → Declared
with_items d [] = d
with_items d (i ∷ is) = with_items (with_item d i) is

-- the tree of a program, from the places of its words
abbrev pub program_tree : ProgramText → List Place → Program
program_tree p places =
    record {
      globals = (with_items nothing_declared p.items).globals;
      locals = (with_items nothing_declared p.items).locals;
      inits = (with_items nothing_declared p.items).inits;
      body = block_trees (names_of (with_items nothing_declared p.items)) p.body (drop (length (flat_map item_pieces p.items) + 2) places);
    }
