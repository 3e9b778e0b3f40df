-- The text that a syntax tree is printed as: one for each tree, with no parentheses, coefficient 1 or empty `else`
-- that could be left out.
use Rattle.std.specs.Prelude.{ℕ, ℤ, pos, Bool, false, ◌==◌, List, [], ◌∷◌, map, get_or, int_lt, unsigned_abs, decimal, Option, Some, None, if◌then◌else◌}
use Rattle.ps_term.specs.declared.var.Var.{Var}
use Rattle.ps_term.specs.declared.var.Var.TheVariants.{Global, Local, Havoc}
use Rattle.ps_tree.specs.declared.cond.Cond.{Cond, Rel, Not', And', Or', Row_of-Cond, end_of-Cond, more_of-Cond}
use Rattle.ps_tree.specs.declared.cond.Test.{Test}
use Rattle.ps_tree.specs.declared.cond.Test.TheVariants as test
use Rattle.ps_tree.specs.declared.relation.Relation.{Relation}
use Rattle.ps_tree.specs.declared.relation.Sign.TheVariants as sign
use Rattle.ps_tree.specs.declared.stmt.StmtKind.{StmtKind, Assign, Havoc, Assume, Assert, Skip, Atomic', If', While', Row_of-Stmt, end_of-Stmt, more_of-Stmt}
use Rattle.ps_tree.specs.declared.sum.Sum.{Sum}
use Rattle.ps_grammar.specs.Grammar.{ProductText, number, name, number_name, SumText, RelationText, CondText, last_conj, or_else, ConjText, last_unary, and_also, UnaryText, negation, in_parens, relation, TestText, either, condition, StmtText, assign, havoc, assume, assert, skip, atomic, if_then, if_else, while_do, BlockText, block_end, block_more}
use Rattle.ps_grammar.specs.Names.{Names}

-- the name of a variable
abbrev pub name_of : Names → Var → List ℕ
name_of names (Global i) = get_or names.globals i []
name_of names (Local t i) = get_or names.locals i []
name_of names (Havoc i) = []

-- a number without its sign, times a variable or alone; the coefficient 1 isn't written
abbrev pub product_text : Names → ℕ → Option Var → ProductText
product_text names n None = number (decimal n)
product_text names n (Some x) = if n == 1 then name (name_of names x) else number_name (decimal n) (name_of names x)

-- whether a number is written with `-`
abbrev pub is_negative : ℤ → Bool
is_negative n = int_lt n (pos 0)

abbrev pub product_of : Names → ℤ × Option Var → ProductText
product_of names p = product_text names (unsigned_abs p.0) p.1

-- a sum, which has a product (one that has none is 0)
abbrev pub products_text : Names → List (ℤ × Option Var) → SumText
products_text names [] = record { negative = false; first = number (decimal 0); further = [] }
products_text names (p ∷ ps) =
    record { negative = is_negative p.0; first = product_of names p; further = map (λ (q : ℤ × Option Var). (is_negative q.0, product_of names q)) ps }

abbrev pub sum_text : Names → Sum → SumText
sum_text names s = products_text names s.terms

abbrev pub relation_text : Names → Relation → RelationText
relation_text names r = record { left = sum_text names r.left; sign = r.sign; right = sum_text names r.right }

-- a relation that is true, and one that is false: an `And` and an `Or` without members
abbrev pub truth_text : RelationText
truth_text = record { left = record { negative = false; first = number (decimal 0); further = [] }; sign = sign.Equal; right = record { negative = false; first = number (decimal 0); further = [] } }

abbrev pub falsehood_text : RelationText
falsehood_text = record { left = record { negative = false; first = number (decimal 0); further = [] }; sign = sign.NotEqual; right = record { negative = false; first = number (decimal 0); further = [] } }

-- A condition by itself, one between `||`, and one between `&&` or after `!`: an `And` or `Or` that stands where its
-- own word binds more weakly, or as weakly, is put in parentheses.
abbrev mutual
  pub cond_text : Names → Cond → CondText
  cond_text names (Rel r) = last_conj (last_unary (relation (relation_text names r)))
  cond_text names (Not' _ (more_of-Cond c end_of-Cond)) = last_conj (last_unary (negation (unary_text names c)))
  cond_text names (And' _ members) = last_conj (conj_of_members names members)
  cond_text names (Or' _ members) = cond_of_members names members

  pub conj_text : Names → Cond → ConjText
  conj_text names (Rel r) = last_unary (relation (relation_text names r))
  conj_text names (Not' _ (more_of-Cond c end_of-Cond)) = last_unary (negation (unary_text names c))
  conj_text names (And' _ members) = conj_of_members names members
  conj_text names (Or' _ members) = last_unary (in_parens (cond_of_members names members))

  pub unary_text : Names → Cond → UnaryText
  unary_text names (Rel r) = relation (relation_text names r)
  unary_text names (Not' _ (more_of-Cond c end_of-Cond)) = negation (unary_text names c)
  unary_text names (And' _ members) = in_parens (last_conj (conj_of_members names members))
  unary_text names (Or' _ members) = in_parens (cond_of_members names members)

  pub conj_of_members : Names → {n : _} → Row_of-Cond n → ConjText
  conj_of_members names end_of-Cond = last_unary (relation truth_text)
  conj_of_members names (more_of-Cond c end_of-Cond) = last_unary (unary_text names c)
  conj_of_members names (more_of-Cond c (more_of-Cond d rest)) = and_also (unary_text names c) (conj_of_members names (more_of-Cond d rest))

  pub cond_of_members : Names → {n : _} → Row_of-Cond n → CondText
  cond_of_members names end_of-Cond = last_conj (last_unary (relation falsehood_text))
  cond_of_members names (more_of-Cond c end_of-Cond) = last_conj (conj_text names c)
  cond_of_members names (more_of-Cond c (more_of-Cond d rest)) = or_else (conj_text names c) (cond_of_members names (more_of-Cond d rest))

abbrev pub test_text : Names → Test → TestText
test_text names test.Star = either
test_text names (test.Cond c) = condition (cond_text names c)

-- `if` with an `else`, which isn't written where its block is empty
abbrev pub if_text : TestText → BlockText → BlockText → StmtText
if_text t b block_end = if_then t b
if_text t b (block_more s c) = if_else t b (block_more s c)

abbrev mutual
  pub stmt_text : Names → StmtKind → StmtText
  stmt_text names (Assign x s) = assign (name_of names x) (sum_text names s)
  stmt_text names (Havoc x) = havoc (name_of names x)
  stmt_text names (Assume c) = assume (cond_text names c)
  stmt_text names (Assert c) = assert (cond_text names c)
  stmt_text names Skip = skip
  stmt_text names (Atomic' _ b) = atomic (block_text names b)
  stmt_text names (If' t _ b _ c) = if_text (test_text names t) (block_text names b) (block_text names c)
  stmt_text names (While' t _ b) = while_do (test_text names t) (block_text names b)

  pub block_text : Names → {n : _} → Row_of-Stmt n → BlockText
  block_text names end_of-Stmt = block_end
  block_text names (more_of-Stmt _ k rest) = block_more (stmt_text names k) (block_text names rest)
