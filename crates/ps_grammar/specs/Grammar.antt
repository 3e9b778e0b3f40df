-- The grammar of programs. A text of it is one of these trees, one constructor for each rule; names and numbers
-- stand as their bytes.
use Rattle.std.specs.Prelude.{ℕ, Bool, List, Option}
use Rattle.ps_tree.specs.declared.relation.Sign.{Sign}

-- a product: NUM | NAME | NUM '*' NAME | NAME '*' NUM
pub data ProductText : Type 0 where
  number : List ℕ → ProductText
  name : List ℕ → ProductText
  number_name : List ℕ → List ℕ → ProductText
  name_number : List ℕ → List ℕ → ProductText

-- a sum: the first product, with `-` before it or not, and the further ones, with `-` or with `+`
pub record SumText : Type 0 where
  pub negative : Bool
  pub first : ProductText
  pub further : List (Bool × ProductText)

-- a relation: sum sign sum
pub record RelationText : Type 0 where
  pub left : SumText
  pub sign : Sign
  pub right : SumText

-- conditions: conj ('||' conj)*, unary ('&&' unary)*, and '!' unary | '(' cond ')' | rel
mutual
  pub data CondText : Type 0 where
    last_conj : ConjText → CondText
    or_else : ConjText → CondText → CondText

  pub data ConjText : Type 0 where
    last_unary : UnaryText → ConjText
    and_also : UnaryText → ConjText → ConjText

  pub data UnaryText : Type 0 where
    negation : UnaryText → UnaryText
    in_parens : CondText → UnaryText
    relation : RelationText → UnaryText

-- a test: '*' | cond
pub data TestText : Type 0 where
  either : TestText
  condition : CondText → TestText

-- statements and blocks; an `if` has an `else` or not
mutual
  pub data StmtText : Type 0 where
    assign : List ℕ → SumText → StmtText
    havoc : List ℕ → StmtText
    assume : CondText → StmtText
    assert : CondText → StmtText
    skip : StmtText
    atomic : BlockText → StmtText
    if_then : TestText → BlockText → StmtText
    if_else : TestText → BlockText → BlockText → StmtText
    while_do : TestText → BlockText → StmtText

  pub data BlockText : Type 0 where
    block_end : BlockText
    block_more : StmtText → BlockText → BlockText

-- a declared value: '-'? NUM
pub record ValueText : Type 0 where
  pub negative : Bool
  pub digits : List ℕ

-- declarations: 'global' NAME ('=' '-'? NUM)? ';' | 'local' NAME ';' | 'init' rel ('&&' rel)* ';'
pub data ItemText : Type 0 where
  global : List ℕ → Option ValueText → ItemText
  local : List ℕ → ItemText
  init : RelationText → List RelationText → ItemText

-- a program: item* 'thread' block
pub record ProgramText : Type 0 where
  pub items : List ItemText
  pub body : BlockText
