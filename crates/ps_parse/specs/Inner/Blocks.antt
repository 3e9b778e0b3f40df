-- Reading statements and blocks.
use Rattle.std.specs.Prelude.{ℕ, zero, suc, Bool, not, List, [], Ok, Err, if◌then◌else◌}
use Rattle.ps_token.specs.declared.token_kind.TokenKind.{TokenKind}
use Rattle.ps_token.specs.declared.token_kind.TokenKind.TheVariants as kind
use Rattle.ps_tree.specs.declared.cond.Cond.{Cond}
use Rattle.ps_parse.specs.declared.read_refusal.ReadRefusal.TheVariants.{Grammar}
use Rattle.ps_tree.specs.declared.stmt.Stmt.{Stmt}
use Rattle.ps_tree.specs.declared.stmt.StmtKind.{StmtKind}
use Rattle.ps_tree.specs.declared.stmt.StmtKind.TheVariants as stmt
use Rattle.ps_parse.specs.Inner.Conds.{cond_at, parens_at}
use Rattle.ps_grammar.specs.Names.{Names}
use Rattle.ps_parse.specs.Inner.Variables.{variable_at}
use Rattle.ps_parse.specs.Inner.Sums.{sum_at}
use Rattle.ps_parse.specs.Inner.Reading.{WordsAhead, ReadWords, after_word, next_is, place_at, words_while, next_word}
use Rattle.ps_lines.specs.Steps.{◌>>=◌}

-- What is read, and the `;` after it.
unfoldable pub ended_at : {A : Type 0} → ReadWords A → ReadWords A
ended_at read at = do
  x ← read at
  w ← next_word kind.Semicolon x.1
  Ok (x.0, w.1)

-- `NAME := sum ;`
unfoldable pub assign_at : Names → ℕ → ReadWords StmtKind
assign_at names n at = do
  x ← variable_at names at
  s ← after_word kind.Becomes (ended_at (sum_at names n)) x.1
  Ok (stmt.Assign x.0 s.0, s.1)

-- `havoc NAME ;`
unfoldable pub havoc_at : Names → ReadWords StmtKind
havoc_at names at = after_word kind.Havoc (ended_at (variable_at names)) at >>= λ x. Ok (stmt.Havoc x.0, x.1)

-- `assume cond ;` and `assert cond ;`
unfoldable pub cond_stmt_at : TokenKind → (Cond → StmtKind) → Names → ℕ → ReadWords StmtKind
cond_stmt_at word of names n at =
    after_word word (ended_at (cond_at names n)) at >>= λ c. Ok (of c.0, c.1)

-- `skip ;`
unfoldable pub skip_at : ReadWords StmtKind
skip_at at = after_word kind.Skip (next_word kind.Semicolon) at >>= λ w. Ok (stmt.Skip, w.1)

-- `atomic block`, from how a block in it is read
unfoldable pub atomic_at : ReadWords (List Stmt) → ReadWords StmtKind
atomic_at block at = after_word kind.Atomic block at >>= λ b. Ok (stmt.Atomic b.0, b.1)

-- `else block`, or nothing
unfoldable pub else_at : ReadWords (List Stmt) → ReadWords (List Stmt)
else_at block at = if next_is kind.Else at then after_word kind.Else block at else Ok ([], at)

-- `if ( test ) block`, and what may follow
unfoldable pub if_at : ReadWords (List Stmt) → Names → ℕ → ReadWords StmtKind
if_at block names n at = do
  t ← after_word kind.If (parens_at names n) at
  held ← block t.1
  failed ← else_at block held.1
  Ok (stmt.If t.0 held.0 failed.0, failed.1)

-- `while ( test ) block`
unfoldable pub while_stmt_at : ReadWords (List Stmt) → Names → ℕ → ReadWords StmtKind
while_stmt_at block names n at = do
  t ← after_word kind.While (parens_at names n) at
  b ← block t.1
  Ok (stmt.While t.0 b.0, b.1)

-- A statement, told by its first word, from how blocks in it are read.
unfoldable pub kind_at : ReadWords (List Stmt) → Names → ℕ → ReadWords StmtKind
kind_at block names n at =
    if next_is kind.Name at then assign_at names n at
    else (if next_is kind.Havoc at then havoc_at names at
    else (if next_is kind.Assume at then cond_stmt_at kind.Assume stmt.Assume names n at
    else (if next_is kind.Assert at then cond_stmt_at kind.Assert stmt.Assert names n at
    else (if next_is kind.Skip at then skip_at at
    else (if next_is kind.Atomic at then atomic_at block at
    else (if next_is kind.If at then if_at block names n at
    else (if next_is kind.While at then while_stmt_at block names n at
    else Err (Grammar (place_at at)))))))))

unfoldable pub stmt_at : ReadWords (List Stmt) → Names → ℕ → ReadWords Stmt
stmt_at block names n at =
    kind_at block names n at >>= λ k. Ok (record { place = place_at at; kind = k.0 }, k.1)

-- a block goes on
abbrev pub has_more : WordsAhead → Bool
has_more at = not (next_is kind.CloseBrace at)

-- A block. The number is more than the words that are left, each of which may open a level.
unfoldable pub block_at : Names → ℕ → ReadWords (List Stmt)
block_at names zero at = Err (Grammar (place_at at))
block_at names (suc n) at = do
  open' ← next_word kind.OpenBrace at
  b ← words_while has_more (stmt_at (block_at names n) names n) n open'.1
  close ← next_word kind.CloseBrace b.1
  Ok (b.0, close.1)
