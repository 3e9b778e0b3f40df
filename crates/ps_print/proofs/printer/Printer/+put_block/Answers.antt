use Rattle.std.proofs.Common.{◌≡◌, [], List, ◌∙◌, sym, ap}
use Rattle.ps_tree.specs.declared.stmt.Stmt.{Stmt}
use Rattle.ps_print.specs.Printed.{stmts_text}
use Rattle.ps_grammar.specs.Spelling.{block_pieces}
use Rattle.ps_print.proofs.BlockPieces.{atomic_is, if_alone, if_both, stmt_put, while_is}
use Rattle.ps_print.proofs.Members.{not_both}
use Rattle.ps_print.proofs.Putting.{chain, respell}
use Rattle.ps_print.proofs.printer.Printer.+put_block.Goals as goal

pub put_stmt-returns-then-is_empty : goal.put_stmt-returns-then-is_empty
put_stmt-returns-then-is_empty t c = respell (ap (stmt_put c.args.self.now) c.in-If.is ∙ if_alone c.args.self.now c.in-If.test c.in-If.held c.in-If.failed (c.is_empty.ensures.0 c.if-is_empty.true)) (chain c.in_ok-put_mark-in-If.ensures (chain c.in_ok-put_test-in-If.ensures (respell (ap (λ (b : List Stmt). block_pieces (stmts_text c.args.self.now b)) (sym c.as_slice-in-If.ensures)) c.in_ok-put_block-in-If.ensures)))

pub put_stmt-returns-in_ok-put_block-in-Atomic : goal.put_stmt-returns-in_ok-put_block-in-Atomic
put_stmt-returns-in_ok-put_block-in-Atomic t c = respell (ap (stmt_put c.args.self.now) c.in-Atomic.is ∙ atomic_is c.args.self.now c.in-Atomic.block) (chain c.in_ok-put_mark-in-Atomic.ensures (respell (ap (λ (b : List Stmt). block_pieces (stmts_text c.args.self.now b)) (sym c.as_slice.ensures)) c.in_ok-put_block-in-Atomic.ensures))

pub put_stmt-returns-in_ok-put_block-in-If-2 : goal.put_stmt-returns-in_ok-put_block-in-If-2
put_stmt-returns-in_ok-put_block-in-If-2 t c = respell (ap (stmt_put c.args.self.now) c.in-If.is ∙ if_both c.args.self.now c.in-If.test c.in-If.held c.in-If.failed (λ (none : c.in-If.failed ≡ []). not_both c.is_empty.result (c.is_empty.ensures.1 none) c.if-is_empty.false)) (chain c.in_ok-put_mark-in-If.ensures (chain c.in_ok-put_test-in-If.ensures (chain (respell (ap (λ (b : List Stmt). block_pieces (stmts_text c.args.self.now b)) (sym c.as_slice-in-If.ensures)) c.in_ok-put_block-in-If.ensures) (chain c.in_ok-put_mark-in-If-2.ensures (respell (ap (λ (b : List Stmt). block_pieces (stmts_text c.args.self.now b)) (sym c.as_slice-in-If-2.ensures)) c.in_ok-put_block-in-If-2.ensures)))))

pub put_stmt-returns-in_ok-put_block-in-While : goal.put_stmt-returns-in_ok-put_block-in-While
put_stmt-returns-in_ok-put_block-in-While t c = respell (ap (stmt_put c.args.self.now) c.in-While.is ∙ while_is c.args.self.now c.in-While.test c.in-While.block) (chain c.in_ok-put_mark-in-While.ensures (chain c.in_ok-put_test-in-While.ensures (respell (ap (λ (b : List Stmt). block_pieces (stmts_text c.args.self.now b)) (sym c.as_slice-in-While.ensures)) c.in_ok-put_block-in-While.ensures)))
