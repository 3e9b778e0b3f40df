use Rattle.std.proofs.Common.{◌++◌, drop, List}
use Rattle.ps_tree.specs.declared.stmt.Stmt.{Stmt}
use Rattle.ps_print.specs.Printed.{printed, stmts_text}
use Rattle.ps_grammar.specs.Spelling.{block_pieces, rest_pieces}
use Rattle.ps_print.proofs.Putting.{PutsRest}
use Rattle.ps_print.proofs.printer.Printer.+put_block.Given as goal

abbrev pub invariant-put_block-loop-stmt : goal.invariant-put_block-loop-stmt
invariant-put_block-loop-stmt l = PutsRest (λ (ss : List Stmt). rest_pieces (stmts_text l.self ss)) l.out.items (drop l.stmt-index l.block) (l.fn.out.items ++ printed (block_pieces (stmts_text l.self l.block)))
