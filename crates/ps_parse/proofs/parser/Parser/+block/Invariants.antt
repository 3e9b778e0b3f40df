use Rattle.std.proofs.Common.{◌+◌, ◌-◌, ◌*◌}
use Rattle.ps_parse.specs.Inner.Reading.{words_while}
use Rattle.ps_grammar.specs.Declarations.{names_of}
use Rattle.ps_parse.specs.Inner.Blocks.{has_more, stmt_at, block_at}
use Rattle.ps_parse.proofs.Repeated.{Repeats}
use Rattle.ps_parse.proofs.parser.Parser.+block.Given as goal

abbrev pub decreases-block : goal.decreases-block
decreases-block l = l.most * 8

abbrev pub decreases-atomic : goal.decreases-atomic
decreases-atomic l = l.most * 8 + 1

abbrev pub decreases-otherwise : goal.decreases-otherwise
decreases-otherwise l = l.most * 8 + 1

abbrev pub decreases-choice : goal.decreases-choice
decreases-choice l = l.most * 8 + 2

abbrev pub decreases-repetition : goal.decreases-repetition
decreases-repetition l = l.most * 8 + 2

abbrev pub decreases-kind : goal.decreases-kind
decreases-kind l = l.most * 8 + 3

abbrev pub decreases-stmt : goal.decreases-stmt
decreases-stmt l = l.most * 8 + 4

abbrev pub decreases-stmts : goal.decreases-stmts
decreases-stmts l = l.most * 8 + 5

abbrev pub decreases-next_block : goal.decreases-next_block
decreases-next_block l = l.left * 8 + 6

abbrev pub invariant-stmts-loop : goal.invariant-stmts-loop
invariant-stmts-loop l = Repeats has_more (stmt_at (block_at (names_of l.self.declared.now) l.most) (names_of l.self.declared.now) l.most) l.stmts.items (l.most - l.counter) l.cursor (words_while has_more (stmt_at (block_at (names_of l.self.declared.now) l.most) (names_of l.self.declared.now) l.most) l.most l.fn.cursor)
