use Rattle.std.proofs.Common.{sym, ap, ◌∙◌, not}
use Rattle.std.proofs.lemmas.Result.{err_from_is_err_and}
use Rattle.ps_parse.specs.Inner.Reading.{words_while}
use Rattle.ps_grammar.specs.Declarations.{names_of}
use Rattle.ps_parse.specs.Inner.Blocks.{has_more, stmt_at, block_at}
use Rattle.ps_parse.proofs.Repeated.{repeats_fails}
use Rattle.ps_parse.proofs.parser.Parser.+block.Goals as goal

pub stmts-returns-in_err-stmt : goal.stmts-returns-in_err-stmt
stmts-returns-in_err-stmt t c =
    let p = err_from_is_err_and c.from_residual.result c.from_residual.ensures.1 in
    rw (p.1, p.2) (repeats_fails has_more (stmt_at (block_at (names_of c.args.self.now.declared.now) c.args.most) (names_of c.args.self.now.declared.now) c.args.most) c.loop.stmts.items c.args.most c.loop.counter c.loop.cursor c.in_err-stmt.field-0.0 (words_while has_more (stmt_at (block_at (names_of c.args.self.now.declared.now) c.args.most) (names_of c.args.self.now.declared.now) c.args.most) c.args.most c.args.cursor.now) c.loop.invariant c.loop-test.true (ap not (sym c.next_is.ensures ∙ c.if-next_is.false)) c.in_err-stmt.ensures)
