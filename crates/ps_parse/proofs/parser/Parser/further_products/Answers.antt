use Rattle.std.proofs.Common.{sym, ◌∙◌}
use Rattle.std.proofs.lemmas.Result.{err_from_is_err_and}
use Rattle.ps_parse.specs.Inner.Reading.{words_while, with_front}
use Rattle.ps_grammar.specs.Declarations.{names_of}
use Rattle.ps_parse.specs.Inner.Sums.{adds, further_product_at}
use Rattle.ps_parse.proofs.Repeated.{repeats_fails}
use Rattle.ps_parse.proofs.parser.Parser.further_products.Goals as goal

pub returns-in_err-further_product : goal.returns-in_err-further_product
returns-in_err-further_product c =
    let p = err_from_is_err_and c.from_residual.result c.from_residual.ensures.1 in
    rw (p.1, p.2) (repeats_fails adds (further_product_at (names_of c.args.self.now.declared.now)) c.loop.terms.items c.args.most c.loop.counter c.loop.cursor c.in_err-further_product.field-0.0 (with_front c.args.terms.items (words_while adds (further_product_at (names_of c.args.self.now.declared.now)) c.args.most c.args.cursor.now)) c.loop.invariant c.loop-test.true (sym c.adds.ensures ∙ c.if-not-adds.false) c.in_err-further_product.ensures)
