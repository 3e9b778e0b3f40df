use Rattle.std.proofs.Common.{◌-◌}
use Rattle.ps_parse.specs.Inner.Reading.{words_while, with_front}
use Rattle.ps_grammar.specs.Declarations.{names_of}
use Rattle.ps_parse.specs.Inner.Sums.{adds, further_product_at}
use Rattle.ps_parse.proofs.Repeated.{Repeats}
use Rattle.ps_parse.proofs.parser.Parser.further_products.Given as goal

abbrev pub invariant-loop : goal.invariant-loop
invariant-loop l = Repeats adds (further_product_at (names_of l.self.declared.now)) l.terms.items (l.most - l.counter) l.cursor (with_front l.fn.terms.items (words_while adds (further_product_at (names_of l.self.declared.now)) l.most l.fn.cursor))
