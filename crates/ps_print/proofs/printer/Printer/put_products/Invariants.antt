use Rattle.std.proofs.Common.{◌++◌, drop}
use Rattle.ps_print.specs.Canonical.{products_text}
use Rattle.ps_print.specs.Printed.{printed}
use Rattle.ps_grammar.specs.Spelling.{sum_pieces}
use Rattle.ps_print.proofs.Members.{product_put, threaded}
use Rattle.ps_print.proofs.Putting.{PutsRest}
use Rattle.ps_print.proofs.printer.Printer.put_products.Given as goal

abbrev pub invariant-loop-product : goal.invariant-loop-product
invariant-loop-product l = PutsRest (threaded (product_put l.self) l.is_first) l.out.items (drop l.product-index l.products) (l.initial.out.items ++ printed (sum_pieces (products_text l.self l.products)))
