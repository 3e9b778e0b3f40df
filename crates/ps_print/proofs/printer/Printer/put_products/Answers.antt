use Rattle.std.proofs.Common.{true}
use Rattle.ps_print.proofs.Members.{product_put, some_products, threaded}
use Rattle.ps_print.proofs.Putting.{nothing, rest_start}
use Rattle.ps_print.proofs.printer.Printer.put_products.Goals as goal

pub loop-product-init : goal.loop-product-init
loop-product-init c = rest_start (threaded (product_put c.args.self.now) true) c.args.products.now (some_products c.args.self.now c.args.products.now c.if-is_empty.ensures) (nothing c.args.out.now.items)
