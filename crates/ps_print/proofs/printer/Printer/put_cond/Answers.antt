use Rattle.std.proofs.Common.{◌∙◌, sym, ap}
use Rattle.ps_print.specs.Canonical.{cond_text}
use Rattle.ps_grammar.specs.Spelling.{cond_pieces}
use Rattle.ps_tree.specs.declared.cond.Cond.{Cond}
use Rattle.ps_print.proofs.Members.{cond_not, unary_put}
use Rattle.ps_print.proofs.Putting.{chain, respell}
use Rattle.ps_print.proofs.printer.Printer.put_cond.Goals as goal

pub returns-in_ok-put_unary-in-Not : goal.returns-in_ok-put_unary-in-Not
returns-in_ok-put_unary-in-Not c = respell (ap (λ (k : Cond). cond_pieces (cond_text c.args.self.now k)) c.in-Not.is ∙ cond_not c.args.self.now c.in-Not.inner) (chain c.in_ok-put_mark-in-Not.ensures (respell (ap (unary_put c.args.self.now) (sym c.get.ensures)) c.in_ok-put_unary-in-Not.ensures))
