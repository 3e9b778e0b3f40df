use Rattle.std.proofs.Common.{◌-◌}
use Rattle.ps_parse.specs.Inner.Items.{items_at}
use Rattle.ps_grammar.specs.Declarations.{nothing_declared}
use Rattle.ps_parse.proofs.Declarations.{Declares}
use Rattle.ps_parse.proofs.items.items.Given as goal

abbrev pub invariant-loop : goal.invariant-loop
invariant-loop l = Declares l.most (l.most - l.counter) l.declared l.cursor (items_at l.most nothing_declared l.most l.fn.cursor)
