use Rattle.std.proofs.Common.{ℕ, ◌++◌, drop, List, map}
use Rattle.std.specs.List.{flat_map}
use Rattle.ps_grammar.specs.Grammar.{local}
use Rattle.ps_print.specs.Printed.{printed}
use Rattle.ps_grammar.specs.Spelling.{item_pieces}
use Rattle.ps_print.proofs.Putting.{PutsRest}
use Rattle.ps_print.proofs.printing.put_locals.Given as goal

abbrev pub invariant-loop-name : goal.invariant-loop-name
invariant-loop-name l = PutsRest (λ (xs : List (List ℕ)). flat_map item_pieces (map local xs)) l.out.items (drop l.name-index l.locals) (l.initial.out.items ++ printed (flat_map item_pieces (map local l.locals)))
