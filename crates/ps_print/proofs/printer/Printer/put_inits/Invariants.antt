use Rattle.std.proofs.Common.{◌++◌, drop, List, map}
use Rattle.std.specs.List.{flat_map}
use Rattle.ps_tree.specs.declared.relation.Relation.{Relation}
use Rattle.ps_print.specs.Printed.{init_item, printed}
use Rattle.ps_grammar.specs.Spelling.{item_pieces}
use Rattle.ps_print.proofs.Putting.{PutsRest}
use Rattle.ps_print.proofs.printer.Printer.put_inits.Given as goal

abbrev pub invariant-loop-relation : goal.invariant-loop-relation
invariant-loop-relation l = PutsRest (λ (rs : List Relation). flat_map item_pieces (map (init_item l.self) rs)) l.out.items (drop l.relation-index l.relations) (l.initial.out.items ++ printed (flat_map item_pieces (map (init_item l.self) l.relations)))
