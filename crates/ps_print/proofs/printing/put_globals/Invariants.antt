use Rattle.std.proofs.Common.{◌++◌, drop, List, map}
use Rattle.std.specs.List.{flat_map}
use Rattle.ps_tree.specs.declared.global_decl.GlobalDecl.{GlobalDecl}
use Rattle.ps_print.specs.Printed.{global_item, printed}
use Rattle.ps_grammar.specs.Spelling.{item_pieces}
use Rattle.ps_print.proofs.Putting.{PutsRest}
use Rattle.ps_print.proofs.printing.put_globals.Given as goal

abbrev pub invariant-loop-global : goal.invariant-loop-global
invariant-loop-global l = PutsRest (λ (gs : List GlobalDecl). flat_map item_pieces (map global_item gs)) l.out.items (drop l.global-index l.globals) (l.initial.out.items ++ printed (flat_map item_pieces (map global_item l.globals)))
