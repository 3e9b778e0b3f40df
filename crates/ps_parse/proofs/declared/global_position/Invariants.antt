use Rattle.std.proofs.Common.{◌≡◌, drop, map}
use Rattle.ps_grammar.specs.Names.{position_from}
use Rattle.ps_tree.specs.declared.global_decl.GlobalDecl.{GlobalDecl}
use Rattle.ps_parse.proofs.declared.global_position.Given as goal

abbrev pub invariant-loop-i : goal.invariant-loop-i
invariant-loop-i l = position_from l.i l.name (map (λ (g : GlobalDecl). g.name) (drop l.i l.globals)) ≡ position_from 0 l.name (map (λ (g : GlobalDecl). g.name) l.globals)
