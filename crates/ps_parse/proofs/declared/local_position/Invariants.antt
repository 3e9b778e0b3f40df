use Rattle.std.proofs.Common.{◌≡◌, drop}
use Rattle.ps_grammar.specs.Names.{position_from}
use Rattle.ps_parse.proofs.declared.local_position.Given as goal

abbrev pub invariant-loop-i : goal.invariant-loop-i
invariant-loop-i l = position_from l.i l.name (drop l.i l.locals) ≡ position_from 0 l.name l.locals
