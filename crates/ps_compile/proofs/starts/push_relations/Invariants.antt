use Rattle.std.proofs.Common.{◌≡◌, ◌++◌, drop}
use Rattle.std.specs.List.{flat_map}
use Rattle.ps_compile.proofs.starts.push_relations.Given as goal
use Rattle.ps_compile.specs.Compiled.{relation_rows}

abbrev pub invariant-loop-relation : goal.invariant-loop-relation
invariant-loop-relation l =
    l.rows.items ++ flat_map relation_rows (drop l.relation-index l.relations) ≡ l.initial.rows.items ++ flat_map relation_rows l.relations
