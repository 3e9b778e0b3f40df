use Rattle.ps_compile.proofs.Numbering.{Numbering}
use Rattle.ps_compile.proofs.table.number.Given as goal

abbrev pub invariant-loop-draft : goal.invariant-loop-draft
invariant-loop-draft l = Numbering l.fn.drafts.items l.draft-iterator.rest.items l.table.keys l.edges.items
