use Rattle.std.proofs.Common.{◌≤◌, ◌+◌, length}
use Rattle.ps_hit.specs.Hitting.{numbers_of}
use Rattle.ps_hit.specs.inner.Searching.{works}
use Rattle.ps_hit.proofs.Whole.{Searching, sizes}
use Rattle.ps_hit.proofs.search.minimal_hits.Given as goal

abbrev pub invariant-loop-node : goal.invariant-loop-node
invariant-loop-node l = record {
  searching : Searching (numbers_of l.sets) (numbers_of l.found.keys) l.waiting.items;
  few : length l.found.keys ≤ l.most;
}

abbrev pub decreases-loop-node : goal.decreases-loop-node
decreases-loop-node l = works (1 + sizes (numbers_of l.sets)) l.waiting.items
