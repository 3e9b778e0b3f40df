use Rattle.std.proofs.Common.{ℕ, ◌<◌, length}
use Rattle.std.proofs.lemmas.List.Elements.{recursion_from_All}
use Rattle.ps_interp.proofs.Entire.{holds}
use Rattle.ps_interp.proofs.laws.interpolations_hold.Goals as goal

pub returns : goal.returns
returns c = λ graph letters lambda known new entries edges refutes first made entry h.
    holds graph letters lambda (recursion_from_All (λ (l : ℕ × ℕ). l.1 < length graph.edges) letters edges) refutes known new entries first made entry h
