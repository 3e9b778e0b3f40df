use Rattle.std.proofs.Common.{ℕ, ◌<◌, length}
use Rattle.std.proofs.lemmas.List.Elements.{recursion_from_All}
use Rattle.ps_interp.proofs.Entire.{free}
use Rattle.ps_interp.proofs.laws.havocs_cancel.Goals as goal

pub returns : goal.returns
returns c = λ graph letters lambda edges refutes cut i.
    free graph letters lambda (recursion_from_All (λ (l : ℕ × ℕ). l.1 < length graph.edges) letters edges) refutes cut i
