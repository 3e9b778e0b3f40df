use Rattle.std.proofs.Common.{ℕ, List, length, sym, ap, ◌∙◌}
use Rattle.ps_elim.proofs.Entries.{length-entries_of}
use Rattle.ps_elim.proofs.vector.Vector.places.Goals as goal

pub returns : goal.returns
returns c =
    sym (length-entries_of c.self.inside.entries c.self.inside.places) ∙ ap (λ (ns : List ℕ). length ns) c.self.view_is
