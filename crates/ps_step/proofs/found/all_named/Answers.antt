use Rattle.std.proofs.Common.{ℕ, List, sym, subst, Contains}
use Rattle.std.proofs.lemmas.List.Elements.{Contains-get_or}
use Rattle.ps_step.proofs.found.all_named.Goals as goal

pub atoms_named-requires : goal.atoms_named-requires
atoms_named-requires c =
    rw c.as_slice.ensures (c.requires c.hit-item.result (subst (λ (xs : List ℕ). Contains c.args.hits.now xs) (sym c.hit-item.is) (Contains-get_or c.args.hits.now c.loop-hit.hit-index c.hit-item.result c.loop-hit-test.true)))
