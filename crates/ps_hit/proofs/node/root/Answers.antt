use Rattle.std.proofs.Common.{List, ℕ, subst}
use Rattle.std.specs.List.{AllZip}
use Rattle.ps_hit.specs.Hitting.{numbers_of}
use Rattle.ps_hit.specs.inner.Covers.{IsCover}
use Rattle.ps_hit.proofs.Rooted.{root_above, root_node}
use Rattle.ps_hit.proofs.node.root.Goals as goal

pub covers_of-requires : goal.covers_of-requires
covers_of-requires c = rw c.as_slice.ensures.value c.in_ok-chosen.ensures.ascends

pub returns-clause-node : goal.returns-clause-node
returns-clause-node c =
    root_node (numbers_of c.args.sets.now) _
    (subst (λ (xs : List ℕ). AllZip (IsCover xs) (numbers_of c.args.sets.now) c.in_ok-covers.covers.items) c.as_slice.ensures.value c.in_ok-covers.ensures) c.in_ok-chosen.ensures.ascends c.in_ok-chosen.ensures.lone

pub returns-clause-above : goal.returns-clause-above
returns-clause-above c = λ hit hits. root_above (numbers_of c.args.sets.now) _ hit c.in_ok-chosen.ensures.lone c.new.ensures.items hits
