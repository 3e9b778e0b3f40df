use Rattle.std.proofs.Common.{◌≡◌, List, ap, ◌∙◌, subst}
use Rattle.ps_atom.specs.declared.atom.Atom.{Atom}
use Rattle.ps_demand.specs.Demands.{demands}
use Rattle.ps_demand.specs.Pools.{HasAll, lists_of}
use Rattle.ps_member.proofs.back.atoms_before.Goals as goal

pub returns-clause-all : goal.returns-clause-all
returns-clause-all g c =
    let same : lists_of c.as_slice.result.now ≡ demands (g.B.Shown.entries c.args.basis.now) c.args.after.now c.args.thread c.args.command =
    ap lists_of c.as_slice.ensures.value ∙ c.in_ok-sets.ensures in
    subst (λ (sets : List (List Atom)). HasAll c.in_ok-before.before.items sets) same c.in_ok-before.ensures.all
