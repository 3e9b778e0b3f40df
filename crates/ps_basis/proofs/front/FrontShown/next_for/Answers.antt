use Rattle.std.proofs.Common.{List, subst}
use Rattle.ps_triple.specs.declared.entry.Entry.{Entry}
use Rattle.ps_basis.specs.Shown.{IsNextFor}
use Rattle.ps_basis.specs.declared.key.Key.{Key}
use Rattle.ps_basis.specs.inner.Index.{IsFirst}
use Rattle.ps_basis.proofs.Indexing.{next_for}
use Rattle.ps_basis.proofs.front.FrontShown.next_for.Goals as goal

pub returns : goal.returns
returns c = subst (λ (entries : List Entry). IsNextFor entries c.args.post c.args.command c.args.from c.first.result) c.self.view_is
    (next_for c.self.inside.list.items c.self.inside.index.places.items c.args.post c.args.command c.args.from c.first.result c.self.invariant.1
    (subst (λ (key : Key). IsFirst c.self.inside.index.places.items key c.args.from c.first.result) c.triple.ensures c.first.ensures))
