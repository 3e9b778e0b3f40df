use Rattle.std.proofs.Common.{◌≡◌, ◌↔◌, List, true, subst, sym, ◌∙◌}
use Rattle.ps_triple.specs.Entries.{HasInitial}
use Rattle.ps_triple.specs.declared.entry.Entry.{Entry}
use Rattle.ps_basis.specs.declared.key.Key.{Key}
use Rattle.ps_basis.specs.inner.Index.{IsFirst}
use Rattle.ps_basis.proofs.Indexing.{initial_for}
use Rattle.ps_basis.proofs.front.FrontShown.is_initial.Goals as goal

pub returns : goal.returns
returns c =
    let both = initial_for c.self.inside.list.items c.self.inside.index.places.items c.args.predicate c.first.result c.self.invariant.1
    (subst (λ (key : Key). IsFirst c.self.inside.index.places.items key 0 c.first.result) c.initial.ensures c.first.ensures) in
    subst (λ (entries : List Entry). (c.is_some.result ≡ true) ↔ HasInitial entries c.args.predicate) c.self.view_is
    ((λ h. both.0 (sym c.is_some.ensures ∙ h)), (λ h. c.is_some.ensures ∙ both.1 h))
