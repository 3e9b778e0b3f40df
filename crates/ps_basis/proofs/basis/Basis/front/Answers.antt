use Rattle.std.proofs.Common.{List, take, subst, sym, ap, ◌∙◌}
use Rattle.ps_triple.specs.declared.entry.Entry.{Entry}
use Rattle.ps_basis.specs.declared.place.Place.{Place}
use Rattle.ps_basis.specs.inner.Index.{IsIndex}
use Rattle.ps_basis.proofs.Indexing.{front_index}
use Rattle.ps_basis.proofs.basis.Basis.front.Goals as goal

pub new-requires-clause-indexed : goal.new-requires-clause-indexed
new-requires-clause-indexed c =
    subst (λ (entries : List Entry). IsIndex entries c.in_ok-front.field-0.places.items) (sym (c.in_ok-first.ensures ∙ ap (take c.args.count) c.as_slice.ensures.value))
    (subst (λ (places : List Place). IsIndex (take c.args.count c.self.inside.list.items) places) (sym c.in_ok-front.ensures)
    (front_index c.self.inside.list.items c.self.inside.index.places.items c.args.count c.self.invariant.index))
