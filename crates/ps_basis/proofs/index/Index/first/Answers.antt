use Rattle.std.proofs.Common.{◌<◌, List, length, get_or, subst, sym, ap, ◌∙◌}
use Rattle.std.specs.Ordering.{is_eq}
use Rattle.ps_basis.specs.declared.place.Place.{Place}
use Rattle.ps_basis.proofs.Indexing.{found, other_key}
use Rattle.ps_basis.proofs.index.Index.first.Goals as goal

pub returns-then-is_eq : goal.returns-then-is_eq
returns-then-is_eq c =
    found c.args.self.now.places.items c.args.key c.args.from c.count_below-at.result c.requires c.count_below-at.ensures.point c.in_ok-place.place.now
    (subst (λ (places : List Place). c.count_below-at.result < length places) c.deref.ensures.value c.in_ok-place.ensures.lookup.3.0)
    (ap (λ (places : List Place). get_or places c.count_below-at.result c.in_ok-place.place.now) (sym c.deref.ensures.value) ∙ sym c.in_ok-place.ensures.lookup.1)
    (ap is_eq (sym c.compare.ensures) ∙ (sym c.is_eq.ensures ∙ c.if-is_eq.true))

pub returns-else-is_eq : goal.returns-else-is_eq
returns-else-is_eq c =
    other_key c.args.self.now.places.items c.args.key c.args.from c.count_below-at.result c.requires c.count_below-at.ensures.point c.in_ok-place.place.now
    (subst (λ (places : List Place). c.count_below-at.result < length places) c.deref.ensures.value c.in_ok-place.ensures.lookup.3.0)
    (ap (λ (places : List Place). get_or places c.count_below-at.result c.in_ok-place.place.now) (sym c.deref.ensures.value) ∙ sym c.in_ok-place.ensures.lookup.1)
    (ap is_eq (sym c.compare.ensures) ∙ (sym c.is_eq.ensures ∙ c.if-is_eq.false))
