use Rattle.std.proofs.Common.{List, subst, sym, ◌↔◌, ◌⊎◌, ◌≡◌, Contains}
use Rattle.std.specs.List.Sorted.{IsSorted}
use Rattle.ps_basis.specs.declared.place.Place.{Place}
use Rattle.ps_basis.specs.inner.Index.{place_cmp}
use Rattle.ps_basis.proofs.Indexing.{inserted_holds, inserted_sorted, taken}
use Rattle.ps_basis.proofs.index.Index.insert_reserved.Goals as goal

pub returns-clause-sorted : goal.returns-clause-sorted
returns-clause-sorted c =
    subst (IsSorted place_cmp) (sym (taken c.insert.result _ _ _ c.insert.ensures.items (c.insert.ensures.succeeds c.requires.room)))
    (inserted_sorted c.args.self.now.places.items c.args.place c.count_below-at.result c.count_below-at.ensures.within c.requires.ordered c.count_below-at.ensures.point)

pub returns-clause-places : goal.returns-clause-places
returns-clause-places c = λ p.
    subst (λ (places : List Place). Contains places p ↔ (Contains c.args.self.now.places.items p ⊎ (c.args.place ≡ p)))
    (sym (taken c.insert.result _ _ _ c.insert.ensures.items (c.insert.ensures.succeeds c.requires.room)))
    (inserted_holds c.args.self.now.places.items c.args.place c.count_below-at.result p)
