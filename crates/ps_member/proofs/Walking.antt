-- Walks grow and shrink at their first letter.
use Rattle.std.proofs.Common.{◌≡◌, List, [], ◌∷◌, ◌++◌, refl, sym, subst}
use Rattle.std.specs.List.Sorted.{IsStrictlySortedBy}
use Rattle.ps_atom.specs.Atoms.{atom_cmp}
use Rattle.ps_atom.specs.declared.atom.Atom.{Atom}
use Rattle.ps_demand.specs.Demands.{demands}
use Rattle.ps_demand.specs.Pools.{HasAll}
use Rattle.ps_member.specs.declared.cut.Cut.{Cut}
use Rattle.ps_member.specs.inner.Walks.{IsWalkFrom}
use Rattle.ps_triple.specs.Entries.{false_atom}
use Rattle.ps_triple.specs.declared.entry.Entry.{Entry}

-- one letter more, with all that the atoms after it demand before it
pub walk_more : (entries : List Entry) (last : List Atom) (cuts : List Cut) (cut : Cut) (first : List Atom) →
    IsWalkFrom entries last cuts cut.after.items → HasAll first (demands entries cut.after.items cut.thread cut.command) →
    IsStrictlySortedBy atom_cmp first → IsWalkFrom entries last (cuts ++ cut ∷ []) first
walk_more entries last [] cut first w all up = (sym w.0, (first, record { ascend = w.1; all = all }, (refl, up)))
walk_more entries last (c ∷ cuts) cut first w all up = (w.0, (w.1.0, w.1.1, walk_more entries w.1.0 cuts cut first w.1.2 all up))

pub walk_first : (entries : List Entry) (last : List Atom) (cuts : List Cut) (first : List Atom) →
    IsWalkFrom entries last cuts first → IsStrictlySortedBy atom_cmp first
walk_first entries last [] first w = w.1
walk_first entries last (c ∷ cuts) first w = walk_first entries w.1.0 cuts first w.1.2

-- without the first letter
pub walk_less : (entries : List Entry) (last : List Atom) (cuts : List Cut) (cut : Cut) (first : List Atom) →
    IsWalkFrom entries last (cuts ++ cut ∷ []) first →
    IsWalkFrom entries last cuts cut.after.items × HasAll first (demands entries cut.after.items cut.thread cut.command)
walk_less entries last [] cut first w = (
  (sym w.0, w.1.1.ascend),
  subst (λ (qs : List Atom). HasAll qs (demands entries cut.after.items cut.thread cut.command)) w.1.2.0 w.1.1.all,
)
walk_less entries last (c ∷ cuts) cut first w =
    let v : IsWalkFrom entries w.1.0 cuts cut.after.items × HasAll first (demands entries cut.after.items cut.thread cut.command) =
    walk_less entries w.1.0 cuts cut first w.1.2 in
    ((w.0, (w.1.0, w.1.1, v.0)), v.1)

-- ---- as the code has them

false_sorted : IsStrictlySortedBy atom_cmp (false_atom ∷ [])
unfolding IsStrictlySortedBy
false_sorted = (tt, tt)

pub walk_none : (entries : List Entry) (cuts : List Cut) (atoms : List Atom) → cuts ≡ [] → atoms ≡ false_atom ∷ [] →
    IsWalkFrom entries (false_atom ∷ []) cuts atoms
walk_none entries cuts atoms none is =
    subst (λ (cs : List Cut). IsWalkFrom entries (false_atom ∷ []) cs atoms) (sym none)
    (sym is, subst (λ (qs : List Atom). IsStrictlySortedBy atom_cmp qs) (sym is) false_sorted)

pub walk_longer : (entries : List Entry) (last : List Atom) (cuts later : List Cut) (cut : Cut) (after first : List Atom) →
    later ≡ cuts ++ cut ∷ [] → after ≡ cut.after.items → IsWalkFrom entries last cuts cut.after.items →
    HasAll first (demands entries after cut.thread cut.command) → IsStrictlySortedBy atom_cmp first → IsWalkFrom entries last later first
walk_longer entries last cuts later cut after first more is walk all up =
    subst (λ (cs : List Cut). IsWalkFrom entries last cs first) (sym more)
    (walk_more entries last cuts cut first walk (subst (λ (qs : List Atom). HasAll first (demands entries qs cut.thread cut.command)) is all) up)
