use Rattle.std.proofs.Common.{rules, of_calls, refl}
use Rattle.std.proofs.lemmas.Fn.{always_returns_same}
use Rattle.ps_term.specs.inner.Bound.{is_within}
use Rattle.ps_term.proofs.Lookups.{parted-within, parts-here}
use Rattle.ps_term.proofs.place.place_of.Goals as goal

pub returns-then-parts_at-clause-parts : goal.returns-then-parts_at-clause-parts
returns-then-parts_at-clause-parts c =
    parts-here (λ p. is_within c.args.bound p.0) c.args.pairs.now c.args.near (parted-within c.args.bound c.args.pairs.now c.requires)
    (c.if-parts_at.ensures.within refl) (c.if-parts_at.ensures.front refl) (c.if-parts_at.ensures.back refl)

pub returns-then-parts_at-2-clause-parts : goal.returns-then-parts_at-2-clause-parts
returns-then-parts_at-2-clause-parts c =
    parts-here (λ p. is_within c.args.bound p.0) c.args.pairs.now c.saturating_add-next.result (parted-within c.args.bound c.args.pairs.now c.requires)
    (c.if-parts_at-2.ensures.within refl) (c.if-parts_at-2.ensures.front refl) (c.if-parts_at-2.ensures.back refl)

pub returns-clause-parts : goal.returns-clause-parts
returns-clause-parts c =
    c.partition_point.ensures.partitioned (λ p. is_within c.args.bound p.0) (always_returns_same _ _ _ (λ a r f k. search (rules, of_calls))) (parted-within c.args.bound c.args.pairs.now c.requires)
