use Rattle.std.proofs.Common.{◌∙◌, sym, eqb}
use Rattle.std.proofs.lemmas.List.Elements.{All-push}
use Rattle.std.proofs.lemmas.List.Filters.{All-dedup, dedup_is}
use Rattle.std.proofs.lemmas.Map.Keys.{IsStrictlyIncreasing-dedup}
use Rattle.ps_hit.specs.Hitting.{numbers_of}
use Rattle.ps_hit.specs.inner.Searching.{IsLone}
use Rattle.ps_hit.proofs.Rooted.{all_sorted, lone_at}
use Rattle.ps_hit.proofs.lone.lone_numbers.Goals as goal

-- one more set has one number
pub loop-set-preserved : goal.loop-set-preserved
loop-set-preserved c =
    rw c.in_ok-push.ensures.items (All-push (IsLone (numbers_of c.args.sets.now)) c.loop-set.lone.items c.in-Some.number c.loop-set.invariant
    (lone_at c.args.sets.now c.loop-set.set-index c.set-item.result c.in-Some.number c.loop-set-test.true c.set-item.is (sym c.as_slice.ensures.value ∙ c.in-Some.ensures)))

pub returns-clause-ascends : goal.returns-clause-ascends
returns-clause-ascends c =
    rw (dedup_is eqb c.sort_unstable.new.self.items c.dedup.new.self.items c.dedup.ensures.filtered) (IsStrictlyIncreasing-dedup c.sort_unstable.new.self.items c.sort_unstable.ensures.sorted)

pub returns-clause-lone : goal.returns-clause-lone
returns-clause-lone c =
    rw (dedup_is eqb c.sort_unstable.new.self.items c.dedup.new.self.items c.dedup.ensures.filtered) (All-dedup eqb (IsLone (numbers_of c.args.sets.now)) c.sort_unstable.new.self.items
    (all_sorted (IsLone (numbers_of c.args.sets.now)) c.loop-set.lone.items c.sort_unstable.new.self.items c.sort_unstable.ensures.permutation c.loop-set.invariant))
