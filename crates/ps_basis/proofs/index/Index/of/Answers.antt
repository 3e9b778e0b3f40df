use Rattle.std.proofs.Common.{refl, rules, of_calls}
use Rattle.std.proofs.lemmas.Fn.{always_returns_same}
use Rattle.std.specs.Ordering.{is_lt}
use Rattle.ps_basis.specs.declared.place.Place.{Place}
use Rattle.ps_basis.specs.inner.Index.{place_cmp}
use Rattle.ps_basis.proofs.Indexing.{more_of, index_of, place_weak}
use Rattle.ps_basis.proofs.index.Index.of.Goals as goal

pub loop-n-preserved : goal.loop-n-preserved
loop-n-preserved c = more_of c.args.entries.now c.loop-n.n c.index-entries-n.result _ _ _ c.in_ok-push.ensures.items c.loop-n-test.true c.index-entries-n.is c.of.ensures refl c.loop-n.invariant

pub returns : goal.returns
returns c =
    index_of c.args.entries.now c.loop-n.n _ _ c.loop-n-test.false c.loop-n.invariant c.sort_unstable_by.ensures.permutation
    (c.sort_unstable_by.ensures.sorted (λ (p q : Place). is_lt (place_cmp p q)) place_weak (always_returns_same _ _ _ (λ a r f k. search (rules, of_calls))))
