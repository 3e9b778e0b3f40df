use Rattle.std.proofs.Common.{◌≡◌, ◌<◌, ◌++◌, ◌∷◌, [], ◌-◌, ◌∙◌, List, ℕ, subst, arith, rules}
use Rattle.ps_cover.specs.inner.Rests.{large_of}
use Rattle.ps_cover_tests.specs.Trials.{HasNone}
use Rattle.ps_cover_tests.proofs.Trying.{NoneBelow, below_next, below_more, none_from, least_from}
use Rattle.ps_cover_tests.proofs.slow.+first_from.Goals as goal

pub returns-in-Some-2-clause-some : goal.returns-in-Some-2-clause-some
returns-in-Some-2-clause-some t c =
    let below : NoneBelow c.args.small.now (large_of c.args.at.now c.args.atoms.now) c.args.threads.now c.args.to.now c.args.left c.in-Some.image =
    below_next c.args.small.now (large_of c.args.at.now c.args.atoms.now) c.args.threads.now c.args.to.now c.args.left c.loop-image.from c.in-Some.image c.requires.threads c.loop-image.invariant.none c.in-Some.ensures in
    least_from c.args.small.now (large_of c.args.at.now c.args.atoms.now) c.args.threads.now c.args.to.now c.as_slice.result.now c.in-Some-2.all.items c.args.left c.in-Some.image c.if-left-eq0.false below
    (c.as_slice.ensures.value ∙ c.in_ok-longer.ensures) (rw c.in-Some-2.is at c.in_ok-all.ensures.some)

pub loop-image-preserved : goal.loop-image-preserved
loop-image-preserved t c =
    let below : NoneBelow c.args.small.now (large_of c.args.at.now c.args.atoms.now) c.args.threads.now c.args.to.now c.args.left c.in-Some.image =
    below_next c.args.small.now (large_of c.args.at.now c.args.atoms.now) c.args.threads.now c.args.to.now c.args.left c.loop-image.from c.in-Some.image c.requires.threads c.loop-image.invariant.none c.in-Some.ensures in
    let longer : c.as_slice.result.now ≡ c.args.to.now ++ c.in-Some.image ∷ [] = c.as_slice.ensures.value ∙ c.in_ok-longer.ensures in
    let none : HasNone c.args.small.now (large_of c.args.at.now c.args.atoms.now) c.args.threads.now c.as_slice.result.now (c.args.left - 1) = rw c.in-None.is at c.in_ok-all.ensures.none in
    let small : c.in-Some.image < 4294967296 = search rules in
    record {
      none = rw c.from-from.ensures (below_more c.args.small.now (large_of c.args.at.now c.args.atoms.now) c.args.threads.now c.args.to.now c.args.left c.in-Some.image below
          (subst (λ (xs : List ℕ). HasNone c.args.small.now (large_of c.args.at.now c.args.atoms.now) c.args.threads.now xs (c.args.left - 1)) longer none));
      fits = omega (arith, small, c.from-from.ensures);
    }

pub returns-clause-none : goal.returns-clause-none
returns-clause-none t c =
    none_from c.args.small.now (large_of c.args.at.now c.args.atoms.now) c.args.threads.now c.args.to.now c.args.left c.loop-image.from c.requires.threads c.if-left-eq0.false c.loop-image.invariant.none c.in_default.ensures
