use Rattle.std.proofs.Common.{◌≡◌, ◌<◌, ◌∙◌, ◌+◌, length, sym, ap, arith, rules}
use Rattle.std.proofs.lemmas.List.{length_push}
use Rattle.ps_cover.specs.inner.Rests.{large_of}
use Rattle.ps_cover.proofs.Trying.{IsTried, NoneBelow, below_next, below_more, none_goes, unfit_ends, unused, alike_ends, one_failed, more_occur}
use Rattle.ps_cover.proofs.open.+is_open.Goals as goal

pub goes_somewhere-loop-image-preserved-in-Closed : goal.goes_somewhere-loop-image-preserved-in-Closed
goes_somewhere-loop-image-preserved-in-Closed t c =
    let tried : IsTried c.args.small.now c.args.partial.now c.args.thread = record { long = sym c.requires.long; before = c.requires.occur; waits = c.requires.thread } in
    let below : NoneBelow c.args.small.now (large_of c.args.at.now c.args.atoms.now) c.args.partial.now c.args.thread c.in-Some.image =
    below_next c.args.small.now (large_of c.args.at.now c.args.atoms.now) c.args.partial.now c.args.thread tried c.loop-image.from c.in-Some.image c.loop-image.invariant.none c.in-Some.ensures in
    let small : c.in-Some.image < 4294967296 = search rules in
    record {
      none = rw c.from-from.ensures (below_more c.args.small.now (large_of c.args.at.now c.args.atoms.now) c.args.partial.now c.args.thread c.in-Some.image below c.in-Closed.ensures.0);
      closed = one_failed c.args.small.now (large_of c.args.at.now c.args.atoms.now) c.args.partial.now c.args.thread c.loop-image.closed c.noted-closed.result c.in-Some.image c.loop-image.invariant.closed c.in-Closed.ensures c.noted-closed.ensures.room c.noted-closed.ensures.full;
      fits = omega (arith, small, c.from-from.ensures);
    }

pub goes_somewhere-loop-image-preserved : goal.goes_somewhere-loop-image-preserved
goes_somewhere-loop-image-preserved t c =
    let tried : IsTried c.args.small.now c.args.partial.now c.args.thread = record { long = sym c.requires.long; before = c.requires.occur; waits = c.requires.thread } in
    let below : NoneBelow c.args.small.now (large_of c.args.at.now c.args.atoms.now) c.args.partial.now c.args.thread c.in-Some.image =
    below_next c.args.small.now (large_of c.args.at.now c.args.atoms.now) c.args.partial.now c.args.thread tried c.loop-image.from c.in-Some.image c.loop-image.invariant.none c.in-Some.ensures in
    let small : c.in-Some.image < 4294967296 = search rules in
    record {
      none = rw c.from-from.ensures (below_more c.args.small.now (large_of c.args.at.now c.args.atoms.now) c.args.partial.now c.args.thread c.in-Some.image below c.in-Barred.ensures);
      closed = c.loop-image.invariant.closed;
      fits = omega (arith, small, c.from-from.ensures);
    }

pub goes_somewhere-returns : goal.goes_somewhere-returns
goes_somewhere-returns t c =
    let tried : IsTried c.args.small.now c.args.partial.now c.args.thread = record { long = sym c.requires.long; before = c.requires.occur; waits = c.requires.thread } in
    none_goes c.args.small.now (large_of c.args.at.now c.args.atoms.now) c.args.partial.now c.args.thread tried c.loop-image.from c.loop-image.invariant.none c.in_default.ensures

pub try_image-returns-then-not-fits : goal.try_image-returns-then-not-fits
try_image-returns-then-not-fits t c =
    let tried : IsTried c.args.small.now c.args.partial.now c.args.thread = record { long = sym c.requires.long; before = c.requires.occur; waits = c.requires.thread } in
    unfit_ends c.args.small.now (large_of c.args.at.now c.args.atoms.now) c.args.partial.now c.args.thread tried c.args.image (sym c.fits.ensures ∙ c.if-not-fits.true)

pub try_image-returns-then-is_like_failed : goal.try_image-returns-then-is_like_failed
try_image-returns-then-is_like_failed t c =
    let tried : IsTried c.args.small.now c.args.partial.now c.args.thread = record { long = sym c.requires.long; before = c.requires.occur; waits = c.requires.thread } in
    alike_ends c.args.small.now (large_of c.args.at.now c.args.atoms.now) c.args.partial.now c.args.thread tried c.args.closed.now c.args.image (sym c.fits.ensures ∙ c.if-not-fits.false) c.requires.closed
    (rw c.as_slice.ensures at (sym c.is_like_failed.ensures ∙ c.if-is_like_failed.true))

pub try_image-is_open-requires : goal.try_image-is_open-requires
try_image-is_open-requires t c =
    let more : length c.with.result.threads ≡ length c.args.partial.now.threads + 1 = ap length c.with.ensures.threads ∙ length_push c.args.partial.now.threads c.args.thread in
    let more_to : length c.with.result.to ≡ length c.args.partial.now.to + 1 = ap length c.with.ensures.to ∙ length_push c.args.partial.now.to c.args.image in (
      first_of (search rules, omega (arith, c.decreases, more, c.requires.few)),
      (
        more_occur c.args.small.now c.args.partial.now.threads c.with.result.threads c.args.thread c.requires.occur c.requires.thread.occurs c.with.ensures.threads,
        (c.requires.waiting, omega (arith, more, more_to, c.requires.long)),
      ),
    )

pub try_image-returns-else-is_open : goal.try_image-returns-else-is_open
try_image-returns-else-is_open t c =
    let tried : IsTried c.args.small.now c.args.partial.now c.args.thread = record { long = sym c.requires.long; before = c.requires.occur; waits = c.requires.thread } in (
      rw (c.with.ensures.threads, c.with.ensures.to) at c.if-is_open.ensures,
      unused c.args.small.now (large_of c.args.at.now c.args.atoms.now) c.args.partial.now c.args.thread tried c.args.image (sym c.fits.ensures ∙ c.if-not-fits.false),
    )
