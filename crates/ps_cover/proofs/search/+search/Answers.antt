use Rattle.std.proofs.Common.{◌≡◌, ◌<◌, ◌-◌, ◌∙◌, ap, length, drop, get_or, sym, arith, rules}
use Rattle.std.proofs.lemmas.List.{length-drop}
use Rattle.ps_config.specs.declared.config.TheConstants.{MOST_THREADS}
use Rattle.ps_cover.specs.inner.Rests.{large_of}
use Rattle.ps_cover.proofs.Trying.{NoneBelow, below_next, below_more, none_goes, unfit_ends, alike_ends, one_failed}
use Rattle.ps_cover.proofs.Turns.{IsTurn, before_occur, left_occur, turn_tried, turn_found, turn_fits, turn_threads, some_left, few_left}
use Rattle.ps_cover.proofs.search.+search.Goals as goal

pub attempt-returns-then-not-fits : goal.attempt-returns-then-not-fits
attempt-returns-then-not-fits t c =
    let turn : IsTurn c.args.small.now (large_of c.args.at.now c.args.atoms.now) c.args.partial.now c.args.left.now = record { are = c.requires.threads; fits = c.requires.fits; some = c.requires.some } in
    unfit_ends c.args.small.now (large_of c.args.at.now c.args.atoms.now) c.args.partial.now (get_or c.args.left.now 0 0) (turn_tried c.args.small.now (large_of c.args.at.now c.args.atoms.now) c.args.partial.now c.args.left.now turn) c.args.image (sym c.fits.ensures ∙ c.if-not-fits.true)

pub attempt-returns-then-is_like_failed : goal.attempt-returns-then-is_like_failed
attempt-returns-then-is_like_failed t c =
    let turn : IsTurn c.args.small.now (large_of c.args.at.now c.args.atoms.now) c.args.partial.now c.args.left.now = record { are = c.requires.threads; fits = c.requires.fits; some = c.requires.some } in
    alike_ends c.args.small.now (large_of c.args.at.now c.args.atoms.now) c.args.partial.now (get_or c.args.left.now 0 0) (turn_tried c.args.small.now (large_of c.args.at.now c.args.atoms.now) c.args.partial.now c.args.left.now turn) c.args.failed.now c.args.image (sym c.fits.ensures ∙ c.if-not-fits.false) c.requires.failed
    (rw c.as_slice.ensures at (sym c.is_like_failed.ensures ∙ c.if-is_like_failed.true))

pub attempt-search-requires : goal.attempt-search-requires
attempt-search-requires t c =
    let turn : IsTurn c.args.small.now (large_of c.args.at.now c.args.atoms.now) c.args.partial.now c.args.left.now = record { are = c.requires.threads; fits = c.requires.fits; some = c.requires.some } in
    let less : length (drop 1 c.args.left.now) ≡ length c.args.left.now - 1 = length-drop 1 c.args.left.now in
    let same : length c.after_first.result.now ≡ length (drop 1 c.args.left.now) = ap length c.after_first.ensures in (
      first_of (search rules, omega (arith, c.decreases, less, same, c.requires.some)),
      (
        rw (c.with.ensures.threads, c.after_first.ensures) (turn_threads c.args.small.now (large_of c.args.at.now c.args.atoms.now) c.args.partial.now c.args.left.now turn c.args.image),
        (
          few_left c.args.partial.now.threads c.args.left.now c.with.result.threads c.after_first.result.now (get_or c.args.left.now 0 0) MOST_THREADS c.requires.few c.requires.some c.with.ensures.threads c.after_first.ensures,
          rw (c.with.ensures.threads, c.with.ensures.to) (turn_fits c.args.small.now (large_of c.args.at.now c.args.atoms.now) c.args.partial.now c.args.left.now turn c.args.image (sym c.fits.ensures ∙ c.if-not-fits.false)),
        ),
      ),
    )

pub search-is_open-requires-clause-occur : goal.search-is_open-requires-clause-occur
search-is_open-requires-clause-occur t c = before_occur c.args.small.now c.args.partial.now c.args.left.now c.requires.threads

pub search-is_open-requires-clause-waiting : goal.search-is_open-requires-clause-waiting
search-is_open-requires-clause-waiting t c = left_occur c.args.small.now c.args.partial.now c.args.left.now c.requires.threads

pub search-returns-in-Found : goal.search-returns-in-Found
search-returns-in-Found t c =
    let turn : IsTurn c.args.small.now (large_of c.args.at.now c.args.atoms.now) c.args.partial.now c.args.left.now = record { are = c.requires.threads; fits = c.requires.fits; some = some_left c.args.left.now c.is_empty.result c.is_empty.ensures c.if-is_empty.false } in
    turn_found c.args.small.now (large_of c.args.at.now c.args.atoms.now) c.args.partial.now c.args.left.now turn c.in-Some.image c.in-Found.all
    (below_next c.args.small.now (large_of c.args.at.now c.args.atoms.now) c.args.partial.now (get_or c.args.left.now 0 0) (turn_tried c.args.small.now (large_of c.args.at.now c.args.atoms.now) c.args.partial.now c.args.left.now turn) c.loop-image.from c.in-Some.image c.loop-image.invariant.none c.in-Some.ensures) c.in-Found.ensures

pub search-loop-image-preserved-in-Failed : goal.search-loop-image-preserved-in-Failed
search-loop-image-preserved-in-Failed t c =
    let turn : IsTurn c.args.small.now (large_of c.args.at.now c.args.atoms.now) c.args.partial.now c.args.left.now = record { are = c.requires.threads; fits = c.requires.fits; some = some_left c.args.left.now c.is_empty.result c.is_empty.ensures c.if-is_empty.false } in
    let below : NoneBelow c.args.small.now (large_of c.args.at.now c.args.atoms.now) c.args.partial.now (get_or c.args.left.now 0 0) c.in-Some.image =
    below_next c.args.small.now (large_of c.args.at.now c.args.atoms.now) c.args.partial.now (get_or c.args.left.now 0 0) (turn_tried c.args.small.now (large_of c.args.at.now c.args.atoms.now) c.args.partial.now c.args.left.now turn) c.loop-image.from c.in-Some.image c.loop-image.invariant.none c.in-Some.ensures in
    let small : c.in-Some.image < 4294967296 = search rules in
    record {
      none = rw c.from-from.ensures (below_more c.args.small.now (large_of c.args.at.now c.args.atoms.now) c.args.partial.now (get_or c.args.left.now 0 0) c.in-Some.image below c.in-Failed.ensures.0);
      failed = one_failed c.args.small.now (large_of c.args.at.now c.args.atoms.now) c.args.partial.now (get_or c.args.left.now 0 0) c.loop-image.failed c.noted-failed.result c.in-Some.image c.loop-image.invariant.failed c.in-Failed.ensures c.noted-failed.ensures.room c.noted-failed.ensures.full;
      fits = omega (arith, small, c.from-from.ensures);
    }

pub search-loop-image-preserved : goal.search-loop-image-preserved
search-loop-image-preserved t c =
    let turn : IsTurn c.args.small.now (large_of c.args.at.now c.args.atoms.now) c.args.partial.now c.args.left.now = record { are = c.requires.threads; fits = c.requires.fits; some = some_left c.args.left.now c.is_empty.result c.is_empty.ensures c.if-is_empty.false } in
    let below : NoneBelow c.args.small.now (large_of c.args.at.now c.args.atoms.now) c.args.partial.now (get_or c.args.left.now 0 0) c.in-Some.image =
    below_next c.args.small.now (large_of c.args.at.now c.args.atoms.now) c.args.partial.now (get_or c.args.left.now 0 0) (turn_tried c.args.small.now (large_of c.args.at.now c.args.atoms.now) c.args.partial.now c.args.left.now turn) c.loop-image.from c.in-Some.image c.loop-image.invariant.none c.in-Some.ensures in
    let small : c.in-Some.image < 4294967296 = search rules in
    record {
      none = rw c.from-from.ensures (below_more c.args.small.now (large_of c.args.at.now c.args.atoms.now) c.args.partial.now (get_or c.args.left.now 0 0) c.in-Some.image below c.in-Unfit.ensures);
      failed = c.loop-image.invariant.failed;
      fits = omega (arith, small, c.from-from.ensures);
    }

pub search-returns : goal.search-returns
search-returns t c =
    let turn : IsTurn c.args.small.now (large_of c.args.at.now c.args.atoms.now) c.args.partial.now c.args.left.now = record { are = c.requires.threads; fits = c.requires.fits; some = some_left c.args.left.now c.is_empty.result c.is_empty.ensures c.if-is_empty.false } in
    none_goes c.args.small.now (large_of c.args.at.now c.args.atoms.now) c.args.partial.now (get_or c.args.left.now 0 0) (turn_tried c.args.small.now (large_of c.args.at.now c.args.atoms.now) c.args.partial.now c.args.left.now turn) c.loop-image.from c.loop-image.invariant.none c.in_default.ensures
