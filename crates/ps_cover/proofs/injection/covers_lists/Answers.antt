use Rattle.std.proofs.Common.{◌∙◌, [], ap₂, refl, sym}
use Rattle.ps_cover.specs.Coverings.{images}
use Rattle.ps_cover.specs.inner.Rests.{large_of}
use Rattle.ps_cover.proofs.Whole.{allow_bare, refused_by_counts, begins, found_images, found_none, listed_threads}
use Rattle.ps_cover.proofs.injection.covers_lists.Goals as goal

pub returns-then-not-may_cover-clause-none : goal.returns-then-not-may_cover-clause-none
returns-then-not-may_cover-clause-none c =
    refused_by_counts c.args.small.now (large_of c.args.at.now c.args.atoms.now) c.at-places.ensures.form (sym c.may_cover.ensures ∙ c.if-not-may_cover.true)

pub search-requires-clause-fits : goal.search-requires-clause-fits
search-requires-clause-fits c =
    begins c.args.small.now (large_of c.args.at.now c.args.atoms.now) c.none.result c.none.ensures.threads c.none.ensures.to
    (allow_bare c.args.small.now (large_of c.args.at.now c.args.atoms.now) (sym c.may_cover.ensures ∙ c.if-not-may_cover.false))

pub returns-in-None-clause-none : goal.returns-in-None-clause-none
returns-in-None-clause-none c =
    found_none c.args.small.now (large_of c.args.at.now c.args.atoms.now) c.none.result c.none.ensures.threads c.none.ensures.to c.in-None.ensures

pub search-requires-clause-threads : goal.search-requires-clause-threads
search-requires-clause-threads c =
    listed_threads c.args.small.now (large_of c.at-places.result.now c.atoms.result.now) c.none.result.threads c.threads_in-threads.result c.as_slice.result.now
    (ap₂ large_of c.at-places.ensures.list c.atoms.ensures.list) c.none.ensures.threads c.as_slice.ensures c.threads_in-threads.ensures

pub returns-in-Some-clause-some : goal.returns-in-Some-clause-some
returns-in-Some-clause-some c =
    found_images c.args.small.now (large_of c.args.at.now c.args.atoms.now) c.none.result c.threads_in-threads.result c.as_slice.result.now c.in-Some.to (images c.injection_of.result)
    c.none.ensures.threads c.none.ensures.to c.as_slice.ensures c.injection_of.ensures.images
    (listed_threads c.args.small.now (large_of c.at-places.result.now c.atoms.result.now) [] c.threads_in-threads.result c.threads_in-threads.result (ap₂ large_of c.at-places.ensures.list c.atoms.ensures.list) refl refl c.threads_in-threads.ensures)
    c.in-Some.ensures
