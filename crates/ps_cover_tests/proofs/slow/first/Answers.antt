use Rattle.std.proofs.Common.{[], ◌∙◌, ap₂, refl, sym}
use Rattle.ps_config.specs.Configurations.{Covers}
use Rattle.ps_cover.specs.Coverings.{IsFirstInjection}
use Rattle.ps_cover.specs.inner.Rests.{large_of}
use Rattle.ps_cover.proofs.Whole.{listed_threads}
use Rattle.ps_cover_tests.specs.Trials.{HasNone, IsLeast}
use Rattle.ps_cover_tests.proofs.Trying.{if_some, if_none, first_from_none, none_covers}
use Rattle.ps_cover_tests.proofs.slow.first.Goals as goal

pub first_from-requires-clause-threads : goal.first_from-requires-clause-threads
first_from-requires-clause-threads c =
    listed_threads c.args.small.now (large_of c.at.result.now c.atoms.result.now) [] c.in_ok-threads.threads.items c.as_slice.result.now
    (ap₂ large_of c.at.ensures.list c.atoms.ensures.list) refl c.as_slice.ensures.value c.in_ok-threads.ensures

pub returns-clause-some : goal.returns-clause-some
returns-clause-some c =
    let are = listed_threads c.args.small.now (large_of c.at.result.now c.atoms.result.now) [] c.in_ok-threads.threads.items c.as_slice.result.now
    (ap₂ large_of c.at.ensures.list c.atoms.ensures.list) refl c.as_slice.ensures.value c.in_ok-threads.ensures in
    if_some c.in_ok-answer.answer (IsLeast c.args.small.now (large_of c.args.at.now c.args.atoms.now) c.as_slice.result.now [] c.len-left.result) (IsFirstInjection c.args.small.now (large_of c.args.at.now c.args.atoms.now))
    (λ all is. first_from_none c.args.small.now (large_of c.args.at.now c.args.atoms.now) c.as_slice.result.now all [] c.len-left.result are refl (c.len-left.ensures ∙ sym c.as_slice.ensures.len) is) c.in_ok-answer.ensures.some

pub returns-clause-none : goal.returns-clause-none
returns-clause-none c =
    let are = listed_threads c.args.small.now (large_of c.at.result.now c.atoms.result.now) [] c.in_ok-threads.threads.items c.as_slice.result.now
    (ap₂ large_of c.at.ensures.list c.atoms.ensures.list) refl c.as_slice.ensures.value c.in_ok-threads.ensures in
    if_none c.in_ok-answer.answer (HasNone c.args.small.now (large_of c.args.at.now c.args.atoms.now) c.as_slice.result.now [] c.len-left.result) (¬ Covers c.args.small.now (large_of c.args.at.now c.args.atoms.now))
    (none_covers c.args.small.now (large_of c.args.at.now c.args.atoms.now) c.as_slice.result.now [] c.len-left.result are refl (c.len-left.ensures ∙ sym c.as_slice.ensures.len)) c.in_ok-answer.ensures.none
