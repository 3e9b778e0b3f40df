use Rattle.std.proofs.Common.{refl, ◌∙◌}
use Rattle.ps_saturate.proofs.Stepping.{post_ready}
use Rattle.ps_saturate.proofs.answering.trial_of.Goals as goal

pub common_rows-requires-clause-post : goal.common_rows-requires-clause-post
common_rows-requires-clause-post c =
    (post_ready c.args.setting.now c.args.predicates.now c.args.question c.index-predicates-question.result c.in_ok-from_slice.field-0 c.requires.subject c.index-predicates-question.is (c.if-not-is_in_range.ensures.0 refl)
    (c.in_ok-from_slice.ensures.copy ∙ (c.as_slice.ensures.value ∙ c.in_ok-threads.ensures))).0

pub common_rows-requires-clause-once : goal.common_rows-requires-clause-once
common_rows-requires-clause-once c =
    (post_ready c.args.setting.now c.args.predicates.now c.args.question c.index-predicates-question.result c.in_ok-from_slice.field-0 c.requires.subject c.index-predicates-question.is (c.if-not-is_in_range.ensures.0 refl)
    (c.in_ok-from_slice.ensures.copy ∙ (c.as_slice.ensures.value ∙ c.in_ok-threads.ensures))).1

pub returns-in-Ok-clause-ready : goal.returns-in-Ok-clause-ready
returns-in-Ok-clause-ready c =
    let post = post_ready c.args.setting.now c.args.predicates.now c.args.question c.index-predicates-question.result c.in_ok-from_slice.field-0 c.requires.subject c.index-predicates-question.is (c.if-not-is_in_range.ensures.0 refl)
    (c.in_ok-from_slice.ensures.copy ∙ (c.as_slice.ensures.value ∙ c.in_ok-threads.ensures)) in
    record {
      command = c.requires.subject.command_is;
      post_is = post.2;
      named = post.0;
      once = post.1;
      negation = c.in-Ok.ensures.fits.0;
      substitution = c.in-Ok.ensures.fits.1;
      rows_are = c.in-Ok.ensures.rows;
    }
