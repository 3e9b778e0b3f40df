-- The second cut is one of what comes after the first.
use Rattle.std.proofs.Common.{inl, inr, refl}
use Rattle.ps_parts.proofs.Marks.{cut_again, numbered_after, numbered_whole}
use Rattle.ps_parts.specs.Cuts.{program_before}
use Rattle.ps_parts.proofs.parts.three_parts.Goals as goal

pub returns-in-None-cut_at_mark-clause-no_mark : goal.returns-in-None-cut_at_mark-clause-no_mark
returns-in-None-cut_at_mark-clause-no_mark c = λ _.
    let before = c.in-Some.cut.before.now in
    inr (program_before before, c.in-Some.cut.after.now, (before, c.in-Some.ensures.cut, refl), c.in-None-cut_at_mark.ensures.cut)

pub returns-then-program-gt-MOST_PROGRAM-clause-limit : goal.returns-then-program-gt-MOST_PROGRAM-clause-limit
returns-then-program-gt-MOST_PROGRAM-clause-limit c = λ _. (
  c.program_part-program.result.now,
  c.in-Some-cut_at_mark.next.before.now,
  c.in-Some-cut_at_mark.next.after.now,
  cut_again _ _ _ _ _ _ c.in-Some.ensures.cut c.program_part-program.ensures c.in-Some-cut_at_mark.ensures.cut,
  inl c.if-program-gt-MOST_PROGRAM.true,
)

pub returns-then-next-most_middle-clause-limit : goal.returns-then-next-most_middle-clause-limit
returns-then-next-most_middle-clause-limit c = λ _. (
  c.program_part-program.result.now,
  c.in-Some-cut_at_mark.next.before.now,
  c.in-Some-cut_at_mark.next.after.now,
  cut_again _ _ _ _ _ _ c.in-Some.ensures.cut c.program_part-program.ensures c.in-Some-cut_at_mark.ensures.cut,
  inr (inl c.if-next-most_middle.true),
)

pub returns-then-next-most_last-clause-limit : goal.returns-then-next-most_last-clause-limit
returns-then-next-most_last-clause-limit c = λ _. (
  c.program_part-program.result.now,
  c.in-Some-cut_at_mark.next.before.now,
  c.in-Some-cut_at_mark.next.after.now,
  cut_again _ _ _ _ _ _ c.in-Some.ensures.cut c.program_part-program.ensures c.in-Some-cut_at_mark.ensures.cut,
  inr (inr c.if-next-most_last.true),
)

pub returns-clause-line_middle : goal.returns-clause-line_middle
returns-clause-line_middle c =
    let input = c.args.input.now in (
      c.in-Some.cut.after.now,
      c.in-Some-cut_at_mark.ensures.cut,
      numbered_after input input c.in-Some.cut.before.now c.in-Some.cut.after.now 1 c.in-Some.cut.line (numbered_whole input)
          c.in-Some.ensures.cut c.in-Some.ensures.line,
    )

pub returns-clause-line_last : goal.returns-clause-line_last
returns-clause-line_last c =
    let input = c.args.input.now in
    let rest = c.in-Some.cut.after.now in
    numbered_after input rest c.in-Some-cut_at_mark.next.before.now c.in-Some-cut_at_mark.next.after.now c.in-Some.cut.line
    c.in-Some-cut_at_mark.next.line
    (numbered_after input input c.in-Some.cut.before.now rest 1 c.in-Some.cut.line (numbered_whole input) c.in-Some.ensures.cut c.in-Some.ensures.line)
    c.in-Some-cut_at_mark.ensures.cut c.in-Some-cut_at_mark.ensures.line
