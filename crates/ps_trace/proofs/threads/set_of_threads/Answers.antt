use Rattle.std.proofs.Common.{◌+◌, ℕ, List, drop, sym, ap, ◌∙◌}
use Rattle.std.proofs.lemmas.List.{drop_more}
use Rattle.ps_trace.specs.Rows.{threads_from}
use Rattle.ps_trace.specs.Traces.{pairs_in}
use Rattle.ps_trace.specs.declared.trace.Letter.{Letter}
use Rattle.ps_trace.proofs.threads.set_of_threads.Goals as goal

pub loop-letter-preserved : goal.loop-letter-preserved
loop-letter-preserved c =
    let ls = c.args.letters.now in
    let i = c.loop-letter.letter-index in
    ap (λ (ks : List ℕ). threads_from ks (pairs_in (drop (c.loop-letter.letter-index + 1) c.args.letters.now))) c.in_ok-insert.ensures.keys
    ∙ sym (ap (λ (xs : List Letter). threads_from c.loop-letter.threads.keys (pairs_in xs)) (drop_more ls i (record { thread = 0; edge = 0 }) c.loop-letter-test.true))
    ∙ c.loop-letter.invariant
