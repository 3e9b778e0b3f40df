use Rattle.std.proofs.Common.{◌≡◌, ◌<◌, ◌≤◌, ℕ, refl, subst, List, All, length, ◌⊎◌}
use Rattle.ps_interp.specs.Cuts.{IsFalseSum, IsTrivialSum}
use Rattle.ps_interp.specs.Sums.{SumFits, Weighed}
use Rattle.ps_interp.specs.declared.weights.WeighedLetter.{WeighedLetter}
use Rattle.ps_interp.specs.inner.Parts.{cut_sums, letters_by, sum_in}
use Rattle.ps_soundness.specs.Traces.{trace_of}
use Rattle.ps_trace.specs.Traces.{pairs_in}
use Rattle.ps_term.specs.declared.term.Term.{Term}
use Rattle.ps_interp.proofs.Bounding.{cuts_are, letters_are}
use Rattle.ps_interp.proofs.Parting.{other_end}
use Rattle.ps_interp.proofs.cuts.cuts_of.Goals as goal

pub returns-clause-cuts : goal.returns-clause-cuts
returns-clause-cuts c =
    cuts_are _ c.args.graph.now.setting c.args.graph.now.edges c.args.letters.now c.args.weights.now refl c.requires.few c.in-Ok.ensures.parts c.in-Ok.ensures.each
    (subst (λ (ls : List WeighedLetter). c.in-Ok-sums_at_cuts.sums.items ≡ cut_sums (letters_by c.args.graph.now.setting ls)) c.as_slice.ensures.value c.in-Ok-sums_at_cuts.ensures.sums)
    (subst (λ (ts : List Term). c.least_false-high.result ≤ length ts) c.as_slice-2.ensures.value c.least_false-high.ensures.within)
    (subst (λ (ts : List Term). (cut : ℕ) → cut < c.least_false-high.result → ¬ IsFalseSum (sum_in ts cut)) c.as_slice-2.ensures.value c.least_false-high.ensures.least)
    (subst (λ (ts : List Term). c.least_false-high.result < length ts → IsFalseSum (sum_in ts c.least_false-high.result)) c.as_slice-2.ensures.value c.least_false-high.ensures.is)
    (subst (λ (ts : List Term). (c.greatest_trivial-low.result ≡ 0) ⊎ ((c.greatest_trivial-low.result < c.least_false-high.result) × IsTrivialSum (sum_in ts c.greatest_trivial-low.result))) c.as_slice-3.ensures.value c.greatest_trivial-low.ensures.is)
    (subst (λ (ts : List Term). (cut : ℕ) → c.greatest_trivial-low.result < cut → cut < c.least_false-high.result → ¬ IsTrivialSum (sum_in ts cut)) c.as_slice-3.ensures.value c.greatest_trivial-low.ensures.greatest)

pub returns-clause-fits : goal.returns-clause-fits
returns-clause-fits c =
    subst (λ (ws : List Weighed). All (SumFits c.args.graph.now.setting) ws)
    (letters_are c.args.graph.now.setting (trace_of c.args.graph.now.edges (pairs_in c.args.letters.now)) c.args.weights.now c.in-Ok.list.items c.in-Ok.ensures.parts)
    (subst (λ (ls : List WeighedLetter). All (SumFits c.args.graph.now.setting) (letters_by c.args.graph.now.setting ls)) c.as_slice.ensures.value c.in-Ok-sums_at_cuts.ensures.fits)

pub returns-in-Err-sums_at_cuts-clause-past : goal.returns-in-Err-sums_at_cuts-clause-past
returns-in-Err-sums_at_cuts-clause-past c = λ e.
    subst (λ (ws : List Weighed). ¬ All (SumFits c.args.graph.now.setting) ws)
    (letters_are c.args.graph.now.setting (trace_of c.args.graph.now.edges (pairs_in c.args.letters.now)) c.args.weights.now c.in-Ok.list.items c.in-Ok.ensures.parts)
    (subst (λ (ls : List WeighedLetter). ¬ All (SumFits c.args.graph.now.setting) (letters_by c.args.graph.now.setting ls)) c.as_slice.ensures.value (c.in-Err-sums_at_cuts.ensures.past (other_end c.in-Err-sums_at_cuts.end e)))
