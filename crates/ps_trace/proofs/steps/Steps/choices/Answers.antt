use Rattle.std.proofs.Common.{ℕ, ℤ, List, length, ap, ap₂, ◌∙◌, arith}
use Rattle.std.specs.Prelude.{◌∷◌, slice_index, slice_range}
use Rattle.ps_trace.proofs.Columns.{choices_are, length_is}
use Rattle.ps_trace.proofs.steps.Steps.choices.Goals as goal

pub choices_of-requires-clause-within : goal.choices_of-requires-clause-within
choices_of-requires-clause-within c =
    omega (
      arith,
      c.requires,
      c.self.invariant.each,
      ap (λ (es : List ℕ). length es) c.as_slice.ensures.value,
      length_is c.self.inside.threads.items c.self.inside.ends.items c.self.inside.choices.items c.args.self.now c.self.invariant c.self.view_is,
    )

pub returns : goal.returns
returns c =
    choices_are c.self.inside.threads.items c.self.inside.ends.items c.self.inside.choices.items c.args.self.now c.self.invariant c.self.view_is c.args.n c.choices_of.result.now c.requires
    (c.choices_of.ensures ∙ ap₂ (λ (es : List ℕ) (cs : List ℤ). slice_range cs (slice_index (0 ∷ es) c.args.n) (slice_index es c.args.n)) c.as_slice.ensures.value c.as_slice-2.ensures.value)
