use Rattle.std.proofs.Common.{ℕ, zero, suc, ◌≤◌, inr, refl, arith}
use Rattle.std.specs.Prelude.{codes}
use Rattle.ps_parts.specs.Cuts.{IsMarkAt}
use Rattle.ps_parts.proofs.laws.the_first_mark_cuts.Goals as goal

none_before : (other : ℕ) → IsMarkAt (codes "a\n%%\nb\n%%\n") other → 2 ≤ other
none_before zero mark = absurd (let line = mark.line in cc)
none_before (suc zero) mark = absurd (let line = mark.line in cc)
none_before (suc (suc n)) mark = omega arith

pub returns : goal.returns
returns c = (
  codes "a\n",
  record {
    whole = refl;
    first = record { mark = record { starts = inr refl; line = refl }; first = none_before };
  },
  refl,
)
