use Rattle.std.proofs.Common.{◌≢◌, ℕ, zero, suc, ◌<◌, [], inl, refl, arith}
use Rattle.std.proofs.lemmas.Int.{ints}
use Rattle.ps_interp.specs.Cuts.{sum_at}
use Rattle.ps_interp.specs.Examples.{branch_letters}
use Rattle.ps_interp.proofs.worked.cuts_of_the_branch.Goals as goal

-- each of the first three sums has a variable
has_variable : (cut : ℕ) → cut < 3 → (sum_at branch_letters cut).pairs ≢ []
has_variable zero h e = cc
has_variable (suc zero) h e = cc
has_variable (suc (suc zero)) h e = cc
has_variable (suc (suc (suc n))) h e = absurd (omega (arith, h))

pub returns : goal.returns
returns c = record {
  within = omega arith;
  ends = (refl, omega (arith, ints));
  least = λ cut h f. has_variable cut h f.0;
  starts = inl refl;
  greatest = λ cut low h t. has_variable cut h t.0;
}
