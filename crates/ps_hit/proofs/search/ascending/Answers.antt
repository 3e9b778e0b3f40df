use Rattle.std.proofs.Common.{ℕ, eqb}
use Rattle.std.specs.Cmp.{nat_eq_equiv}
use Rattle.std.specs.List.Sorted.{IsPermutation}
use Rattle.std.proofs.lemmas.List.Sorted.{IsNonDecreasingBy-from_sort, Contains-permutation, IsPermutation-sym}
use Rattle.std.proofs.lemmas.Map.Keys.{IsDistinct-IsPermutation, IsStrictlyIncreasing-from_distinct}
use Rattle.ps_hit.proofs.search.ascending.Goals as goal

-- the numbers are distinct, so in order each is below the next
pub returns-clause-ascends : goal.returns-clause-ascends
returns-clause-ascends c =
    let perm : IsPermutation c.args.numbers.now c.sort.new.self.items = rw (← c.in_ok-list.ensures.items) c.in_ok-sort.ensures.permutation in
    IsStrictlyIncreasing-from_distinct c.sort.new.self.items (IsNonDecreasingBy-from_sort (λ (n : ℕ). n) c.sort.new.self.items c.in_ok-sort.ensures.sorted)
    (IsDistinct-IsPermutation eqb nat_eq_equiv.symm c.args.numbers.now c.sort.new.self.items perm c.requires)

pub returns-clause-same : goal.returns-clause-same
returns-clause-same c = λ n.
    let perm : IsPermutation c.args.numbers.now c.sort.new.self.items = rw (← c.in_ok-list.ensures.items) c.in_ok-sort.ensures.permutation in (
      λ h. Contains-permutation c.sort.new.self.items c.args.numbers.now n (IsPermutation-sym c.args.numbers.now c.sort.new.self.items perm) h,
      λ h. Contains-permutation c.args.numbers.now c.sort.new.self.items n perm h,
    )
