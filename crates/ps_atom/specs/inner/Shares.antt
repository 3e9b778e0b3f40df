-- The shares of threads in a row, in the order of threads.
use Rattle.std.specs.Prelude.{◌≡◌, ℕ, ℤ, List, All, map}
use Rattle.std.specs.List.Sorted.{IsPermutation, IsSorted}
use Rattle.std.specs.Ordering.{nat_cmp, ordering_then}
use Rattle.std.specs.declared.cmp.Ordering.{Ordering}
use Rattle.ps_term.specs.declared.var.Var.{Var}
use Rattle.ps_atom.specs.declared.share.Share.{Share}
use Rattle.ps_atom.specs.Threads.{local_pairs, pairs_cmp}

-- the lists of pairs decide, and of like ones the threads
abbrev pub share_cmp : Share → Share → Ordering
share_cmp a b = ordering_then (pairs_cmp a.pairs.items b.pairs.items) (nat_cmp a.thread b.thread)

-- the share has the pairs of its thread
abbrev pub IsShare : List (Var × ℤ) → Share → Type 0
IsShare pairs share = share.pairs.items ≡ local_pairs share.thread pairs

-- the shares of the threads, sorted
pub record AreShares (pairs : List (Var × ℤ)) (threads : List ℕ) (shares : List Share) : Type 0 where
  pub each : All (IsShare pairs) shares
  pub same : IsPermutation threads (map (λ (share : Share). share.thread) shares)
  pub sorted : IsSorted share_cmp shares
