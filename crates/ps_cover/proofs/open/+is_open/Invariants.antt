use Rattle.std.proofs.Common.{◌≤◌, ◌-◌, ◌*◌, ◌+◌, ◌^◌, length}
use Rattle.ps_config.specs.declared.config.TheConstants.{MOST_THREADS}
use Rattle.ps_cover.specs.inner.Rests.{large_of, HaveFailed}
use Rattle.ps_cover.proofs.Trying.{NoneBelow}
use Rattle.ps_cover.proofs.open.+is_open.Given as goal

abbrev pub decreases-is_open : goal.decreases-is_open
decreases-is_open l = (MOST_THREADS - length l.partial.now.threads) * 3 + 2

abbrev pub decreases-goes_somewhere : goal.decreases-goes_somewhere
decreases-goes_somewhere l = (MOST_THREADS - length l.partial.now.threads) * 3 + 1

abbrev pub decreases-try_image : goal.decreases-try_image
decreases-try_image l = (MOST_THREADS - length l.partial.now.threads) * 3

abbrev pub decreases-goes_somewhere-loop-image : goal.decreases-goes_somewhere-loop-image
decreases-goes_somewhere-loop-image l = 2 ^ 32 - l.from

-- no image below has a way, nor has one of those that are closed
abbrev pub invariant-goes_somewhere-loop-image : goal.invariant-goes_somewhere-loop-image
invariant-goes_somewhere-loop-image l = record {
  none : NoneBelow l.small (large_of l.at l.atoms) l.partial l.thread l.from;
  closed : HaveFailed l.small (large_of l.at l.atoms) l.partial l.thread l.closed;
  fits : l.from ≤ 2 ^ 32;
}
