use Rattle.std.proofs.Common.{◌≡◌, ◌≢◌, ◌<◌, ℕ, All, take, IfSome, IfNone}
use Rattle.std.specs.List.{HoldsAt}
use Rattle.ps_hit.specs.declared.cover.Cover.{Cover}
use Rattle.ps_hit.specs.declared.cover.Cover.TheVariants.{Unmet}
use Rattle.ps_hit.proofs.cover.narrowest_unmet.Given as goal

abbrev pub invariant-loop-at : goal.invariant-loop-at
invariant-loop-at l = record {
  within : IfSome l.best (λ (place : ℕ). place < l.at);
  unmet : IfSome l.best (λ (place : ℕ). HoldsAt (λ (cover : Cover). cover ≡ Unmet) l.covers place);
  none : IfNone l.best (All (λ (cover : Cover). cover ≢ Unmet) (take l.at l.covers));
}
