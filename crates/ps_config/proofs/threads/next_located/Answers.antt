use Rattle.std.proofs.Common.{ℕ, List, subst, map}
use Rattle.std.proofs.lemmas.List.{take_all}
use Rattle.ps_config.specs.Next.{IsNextThread}
use Rattle.ps_config.proofs.Nexts.{next_place_step}
use Rattle.ps_config.proofs.threads.next_located.Goals as goal

pub loop-place-preserved : goal.loop-place-preserved
loop-place-preserved c = rw c.better-best.ensures (next_place_step c.args.at.now c.loop-place.place-index c.args.from (0, 0) c.loop-place.best c.loop-place-test.true c.loop-place.invariant)

pub returns : goal.returns
returns c = subst (λ (xs : List (ℕ × ℕ)). IsNextThread (map (λ (p : ℕ × ℕ). p.0) xs) c.args.from c.loop-place.best) (take_all c.loop-place.place-index c.args.at.now c.loop-place-test.false) c.loop-place.invariant
