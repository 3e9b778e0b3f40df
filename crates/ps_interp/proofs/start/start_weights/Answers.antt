use Rattle.std.proofs.Common.{◌≡◌, ◌+◌, ◌-◌, refl, ap, ℕ, take, drop, length, get_or, arith}
use Rattle.ps_interp.proofs.Opening.{Started, started_more}
use Rattle.ps_triple.proofs.Membership.{any_default}
use Rattle.ps_interp.proofs.start.start_weights.Goals as goal

pub loop-thread-preserved : goal.loop-thread-preserved
loop-thread-preserved c =
    let h = c.in_ok-push.ensures.items in
    let k : ℕ = get_or c.args.threads.now c.loop-thread.thread-index 0 in
    let is : k ≡ get_or c.args.threads.now c.loop-thread.thread-index k = any_default c.args.threads.now c.loop-thread.thread-index 0 k c.loop-thread-test.true in
    let before : Started c.args.setting.now c.args.threads.now c.args.lambda.now c.loop-thread.list.items c.loop-thread.thread-index c.loop-thread.at =
    record { parts = c.loop-thread.invariant.parts; room = c.loop-thread.invariant.room; each = c.loop-thread.invariant.each } in
    let n : length c.as_slice-each.result.now ≡ length c.args.setting.now.init_each = ap length c.as_slice-each.ensures in
    let m : c.loop-thread.at + length c.as_slice-each.result.now - c.loop-thread.at ≡ length c.as_slice-each.result.now = omega arith in
    let after : Started c.args.setting.now c.args.threads.now c.args.lambda.now c.push.new.self.items (c.loop-thread.thread-index + 1) (c.loop-thread.at + length c.as_slice-each.result.now) =
    started_more c.args.setting.now c.args.threads.now c.args.lambda.now c.loop-thread.list.items c.loop-thread.thread-index c.loop-thread.at k c.requires c.loop-thread-test.true is before
    c.push.new.self.items _ (length c.as_slice-each.result.now) c.in_ok-push.ensures.items n refl (ap (λ (j : ℕ). take j (drop c.loop-thread.at c.args.lambda.now)) m) in
    record { parts = after.parts; room = after.room; each = after.each }
