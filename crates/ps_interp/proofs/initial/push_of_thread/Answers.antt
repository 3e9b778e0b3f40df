use Rattle.std.proofs.Common.{◌≡◌, ◌++◌, [], List, ℕ, sym, ap₂, ◌∙◌, subst, get_or}
use Rattle.std.specs.Prelude.{OnOk}
use Rattle.ps_interp.specs.Weights.{weights_of, zeros}
use Rattle.ps_interp.specs.declared.start.ThreadWeights.{ThreadWeights}
use Rattle.ps_interp.specs.inner.Starts.{all_weights}
use Rattle.ps_triple.proofs.Membership.{any_default}
use Rattle.ps_interp.proofs.Opening.{ok_items, own_found, own_none}
use Rattle.ps_interp.proofs.initial.push_of_thread.Goals as goal

abbrev any_thread : ThreadWeights
any_thread = record { thread = 0; weights = record { ref_ptr = (0, 0); now = [] } }

pub returns-then-own-thread : goal.returns-then-own-thread
returns-then-own-thread c =
    let x : ThreadWeights = get_or c.args.threads.now c.loop-own.own-index any_thread in
    let is : x ≡ get_or c.args.threads.now c.loop-own.own-index x = any_default c.args.threads.now c.loop-own.own-index any_thread x c.loop-own-test.true in
    let found : x.weights.now ≡ weights_of (zeros c.args.setting.now.init_each) (all_weights c.args.threads.now) c.args.thread =
    sym (own_found (zeros c.args.setting.now.init_each) c.args.threads.now c.loop-own.own-index c.args.thread x c.loop-own-test.true is c.if-own-thread.true) ∙ c.loop-own.invariant.rest in
    subst (λ (ns : List ℕ). OnOk c.extend_from_slice.result (c.extend_from_slice.new.self.items ≡ ns)) (ap₂ (λ (ms ns : List ℕ). ms ++ ns) c.loop-own.invariant.same found)
    (ok_items c.extend_from_slice.result c.extend_from_slice.new.self.items (c.loop-own.lambda.items ++ x.weights.now) c.loop-own.lambda.items c.extend_from_slice.ensures.items)

pub returns : goal.returns
returns c =
    let found : zeros c.args.setting.now.init_each ≡ weights_of (zeros c.args.setting.now.init_each) (all_weights c.args.threads.now) c.args.thread =
    sym (own_none (zeros c.args.setting.now.init_each) c.args.threads.now c.loop-own.own-index c.args.thread c.loop-own-test.false) ∙ c.loop-own.invariant.rest in
    subst (λ (ns : List ℕ). OnOk c.push_zeros.result (c.push_zeros.new.lambda.items ≡ ns)) (ap₂ (λ (ms ns : List ℕ). ms ++ ns) c.loop-own.invariant.same found) c.push_zeros.ensures
