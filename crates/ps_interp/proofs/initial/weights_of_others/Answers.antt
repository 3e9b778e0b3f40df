use Rattle.std.proofs.Common.{Vec, Global, ◌≡◌, ◌-◌, ◌<◌, ◌==◌, false, [], List, ℕ, All, sym, ap, ◌∙◌, subst, length, get_or, arith, rules}
use Rattle.std.specs.List.{list_any}
use Rattle.std.proofs.lemmas.List.{drop_all}
use Rattle.std.specs.Prelude.{IfNone, Option}
use Rattle.ps_interp.specs.Weights.{added, weights_of_others, zeros}
use Rattle.ps_interp.specs.declared.start.ThreadWeights.{ThreadWeights}
use Rattle.ps_interp.specs.inner.Starts.{IsSmall, all_weights}
use Rattle.ps_triple.proofs.Membership.{any_default}
use Rattle.ps_interp.proofs.Opening.{added_long_as, others_past, zeros_small}
use Rattle.ps_interp.proofs.initial.weights_of_others.Goals as goal

abbrev any_thread : ThreadWeights
any_thread = record { thread = 0; weights = record { ref_ptr = (0, 0); now = [] } }

pub loop-left-init : goal.loop-left-init
loop-left-init c =
    let none : c.in_ok-sums.sums.items ≡ zeros c.args.setting.now.init_each = c.in_ok-sums.ensures in
    record {
      within = omega arith;
      sums = none ∙ sym (ap (λ (ts : List ThreadWeights). weights_of_others (zeros c.args.setting.now.init_each) (all_weights ts) c.args.slots.now) (drop_all (length c.args.threads.now) c.args.threads.now (omega arith)));
      small = subst (λ (ns : List ℕ). All IsSmall ns) (sym none) (zeros_small c.args.setting.now.init_each);
    }

pub added-requires : goal.added-requires
added-requires c =
    added_long_as c.args.setting.now.init_each c.args.threads.now c.args.slots.now c.as_slice.result.now c.loop-left.left any_thread c.requires c.loop-left-test.true c.loop-left.invariant.within
    (c.as_slice.ensures.value ∙ c.loop-left.invariant.sums)

pub returns-in_default-clause-past : goal.returns-in_default-clause-past
returns-in_default-clause-past c =
    let x : ThreadWeights = get_or c.args.threads.now (c.loop-left.left - 1) any_thread in
    let is : x ≡ get_or c.args.threads.now (c.loop-left.left - 1) x =
    any_default c.args.threads.now (c.loop-left.left - 1) any_thread x (let h : c.loop-left.left - 1 < length c.args.threads.now = omega (arith, c.loop-left-test.true, c.loop-left.invariant.within) in h) in
    let other : list_any (λ s. s == x.thread) c.args.slots.now ≡ false = search rules in
    others_past c.args.setting.now.init_each c.args.slots.now c.args.threads.now c.loop-left.left x c.as_slice.result.now c.requires c.loop-left-test.true c.loop-left.invariant.within is
    other (c.as_slice.ensures.value ∙ c.loop-left.invariant.sums)
    (subst (λ (o : Option (Vec ℕ Global)). IfNone o (¬ All IsSmall (added x.weights.now c.as_slice.result.now))) c.in_default.is c.in_ok-more.ensures.past)
