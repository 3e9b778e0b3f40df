use Rattle.std.proofs.Common.{◌++◌, ◌∷◌, [], ◌∙◌, ap, ℕ, List, All}
use Rattle.ps_hit.specs.Hitting.{numbers_of}
use Rattle.ps_hit.specs.inner.Covers.{covers_with, HasOwn}
use Rattle.ps_hit.proofs.Nodes.{covers_length, adds_none, adds_one}
use Rattle.ps_hit.proofs.node.add_child.Goals as goal

pub chosen_too-requires : goal.chosen_too-requires
chosen_too-requires c = rw c.as_slice.ensures.value (covers_length c.args.node.now.chosen.items c.args.sets.now c.args.node.now.covers.items c.requires.covers)

-- some number would have no set of its own
pub returns-then-not-all_have_own : goal.returns-then-not-all_have_own
returns-then-not-all_have_own c =
    adds_none (numbers_of c.args.sets.now) c.args.node.now c.args.number c.args.barred.now c.args.waiting.now.items c.in_ok-covers.covers.items c.push.new.self.items c.all_have_own.result
    (c.in_ok-covers.ensures ∙ ap (covers_with c.args.number (numbers_of c.args.sets.now)) c.as_slice.ensures.value)
    (c.in_ok-push.ensures.items ∙ ap (λ (xs : List ℕ). xs ++ c.args.number ∷ []) (c.in_ok-chosen.ensures.items ∙ c.as_slice-2.ensures.value))
    (λ own. c.all_have_own.ensures.1 (rw (c.as_slice-4.ensures.value, c.as_slice-3.ensures.value) own)) c.if-not-all_have_own.true

-- each number has one, and the child waits
pub returns : goal.returns
returns c =
    let own : All (HasOwn c.in_ok-covers.covers.items) c.push.new.self.items = rw (← c.as_slice-4.ensures.value, ← c.as_slice-3.ensures.value) (c.all_have_own.ensures.0 c.if-not-all_have_own.false) in
    adds_one (numbers_of c.args.sets.now) c.args.node.now c.args.number c.args.barred.now c.args.waiting.now.items c.push-2.new.self.items
    (record { chosen = c.push.new.self; barred = c.in_ok-from_slice.field-0; covers = c.in_ok-covers.covers; free = c.in_ok-from_slice-2.field-0 })
    (c.in_ok-covers.ensures ∙ ap (covers_with c.args.number (numbers_of c.args.sets.now)) c.as_slice.ensures.value)
    (c.in_ok-push.ensures.items ∙ ap (λ (xs : List ℕ). xs ++ c.args.number ∷ []) (c.in_ok-chosen.ensures.items ∙ c.as_slice-2.ensures.value))
    c.in_ok-from_slice.ensures.items own c.in_ok-push-2.ensures.items
