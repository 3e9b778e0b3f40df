use Rattle.std.proofs.Common.{get_or, refl, sym, ◌∙◌}
use Rattle.std.proofs.lemmas.Bool.{not-false, not-true, OnFalse_at}
use Rattle.ps_drop.specs.declared.pair.Pair.{Pair}
use Rattle.ps_drop.proofs.Search.{visits_old, visits_new}
use Rattle.ps_drop.proofs.below.visit.Goals as goal

-- the child was found before
pub loop-child-preserved-then-not-branch : goal.loop-child-preserved-then-not-branch
loop-child-preserved-then-not-branch c =
    let first : Pair = record { node = 0; other = 0 } in
    visits_old c.args.children.now c.loop-child.child-index c.args.found.now c.args.waiting.now.items c.loop-child.found c.insert.new.self c.loop-child.waiting.items
    (get_or c.args.children.now c.loop-child.child-index first) first c.loop-child.invariant c.loop-child-test.true refl
    (not-false _ (sym c.in_ok-insert.ensures.added ∙ c.if-not-branch.true)) (OnFalse_at c.if-not-branch.true c.in_ok-insert.ensures.unchanged)

-- the child is new
pub loop-child-preserved : goal.loop-child-preserved
loop-child-preserved c =
    let first : Pair = record { node = 0; other = 0 } in
    visits_new c.args.children.now c.loop-child.child-index c.args.found.now c.args.waiting.now.items c.loop-child.found c.insert.new.self c.loop-child.waiting.items c.push.new.self.items
    (get_or c.args.children.now c.loop-child.child-index first) first c.loop-child.invariant c.loop-child-test.true refl
    (not-true _ (sym c.in_ok-insert.ensures.added ∙ c.if-not-branch.false)) c.in_ok-insert.ensures.updates c.in_ok-push.ensures.items
