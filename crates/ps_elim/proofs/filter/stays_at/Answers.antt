use Rattle.std.proofs.Common.{◌+◌, true, false, List, drop, take, refl, sym, ap, ◌∙◌}
use Rattle.std.proofs.lemmas.List.{take_rest}
use Rattle.ps_elim.specs.Supports.{is_new_after, stays_beside}
use Rattle.ps_elim.specs.inner.Weighing.{vectors_of}
use Rattle.ps_elim.specs.declared.weighted.Weighted.{Weighted}
use Rattle.ps_elim.proofs.Kept.{stays_at-is}
use Rattle.ps_elim.proofs.filter.stays_at.Goals as goal

pub returns-then-not-stays_beside : goal.returns-then-not-stays_beside
returns-then-not-stays_beside g c =
    let ws = c.args.made.now in
    let i = c.args.at in
    let w = c.index-made-at.result in
    stays_at-is ws i w false (stays_beside (vectors_of (drop (i + 1) ws)) w.vector) (is_new_after (vectors_of (take i ws)) w.vector) c.requires.1 c.index-made-at.is (sym c.if-not-stays_beside.true ∙ c.stays_beside.ensures) refl refl

pub returns-then-not-stays_beside-2 : goal.returns-then-not-stays_beside-2
returns-then-not-stays_beside-2 g c =
    let ws = c.args.made.now in
    let i = c.args.at in
    let w = c.index-made-at.result in
    stays_at-is ws i w true false (is_new_after (vectors_of (take i ws)) w.vector) c.requires.1 c.index-made-at.is (sym c.if-not-stays_beside.false ∙ c.stays_beside.ensures) (sym c.if-not-stays_beside-2.true ∙ (c.stays_beside-2.ensures ∙ ap (λ (us : List Weighted). stays_beside (vectors_of us) w.vector) (take_rest ws (i + 1)))) refl

pub returns : goal.returns
returns g c =
    let ws = c.args.made.now in
    let i = c.args.at in
    let w = c.index-made-at.result in
    c.is_new_after.ensures ∙ stays_at-is ws i w true true (is_new_after (vectors_of (take i ws)) w.vector) c.requires.1 c.index-made-at.is (sym c.if-not-stays_beside.false ∙ c.stays_beside.ensures) (sym c.if-not-stays_beside-2.false ∙ (c.stays_beside-2.ensures ∙ ap (λ (us : List Weighted). stays_beside (vectors_of us) w.vector) (take_rest ws (i + 1)))) refl
