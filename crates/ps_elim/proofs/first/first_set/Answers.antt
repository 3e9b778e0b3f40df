use Rattle.std.proofs.Common.{◌≡◌, ◌++◌, ◌∷◌, [], ◌∙◌, ap, length, replicate, set, rules, sym}
use Rattle.std.proofs.lemmas.List.Elements.{All-push}
use Rattle.ps_elim.specs.Places.{support_of}
use Rattle.ps_elim.specs.inner.Weighing.{IsWeighted}
use Rattle.ps_elim.proofs.Units.{unit_weighted, units-end, units-step}
use Rattle.ps_elim.proofs.first.first_set.Goals as goal

pub loop-place-preserved : goal.loop-place-preserved
loop-place-preserved c =
    let rows = c.args.rows.now in
    let i = c.loop-place.place in
    let n = length rows in
    let r = c.index-rows-place.result in
    let w = c.in_ok-with_support.field-0 in
    let pushed : c.push.new.self.items ≡ c.loop-place.set.items ++ w ∷ [] = search rules in
    let entries : w.vector ≡ set (replicate n 0) i 1 = c.in_ok-with_support.ensures.vector ∙ c.in_ok-vector.ensures in
    let here : IsWeighted rows w = unit_weighted rows i r w c.loop-place-test.true c.index-rows-place.is entries (c.in_ok-with_support.ensures.row ∙ c.in_ok-copy.ensures) (c.in_ok-with_support.ensures.support ∙ ap support_of (sym c.in_ok-with_support.ensures.vector)) in
    rw pushed (record {
      weighted = All-push (IsWeighted rows) c.loop-place.set.items w c.loop-place.invariant.weighted here;
      vectors = units-step n i c.loop-place.set.items w c.loop-place-test.true c.loop-place.invariant.vectors entries;
    })

pub returns-clause-vectors : goal.returns-clause-vectors
returns-clause-vectors c =
    c.loop-place.invariant.vectors ∙ units-end (length c.args.rows.now) c.loop-place.place c.loop-place-test.false
