use Rattle.std.proofs.Common.{◌≡◌, ◌+◌, ◌≤◌, ℕ, List, [], ◌∷◌, ◌++◌, arith, get_or, sym, subst, take}
use Rattle.std.proofs.lemmas.List.{take_all, take_more}
use Rattle.ps_cover.specs.Within.{IsWithinList, times}
use Rattle.ps_check.proofs.Indexing.{within_more, within_none}
use Rattle.ps_check.proofs.candidates.first_beyond.Goals as goal

pub loop-place-init : goal.loop-place-init
loop-place-init c = within_none c.args.others.now

pub loop-place-preserved : goal.loop-place-preserved
loop-place-preserved c =
    let x : ℕ = get_or c.args.locations.now c.loop-place.place 0 in
    let more : take (c.loop-place.place + 1) c.args.locations.now ≡ take c.loop-place.place c.args.locations.now ++ x ∷ [] = take_more c.args.locations.now c.loop-place.place 0 c.loop-place-test.true in
    let le : times x (take (c.loop-place.place + 1) c.args.locations.now) ≤ times x c.args.others.now = omega (arith, c.if-times.false, c.times.ensures, c.times-in-loop-place.ensures) in
    subst (λ (ns : List ℕ). IsWithinList ns c.args.others.now) (sym more)
    (within_more (take c.loop-place.place c.args.locations.now) c.args.others.now x c.loop-place.invariant (subst (λ (ns : List ℕ). times x ns ≤ times x c.args.others.now) more le))

pub returns : goal.returns
returns c = subst (λ (ns : List ℕ). IsWithinList ns c.args.others.now) (take_all c.loop-place.place c.args.locations.now c.loop-place-test.false) c.loop-place.invariant
