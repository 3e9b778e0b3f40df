use Rattle.std.proofs.Common.{◌≡◌, ◌++◌, ◌∷◌, ◌+◌, [], ◌∙◌, ◌≤ℤ◌, ◌<◌, ℕ, pos, List, Bor, Option, Some, None, All, IfNone, IfSome, FitsSigned, ap, get_or, length, take, rules, subst, sym, arith}
use Rattle.std.specs.Int.{w128}
use Rattle.std.specs.Option.{option_copied}
use Rattle.std.proofs.lemmas.Int.{ints}
use Rattle.std.proofs.lemmas.List.{take_all, take_more}
use Rattle.std.proofs.lemmas.List.Elements.{All-contains, All-take}
use Rattle.ps_elim.specs.inner.Choosing.{IsLeastAmong, IsPositive}
use Rattle.ps_elim.specs.declared.weighted.Weighted.{Weighted}
use Rattle.ps_elim.proofs.Choosing.{IsBest, IsBest-more, IsBest-skip}
use Rattle.ps_elim.proofs.choose.least_refutation.Goals as goal

one_more : (ws : List Weighted) (i : ℕ) (w : Weighted) → i < length ws → w ≡ get_or ws i w → take (i + 1) ws ≡ take i ws ++ w ∷ []
one_more ws i w l is = take_more ws i w l ∙ ap (λ (u : Weighted). take i ws ++ u ∷ []) (sym is)

none_of : (ws : List Weighted) (best : Option (Bor Weighted)) → IsBest ws (option_copied best) → IfNone best (All (λ w. w.row.term.constant ≤ℤ pos 0) ws)
none_of ws None h = h
none_of ws (Some b) h = tt

-- the best so far is as long as the next one
as_long : (ws : List Weighted) (i n : ℕ) (w : Weighted) (best : Option (Bor Weighted)) → All (λ u. length u.vector ≡ n) ws → i < length ws → w ≡ get_or ws i w → IsBest (take i ws) (option_copied best) → IfSome best (λ b. length b.now.vector ≡ length w.vector)
as_long ws i n w None all l is h = tt
as_long ws i n w (Some b) all l is h =
    let first : length b.now.vector ≡ n = All-contains (λ u. length u.vector ≡ n) (take i ws) b.now (All-take (λ u. length u.vector ≡ n) i ws all) h.is_in in
    first ∙ sym (subst (λ (u : Weighted). length u.vector ≡ n) (sym is) (all i w l))

pub lesser-requires : goal.lesser-requires
lesser-requires c =
    as_long c.args.set.now c.loop-weighted.weighted-index c.requires.0 c.weighted-item.result c.loop-weighted.best c.requires.1 c.loop-weighted-test.true c.weighted-item.is c.loop-weighted.invariant

pub loop-weighted-preserved-then-weighted-le0 : goal.loop-weighted-preserved-then-weighted-le0
loop-weighted-preserved-then-weighted-le0 c =
    let ws = c.args.set.now in
    let i = c.loop-weighted.weighted-index in
    let w = c.weighted-item.result in
    let best = option_copied c.loop-weighted.best in
    let fits : FitsSigned w128 w.row.term.constant = search rules in
    let low : w.row.term.constant ≤ℤ pos 0 = omega (arith, ints, c.if-weighted-le0.true) in
    subst (λ (us : List Weighted). IsBest us best) (sym (one_more ws i w c.loop-weighted-test.true c.weighted-item.is)) (IsBest-skip (take i ws) best w c.loop-weighted.invariant low)

pub loop-weighted-preserved : goal.loop-weighted-preserved
loop-weighted-preserved c =
    let ws = c.args.set.now in
    let i = c.loop-weighted.weighted-index in
    let w = c.weighted-item.result in
    let best = option_copied c.loop-weighted.best in
    let fits : FitsSigned w128 w.row.term.constant = search rules in
    let high : IsPositive w = omega (arith, ints, c.if-weighted-le0.false) in
    subst (λ (us : List Weighted). IsLeastAmong us c.lesser.result.now) (sym (one_more ws i w c.loop-weighted-test.true c.weighted-item.is)) (subst (λ (u : Weighted). IsLeastAmong (take i ws ++ w ∷ []) u) (sym c.lesser.ensures) (IsBest-more (take i ws) best w c.loop-weighted.invariant high))

pub returns-clause-none : goal.returns-clause-none
returns-clause-none c =
    let ws = c.args.set.now in
    none_of ws c.loop-weighted.best (subst (λ (us : List Weighted). IsBest us (option_copied c.loop-weighted.best)) (take_all c.loop-weighted.weighted-index ws c.loop-weighted-test.false) c.loop-weighted.invariant)
