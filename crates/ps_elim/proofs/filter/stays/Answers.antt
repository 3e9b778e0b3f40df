use Rattle.std.proofs.Common.{◌≡◌, ◌<◌, List, ℕ, [], get_or, length, take, sym, ap, ap₂, ◌∙◌, arith}
use Rattle.std.proofs.lemmas.List.{drop-map, get_or-map, length-map, length-take, take_rest}
use Rattle.ps_elim.specs.Supports.{stays_beside}
use Rattle.ps_elim.specs.inner.Weighing.{vectors_of}
use Rattle.ps_elim.specs.declared.weighted.Weighted.{Weighted}
use Rattle.ps_elim.proofs.Antichains.{stays_known}
use Rattle.ps_elim.proofs.filter.stays.Goals as goal

pub returns-then-at-known : goal.returns-then-at-known
returns-then-at-known g c =
    let ws = c.args.made.now in
    let n = c.args.known in
    let k = c.args.at in
    let w = c.index-made-at.result in
    let vector : w.vector ≡ get_or (vectors_of ws) k [] = sym (get_or-map (λ u. u.vector) ws k w [] c.requires.1.1.1 ∙ ap (λ (u : Weighted). u.vector) (sym c.index-made-at.is)) in
    let others = ap (λ (us : List Weighted). vectors_of us) (take_rest ws n) ∙ sym (drop-map (λ u. u.vector) n ws) in
    let within : k < length (take n (vectors_of ws)) = omega (arith, length-take n (vectors_of ws), length-map ws (λ u. u.vector), c.requires.1.0, c.if-at-known.true) in
    c.stays_beside.ensures ∙ (ap₂ (λ (us : List (List ℕ)) (v : List ℕ). stays_beside us v) others vector ∙ sym (stays_known (vectors_of ws) n k c.requires.1.1.0 within))
