-- A branch has more to do than all its children.
use Rattle.std.proofs.Common.{◌≡◌, ◌<◌, ◌≤◌, ◌+◌, ◌*◌, ℕ, zero, suc, List, [], ◌∷◌, ◌++◌, length, drop, ap, ◌∙◌, Contains, Some, arith}
use Rattle.std.specs.Prelude.{slice_get}
use Rattle.std.proofs.lemmas.Option.{same_Some}
use Rattle.ps_atom.specs.declared.atom.Atom.{Atom}
use Rattle.ps_check.specs.declared.branches.Branch.{Branch}
use Rattle.ps_check.specs.inner.Branches.{AddsBranches, work, works}
use Rattle.ps_list.proofs.Members.{here, there}

works_append : (sets : List (List Atom)) (some more : List Branch) → works sets (some ++ more) ≡ works sets some + works sets more
works_append sets [] more = omega arith
works_append sets (b ∷ some) more =
    let rest : works sets (some ++ more) ≡ works sets some + works sets more = works_append sets some more in
    omega (arith, rest)

works_one : (sets : List (List Atom)) (b : Branch) → works sets (b ∷ []) ≡ work (drop b.next sets)
works_one sets b = omega arith

-- branches that all begin at one set
works_same : (sets : List (List Atom)) (next : ℕ) (more : List Branch) → ((b : Branch) → Contains more b → b.next ≡ next) → works sets more ≡ length more * work (drop next sets)
works_same sets next [] all = omega arith
works_same sets next (b ∷ more) all =
    let rest : works sets more ≡ length more * work (drop next sets) = works_same sets next more (λ c h. all c (there b more c h)) in
    let first : work (drop b.next sets) ≡ work (drop next sets) = ap (λ (n : ℕ). work (drop n sets)) (all b (here b more)) in
    omega (arith, rest, first)

pos_work : (sets : List (List Atom)) → 0 < work sets
pos_work [] = omega arith
pos_work (set ∷ sets) = omega arith

-- with fewer sets there is no more to do
fewer : (sets : List (List Atom)) (n : ℕ) → work (drop n sets) ≤ work sets
fewer sets zero = omega arith
fewer [] (suc n) = omega arith
fewer (set ∷ sets) (suc n) =
    let rest : work (drop n sets) ≤ work sets = fewer sets n in
    let product : (1 + length set) * work sets ≡ work sets + length set * work sets = omega arith in
    omega (arith, rest, product)

-- a set that is taken costs more than all that follows for each of its atoms
taken : (sets : List (List Atom)) (next place : ℕ) (set : List Atom) → next ≤ place → slice_get sets place ≡ Some set → length set * work (drop (suc place) sets) < work (drop next sets)
taken [] next place set le is = absurd (let f : ⊥ = cc in f)
taken (s ∷ sets) zero zero set le is =
    let same : s ≡ set = same_Some s set is in
    let many : length s ≡ length set = ap (λ (qs : List Atom). length qs) same in
    let product : length s * work sets ≡ length set * work sets = ap (λ (n : ℕ). n * work sets) many in
    let whole : (1 + length s) * work sets ≡ work sets + length s * work sets = omega arith in
    omega (arith, product, whole)
taken (s ∷ sets) zero (suc place) set le is =
    let rest : length set * work (drop (suc place) sets) < work sets = taken sets zero place set (omega arith) is in
    let whole : (1 + length s) * work sets ≡ work sets + length s * work sets = omega arith in
    omega (arith, rest, whole)
taken (s ∷ sets) (suc next) zero set le is = absurd (let f : ⊥ = omega (arith, le) in f)
taken (s ∷ sets) (suc next) (suc place) set le is = taken sets next place set (omega (arith, le)) is

pub branch_less : (sets : List (List Atom)) (waiting left new : List Branch) (b : Branch) (chosen set : List Atom) (place next : ℕ) → waiting ≡ left ++ b ∷ [] → b.next ≤ place → slice_get sets place ≡ Some set
    → next ≡ place + 1 → AddsBranches chosen next set left new → works sets new < works sets waiting
branch_less sets waiting left new b chosen set place next is le at_place next_is adds =
    let before : works sets waiting ≡ works sets left + work (drop b.next sets) = ap (works sets) is ∙ works_append sets left (b ∷ []) ∙ ap (λ (n : ℕ). works sets left + n) (works_one sets b) in
    let after : works sets new ≡ works sets left + works sets adds.more = ap (works sets) adds.added ∙ works_append sets left adds.more in
    let children : works sets adds.more ≡ length adds.more * work (drop next sets) = works_same sets next adds.more (λ c h. (adds.only c h).2.1) in
    let many : length adds.more * work (drop next sets) ≡ length set * work (drop next sets) = ap (λ (n : ℕ). n * work (drop next sets)) adds.many in
    let suc_is : next ≡ suc place = omega (arith, next_is) in
    let same : length set * work (drop next sets) ≡ length set * work (drop (suc place) sets) = ap (λ (n : ℕ). length set * work (drop n sets)) suc_is in
    let less : length set * work (drop (suc place) sets) < work (drop b.next sets) = taken sets b.next place set le at_place in
    omega (arith, before, after, children, many, same, less)

pub leaf_less : (sets : List (List Atom)) (waiting left : List Branch) (b : Branch) → waiting ≡ left ++ b ∷ [] → works sets left < works sets waiting
leaf_less sets waiting left b is =
    let before : works sets waiting ≡ works sets left + work (drop b.next sets) = ap (works sets) is ∙ works_append sets left (b ∷ []) ∙ ap (λ (n : ℕ). works sets left + n) (works_one sets b) in
    let some : 0 < work (drop b.next sets) = pos_work (drop b.next sets) in
    omega (arith, before, some)
