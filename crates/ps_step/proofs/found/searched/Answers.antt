use Rattle.std.proofs.Common.{◌≤◌, ℕ, List, length, refl, subst, All as Each, Contains}
use Rattle.ps_atom.specs.declared.atom.Atom.{Atom}
use Rattle.ps_hit.specs.Answer.{IfAll, OnTooMany, IsLexicographic, HasMore}
use Rattle.ps_hit.specs.Hitting.{numbers_of, IsListedHit}
use Rattle.ps_hit.specs.declared.hits.Hits.{Hits}
use Rattle.ps_demand.specs.Numbered.{IsNumbered}
use Rattle.ps_demand.specs.Pools.{lists_of}
use Rattle.ps_step.specs.declared.expand_end.TheConstants.{MOST_SETS}
use Rattle.ps_step.proofs.LeastSets.{listed_within, moved_numbers, found_all, are_more}
use Rattle.ps_step.proofs.found.searched.Goals as goal

pub numbered-requires-clause-there : goal.numbered-requires-clause-there
numbered-requires-clause-there c = rw c.as_slice.ensures.value c.in_ok-pool.ensures.all

pub all_named-requires : goal.all_named-requires
all_named-requires c =
    let is : IsNumbered c.in_ok-pool.pool.items (lists_of c.args.sets.now) (numbers_of c.as_slice-2.result.now) =
    moved_numbers c.as_slice.result.now c.in_ok-pool.pool.items c.args.sets.now c.args.sets.now c.in_ok-numbers.numbers.items c.as_slice-2.result.now
    (lists_of c.args.sets.now) c.as_slice.ensures.value refl refl c.as_slice-2.ensures.value c.in_ok-numbers.ensures in
    let all : Each (IsListedHit (numbers_of c.as_slice-2.result.now)) c.in-All.hits = subst (λ (h : Hits). IfAll h (Each (IsListedHit (numbers_of c.as_slice-2.result.now)))) c.in-All.is c.in_ok-hits.ensures.minimal in
    rw (c.as_slice-in-All-2.ensures, c.as_slice-in-All.ensures.value)
    (listed_within c.in_ok-pool.pool.items (lists_of c.args.sets.now) (numbers_of c.as_slice-2.result.now) c.in-All.hits is all)

pub returns-in-All : goal.returns-in-All
returns-in-All c =
    let wanted : List (List Atom) = lists_of c.args.sets.now in
    let sets : List (List ℕ) = numbers_of c.as_slice-2.result.now in
    let is : IsNumbered c.in_ok-pool.pool.items wanted sets =
    moved_numbers c.as_slice.result.now c.in_ok-pool.pool.items c.args.sets.now c.args.sets.now c.in_ok-numbers.numbers.items c.as_slice-2.result.now
    wanted c.as_slice.ensures.value refl refl c.as_slice-2.ensures.value c.in_ok-numbers.ensures in
    let all : Each (IsListedHit sets) c.in-All.hits = subst (λ (h : Hits). IfAll h (Each (IsListedHit sets))) c.in-All.is c.in_ok-hits.ensures.minimal in
    let every : (hit : List ℕ) → IsListedHit sets hit → Contains c.in-All.hits hit = subst (λ (h : Hits). IfAll h (λ list. (hit : List ℕ) → IsListedHit sets hit → Contains list hit)) c.in-All.is c.in_ok-hits.ensures.every in
    let up : IsLexicographic c.in-All.hits = subst (λ (h : Hits). IfAll h IsLexicographic) c.in-All.is c.in_ok-hits.ensures.ordered in
    let few : length c.in-All.hits ≤ MOST_SETS = subst (λ (h : Hits). IfAll h (λ list. length list ≤ MOST_SETS)) c.in-All.is c.in_ok-hits.ensures.few in
    found_all c.in_ok-pool.pool.items c.as_slice-in-All.result.now wanted sets c.in-All.hits c.as_slice-in-All-2.result.now c.in_ok-all_named-in-All.field-0.items MOST_SETS is all every up few
    c.as_slice-in-All.ensures.value c.as_slice-in-All-2.ensures c.in_ok-all_named-in-All.ensures

pub returns : goal.returns
returns c =
    let wanted : List (List Atom) = lists_of c.args.sets.now in
    let sets : List (List ℕ) = numbers_of c.as_slice-2.result.now in
    let is : IsNumbered c.in_ok-pool.pool.items wanted sets =
    moved_numbers c.as_slice.result.now c.in_ok-pool.pool.items c.args.sets.now c.args.sets.now c.in_ok-numbers.numbers.items c.as_slice-2.result.now
    wanted c.as_slice.ensures.value refl refl c.as_slice-2.ensures.value c.in_ok-numbers.ensures in
    are_more c.in_ok-pool.pool.items wanted sets MOST_SETS is (subst (λ (h : Hits). OnTooMany h (HasMore sets MOST_SETS)) c.in-TooMany.is c.in_ok-hits.ensures.too_many)
