use Rattle.std.proofs.Common.{◌≡◌, ℕ, List, sym, subst, Contains, ap, [], ◌++◌, ◌-◌, ◌∙◌, take}
use Rattle.std.specs.Prelude.{◌↔◌}
use Rattle.std.proofs.lemmas.Result.{IfOk-weaker}
use Rattle.ps_drop.specs.Pairs.{Leads}
use Rattle.ps_drop.specs.inner.Visit.{AreChildren}
use Rattle.ps_drop.proofs.Search.{Searched, searched_more, work_less, searched_all}
use Rattle.ps_drop.proofs.below.descendants.Goals as goal

-- each turn leaves less work
pub loop-parent-smaller : goal.loop-parent-smaller
loop-parent-smaller c =
    let are : AreChildren c.in_ok-sorted.sorted.items c.in-Some.parent c.children_of.result.now = rw (← c.as_slice.ensures.value) c.children_of.ensures in
    work_less c.in_ok-sorted.sorted.items c.loop-parent.found c.visit.new.found c.loop-parent.waiting.items c.pop.new.self.items c.visit.new.waiting.items c.in-Some.parent c.children_of.result.now
    c.in-Some.ensures.items are c.in_ok-visit.ensures

-- the children of the last that waited were visited
pub loop-parent-preserved : goal.loop-parent-preserved
loop-parent-preserved c =
    let are : AreChildren c.in_ok-sorted.sorted.items c.in-Some.parent c.children_of.result.now = rw (← c.as_slice.ensures.value) c.children_of.ensures in
    searched_more c.in_ok-sorted.sorted.items c.args.node c.loop-parent.found c.visit.new.found c.loop-parent.waiting.items c.pop.new.self.items c.visit.new.waiting.items c.in-Some.parent c.children_of.result.now
    c.loop-parent.invariant c.in-Some.ensures.items are c.in_ok-visit.ensures

-- nothing waits, so all below the node was found
pub returns-clause-exact : goal.returns-clause-exact
returns-clause-exact c =
    let emptied : c.pop.new.self.items ≡ [] = c.in_default.ensures.rest ∙ ap (λ (n : ℕ). take (n - 1) c.loop-parent.waiting.items) c.in_default.ensures.cases.0 in
    let nothing_waits : c.loop-parent.waiting.items ≡ [] = c.in_default.ensures.items ∙ ap (λ (l : List ℕ). l ++ []) emptied in
    let all : Searched c.in_ok-sorted.sorted.items c.args.node c.loop-parent.found [] = subst (λ (w : List ℕ). Searched c.in_ok-sorted.sorted.items c.args.node c.loop-parent.found w) nothing_waits c.loop-parent.invariant in
    IfOk-weaker c.ascending.result (λ nodes. nodes.items ≡ c.loop-parent.found.keys) (λ nodes. (n : ℕ) → Contains nodes.items n ↔ Leads c.args.parents.now n c.args.node)
    (λ nodes same n. subst (λ (items : List ℕ). Contains items n ↔ Leads c.args.parents.now n c.args.node) (sym same)
    (searched_all c.args.parents.now c.in_ok-sorted.sorted.items c.args.node c.loop-parent.found c.in_ok-sorted.ensures.same all n)) c.ascending.ensures.all
