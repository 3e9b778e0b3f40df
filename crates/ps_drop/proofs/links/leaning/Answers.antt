use Rattle.std.proofs.Common.{◌≡◌, ℕ, List, sym, subst, Contains}
use Rattle.std.specs.Prelude.{◌↔◌}
use Rattle.std.proofs.lemmas.Result.{IfOk-weaker}
use Rattle.ps_drop.specs.Pairs.{Leans}
use Rattle.ps_drop.proofs.Linked.{leaning_iff}
use Rattle.ps_drop.proofs.links.leaning.Goals as goal

-- the list has the nodes of the set
pub returns-clause-exact : goal.returns-clause-exact
returns-clause-exact c =
    IfOk-weaker c.ascending.result (λ nodes. nodes.items ≡ c.in_ok-nodes.nodes.keys) (λ nodes. (n : ℕ) → Contains nodes.items n ↔ Leans c.args.links.now c.args.dropped.now n)
    (λ nodes same n. subst (λ (items : List ℕ). Contains items n ↔ Leans c.args.links.now c.args.dropped.now n) (sym same)
    (leaning_iff c.args.links.now c.args.dropped.now c.in_ok-gone.gone c.in_ok-nodes.nodes c.in_ok-gone.ensures c.in_ok-nodes.ensures n)) c.ascending.ensures.all
