use Rattle.std.proofs.Common.{rules, of_calls, sym, ◌∙◌}
use Rattle.std.proofs.lemmas.Fn.{always_returns_same}
use Rattle.ps_term.specs.Var.{var_lt}
use Rattle.ps_term.proofs.Adding.{parted_rising, parts_standing}
use Rattle.ps_term.proofs.Placing.{stands_within}
use Rattle.ps_term.proofs.accumulation.place_in.Goals as goal

pub returns-then-stands_at-clause-within : goal.returns-then-stands_at-clause-within
returns-then-stands_at-clause-within c =
    let h = stands_within c.args.variable c.args.sums.now c.args.near (sym c.stands_at.ensures ∙ c.if-stands_at.true) in
    search rules

pub returns-then-stands_at-clause-parts : goal.returns-then-stands_at-clause-parts
returns-then-stands_at-clause-parts c =
    parts_standing c.args.variable c.args.sums.now c.args.near c.requires (sym c.stands_at.ensures ∙ c.if-stands_at.true)

pub returns-clause-parts : goal.returns-clause-parts
returns-clause-parts c =
    c.partition_point.ensures.partitioned (λ p. var_lt p.0 c.args.variable) (always_returns_same _ _ _ (λ a r f k. search (rules, of_calls))) (parted_rising c.args.variable c.args.sums.now c.requires)
