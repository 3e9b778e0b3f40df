use Rattle.std.proofs.Common.{rules, of_calls}
use Rattle.std.proofs.lemmas.Fn.{always_returns_same}
use Rattle.ps_term.specs.Var.{var_lt}
use Rattle.ps_command.proofs.Places.{parted}
use Rattle.ps_command.proofs.look_up.place_of.Goals as goal

pub returns-clause-parts : goal.returns-clause-parts
returns-clause-parts c =
    c.partition_point.ensures.partitioned (λ p. var_lt p.0 c.args.variable) (always_returns_same _ _ _ (λ a r f k. search (rules, of_calls))) (parted c.args.variable c.args.after.now c.requires)
