use Rattle.std.proofs.Common.{sym, ◌∙◌}
use Rattle.ps_config.proofs.Located.{located_all}
use Rattle.ps_config.proofs.threads.thread_count.Goals as goal

pub returns-then-are_all_located : goal.returns-then-are_all_located
returns-then-are_all_located c = located_all c.args.at.now c.args.atoms.now (c.threads_ascend.ensures.0 c.if-threads_ascend.true) (sym c.are_all_located.ensures ∙ c.if-are_all_located.true)
