use Rattle.std.proofs.lemmas.Bool.{leb-true, le-leb}
use Rattle.ps_config.specs.Configurations.{Configuration}
use Rattle.ps_config.specs.declared.config.TheConstants.{MOST_THREADS}
use Rattle.ps_config.proofs.Forming.{config_from, config_count}
use Rattle.ps_config.proofs.form.is_in_form.Goals as goal

pub returns : goal.returns
returns c =
    let config : Configuration = record { at = c.args.at.now; atoms = c.args.atoms.now } in (
      (λ e. config_from config c.thread_count.result (c.threads_ascend.ensures.0 c.if-not-threads_ascend.false) (c.atoms_ascend.ensures.0 c.if-not-atoms_ascend.false) c.if-atoms-gt-MOST_ATOMS.false c.thread_count.ensures (leb-true c.thread_count.result MOST_THREADS e)),
      (λ is. le-leb c.thread_count.result MOST_THREADS (config_count config c.thread_count.result c.thread_count.ensures is)),
    )
