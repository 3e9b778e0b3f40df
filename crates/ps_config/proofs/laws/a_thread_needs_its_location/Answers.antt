use Rattle.ps_config.proofs.laws.a_thread_needs_its_location.Goals as goal

pub returns : goal.returns
returns c = λ small large t l at lacks cover. lacks (cover.0 t) (cover.1.located t l at)
