use Rattle.ps_config.proofs.Bounded.{start_lists}
use Rattle.ps_config.proofs.config.Config.start.Goals as goal

pub new-requires-2 : goal.new-requires-2
new-requires-2 c =
    start_lists c.in_ok-from_slice.field-0.items c.in_ok-atoms.atoms.items c.push.new.self.items c.new.result
    c.in_ok-from_slice.ensures.items c.in_ok-push.ensures.items c.in_ok-atoms.ensures.items c.new.ensures
