use Rattle.std.proofs.Common.{refl}
use Rattle.ps_trace.proofs.worked.replays.Goals as goal

pub returns : goal.returns
returns c = (refl, refl, refl, refl)
