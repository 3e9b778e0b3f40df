use Rattle.ps_member.proofs.Knowing.{initial_test}
use Rattle.ps_member.proofs.known.is_initial.Goals as goal

pub returns : goal.returns
returns g c = initial_test (g.B.Shown.entries c.args.basis.now) c.args.atom.now c.is_initial.result c.is_initial.ensures
