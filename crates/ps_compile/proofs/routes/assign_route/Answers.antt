use Rattle.std.proofs.Common.{ap, Result, Err}
use Rattle.ps_compile.proofs.routes.assign_route.Goals as goal
use Rattle.ps_term.specs.declared.term.Term.{Term}
use Rattle.ps_term.specs.declared.term.TermEnd.{TermEnd}

pub unreachable-requires : goal.unreachable-requires
unreachable-requires c =
    c.in-Err-Past128.ensures.past (ap (λ (e : TermEnd). let r : Result Term TermEnd = Err e in r) c.in-Err-Past128.field-0-is) c.requires.0 c.requires.1 c.requires.2
