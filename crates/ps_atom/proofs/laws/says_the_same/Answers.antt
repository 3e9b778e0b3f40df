use Rattle.std.proofs.Common.{ℤ, List, subst}
use Rattle.ps_term.specs.declared.var.Var.{Var}
use Rattle.ps_term.specs.Pairs.{IsCanonical}
use Rattle.ps_atom.proofs.Sayings.{place_says}
use Rattle.ps_atom.proofs.laws.says_the_same.Goals as goal

pub returns : goal.returns
returns c = λ h values. place_says c.args.list.now values c.args.row.now c.args.place.now (subst (λ (ps : List (Var × ℤ)). IsCanonical ps) c.as_slice-pairs.ensures.list c.as_slice-pairs.ensures.canonical) h
