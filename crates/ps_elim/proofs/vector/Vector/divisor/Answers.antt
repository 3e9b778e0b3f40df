use Rattle.std.proofs.Common.{List, ℤ, ap, ◌∙◌, subst}
use Rattle.ps_elim.specs.Divisors.{divisor_of_all}
use Rattle.ps_elim.proofs.Entries.{divisor_is}
use Rattle.ps_term.specs.inner.Common.{IsCommonFactor}
use Rattle.ps_term.specs.Pairs.{IsCanonical}
use Rattle.ps_term.specs.declared.var.Var.{Var}
use Rattle.ps_elim.proofs.vector.Vector.divisor.Goals as goal

pub returns : goal.returns
returns c =
    let t = c.self.inside.entries in
    let canonical : IsCanonical t.pairs = subst (λ (ps : List (Var × ℤ)). IsCanonical ps) c.as_slice.ensures.list c.as_slice.ensures.canonical in
    let common : IsCommonFactor t.pairs c.divisor_of.result = subst (λ (ps : List (Var × ℤ)). IsCommonFactor ps c.divisor_of.result) c.as_slice.ensures.list c.divisor_of.ensures in
    divisor_is t c.self.inside.places c.divisor_of.result c.self.invariant canonical common ∙ ap divisor_of_all c.self.view_is
