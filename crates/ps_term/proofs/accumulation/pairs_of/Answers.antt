use Rattle.std.proofs.Common.{◌∙◌, ℤ, List, sym, ap, subst}
use Rattle.ps_term.specs.Pairs.{IsCanonical, pairs_value}
use Rattle.ps_term.specs.declared.var.Var.{Var}
use Rattle.ps_term.proofs.Adding.{standing_canonical, standing_value}
use Rattle.ps_term.proofs.accumulation.pairs_of.Goals as goal

pub from_list-requires : goal.from_list-requires
from_list-requires c =
    subst (λ (ps : List (Var × ℤ)). IsCanonical ps) (sym c.in-Ok.ensures) (standing_canonical c.args.kept.sums.items c.requires)

pub returns-in-Ok-clause-canonical : goal.returns-in-Ok-clause-canonical
returns-in-Ok-clause-canonical c =
    subst (λ (ps : List (Var × ℤ)). IsCanonical ps) (sym (c.from_list.ensures ∙ c.in-Ok.ensures)) (standing_canonical c.args.kept.sums.items c.requires)

pub returns-in-Ok-clause-worth : goal.returns-in-Ok-clause-worth
returns-in-Ok-clause-worth c = λ v.
    ap (λ (ps : List (Var × ℤ)). pairs_value v ps) (c.from_list.ensures ∙ c.in-Ok.ensures) ∙ standing_value v c.args.kept.sums.items
