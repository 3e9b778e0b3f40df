use Rattle.std.proofs.Common.{◌≢◌, pos, Option, IfSome, subst, sym, ap, ◌∙◌}
use Rattle.ps_term.specs.declared.var.Var.{Var}
use Rattle.ps_term.specs.inner.Front.{first_variable}
use Rattle.ps_term.specs.Lookup.{IsAfter, IsBefore}
use Rattle.ps_term.specs.Pairs.{coefficient}
use Rattle.ps_term.proofs.Lookups.{point-up_to, skipped-searched, stands-searched}
use Rattle.ps_term.proofs.lookup.next_variable.Goals as goal

pub returns-clause-skipped : goal.returns-clause-skipped
returns-clause-skipped c =
    let ps = c.args.pairs.now in
    let place = c.place_of-place.result in
    let point = point-up_to c.args.last ps place (rw c.up_to.ensures at c.place_of-place.ensures.parts) in
    let first = c.first_variable.ensures ∙ ap first_variable c.tail.ensures in
    λ x after before. skipped-searched c.args.last ps place c.requires point x after (subst (λ (o : Option Var). IsBefore x o) first before)

pub returns-clause-stands : goal.returns-clause-stands
returns-clause-stands c =
    let ps = c.args.pairs.now in
    let place = c.place_of-place.result in
    let point = point-up_to c.args.last ps place (rw c.up_to.ensures at c.place_of-place.ensures.parts) in
    let first = c.first_variable.ensures ∙ ap first_variable c.tail.ensures in
    subst (λ (o : Option Var). IfSome o (λ x. IsAfter c.args.last x × (coefficient x ps ≢ pos 0))) (sym first) (stands-searched c.args.last ps place c.requires point)
