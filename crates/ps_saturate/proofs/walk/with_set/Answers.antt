use Rattle.std.proofs.Common.{IfNone, IfSome, sym, subst}
use Rattle.ps_saturate.specs.inner.Trials.{IsRefutedIn, IsTried, ShowsSet, atoms_of, pointed_to}
use Rattle.ps_saturate.specs.inner.Trials.IsTried.{unwanted as was_unwanted, unrefuted as was_unrefuted, refuted as was_refuted}
use Rattle.ps_saturate.proofs.walk.with_set.Goals as goal

pub returns-then-not-is_wanted : goal.returns-then-not-is_wanted
returns-then-not-is_wanted c = was_unwanted (sym c.if-not-is_wanted.ensures)

pub returns-in_ok-push-in-Some : goal.returns-in_ok-push-in-Some
returns-in_ok-push-in-Some c =
    subst (λ new. IsTried c.args.trial.now c.args.found.items (atoms_of (pointed_to c.args.set.now)) new) (sym c.in_ok-push-in-Some.ensures.items)
    (was_refuted c.in-Some.triple c.requires.unblocked (subst (λ o. IfSome o (ShowsSet c.args.trial.now (atoms_of (pointed_to c.args.set.now)))) c.in-Some.is c.in_ok-triple.ensures.refuted))

pub returns-in-None : goal.returns-in-None
returns-in-None c =
    was_unrefuted (subst (λ o. IfNone o (¬ IsRefutedIn c.args.trial.now (atoms_of (pointed_to c.args.set.now)))) c.in-None.is c.in_ok-triple.ensures.unrefuted)
