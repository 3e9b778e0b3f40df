use Rattle.std.proofs.Common.{◌≡◌, ◌+◌, ◌≤◌, List, length, arith, ap, sym, subst, refl, ◌∙◌}
use Rattle.std.proofs.lemmas.Bool.{both_ways}
use Rattle.ps_atom.specs.declared.predicate.Predicate.{Predicate}
use Rattle.ps_atom.specs.declared.predicates.TheConstants.Predicates.{MOST}
use Rattle.ps_interp.specs.Cuts.{IsFalseSum}
use Rattle.ps_interp.specs.inner.Meetings.{interpolant_in, interpolant_of}
use Rattle.ps_interp.specs.inner.Parts.{part_of}
use Rattle.ps_term.specs.declared.term.Term.{Term}
use Rattle.ps_interp.proofs.Descending.{ends_from, meet_from, sum_at_is, sums_many_in, unheld_from}
use Rattle.ps_interp.proofs.meeting.meet.Goals as goal

pub index-requires : goal.index-requires
index-requires c = let n : length c.args.cuts.now.sums.items ≡ length c.args.cuts.now.letters.items + 1 = sums_many_in c.args.cuts.now c.requires.cuts in omega (arith, c.requires.within, n)

pub standing_at-requires : goal.standing_at-requires
standing_at-requires c =
    subst (λ (t : Term). ¬ IsFalseSum t) (sym (c.index.ensures ∙ sum_at_is c.args.cuts.now c.requires.cuts c.args.cut c.index.result.now c.requires.within)) c.requires.some

pub returns-in-Err-clause-ends : goal.returns-in-Err-clause-ends
returns-in-Err-clause-ends c =
    ends_from c.args.cuts.now c.requires.cuts c.args.cut c.index.result.now (interpolant_of c.args.after.now) c.args.found.now.table c.in-Err.end
    (c.index.ensures ∙ sum_at_is c.args.cuts.now c.requires.cuts c.args.cut c.index.result.now c.requires.within) c.in-Err.ensures.ends

pub returns-then-not-stands-clause-ends : goal.returns-then-not-stands-clause-ends
returns-then-not-stands-clause-ends c =
    unheld_from c.args.cuts.now c.requires.cuts c.args.cut c.index.result.now c.index-2.result.now (interpolant_of c.args.after.now) c.args.found.now.table c.standing_at.new.table (interpolant_in c.in-Ok.before) c.in-Ok-triple_of.entry
    (c.index.ensures ∙ sum_at_is c.args.cuts.now c.requires.cuts c.args.cut c.index.result.now c.requires.within) c.in-Ok.ensures.fits c.in-Ok.ensures.taken
    (subst (λ (ps : List Predicate). length ps ≤ MOST) c.list-table.ensures.list c.list-table.ensures.table.within) c.in-Ok.ensures.stands
    (λ w e. c.in-Ok-triple_of.ensures w (e ∙ ap part_of (sym c.index-2.ensures))) (λ h. both_ways c.in-Ok-entry_holds.stands c.if-not-stands.true (c.in-Ok-entry_holds.ensures.1 h))

pub returns-in-Ok-push_once-clause-met : goal.returns-in-Ok-push_once-clause-met
returns-in-Ok-push_once-clause-met c =
    meet_from c.args.cuts.now c.requires.cuts c.args.cut c.index.result.now c.index-2.result.now (interpolant_of c.args.after.now) c.args.found.now (record { table = c.standing_at.new.table; entries = c.args.found.now.entries }) _
    (interpolant_in c.in-Ok.before) c.in-Ok-triple_of.entry c.requires.within
    (c.index.ensures ∙ sum_at_is c.args.cuts.now c.requires.cuts c.args.cut c.index.result.now c.requires.within) c.in-Ok.ensures.fits c.in-Ok.ensures.taken
    (subst (λ (ps : List Predicate). length ps ≤ MOST) c.list-table.ensures.list c.list-table.ensures.table.within) c.in-Ok.ensures.stands
    (λ w e. c.in-Ok-triple_of.ensures w (e ∙ ap part_of (sym c.index-2.ensures))) (c.in-Ok-entry_holds.ensures.0 c.if-not-stands.false) refl refl c.in-Ok-push_once.ensures
