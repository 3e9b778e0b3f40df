use Rattle.std.proofs.Common.{◌≡◌, List, subst, ap, Result, Err}
use Rattle.std.specs.Prelude.{Option, Some, slice_get}
use Rattle.ps_atom.specs.Numbers.{false_predicate}
use Rattle.ps_atom.specs.declared.predicate.Predicate.{Predicate}
use Rattle.ps_interp.specs.declared.standing.Standing.{Standing}
use Rattle.ps_interp.specs.inner.Meetings.{AreMet, interpolant_in, interpolant_of, letters_in}
use Rattle.ps_term.specs.declared.term.TermEnd.{TermEnd}
use Rattle.ps_interp.proofs.Concluding.{cuts_end, enough, found_with, found_without, past_sums, start_ends}
use Rattle.ps_interp.proofs.interpolation.found_for.Goals as goal

pub cuts_of-requires-clause-enough : goal.cuts_of-requires-clause-enough
cuts_of-requires-clause-enough c =
    enough c.args.graph.now c.args.letters.now c.args.lambda.now c.requires.edges c.requires.refutes c.args.predicates.now
    (subst (λ (ps : List Predicate). slice_get ps 0 ≡ Some false_predicate) c.list-known.ensures.list c.list-known.ensures.table.first) c.in-Ok.start c.in-Ok.ensures

pub returns-in-Err-Past128-clause-ends : goal.returns-in-Err-Past128-clause-ends
returns-in-Err-Past128-clause-ends c =
    past_sums c.args.graph.now c.args.letters.now c.args.lambda.now c.requires.edges c.requires.refutes c.args.predicates.now
    (subst (λ (ps : List Predicate). slice_get ps 0 ≡ Some false_predicate) c.list-known.ensures.list c.list-known.ensures.table.first) c.in-Ok.start c.in-Ok.ensures
    (c.in-Err-Past128.ensures.past (ap (λ (e : TermEnd). let r : Result _ TermEnd = Err e in r) c.in-Err-Past128.field-0-is))

pub returns-in-Ok-push_initial-clause-found : goal.returns-in-Ok-push_initial-clause-found
returns-in-Ok-push_initial-clause-found c =
    found_with c.args.graph.now c.args.letters.now c.args.lambda.now c.requires.edges c.requires.refutes c.args.predicates.now
    (subst (λ (ps : List Predicate). slice_get ps 0 ≡ Some false_predicate) c.list-known.ensures.list c.list-known.ensures.table.first) c.in-Ok.start c.in-Ok.ensures
    c.in-Ok-cuts_of.cuts c.in-Ok-cuts_of.ensures.cuts c.in-Ok-cuts_of.ensures.setting c.in-Ok-cuts_of.ensures.parts c.in-Ok-cuts_of.ensures.fits
    c.in-Ok-found_first.found c.in-Ok-found_first.ensures.table c.in-Ok-found_first.ensures.entries c.meet_cuts.new.found (interpolant_of c.in-Ok-Some.lowest)
    (subst (λ (s : Option Standing). AreMet c.in-Ok-cuts_of.cuts.setting.now (letters_in c.in-Ok-cuts_of.cuts) c.in-Ok-found_first.found.table c.in-Ok-found_first.found.entries c.in-Ok-cuts_of.cuts.high c.in-Ok-cuts_of.cuts.low c.meet_cuts.new.found (interpolant_in s))
    c.in-Ok-Some.field-0-is c.in-Ok-Some.ensures.met)
    c.push_initial.new.found c.in-Ok-push_initial.ensures.started

pub returns-in-Ok-None-clause-found : goal.returns-in-Ok-None-clause-found
returns-in-Ok-None-clause-found c =
    found_without c.args.graph.now c.args.letters.now c.args.lambda.now c.requires.edges c.requires.refutes c.args.predicates.now
    (subst (λ (ps : List Predicate). slice_get ps 0 ≡ Some false_predicate) c.list-known.ensures.list c.list-known.ensures.table.first) c.in-Ok.start c.in-Ok.ensures
    c.in-Ok-cuts_of.cuts c.in-Ok-cuts_of.ensures.cuts c.in-Ok-cuts_of.ensures.setting c.in-Ok-cuts_of.ensures.parts c.in-Ok-cuts_of.ensures.fits
    c.in-Ok-found_first.found c.in-Ok-found_first.ensures.table c.in-Ok-found_first.ensures.entries c.meet_cuts.new.found
    (subst (λ (s : Option Standing). AreMet c.in-Ok-cuts_of.cuts.setting.now (letters_in c.in-Ok-cuts_of.cuts) c.in-Ok-found_first.found.table c.in-Ok-found_first.found.entries c.in-Ok-cuts_of.cuts.high c.in-Ok-cuts_of.cuts.low c.meet_cuts.new.found (interpolant_in s))
    c.in-Ok-None.field-0-is c.in-Ok-None.ensures.met)

pub returns-in-Ok-Some-clause-ends : goal.returns-in-Ok-Some-clause-ends
returns-in-Ok-Some-clause-ends c =
    start_ends c.args.graph.now c.args.letters.now c.args.lambda.now c.requires.edges c.requires.refutes c.args.predicates.now
    (subst (λ (ps : List Predicate). slice_get ps 0 ≡ Some false_predicate) c.list-known.ensures.list c.list-known.ensures.table.first) c.in-Ok.start c.in-Ok.ensures
    c.in-Ok-cuts_of.cuts c.in-Ok-cuts_of.ensures.cuts c.in-Ok-cuts_of.ensures.setting c.in-Ok-cuts_of.ensures.parts c.in-Ok-cuts_of.ensures.fits
    c.in-Ok-found_first.found c.in-Ok-found_first.ensures.table c.in-Ok-found_first.ensures.entries c.meet_cuts.new.found (interpolant_of c.in-Ok-Some.lowest)
    (subst (λ (s : Option Standing). AreMet c.in-Ok-cuts_of.cuts.setting.now (letters_in c.in-Ok-cuts_of.cuts) c.in-Ok-found_first.found.table c.in-Ok-found_first.found.entries c.in-Ok-cuts_of.cuts.high c.in-Ok-cuts_of.cuts.low c.meet_cuts.new.found (interpolant_in s))
    c.in-Ok-Some.field-0-is c.in-Ok-Some.ensures.met)
    c.in-Err-push_initial.end c.in-Err-push_initial.ensures.ends

pub returns-clause-ends : goal.returns-clause-ends
returns-clause-ends c =
    cuts_end c.args.graph.now c.args.letters.now c.args.lambda.now c.requires.edges c.requires.refutes c.args.predicates.now
    (subst (λ (ps : List Predicate). slice_get ps 0 ≡ Some false_predicate) c.list-known.ensures.list c.list-known.ensures.table.first) c.in-Ok.start c.in-Ok.ensures
    c.in-Ok-cuts_of.cuts c.in-Ok-cuts_of.ensures.cuts c.in-Ok-cuts_of.ensures.setting c.in-Ok-cuts_of.ensures.parts c.in-Ok-cuts_of.ensures.fits
    c.in-Ok-found_first.found.table c.in-Err-meet_cuts.end c.in-Ok-found_first.ensures.table c.in-Err-meet_cuts.ensures.ends
