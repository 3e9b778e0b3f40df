use Rattle.std.proofs.Common.{◌-◌, ◌≤◌, List, length, ap, refl, subst, arith}
use Rattle.ps_atom.specs.declared.atom.Atom.{Atom}
use Rattle.ps_atom.specs.declared.predicate.Predicate.{Predicate}
use Rattle.ps_atom.specs.declared.predicates.TheConstants.Predicates.{MOST}
use Rattle.ps_interp.specs.Interpolants.{Interpolant}
use Rattle.std.specs.Prelude.{Option, Some, None}
use Rattle.ps_interp.specs.declared.standing.Standing.{Standing}
use Rattle.ps_interp.specs.inner.Meetings.{IsMet, interpolant_in, interpolant_of, letters_in}
use Rattle.ps_interp.proofs.Descending.{first_met, next_ends, next_met, none_low}
use Rattle.ps_interp.proofs.meeting.meet_cuts.Goals as goal

pub loop-cut-init : goal.loop-cut-init
loop-cut-init c = record {
  above = c.requires.bounds.within;
  below = omega arith;
  met = first_met c.args.cuts.now c.requires c.args.found.now.table c.args.found.now.entries c.args.found.now (record { atom = c.false_atom.result; divisor = 0 }) refl refl
      (subst (λ (ps : List Predicate). length ps ≤ MOST) c.list-known.ensures.list c.list-known.ensures.table.within)
      (ap (λ (q : Atom). let i : Interpolant = record { atom = q; divisor = 0 } in i) c.false_atom.ensures);
}

pub loop-cut-preserved : goal.loop-cut-preserved
loop-cut-preserved c = record {
  above = omega (arith, c.loop-cut-test.true);
  below = omega (arith, c.loop-cut.invariant.below);
  met = next_met c.args.cuts.now c.requires c.args.found.now.table c.args.found.now.entries c.loop-cut.cut c.loop-cut-test.true c.loop-cut.invariant.below c.loop-cut.found c.meet.new.found
      (interpolant_of c.loop-cut.after) (Some (interpolant_of c.in-Ok-Some.standing)) c.loop-cut.invariant.met
      (subst (λ (s : Option Standing). IsMet c.args.cuts.now.setting.now (letters_in c.args.cuts.now) (c.loop-cut.cut - 1) (interpolant_of c.loop-cut.after) c.loop-cut.found c.meet.new.found (interpolant_in s)) c.in-Ok-Some.field-0-is c.in-Ok-Some.ensures.met);
}

pub returns-in-Ok-None-clause-met : goal.returns-in-Ok-None-clause-met
returns-in-Ok-None-clause-met c =
    none_low c.args.cuts.now c.requires c.args.found.now.table c.args.found.now.entries c.loop-cut.cut c.loop-cut-test.true c.loop-cut.invariant.below c.meet.new.found
    (next_met c.args.cuts.now c.requires c.args.found.now.table c.args.found.now.entries c.loop-cut.cut c.loop-cut-test.true c.loop-cut.invariant.below c.loop-cut.found c.meet.new.found
    (interpolant_of c.loop-cut.after) None c.loop-cut.invariant.met
    (subst (λ (s : Option Standing). IsMet c.args.cuts.now.setting.now (letters_in c.args.cuts.now) (c.loop-cut.cut - 1) (interpolant_of c.loop-cut.after) c.loop-cut.found c.meet.new.found (interpolant_in s)) c.in-Ok-None.field-0-is c.in-Ok-None.ensures.met))

pub returns-in-Err-clause-ends : goal.returns-in-Err-clause-ends
returns-in-Err-clause-ends c =
    next_ends c.args.cuts.now c.requires c.args.found.now.table c.args.found.now.entries c.loop-cut.cut c.loop-cut-test.true c.loop-cut.invariant.below c.loop-cut.found
    (interpolant_of c.loop-cut.after) c.in-Err.end c.loop-cut.invariant.met c.in-Err.ensures.ends
