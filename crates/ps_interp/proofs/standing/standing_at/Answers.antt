use Rattle.std.proofs.Common.{subst, sym, List, ℤ}
use Rattle.std.specs.Prelude.{Option, None}
use Rattle.ps_atom.specs.declared.atom.Atom.{Atom}
use Rattle.ps_interp.specs.declared.interp_end.InterpEnd.{InterpEnd}
use Rattle.ps_interp.specs.inner.Meetings.{EndsTaking}
use Rattle.ps_interp.specs.inner.Places.{IsPlaced}
use Rattle.ps_interp.proofs.Taking.{ends_taking, taken_none, taken_some, trivial_from}
use Rattle.ps_term.specs.Pairs.{IsCanonical}
use Rattle.ps_term.specs.declared.var.Var.{Var}
use Rattle.ps_interp.proofs.standing.standing_at.Goals as goal

pub returns-in-Ok-None-clause-taken : goal.returns-in-Ok-None-clause-taken
returns-in-Ok-None-clause-taken c =
    let placed : IsPlaced c.args.table.now c.in-Ok.row c.atom_of.new.table None = subst (λ (o : Option Atom). IsPlaced c.args.table.now c.in-Ok.row c.atom_of.new.table o) c.in-Ok-None.field-0-is c.in-Ok-None.ensures.placed in
    taken_none c.args.table.now c.args.sum.now c.atom_of.new.table
    (trivial_from c.args.sum.now c.in-Ok.row (subst (λ (ps : List (Var × ℤ)). IsCanonical ps) c.as_slice-pairs.ensures.list c.as_slice-pairs.ensures.canonical) c.requires c.in-Ok.ensures.row placed.0) placed.1

pub returns-in-Ok-None-clause-stands : goal.returns-in-Ok-None-clause-stands
returns-in-Ok-None-clause-stands c =
    let placed : IsPlaced c.args.table.now c.in-Ok.row c.atom_of.new.table None = subst (λ (o : Option Atom). IsPlaced c.args.table.now c.in-Ok.row c.atom_of.new.table o) c.in-Ok-None.field-0-is c.in-Ok-None.ensures.placed in
    trivial_from c.args.sum.now c.in-Ok.row (subst (λ (ps : List (Var × ℤ)). IsCanonical ps) c.as_slice-pairs.ensures.list c.as_slice-pairs.ensures.canonical) c.requires c.in-Ok.ensures.row placed.0

pub returns-in-Err-clause-ends : goal.returns-in-Err-clause-ends
returns-in-Err-clause-ends c =
    subst (λ (e : InterpEnd). EndsTaking c.args.table.now c.args.sum.now c.args.cut e) (sym c.end_at.ensures)
    (ends_taking c.args.table.now c.args.sum.now c.in-Ok.row c.args.cut c.in-Err.end c.in-Ok.ensures.row c.in-Ok.ensures.fits c.in-Err.ensures.ends)

pub returns-in-Ok-divisor_of-clause-taken : goal.returns-in-Ok-divisor_of-clause-taken
returns-in-Ok-divisor_of-clause-taken c =
    taken_some c.args.table.now c.args.sum.now c.in-Ok.row c.atom_of.new.table c.in-Ok-Some.atom c.in-Ok.ensures.row
    (subst (λ (o : Option Atom). IsPlaced c.args.table.now c.in-Ok.row c.atom_of.new.table o) c.in-Ok-Some.field-0-is c.in-Ok-Some.ensures.placed)
