use Rattle.std.proofs.Common.{ap, ◌∙◌, subst, sym}
use Rattle.ps_elim.specs.inner.Entries.{AreEntries, entries_of}
use Rattle.ps_elim.proofs.Entries.{unit_entries, unit_is}
use Rattle.ps_term.specs.declared.term.Term.{Term}
use Rattle.ps_elim.proofs.vector.Vector.unit.Goals as goal

pub invariant_of-result : goal.invariant_of-result
invariant_of-result c =
    subst (λ (t : Term). AreEntries t c.args.places) (sym c.in_ok-from_variable.ensures) (unit_entries c.args.place c.args.places c.requires.within c.requires.few)

pub returns : goal.returns
returns c =
    ap (λ (t : Term). entries_of t c.args.places) c.in_ok-from_variable.ensures ∙ unit_is c.args.place c.args.places c.requires.within
