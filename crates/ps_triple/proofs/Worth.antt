-- What an entry that holds is worth, and that its first fault is one.
use Rattle.std.proofs.Common.{◌≡◌, refl, sym, ◌∙◌, List}
use Rattle.ps_farkas.proofs.Soundness.{Refutes-no_values}
use Rattle.ps_atom.specs.declared.predicate.Predicate.{Predicate}
use Rattle.ps_command.specs.declared.setting.Setting.{Setting}
use Rattle.ps_triple.specs.Faults.{EntryHolds, IsFirstEntryFault}
use Rattle.ps_triple.specs.Rows.{initial_rows, triple_rows}
use Rattle.ps_triple.specs.Validity.{IsTrueAtFirst, IsValidTriple}
use Rattle.ps_triple.specs.declared.entry.Entry.{Entry}
use Rattle.ps_triple.specs.declared.entry.Entry.TheVariants.{Triple as OfTriple, Initial as OfInitial}
use Rattle.ps_triple.specs.declared.entry_end.EntryFault.{EntryFault}
use Rattle.ps_triple.specs.declared.entry_end.EntryFault.TheVariants.{BadNumber, ThreadTwice, FreeThread, Length, Past128, Sum}
use Rattle.ps_triple.specs.declared.initial.Initial.{Initial}
use Rattle.ps_triple.specs.declared.triple.Triple.{Triple}
use Rattle.ps_triple.proofs.Lifted.{valid_triple, true_at_first}

pub valid : (setting : Setting) (predicates : List Predicate) (t : Triple) → EntryHolds setting predicates (OfTriple t) → IsValidTriple setting predicates t
valid setting predicates t h =
    valid_triple setting predicates t (Refutes-no_values (triple_rows setting predicates t) t.lambda h.refutes) setting.formed setting.commands_declared h.names.1 h.names.2

pub initially : (setting : Setting) (predicates : List Predicate) (i : Initial) → EntryHolds setting predicates (OfInitial i) → IsTrueAtFirst setting predicates i.predicate
initially setting predicates i h =
    true_at_first setting predicates i (Refutes-no_values (initial_rows setting predicates i) i.lambda h.refutes) setting.once_declared setting.each_declared

pub no_fault : (setting : Setting) (predicates : List Predicate) (entry : Entry) (fault : EntryFault) → EntryHolds setting predicates entry → ¬ IsFirstEntryFault setting predicates entry fault
no_fault setting predicates entry BadNumber h f = f.0 h.names
no_fault setting predicates entry ThreadTwice h f = f.0 h.distinct
no_fault setting predicates entry FreeThread h f = f.0 h.tied
no_fault setting predicates entry (Length found rows) h f = f.0.2 (f.0.0 ∙ (h.refutes.lengths ∙ sym f.0.1))
no_fault setting predicates entry Past128 h f = f.0 h.fits
no_fault setting predicates entry Sum h f = f.0 h.refutes

-- two first faults are one
pub one_fault : (setting : Setting) (predicates : List Predicate) (entry : Entry) (one other : EntryFault) → IsFirstEntryFault setting predicates entry one → IsFirstEntryFault setting predicates entry other → one ≡ other
one_fault setting predicates entry BadNumber BadNumber a b = refl
one_fault setting predicates entry BadNumber ThreadTwice a b = absurd (a.0 (b.1))
one_fault setting predicates entry BadNumber FreeThread a b = absurd (a.0 (b.1.0))
one_fault setting predicates entry BadNumber (Length k l) a b = absurd (a.0 (b.1.0))
one_fault setting predicates entry BadNumber Past128 a b = absurd (a.0 (b.1.0))
one_fault setting predicates entry BadNumber Sum a b = absurd (a.0 (b.1.0))
one_fault setting predicates entry ThreadTwice BadNumber a b = absurd (b.0 (a.1))
one_fault setting predicates entry ThreadTwice ThreadTwice a b = refl
one_fault setting predicates entry ThreadTwice FreeThread a b = absurd (a.0 (b.1.1))
one_fault setting predicates entry ThreadTwice (Length k l) a b = absurd (a.0 (b.1.1))
one_fault setting predicates entry ThreadTwice Past128 a b = absurd (a.0 (b.1.1))
one_fault setting predicates entry ThreadTwice Sum a b = absurd (a.0 (b.1.1))
one_fault setting predicates entry FreeThread BadNumber a b = absurd (b.0 (a.1.0))
one_fault setting predicates entry FreeThread ThreadTwice a b = absurd (b.0 (a.1.1))
one_fault setting predicates entry FreeThread FreeThread a b = refl
one_fault setting predicates entry FreeThread (Length k l) a b = absurd (a.0 (b.1.2))
one_fault setting predicates entry FreeThread Past128 a b = absurd (a.0 (b.1.2))
one_fault setting predicates entry FreeThread Sum a b = absurd (a.0 (b.1.2))
one_fault setting predicates entry (Length m n) BadNumber a b = absurd (b.0 (a.1.0))
one_fault setting predicates entry (Length m n) ThreadTwice a b = absurd (b.0 (a.1.1))
one_fault setting predicates entry (Length m n) FreeThread a b = absurd (b.0 (a.1.2))
one_fault setting predicates entry (Length m n) (Length k l) a b = λ i. Length ((a.0.0 ∙ sym b.0.0) i) ((a.0.1 ∙ sym b.0.1) i)
one_fault setting predicates entry (Length m n) Past128 a b = absurd (a.0.2 (a.0.0 ∙ (b.1.3 ∙ sym a.0.1)))
one_fault setting predicates entry (Length m n) Sum a b = absurd (a.0.2 (a.0.0 ∙ (b.1.3 ∙ sym a.0.1)))
one_fault setting predicates entry Past128 BadNumber a b = absurd (b.0 (a.1.0))
one_fault setting predicates entry Past128 ThreadTwice a b = absurd (b.0 (a.1.1))
one_fault setting predicates entry Past128 FreeThread a b = absurd (b.0 (a.1.2))
one_fault setting predicates entry Past128 (Length k l) a b = absurd (b.0.2 (b.0.0 ∙ (a.1.3 ∙ sym b.0.1)))
one_fault setting predicates entry Past128 Past128 a b = refl
one_fault setting predicates entry Past128 Sum a b = absurd (a.0 (b.1.4))
one_fault setting predicates entry Sum BadNumber a b = absurd (b.0 (a.1.0))
one_fault setting predicates entry Sum ThreadTwice a b = absurd (b.0 (a.1.1))
one_fault setting predicates entry Sum FreeThread a b = absurd (b.0 (a.1.2))
one_fault setting predicates entry Sum (Length k l) a b = absurd (b.0.2 (b.0.0 ∙ (a.1.3 ∙ sym b.0.1)))
one_fault setting predicates entry Sum Past128 a b = absurd (b.0 (a.1.4))
one_fault setting predicates entry Sum Sum a b = refl
