use Rattle.std.proofs.Common.{◌↔◌, IfOk, IsTrue, List, Contains, subst}
use Rattle.ps_atom.specs.declared.predicate.Predicate.{Predicate}
use Rattle.ps_check.specs.Faults.{table_of}
use Rattle.ps_triple.specs.Faults.{EntryHolds}
use Rattle.ps_triple.specs.declared.entry.Entry.{Entry}
use Rattle.ps_check.proofs.holding.do_entries_hold.Goals as goal

pub returns : goal.returns
returns c =
    let setting = c.args.graph.now.setting in
    subst (λ (es : List Entry). IfOk c.do_all_hold.result (λ yes. IsTrue yes ↔ ((entry : Entry) → Contains es entry → EntryHolds setting (table_of c.args.proof.now) entry))) c.as_slice.ensures
    (subst (λ (table : List Predicate). IfOk c.do_all_hold.result (λ yes. IsTrue yes ↔ ((entry : Entry) → Contains c.as_slice.result.now entry → EntryHolds setting table entry))) c.in_ok-table.ensures
    c.do_all_hold.ensures)
