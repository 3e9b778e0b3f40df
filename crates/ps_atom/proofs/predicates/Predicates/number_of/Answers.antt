use Rattle.std.proofs.Common.{◌≡◌, ◌≢◌, ◌<◌, List, [], Some, None, Contains, length, sym, ap, ◌∙◌, subst, arith}
use Rattle.ps_atom.specs.declared.predicates.TheConstants.Predicates.{MOST}
use Rattle.ps_atom.specs.inner.Index.{key_of, least}
use Rattle.ps_atom.specs.Numbers.{IsNumberOf}
use Rattle.ps_atom.specs.declared.predicate.Predicate.{Predicate}
use Rattle.ps_atom.proofs.Indexing.{number-Some, number-None}
use Rattle.ps_atom.proofs.Placing.{form_end, has_form, not_empty_by}
use Rattle.ps_atom.proofs.predicates.Predicates.number_of.Goals as goal

pub returns-in-Err-form_of-clause-end : goal.returns-in-Err-form_of-clause-end
returns-in-Err-form_of-clause-end c =
    let row = c.args.row.now in
    let some : row.term.pairs ≢ [] = not_empty_by c.as_slice.result.now row.term.pairs c.is_empty.result c.as_slice.ensures.list c.is_empty.ensures c.if-is_empty.false in
    form_end c.args.self.now row c.in-Ok.tight c.in-Err-form_of.end (c.in-Ok.ensures.tightened some) c.in-Err-form_of.ensures.end

pub returns-in-Some-clause-place : goal.returns-in-Some-clause-place
returns-in-Some-clause-place c =
    let row = c.args.row.now in
    let form = c.in-Ok-form_of.form in
    let list = c.self.inside.list.items in
    let some : row.term.pairs ≢ [] = not_empty_by c.as_slice.result.now row.term.pairs c.is_empty.result c.as_slice.ensures.list c.is_empty.ensures c.if-is_empty.false in
    let found : least (key_of form.predicate) list ≡ Some c.in-Some.number = sym (c.self.invariant.indexed (key_of form.predicate)) ∙ (sym c.number_in-number.ensures ∙ c.in-Some.is) in
    (form.predicate, has_form row c.in-Ok.tight form.predicate form.threads some (c.in-Ok.ensures.tightened some) c.in-Ok.ensures.canonical c.in-Ok-form_of.ensures.form, subst (λ (xs : List Predicate). IsNumberOf xs form.predicate c.in-Some.number) c.self.view_is (number-Some list form.predicate c.in-Some.number found))

pub returns-in-None-clause-end : goal.returns-in-None-clause-end
returns-in-None-clause-end c =
    let row = c.args.row.now in
    let form = c.in-Ok-form_of.form in
    let list = c.self.inside.list.items in
    let some : row.term.pairs ≢ [] = not_empty_by c.as_slice.result.now row.term.pairs c.is_empty.result c.as_slice.ensures.list c.is_empty.ensures c.if-is_empty.false in
    let none : least (key_of form.predicate) list ≡ None = sym (c.self.invariant.indexed (key_of form.predicate)) ∙ (sym c.number_in-number.ensures ∙ c.in-None.is) in
    let full : length list ≡ MOST = omega (arith, c.self.invariant.table.within, c.len.ensures, c.if-len.true, c.self.inside.list.ok.0) in
    (form.predicate, form.threads, (has_form row c.in-Ok.tight form.predicate form.threads some (c.in-Ok.ensures.tightened some) c.in-Ok.ensures.canonical c.in-Ok-form_of.ensures.form, subst (λ (xs : List Predicate). ¬ Contains xs form.predicate) c.self.view_is (number-None 0 list form.predicate none), sym (ap (λ (xs : List Predicate). length xs) c.self.view_is) ∙ full))

pub returns-clause-place : goal.returns-clause-place
returns-clause-place c =
    let row = c.args.row.now in
    let form = c.in-Ok-form_of.form in
    let list = c.self.inside.list.items in
    let some : row.term.pairs ≢ [] = not_empty_by c.as_slice.result.now row.term.pairs c.is_empty.result c.as_slice.ensures.list c.is_empty.ensures c.if-is_empty.false in
    let none : least (key_of form.predicate) list ≡ None = sym (c.self.invariant.indexed (key_of form.predicate)) ∙ (sym c.number_in-number.ensures ∙ c.in-None-2.is) in
    let room : length list < MOST = omega (arith, c.len.ensures, c.if-len.false, c.self.inside.list.ok.0) in
    (has_form row c.in-Ok.tight form.predicate form.threads some (c.in-Ok.ensures.tightened some) c.in-Ok.ensures.canonical c.in-Ok-form_of.ensures.form, subst (λ (xs : List Predicate). ¬ Contains xs form.predicate) c.self.view_is (number-None 0 list form.predicate none), subst (λ (xs : List Predicate). length xs < MOST) c.self.view_is room)
