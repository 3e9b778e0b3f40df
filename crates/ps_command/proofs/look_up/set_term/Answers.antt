use Rattle.std.proofs.Common.{◌≡◌, List, rules, sym, subst, ◌∙◌, IsTrue}
use Rattle.std.specs.Prelude.{insert}
use Rattle.ps_term.specs.declared.term.Term.{Term}
use Rattle.ps_term.specs.declared.var.Var.{Var}
use Rattle.ps_term.proofs.Placing.{set_found, set_missing}
use Rattle.ps_command.specs.Assignments.{ascends}
use Rattle.ps_command.specs.Form.{with_term}
use Rattle.ps_command.proofs.Places.{ascends_set}
use Rattle.ps_command.proofs.look_up.set_term.Goals as goal

pub returns-then-stands_at-clause-set : goal.returns-then-stands_at-clause-set
returns-then-stands_at-clause-set c =
    set_found c.args.variable c.args.term c.args.after.now.items c.as_slice.result.now c.as_slice-2.result.now c.place_of-place.result c.stands_at.result c.as_slice.ensures.value c.as_slice-2.ensures.value c.place_of-place.ensures.within c.place_of-place.ensures.parts c.stands_at.ensures c.if-stands_at.true

pub returns-then-stands_at-clause-ascending : goal.returns-then-stands_at-clause-ascending
returns-then-stands_at-clause-ascending c =
    let set = set_found c.args.variable c.args.term c.args.after.now.items c.as_slice.result.now c.as_slice-2.result.now c.place_of-place.result c.stands_at.result c.as_slice.ensures.value c.as_slice-2.ensures.value c.place_of-place.ensures.within c.place_of-place.ensures.parts c.stands_at.ensures c.if-stands_at.true in
    subst (λ (l : List (Var × Term)). IsTrue (ascends l)) (sym set) (ascends_set c.args.variable c.args.term c.args.after.now.items c.requires)

pub returns-clause-set : goal.returns-clause-set
returns-clause-set c =
    let put : c.insert.new.self.items ≡ insert c.args.after.now.items c.place_of-place.result (c.args.variable, c.args.term) = search rules in
    put ∙ set_missing c.args.variable c.args.term c.args.after.now.items c.as_slice.result.now c.as_slice-2.result.now c.place_of-place.result c.stands_at.result c.as_slice.ensures.value c.as_slice-2.ensures.value c.place_of-place.ensures.within c.place_of-place.ensures.parts c.stands_at.ensures c.if-stands_at.false

pub returns-clause-ascending : goal.returns-clause-ascending
returns-clause-ascending c =
    let put : c.insert.new.self.items ≡ insert c.args.after.now.items c.place_of-place.result (c.args.variable, c.args.term) = search rules in
    let set : c.insert.new.self.items ≡ with_term c.args.variable c.args.term c.args.after.now.items = put ∙ set_missing c.args.variable c.args.term c.args.after.now.items c.as_slice.result.now c.as_slice-2.result.now c.place_of-place.result c.stands_at.result c.as_slice.ensures.value c.as_slice-2.ensures.value c.place_of-place.ensures.within c.place_of-place.ensures.parts c.stands_at.ensures c.if-stands_at.false in
    subst (λ (l : List (Var × Term)). IsTrue (ascends l)) (sym set) (ascends_set c.args.variable c.args.term c.args.after.now.items c.requires)
