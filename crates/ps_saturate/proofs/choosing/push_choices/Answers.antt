use Rattle.std.proofs.Common.{◌∙◌, ◌++◌, ◌∷◌, [], ap, map, subst, sym, Contains, List, ℕ}
use Rattle.std.proofs.lemmas.List.Elements.{All-contains}
use Rattle.ps_atom.specs.declared.predicate.Predicate.{Predicate}
use Rattle.ps_saturate.proofs.Stepping.{all_choices, lists_among, member, push_end, push_step, read_predicate}
use Rattle.ps_saturate.specs.inner.Arranging.{arrangements, atom_with}
use Rattle.ps_saturate.specs.inner.Trials.{atoms_of}
use Rattle.ps_triple.specs.Rows.{predicate_of}
use Rattle.ps_saturate.proofs.choosing.push_choices.Goals as goal

pub push_choice-requires-clause-arranged : goal.push_choice-requires-clause-arranged
push_choice-requires-clause-arranged c =
    let slots = ap (λ (p : Predicate). arrangements c.args.threads p.arity) (sym c.index-predicates-number.is ∙ read_predicate c.args.predicates.now c.args.number c.index-predicates-number.result c.requires.there.0 c.index-predicates-number.is) in
    let e = ap (λ vs. map (λ v. v.items) vs) c.deref-of_atom-items.ensures.value ∙ c.in_ok-lists.ensures ∙ slots in
    subst (λ (ts : List ℕ). Contains (arrangements c.args.threads (predicate_of c.args.predicates.now c.args.number).arity) ts) (sym c.as_slice.ensures.value)
    (All-contains (λ v. Contains (arrangements c.args.threads (predicate_of c.args.predicates.now c.args.number).arity) v.items) c.deref-of_atom-items.result.now c.of_atom-item.result
    (lists_among (λ v. v.items) c.deref-of_atom-items.result.now (arrangements c.args.threads (predicate_of c.args.predicates.now c.args.number).arity) e)
    (member c.deref-of_atom-items.result.now c.loop-of_atom.of_atom-index c.of_atom-item.result c.loop-of_atom-test.true c.of_atom-item.is))

pub loop-of_atom-preserved : goal.loop-of_atom-preserved
loop-of_atom-preserved c = record {
  atoms = push_step (λ v. atom_with c.args.number v.items) c.deref-of_atom-items.result.now c.loop-of_atom.of_atom-index c.of_atom-item.result (atoms_of c.loop-of_atom.list.items) (atoms_of c.push_choice.new.list.items) _ c.loop-of_atom-test.true c.of_atom-item.is
      (c.in_ok-push_choice.ensures.atoms ∙ ap (λ (ts : List ℕ). atoms_of c.loop-of_atom.list.items ++ atom_with c.args.number ts ∷ []) c.as_slice.ensures.value) c.loop-of_atom.invariant.atoms;
  made = λ h. c.in_ok-push_choice.ensures.made (c.loop-of_atom.invariant.made h);
}

pub returns-clause-atoms : goal.returns-clause-atoms
returns-clause-atoms c =
    let slots = ap (λ (p : Predicate). arrangements c.args.threads p.arity) (sym c.index-predicates-number.is ∙ read_predicate c.args.predicates.now c.args.number c.index-predicates-number.result c.requires.there.0 c.index-predicates-number.is) in
    let e = ap (λ vs. map (λ v. v.items) vs) c.deref-of_atom-items.ensures.value ∙ c.in_ok-lists.ensures ∙ slots in
    all_choices c.args.number (λ v. v.items) c.deref-of_atom-items.result.now (arrangements c.args.threads (predicate_of c.args.predicates.now c.args.number).arity) (atoms_of c.loop-of_atom.list.items) (atoms_of c.args.list.now.items) e
    (push_end (λ v. atom_with c.args.number v.items) c.deref-of_atom-items.result.now c.loop-of_atom.of_atom-index (atoms_of c.loop-of_atom.list.items) _ c.loop-of_atom-test.false c.loop-of_atom.invariant.atoms)
