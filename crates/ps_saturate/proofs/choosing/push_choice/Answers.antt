use Rattle.std.proofs.Common.{All, subst, sym}
use Rattle.std.proofs.lemmas.List.Elements.{All-push}
use Rattle.ps_saturate.proofs.Stepping.{choice_ready}
use Rattle.ps_saturate.specs.inner.Trials.{IsChoice}
use Rattle.ps_saturate.proofs.choosing.push_choice.Goals as goal

pub atom_row-requires-clause-atom : goal.atom_row-requires-clause-atom
atom_row-requires-clause-atom c = (choice_ready c.args.setting.now c.args.predicates.now c.args.number c.args.post.now c.args.threads _ c.args.of_atom.now c.requires.there c.requires.threads c.requires.arranged c.in_ok-from_slice.ensures.copy).0

pub atom_row-requires-clause-once : goal.atom_row-requires-clause-once
atom_row-requires-clause-once c = (choice_ready c.args.setting.now c.args.predicates.now c.args.number c.args.post.now c.args.threads _ c.args.of_atom.now c.requires.there c.requires.threads c.requires.arranged c.in_ok-from_slice.ensures.copy).1

pub returns-clause-made : goal.returns-clause-made
returns-clause-made c =
    let ready = choice_ready c.args.setting.now c.args.predicates.now c.args.number c.args.post.now c.args.threads _ c.args.of_atom.now c.requires.there c.requires.threads c.requires.arranged c.in_ok-from_slice.ensures.copy in
    λ h. subst (λ cs. All (IsChoice c.args.setting.now c.args.predicates.now c.args.post.now) cs) (sym c.in_ok-push.ensures.items)
    (All-push (IsChoice c.args.setting.now c.args.predicates.now c.args.post.now) c.args.list.now.items _ h (record { named = ready.0; once = ready.1; tied = ready.2; row_is = c.in_ok-row.ensures }))
