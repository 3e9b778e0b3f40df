use Rattle.std.proofs.Common.{rules, ◌≡◌, ◌∷◌, ◌++◌, [], List, length, sym, ◌∙◌, subst}
use Rattle.ps_compile.proofs.Numbering.{Numbering, nothing_left, numbering_done, numbering_step}
use Rattle.ps_compile.proofs.table.number.Goals as goal
use Rattle.ps_compile.specs.declared.draft.Draft.{Draft}
use Rattle.ps_graph.specs.declared.edge.Edge.{Edge}

pub loop-draft-preserved : goal.loop-draft-preserved
loop-draft-preserved c =
    let taken : c.loop-draft.draft-iterator.rest.items ≡ c.in-Some.draft ∷ c.next.new.self.rest.items = search rules in
    let pushed : c.push.new.self.items ≡ c.loop-draft.edges.items ++ c.in_ok-edge.edge ∷ [] = search rules in
    subst (λ (es : List Edge). Numbering c.args.drafts.items c.next.new.self.rest.items c.enter.new.table.keys es) (sym pushed)
    (numbering_step c.args.drafts.items c.in-Some.draft c.next.new.self.rest.items c.loop-draft.table.keys c.enter.new.table.keys c.loop-draft.edges.items c.in_ok-edge.edge
    (subst (λ (rest : List Draft). Numbering c.args.drafts.items rest c.loop-draft.table.keys c.loop-draft.edges.items) taken c.loop-draft.invariant) c.in_ok-edge.ensures)

pub returns : goal.returns
returns c =
    let none : c.loop-draft.draft-iterator.rest.len ≡ 0 = c.in-None.ensures.steps.0 in
    let counted : length c.loop-draft.draft-iterator.rest.items ≡ c.loop-draft.draft-iterator.rest.len = search rules in
    let ended : c.loop-draft.draft-iterator.rest.items ≡ [] = nothing_left c.loop-draft.draft-iterator.rest.items (counted ∙ none) in
    numbering_done c.args.drafts.items c.loop-draft.table.keys c.loop-draft.edges.items c.in_ok-commands_of.field-0.items
    (subst (λ (rest : List Draft). Numbering c.args.drafts.items rest c.loop-draft.table.keys c.loop-draft.edges.items) ended c.loop-draft.invariant)
    c.as_slice-distinct.ensures.unique c.in_ok-commands_of.ensures
