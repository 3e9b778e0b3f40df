use Rattle.std.proofs.Common.{rules, ◌<◌, length, sym, subst}
use Rattle.ps_compile.proofs.Members.{all_at}
use Rattle.ps_compile.proofs.starts.push_relations.Goals as goal
use Rattle.ps_compile.specs.Conditions.{IsCompilableRelation}
use Rattle.ps_term.specs.declared.term.TermEnd.TheVariants.{Past128}
use Rattle.ps_compile.proofs.Small.{same_error}

pub returns-in-Err-clause-past : goal.returns-in-Err-clause-past
returns-in-Err-clause-past c =
    let less : c.loop-relation.relation-index < length c.args.relations.now = search rules in
    λ past g l h.
    let here : IsCompilableRelation g l c.relation-item.result =
    subst (IsCompilableRelation g l) (sym c.relation-item.is)
    (all_at (IsCompilableRelation g l) c.args.relations.now c.loop-relation.relation-index c.relation-item.result less h) in
    c.in-Err.ensures.past (same_error c.in-Err.end Past128 past) g l here.0 here.1
