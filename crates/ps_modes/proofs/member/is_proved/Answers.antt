-- The three tests are the three parts of what is asked.
use Rattle.std.proofs.Common.{◌<◌, ◌∙◌, List, length, All, subst, sym}
use Rattle.std.proofs.lemmas.Bool.{both_ways, false≢true}
use Rattle.std.proofs.lemmas.Result.{IfOk-weaker}
use Rattle.ps_trace.specs.declared.trace.Letter.{Letter}
use Rattle.ps_modes.proofs.Proving.{proves_exactly, tied_where_held}
use Rattle.ps_modes.proofs.member.is_proved.Goals as goal

pub returns-then-not-do_edges_exist : goal.returns-then-not-do_edges_exist
returns-then-not-do_edges_exist c = (
  (λ h. absurd (false≢true h)),
  (λ proves. absurd (both_ways c.do_edges_exist.result c.if-not-do_edges_exist.true (c.do_edges_exist.ensures.1
      (subst (λ (ls : List Letter). All (λ (l : Letter). l.edge < length c.args.graph.now.edges) ls) (sym c.as_slice.ensures) proves.exist)))),
)

pub returns-then-not-held : goal.returns-then-not-held
returns-then-not-held c = (
  (λ h. absurd (false≢true h)),
  (λ proves. absurd (both_ways c.in_ok-held.held c.if-not-held.true (c.in_ok-held.ensures.1 proves.hold))),
)

pub member-requires-clause-tied : goal.member-requires-clause-tied
member-requires-clause-tied c =
    tied_where_held c.args.graph.now c.args.proof _ (c.in_ok-front.ensures ∙ c.into_list.ensures) (c.in_ok-held.ensures.0 c.if-not-held.false)

pub member-requires-clause-edges : goal.member-requires-clause-edges
member-requires-clause-edges c =
    subst (λ (ls : List Letter). All (λ (l : Letter). l.edge < length c.args.graph.now.edges) ls) c.as_slice.ensures (c.do_edges_exist.ensures.0 c.if-not-do_edges_exist.false)

pub returns : goal.returns
returns c =
    IfOk-weaker c.member.result _ _
    (λ answer is. proves_exactly c.args.graph.now c.args.proof c.args.trace.now _ answer (c.in_ok-front.ensures ∙ c.into_list.ensures) (c.in_ok-held.ensures.0 c.if-not-held.false)
    (subst (λ (ls : List Letter). All (λ (l : Letter). l.edge < length c.args.graph.now.edges) ls) c.as_slice.ensures (c.do_edges_exist.ensures.0 c.if-not-do_edges_exist.false)) is)
    c.member.ensures
