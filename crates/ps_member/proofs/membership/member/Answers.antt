use Rattle.std.proofs.Common.{◌≡◌, ◌≢◌, List, length, sym, ap, ◌∙◌, subst, eqb-true}
use Rattle.std.proofs.lemmas.Bool.{eqb-false}
use Rattle.ps_trace.specs.declared.trace.Letter.{Letter}
use Rattle.ps_member.proofs.Going.{HasLetters, given_proved, none_proved}
use Rattle.ps_member.proofs.membership.member.Goals as goal

pub returns-then-is_empty : goal.returns-then-is_empty
returns-then-is_empty g c =
    let none : length c.args.trace.now.letters ≡ 0 =
    ap length (sym c.as_slice-letters.ensures) ∙ eqb-true (length c.as_slice-letters.result.now) 0 (sym c.is_empty.ensures ∙ c.if-is_empty.true) in
    none_proved (g.B.Shown.entries c.args.basis.now) c.args.graph.now.edges c.args.trace.now.letters none

pub returns : goal.returns
returns g c =
    let some : length c.args.trace.now.letters ≢ 0 =
    λ e. eqb-false (length c.as_slice-letters.result.now) 0 (sym c.is_empty.ensures ∙ c.if-is_empty.false) (ap length c.as_slice-letters.ensures ∙ e) in
    given_proved (g.B.Shown.entries c.args.basis.now) c.args.graph.now.edges c.args.trace.now.letters c.in_ok-walk.walk.cuts.items c.in_ok-proved.proved some
    (subst (λ (ls : List Letter). HasLetters c.args.graph.now.edges c.in_ok-walk.walk.cuts.items ls) c.as_slice-letters.ensures c.in_ok-walk.ensures.letters)
    c.in_ok-proved.ensures
