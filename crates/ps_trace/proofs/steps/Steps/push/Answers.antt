use Rattle.std.proofs.Common.{◌≡◌, ◌+◌, ◌++◌, ◌∷◌, [], ℕ, ℤ, List, length, ap, ◌∙◌, rules}
use Rattle.ps_trace.proofs.Columns.{columns_more, pushed}
use Rattle.ps_trace.proofs.steps.Steps.push.Goals as goal

pub invariant_of-self-2 : goal.invariant_of-self-2
invariant_of-self-2 c =
    let held : c.len.result ≡ length c.self.inside.choices.items = search rules in
    let end : c.in_ok-end.end ≡ length c.self.inside.choices.items + length c.args.step.now.choices =
    c.in_ok-end.ensures ∙ (ap (λ (n : ℕ). n + length c.as_slice-choices.result.now) held ∙ ap (λ (xs : List ℤ). length c.self.inside.choices.items + length xs) c.as_slice-choices.ensures) in
    columns_more c.self.inside.threads.items c.self.inside.ends.items c.self.inside.choices.items c.args.step.now.choices c.args.step.now.thread c.in_ok-end.end _ _ _ c.self.invariant end
    (c.push_reserved.ensures.items ∙ ap (λ (ts : List ℕ). ts ++ c.args.step.now.thread ∷ []) c.reserve.ensures.items)
    (c.push_reserved-2.ensures.items ∙ ap (λ (es : List ℕ). es ++ c.in_ok-end.end ∷ []) c.reserve-2.ensures.items)
    (c.in_ok-extend_from_slice.ensures.items ∙ ap (λ (xs : List ℤ). c.self.inside.choices.items ++ xs) c.as_slice-choices.ensures)

pub returns-clause-ok : goal.returns-clause-ok
returns-clause-ok c =
    let held : c.len.result ≡ length c.self.inside.choices.items = search rules in
    let end : c.in_ok-end.end ≡ length c.self.inside.choices.items + length c.args.step.now.choices =
    c.in_ok-end.ensures ∙ (ap (λ (n : ℕ). n + length c.as_slice-choices.result.now) held ∙ ap (λ (xs : List ℤ). length c.self.inside.choices.items + length xs) c.as_slice-choices.ensures) in
    pushed c.self.inside.threads.items c.self.inside.ends.items c.self.inside.choices.items c.args.self.now c.args.step.now c.in_ok-end.end _ _ _ c.self.invariant c.self.view_is end
    (c.push_reserved.ensures.items ∙ ap (λ (ts : List ℕ). ts ++ c.args.step.now.thread ∷ []) c.reserve.ensures.items)
    (c.push_reserved-2.ensures.items ∙ ap (λ (es : List ℕ). es ++ c.in_ok-end.end ∷ []) c.reserve-2.ensures.items)
    (c.in_ok-extend_from_slice.ensures.items ∙ ap (λ (xs : List ℤ). c.self.inside.choices.items ++ xs) c.as_slice-choices.ensures)
