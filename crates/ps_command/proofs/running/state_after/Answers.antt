use Rattle.std.proofs.Common.{◌≡◌, ◌<◌, ◌+◌, ◌-◌, ℤ, List, [], ◌∷◌, ◌++◌, length, take, drop, rules, sym, ap, ap₂, subst, ◌∙◌}
use Rattle.std.specs.Prelude.{slice_set}
use Rattle.ps_command.specs.declared.state.State.{State}
use Rattle.ps_command.proofs.Between.{between}
use Rattle.ps_command.proofs.running.state_after.Goals as goal

pub returns : goal.returns
returns c =
    let all = c.as_slice-all.result.now in
    let k = c.args.thread in
    let own = c.args.view.locals.items in
    let is : all ≡ c.args.state.now.locals = c.as_slice-all.ensures in
    let first : c.append_copies.new.list.items ≡ take k all = search rules in
    let put : c.push.new.self.items ≡ (c.append_copies.new.list.items ++ c.from_list.result ∷ []) = search rules in
    let rest : c.append_copies-2.new.list.items ≡ (c.push.new.self.items ++ take (length all - (k + 1)) (drop (k + 1) all)) = search rules in
    let joined : (c.append_copies.new.list.items ++ c.from_list.result ∷ []) ≡ (take k all ++ own ∷ []) = ap₂ (λ (xs : List (List ℤ)) (x : List ℤ). xs ++ x ∷ []) first c.from_list.ensures in
    let whole : c.append_copies-2.new.list.items ≡ slice_set all k own =
    rest ∙ (ap (λ (xs : List (List ℤ)). xs ++ take (length all - (k + 1)) (drop (k + 1) all)) (put ∙ joined)
    ∙ between all k own (subst (λ (xs : List (List ℤ)). k < length xs) (sym is) c.requires)) in
    let make : List ℤ → List (List ℤ) → State = λ globals locals. record { globals = globals; locals = locals } in
    ap₂ make c.from_list-2.ensures (c.from_list-3.ensures ∙ (whole ∙ ap (λ (xs : List (List ℤ)). slice_set xs k own) is))
