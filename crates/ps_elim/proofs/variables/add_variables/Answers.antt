use Rattle.std.proofs.Common.{◌≡◌, ◌+◌, ◌-◌, ◌<◌, ◌≤◌, length, ℕ, ℤ, pos, Ordering, List, [], ◌∷◌, drop, get_or, refl, sym, ap, ◌∙◌, arith}
use Rattle.std.specs.BTreeSet.{insert_key}
use Rattle.std.specs.Ordering.{match_ordering}
use Rattle.std.proofs.lemmas.List.{drop_more}
use Rattle.ps_elim.specs.Stages.{with_variable, with_variables}
use Rattle.ps_term.specs.contracts.var.VarOrd.TheImpl.{cmp-value}
use Rattle.ps_term.specs.declared.var.Var.{Var}
use Rattle.ps_term.specs.declared.var.Var.TheVariants.{Global}
use Rattle.ps_term.specs.Var.{var_eq, var_lt}
use Rattle.ps_term.proofs.Comparing.{by_order, cmp_is}
use Rattle.ps_elim.proofs.variables.add_variables.Goals as goal

insert_is : (k : Var) (xs : List Var) → insert_key cmp-value.it xs k ≡ with_variable k xs
insert_is k [] = refl
insert_is k (y ∷ ys) =
    ap (λ (o : Ordering). match_ordering o (k ∷ y ∷ ys) (y ∷ ys) (y ∷ insert_key cmp-value.it ys k)) (cmp_is k y) ∙ by_order (var_eq k y) (var_lt k y) (k ∷ y ∷ ys) (y ∷ ys) (y ∷ insert_key cmp-value.it ys k) (y ∷ with_variable k ys) (ap (λ (zs : List Var). y ∷ zs) (insert_is k ys))

step : (ps : List (Var × ℤ)) (i : ℕ) (d : Var × ℤ) (start old new : List Var) → i ≤ length ps → 0 < i → old ≡ with_variables (drop i ps) start → new ≡ insert_key cmp-value.it old (get_or ps (i - 1) d).0 → new ≡ with_variables (drop (i - 1) ps) start
step ps i d start old new l z h e =
    let next : i - 1 + 1 ≡ i = omega arith in
    let rest : drop (i - 1) ps ≡ get_or ps (i - 1) d ∷ drop i ps = drop_more ps (i - 1) d (omega arith) ∙ ap (λ (j : ℕ). get_or ps (i - 1) d ∷ drop j ps) next in
    e ∙ (insert_is (get_or ps (i - 1) d).0 old ∙ (ap (λ (xs : List Var). with_variable (get_or ps (i - 1) d).0 xs) h ∙ sym (ap (λ (qs : List (Var × ℤ)). with_variables qs start) rest)))

pub loop-at-preserved : goal.loop-at-preserved
loop-at-preserved c =
    step c.args.pairs.now c.loop-at.at (Global 0, pos 0) c.args.found.now.keys c.loop-at.found.keys c.insert.new.self.keys c.loop-at.auto.at c.loop-at-test.true c.loop-at.invariant c.in_ok-insert.ensures.keys
