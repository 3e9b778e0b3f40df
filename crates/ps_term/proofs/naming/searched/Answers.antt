use Rattle.std.proofs.Common.{◌≡◌, ◌<◌, true, false, length, rules, of_calls, sym, ap, ◌∙◌}
use Rattle.std.specs.List.Sorted.{IsPartitionPoint}
use Rattle.std.proofs.lemmas.Fn.{always_returns_same}
use Rattle.std.proofs.lemmas.List.{get_or_default}
use Rattle.ps_term.specs.Var.{var_eq, var_lt}
use Rattle.ps_term.specs.declared.term.Term.{Term}
use Rattle.ps_term.specs.declared.var.Var.{Var}
use Rattle.ps_term.proofs.Searching.{found_at, not_at, parted_before, past_all}
use Rattle.ps_term.proofs.naming.searched.Goals as goal

-- all variables come before
pub returns-then-place-after : goal.returns-then-place-after
returns-then-place-after c =
    let parts : IsPartitionPoint (λ p. var_lt p.0 c.args.variable ≡ true) (λ p. var_lt p.0 c.args.variable ≡ false) c.args.after.now c.partition_point-place.result = c.partition_point-place.ensures.partitioned (λ p. var_lt p.0 c.args.variable) (always_returns_same _ _ _ (λ a r f k. search (rules, of_calls))) (parted_before c.args.variable c.args.after.now c.requires) in
    past_all c.args.variable c.args.after.now c.partition_point-place.result parts c.if-place-after.true

-- the first that doesn't come before is another one
pub returns-then-not-is_same : goal.returns-then-not-is_same
returns-then-not-is_same c =
    let parts : IsPartitionPoint (λ p. var_lt p.0 c.args.variable ≡ true) (λ p. var_lt p.0 c.args.variable ≡ false) c.args.after.now c.partition_point-place.result = c.partition_point-place.ensures.partitioned (λ p. var_lt p.0 c.args.variable) (always_returns_same _ _ _ (λ a r f k. search (rules, of_calls))) (parted_before c.args.variable c.args.after.now c.requires) in
    not_at c.args.variable c.args.after.now c.partition_point-place.result c.index-after-place.result c.requires parts c.if-place-after.false c.index-after-place.is (ap (λ (p : Var × Term). var_eq c.args.variable p.0) c.index-after-place.is ∙ (sym c.is_same.ensures ∙ c.if-not-is_same.true))

pub returns : goal.returns
returns c =
    let after = c.args.after.now in
    let place = c.partition_point-place.result in
    let here = c.index-after-place.result in
    let within : place < length after = c.if-place-after.false in
    let parts : IsPartitionPoint (λ p. var_lt p.0 c.args.variable ≡ true) (λ p. var_lt p.0 c.args.variable ≡ false) c.args.after.now c.partition_point-place.result = c.partition_point-place.ensures.partitioned (λ p. var_lt p.0 c.args.variable) (always_returns_same _ _ _ (λ a r f k. search (rules, of_calls))) (parted_before c.args.variable c.args.after.now c.requires) in
    ap (λ (p : Var × Term). p.1) (get_or_default after place c.index-after-place-2.result here within ∙ sym c.index-after-place.is) ∙ found_at c.args.variable after place here parts within c.index-after-place.is (ap (λ (p : Var × Term). var_eq c.args.variable p.0) c.index-after-place.is ∙ (sym c.is_same.ensures ∙ c.if-not-is_same.false))
