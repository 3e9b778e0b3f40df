use Rattle.std.proofs.Common.{◌≡◌, ℤ, pos, ◌+ℤ◌, List, [], FitsSigned, SomeIff, Option, Result, Err, get_or, to_z, of_z, rules, ap, subst}
use Rattle.std.specs.Int.{w128}
use Rattle.std.proofs.lemmas.Int.{to_z-of_z}
use Rattle.std.proofs.lemmas.List.{drop_all}
use Rattle.std.proofs.lemmas.Result.{err_from_is_err_and}
use Rattle.ps_term.specs.declared.term.Term.{Term}
use Rattle.ps_term.specs.declared.term.TermEnd.{TermEnd}
use Rattle.ps_term.specs.declared.term.TermEnd.TheVariants.{Past128}
use Rattle.ps_term.specs.declared.var.Var.{Var}
use Rattle.ps_term.specs.declared.var.Var.TheVariants.{Global}
use Rattle.ps_term.proofs.Substitutions.{Substituted, Substituted-added, Substituted-empty, Substituted-refused, Substituted-worth, sum_of}
use Rattle.ps_term.proofs.substitution.substitute.Goals as goal

-- one error under two types of results
moved : (e f : TermEnd) → ◌≡◌ {A = Result Term TermEnd} (Err e) (Err f) → ◌≡◌ {A = Result ℤ TermEnd} (Err e) (Err f)
moved e f h = let same : e ≡ f = cc in ap (λ (x : TermEnd). (let r : Result ℤ TermEnd = Err x in r)) same

pub loop-pair-init : goal.loop-pair-init
loop-pair-init c =
    Substituted-empty c.args.after.now c.args.a.now.pairs c.args.a.now.constant c.new-kept.result.sums.items c.as_slice-pair-items.result.now c.new-kept.ensures c.as_slice-pair-items.ensures.list

pub loop-pair-preserved : goal.loop-pair-preserved
loop-pair-preserved c =
    let ps = c.as_slice-pair-items.result.now in
    let i = c.loop-pair.pair-index in
    let d : Var × ℤ = (Global 0, pos 0) in
    let fits : FitsSigned w128 (get_or ps i d).1 = search rules in
    let new : FitsSigned w128 c.in_ok-constant.constant = search rules in
    let is = c.in_ok-constant.ensures in
    rw to_z-of_z (Substituted-added c.args.after.now c.args.a.now.pairs ps c.args.a.now.constant c.loop-pair.kept.sums.items c.add_replaced.new.kept.sums.items (to_z w128 c.loop-pair.constant-bits) c.in_ok-constant.constant i d c.loop-pair.invariant c.loop-pair-test.true is.rising (λ v. simp to_z-of_z at (is.worth v)) (simp to_z-of_z at is.constant) (simp to_z-of_z at is.pairs_fit) (simp to_z-of_z at is.constant_fits))

pub returns-in_err-constant-clause-past : goal.returns-in_err-constant-clause-past
returns-in_err-constant-clause-past c =
    let ps = c.as_slice-pair-items.result.now in
    let i = c.loop-pair.pair-index in
    let d : Var × ℤ = (Global 0, pos 0) in
    let fits : FitsSigned w128 (get_or ps i d).1 = search rules in
    let end = err_from_is_err_and c.from_residual.result c.from_residual.ensures.1 in
    rw (end.1, end.2) (λ past. Substituted-refused c.args.after.now c.args.a.now.pairs ps c.args.a.now.constant (sum_of c.loop-pair.kept.sums.items (to_z w128 c.loop-pair.constant-bits)) i d c.loop-pair.invariant c.loop-pair-test.true (simp to_z-of_z at (c.in_err-constant.ensures.past (moved c.in_err-constant.field-0.0 Past128 past))))

pub returns-clause-worth : goal.returns-clause-worth
returns-clause-worth c =
    let a = c.args.a.now in
    let ps = c.as_slice-pair-items.result.now in
    let i = c.loop-pair.pair-index in
    let last : FitsSigned w128 a.constant = search rules in
    let fits : FitsSigned w128 c.in_ok-whole.whole = search rules in
    let m = to_z w128 c.loop-pair.constant-bits in
    let n = to_z w128 (of_z w128 a.constant) in
    let is : FitsSigned w128 (m +ℤ n) × (c.in_ok-whole.whole ≡ (m +ℤ n)) = subst (λ (o : Option ℤ). SomeIff o (FitsSigned w128 (m +ℤ n)) (m +ℤ n)) c.in_ok-whole.ensures.ok_part c.checked_add.ensures in
    let whole_is = is.1 in
    let state : Substituted c.args.after.now a.pairs a.constant (sum_of c.loop-pair.kept.sums.items m) [] = subst (λ (qs : List (Var × ℤ)). Substituted c.args.after.now a.pairs a.constant (sum_of c.loop-pair.kept.sums.items m) qs) (drop_all i ps c.loop-pair-test.false) c.loop-pair.invariant in
    λ values. rw to_z-of_z (Substituted-worth c.args.after.now a.pairs a.constant c.loop-pair.kept.sums.items m c.in_ok-pairs.pairs c.in_ok-whole.whole state c.in_ok-pairs.ensures.worth (simp to_z-of_z at whole_is) values)
