use Rattle.std.proofs.Common.{ℤ, pos, FitsSigned, List, rules, subst}
use Rattle.std.specs.Int.{w128}
use Rattle.std.proofs.lemmas.Int.{to_z-of_z}
use Rattle.ps_term.specs.declared.var.Var.{Var}
use Rattle.ps_term.specs.Factors.{AreDivided}
use Rattle.ps_term.specs.Pairs.{pairs_value}
use Rattle.ps_term.specs.Whole.{IsCeiling}
use Rattle.ps_term.proofs.Divisions.{divided_canonical, divided_coefficient, divided_value, divided_coprime, same_solutions}
use Rattle.ps_term.proofs.tightening.divided_row.Goals as goal

pub from_list-requires : goal.from_list-requires
from_list-requires c =
    divided_canonical c.args.factor c.as_slice.result.now c.in_ok-list.list.items c.in_ok-list.ensures c.as_slice.ensures.canonical

pub returns-clause-tightened : goal.returns-clause-tightened
returns-clause-tightened c =
    let t = c.args.row.now.term in
    let k = c.ceil_quotient-constant.result in
    let fits : FitsSigned w128 t.constant = search rules in
    let fits_k : FitsSigned w128 k = search rules in
    let ceiling : IsCeiling t.constant (pos c.args.factor) k = simp to_z-of_z at c.ceil_quotient-constant.ensures in
    let parts : AreDivided c.args.factor t.pairs c.in_ok-list.list.items = subst (λ (ps : List (Var × ℤ)). AreDivided c.args.factor ps c.in_ok-list.list.items) c.as_slice.ensures.list c.in_ok-list.ensures in
    rw (c.from_list.ensures, to_z-of_z) (record {
      factor = c.args.factor;
      positive = c.requires.positive;
      coefficients = λ x. divided_coefficient c.args.factor x t.pairs c.in_ok-list.list.items parts;
      coprime = λ d all. divided_coprime c.args.factor d t.pairs c.in_ok-list.list.items c.requires.positive c.requires.common parts all;
      constant = ceiling;
    })

pub returns-clause-same : goal.returns-clause-same
returns-clause-same c =
    let t = c.args.row.now.term in
    let k = c.ceil_quotient-constant.result in
    let fits : FitsSigned w128 t.constant = search rules in
    let fits_k : FitsSigned w128 k = search rules in
    let ceiling : IsCeiling t.constant (pos c.args.factor) k = simp to_z-of_z at c.ceil_quotient-constant.ensures in
    let parts : AreDivided c.args.factor t.pairs c.in_ok-list.list.items = subst (λ (ps : List (Var × ℤ)). AreDivided c.args.factor ps c.in_ok-list.list.items) c.as_slice.ensures.list c.in_ok-list.ensures in
    λ values. rw (c.from_list.ensures, to_z-of_z) (same_solutions c.args.factor (pairs_value values t.pairs) (pairs_value values c.in_ok-list.list.items) t.constant k (divided_value c.args.factor values t.pairs c.in_ok-list.list.items parts) ceiling)
