use Rattle.std.proofs.Common.{◌≡◌, ◌≢◌, [], ℕ, ℤ, List, subst, ◌∙◌}
use Rattle.std.proofs.lemmas.Result.{IfOk-weaker}
use Rattle.ps_term.specs.declared.var.Var.{Var}
use Rattle.ps_term.specs.Factors.{DividesAll}
use Rattle.ps_term.specs.inner.Common.{IsCommonFactor}
use Rattle.ps_term.specs.Tightened.{IsTightened}
use Rattle.ps_term.proofs.Divisions.{zero_factor, factor_of_none}
use Rattle.ps_term.proofs.tightening.tighten.Goals as goal

pub returns-then-factor-eq0-clause-tightened : goal.returns-then-factor-eq0-clause-tightened
returns-then-factor-eq0-clause-tightened c =
    let none : c.as_slice.result.now ≡ [] = zero_factor c.as_slice.result.now c.as_slice.ensures.canonical (subst (λ (f : ℕ). DividesAll f c.as_slice.result.now) c.if-factor-eq0.true c.common_factor-factor.ensures.divides) in
    let empty : c.args.row.now.term.pairs ≡ [] = subst (λ (ps : List (Var × ℤ)). ps ≡ []) c.as_slice.ensures.list none in
    IfOk-weaker c.copy.result (λ new. new ≡ c.args.row.now) (λ new. c.args.row.now.term.pairs ≢ [] → IsTightened c.args.row.now new) (λ new same some. absurd (some empty)) c.copy.ensures

pub returns-clause-unchanged : goal.returns-clause-unchanged
returns-clause-unchanged c =
    let no : c.as_slice.result.now ≢ [] = λ e. c.if-factor-eq0.false (factor_of_none c.as_slice.result.now c.common_factor-factor.result c.common_factor-factor.ensures e) in
    IfOk-weaker c.divided_row.result (IsTightened c.args.row.now) (λ new. c.args.row.now.term.pairs ≡ [] → new ≡ c.args.row.now) (λ new t e. absurd (no (c.as_slice.ensures.list ∙ e))) c.divided_row.ensures.tightened

pub tight_copy-requires : goal.tight_copy-requires
tight_copy-requires c =
    subst (λ (f : ℕ). IsCommonFactor c.args.row.now.term.pairs f) c.if-factor-eq1.true (subst (λ (ps : List (Var × ℤ)). IsCommonFactor ps c.common_factor-factor.result) c.as_slice.ensures.list c.common_factor-factor.ensures)

pub returns-then-factor-eq1-clause-unchanged : goal.returns-then-factor-eq1-clause-unchanged
returns-then-factor-eq1-clause-unchanged c =
    let no : c.as_slice.result.now ≢ [] = λ e. c.if-factor-eq0.false (factor_of_none c.as_slice.result.now c.common_factor-factor.result c.common_factor-factor.ensures e) in
    IfOk-weaker c.tight_copy.result (IsTightened c.args.row.now) (λ new. c.args.row.now.term.pairs ≡ [] → new ≡ c.args.row.now) (λ new t e. absurd (no (c.as_slice.ensures.list ∙ e))) c.tight_copy.ensures.tightened
