use Rattle.std.proofs.Common.{◌≡◌, ◌↔◌, ℤ, List, sym, subst}
use Rattle.std.proofs.lemmas.Result.{IfOk-weaker}
use Rattle.ps_term.specs.Pairs.{IsCanonical}
use Rattle.ps_term.specs.Row.{Holds}
use Rattle.ps_term.specs.Tightened.{IsTightened}
use Rattle.ps_term.specs.declared.row.Row.{Row}
use Rattle.ps_term.specs.declared.var.Var.{Var}
use Rattle.ps_term.proofs.Divisions.{tight_itself}
use Rattle.ps_term.proofs.tightening.tight_copy.Goals as goal

pub returns-clause-tightened : goal.returns-clause-tightened
returns-clause-tightened c =
    let row = c.args.row.now in
    IfOk-weaker c.copy.result (λ new. new ≡ row) (IsTightened row) (λ new same. subst (λ (r : Row). IsTightened row r) (sym same) (tight_itself row c.requires)) c.copy.ensures

pub returns-clause-same : goal.returns-clause-same
returns-clause-same c =
    let row = c.args.row.now in
    IfOk-weaker c.copy.result (λ new. new ≡ row) (λ new. (values : Var → ℤ) → Holds values new ↔ Holds values row) (λ new same values. subst (λ (r : Row). Holds values r ↔ Holds values row) (sym same) ((λ h. h), (λ h. h))) c.copy.ensures

pub returns-clause-canonical : goal.returns-clause-canonical
returns-clause-canonical c =
    let row = c.args.row.now in
    IfOk-weaker c.copy.result (λ new. new ≡ row) (λ new. IsCanonical new.term.pairs) (λ new same. subst (λ (r : Row). IsCanonical r.term.pairs) (sym same) (subst (λ (ps : List (Var × ℤ)). IsCanonical ps) c.as_slice-pairs.ensures.list c.as_slice-pairs.ensures.canonical)) c.copy.ensures
