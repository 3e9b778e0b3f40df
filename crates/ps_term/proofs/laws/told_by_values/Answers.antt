use Rattle.std.proofs.Common.{◌≡◌, List, ℤ, subst, ap₂}
use Rattle.ps_term.specs.declared.term.Term.{Term}
use Rattle.ps_term.specs.declared.var.Var.{Var}
use Rattle.ps_term.specs.Pairs.{IsCanonical}
use Rattle.ps_term.proofs.Uniqueness.{same_values}
use Rattle.ps_term.proofs.laws.told_by_values.Goals as goal

term_is : (a b : Term) → a.pairs ≡ b.pairs → a.constant ≡ b.constant → a ≡ b
term_is a b e f =
    let make : List (Var × ℤ) → ℤ → Term = λ ps n. record { pairs = ps; constant = n } in
    ap₂ make e f

pub returns : goal.returns
returns c =
    let a = c.args.a.now in
    let b = c.args.b.now in
    let left : IsCanonical a.pairs = subst (λ (ps : List (Var × ℤ)). IsCanonical ps) c.as_slice-left.ensures.list c.as_slice-left.ensures.canonical in
    let right : IsCanonical b.pairs = subst (λ (ps : List (Var × ℤ)). IsCanonical ps) c.as_slice-right.ensures.list c.as_slice-right.ensures.canonical in
    λ same. (let both = same_values a.pairs b.pairs a.constant b.constant left right same in
    term_is a b both.0 both.1)
