use Rattle.std.proofs.Common.{◌≡◌, negsuc, ◌+ℤ◌, ◌*ℤ◌, Result, Err, subst, ap}
use Rattle.ps_term.specs.declared.term.Term.{Term}
use Rattle.ps_term.specs.declared.term.TermEnd.TheVariants.{Past128}
use Rattle.ps_term.specs.Term.{value}
use Rattle.ps_term.proofs.Negations.{negated, TermFits-negation}
use Rattle.ps_term.proofs.negation.negate.Goals as goal

pub returns-in-Ok-clause-negates : goal.returns-in-Ok-clause-negates
returns-in-Ok-clause-negates c =
    λ values. negated (value values c.in-Ok.term) (value values c.args.row.now.term) (subst (λ (t : Term). value values c.in-Ok.term ≡ (value values t +ℤ (negsuc 0 *ℤ value values c.args.row.now.term))) c.from_constant-one.ensures (c.in-Ok.ensures.worth values))

-- an error is the same beside any type of values
other_value : {A B E : Type 0} (x y : E) → ◌≡◌ {A = Result A E} (Err x) (Err y) → ◌≡◌ {A = Result B E} (Err x) (Err y)
other_value {A} {B} {E} x y e =
    let same : x ≡ y = cc in
    let make : E → Result B E = λ z. Err z in
    ap make same

pub returns-clause-past : goal.returns-clause-past
returns-clause-past c = λ past fits. c.in-Err.ensures.past (other_value c.in-Err.end Past128 past) (TermFits-negation c.from_constant-one.result c.args.row.now c.from_constant-one.ensures fits)
