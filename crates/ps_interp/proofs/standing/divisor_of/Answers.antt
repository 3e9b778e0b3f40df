use Rattle.std.proofs.Common.{◌≡◌, ◌≢◌, ◌*◌, ℕ, ℤ, pos, sym, ap, ◌∙◌, get_or, unsigned_abs, FitsSigned, rules, arith}
use Rattle.std.specs.Int.{w128}
use Rattle.std.proofs.lemmas.Int.{to_z-of_z}
use Rattle.ps_term.specs.Pairs.{coefficient}
use Rattle.ps_term.specs.Tightened.{IsTightened}
use Rattle.ps_term.specs.declared.var.Var.{Var}
use Rattle.ps_term.specs.declared.var.Var.TheVariants.{Global}
use Rattle.ps_interp.proofs.Taking.{divided_first, quotient}
use Rattle.ps_interp.proofs.standing.divisor_of.Goals as goal

pub nonzero_div-result : goal.nonzero_div-result
nonzero_div-result c =
    let k = c.coefficient-reduced.result in
    let fits_k : FitsSigned w128 k = search rules in
    let size = simp to_z-of_z at c.unsigned_abs-2.ensures.value in
    let t : IsTightened c.args.row.now c.in_ok-tight.tight = c.in_ok-tight.ensures.tightened c.requires in
    let d = divided_first c.args.row.now c.in_ok-tight.tight t c.as_slice.result.now c.as_slice.ensures.list c.as_slice.ensures.canonical c.requires in
    let z : c.unsigned_abs-2.result ≢ 0 = λ e. d.0 (sym (ap unsigned_abs c.coefficient-reduced.ensures) ∙ (sym size ∙ e)) in
    omega (arith, z)

pub returns : goal.returns
returns c =
    let p : Var × ℤ = get_or c.as_slice.result.now 0 (Global 0, pos 0) in
    let k = c.coefficient-reduced.result in
    let fits : FitsSigned w128 (get_or c.as_slice.result.now 0 (Global 0, pos 0)).1 = search rules in
    let fits_k : FitsSigned w128 k = search rules in
    let size = simp to_z-of_z at c.unsigned_abs.ensures.value in
    let size_k = simp to_z-of_z at c.unsigned_abs-2.ensures.value in
    let t : IsTightened c.args.row.now c.in_ok-tight.tight = c.in_ok-tight.ensures.tightened c.requires in
    let d = divided_first c.args.row.now c.in_ok-tight.tight t c.as_slice.result.now c.as_slice.ensures.list c.as_slice.ensures.canonical c.requires in
    let same : c.unsigned_abs-2.result ≡ unsigned_abs (coefficient p.0 c.in_ok-tight.tight.term.pairs) = size_k ∙ ap unsigned_abs c.coefficient-reduced.ensures in
    record {
      tight = c.in_ok-tight.tight;
      canonical = c.in_ok-tight.ensures.canonical;
      tightened = t;
      is = quotient c.unsigned_abs.result t.factor c.unsigned_abs-2.result (λ e. d.0 (sym same ∙ e)) (size ∙ (d.1 ∙ ap (λ (m : ℕ). t.factor * m) (sym same)));
    }
