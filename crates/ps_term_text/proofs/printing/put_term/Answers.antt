use Rattle.std.proofs.Common.{rules, to_z-of_z}
use Rattle.std.specs.Prelude.{FitsSigned}
use Rattle.std.specs.Int.{w128}
use Rattle.std.specs.Fmt.{signed_decimal}
use Rattle.std.proofs.lemmas.Result.{IfOk-equal}
use Rattle.ps_term_text.proofs.Exact.{printed}
use Rattle.ps_term_text.proofs.printing.put_term.Goals as goal

pub returns : goal.returns
returns c =
    let fit : FitsSigned w128 c.args.term.now.constant = search rules in
    let p = printed c.args.out.now.items c.put_pairs.new.out.items (signed_decimal c.args.term.now.constant) c.as_slice.result.now c.args.term.now.pairs c.in_ok-put_pairs.ensures c.as_slice.ensures.list in
    IfOk-equal c.put_integer.result _ _ _ (simp to_z-of_z at c.put_integer.ensures) p
