use Rattle.std.proofs.Common.{◌+◌, ◌-◌, ◌∙◌, ℕ, ℤ, pos, FitsSigned, get_or, length, ap, arith, rules}
use Rattle.std.specs.BTreeMap.{insert_entry}
use Rattle.std.specs.Int.{w128}
use Rattle.std.proofs.lemmas.Int.{to_z-of_z}
use Rattle.ps_term.specs.declared.var.Var.{Var}
use Rattle.ps_term.specs.declared.var.Var.TheVariants.{Global}
use Rattle.ps_atom.specs.Atoms.{at_threads}
use Rattle.ps_triple.proofs.Renewed.{slots_apart, taken_more, var_cmp}
use Rattle.ps_triple.proofs.placing.placed_pairs.Goals as goal

pub loop-taken-preserved : goal.loop-taken-preserved
loop-taken-preserved c =
    let ps = c.args.pairs.now in
    let ts = c.args.threads.now in
    let i : ℕ = length ps - (c.loop-taken.taken + 1) in
    let d : Var × ℤ = (Global 0, pos 0) in
    let fits : FitsSigned w128 (get_or ps i d).1 = search rules in
    let is = c.in_ok-insert.ensures.entries in
    (simp to_z-of_z at is)
    ∙ (ap (λ (x : Var). insert_entry var_cmp c.loop-taken.placed.entries x (get_or ps i d).1) c.at_threads.ensures
    ∙ taken_more (at_threads ts) ps c.loop-taken.placed.entries i (length ps - c.loop-taken.taken) d (slots_apart ts ps c.requires.distinct c.requires.canonical c.requires.slots) c.requires.canonical (omega arith) (omega arith) c.loop-taken.invariant)
