use Rattle.std.proofs.Common.{◌≡◌, ◌<◌, ℕ, List, FitsSigned, get_or, length, unsigned_abs, rules, sym, ap, ◌∙◌, arith}
use Rattle.std.specs.Int.{w128}
use Rattle.std.proofs.lemmas.Int.{to_z-of_z}
use Rattle.ps_elim.proofs.Entries.{get_or-entries_of, length-entries_of}
use Rattle.ps_elim.proofs.vector.Vector.entry.Goals as goal

pub overflow_cast-place : goal.overflow_cast-place
overflow_cast-place c =
    omega (arith, c.requires, c.self.invariant.few, ap (λ (ns : List ℕ). length ns) c.self.view_is, length-entries_of c.self.inside.entries c.self.inside.places)

pub returns : goal.returns
returns c =
    let t = c.self.inside.entries in
    let n = c.self.inside.places in
    let k = c.args.place in
    let within : k < n = omega (arith, c.requires, ap (λ (ns : List ℕ). length ns) c.self.view_is, length-entries_of t n) in
    let fits : FitsSigned w128 c.coefficient.result = search rules in
    let size : c.unsigned_abs.result ≡ unsigned_abs c.coefficient.result = simp to_z-of_z at c.unsigned_abs.ensures.value in
    size ∙ (ap unsigned_abs c.coefficient.ensures ∙ (sym (get_or-entries_of t n k 0 within) ∙ ap (λ (ns : List ℕ). get_or ns k 0) c.self.view_is))
