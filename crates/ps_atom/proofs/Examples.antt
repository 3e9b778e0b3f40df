-- Predicates in range and out of it.
use Rattle.std.proofs.Common.{◌≤◌, ◌<◌, pos, [], ◌∷◌, arith}
use Rattle.std.proofs.lemmas.List.Elements.{All-contains, All-from_recursion}
use Rattle.ps_list.proofs.Members.{here, there}
use Rattle.ps_atom.specs.Examples.{too_wide, wide}
use Rattle.ps_atom.specs.Range.{IsDeclared, IsInRange}
use Rattle.ps_term.specs.declared.var.Var.TheVariants.{Global, Local}

pub in_range : IsInRange 1 2 wide
in_range = (omega arith, All-from_recursion (λ p. IsDeclared 1 2 4 p.0) wide.row.term.pairs (omega arith, ((omega arith, omega arith), tt)))

pub too_many_slots : ¬ IsInRange 1 2 too_wide
too_many_slots h = let few : 5 ≤ 4 = h.0 in omega arith

pub no_global : ¬ IsInRange 0 2 wide
no_global h =
    let below : 0 < 0 = All-contains (λ p. IsDeclared 0 2 4 p.0) wide.row.term.pairs (Global 0, pos 1) h.1 (here (Global 0, pos 1) ((Local 3 1, pos 5) ∷ [])) in
    omega arith

pub no_local : ¬ IsInRange 1 1 wide
no_local h =
    let declared : (3 < 4) × (1 < 1) =
    All-contains (λ p. IsDeclared 1 1 4 p.0) wide.row.term.pairs (Local 3 1, pos 5) h.1
    (there (Global 0, pos 1) ((Local 3 1, pos 5) ∷ []) (Local 3 1, pos 5) (here (Local 3 1, pos 5) [])) in
    let below : 1 < 1 = declared.1 in
    omega arith
