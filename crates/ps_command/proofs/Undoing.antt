-- Variables that are set, and set back.
use Rattle.std.proofs.Common.{◌≡◌, refl, sym, ap, ap₂, ◌∙◌, ℕ, zero, suc, ℤ, pos, List, [], ◌∷◌, ◌++◌, get_or}
use Rattle.std.specs.Prelude.{slice_index_or, slice_set}
use Rattle.std.proofs.lemmas.List.{set-get_or}
use Rattle.ps_term.specs.Term.{value}
use Rattle.ps_term.specs.declared.var.Var.{Var}
use Rattle.ps_term.specs.declared.var.Var.TheVariants.{Global, Local, Havoc}
use Rattle.ps_command.specs.Values.{Values, value_at, with_value}
use Rattle.ps_command.specs.declared.op.Op.{Op}
use Rattle.ps_command.specs.declared.op.Op.TheVariants.{Assume, Assign, Havoc as HavocOp}
use Rattle.ps_command.specs.inner.View.{after_op, undone}

set_again : (xs : List ℤ) (n : ℕ) (y z : ℤ) → slice_set (slice_set xs n y) n z ≡ slice_set xs n z
set_again [] n y z = refl
set_again (x ∷ xs) zero y z = refl
set_again (x ∷ xs) (suc n) y z = ap (λ (ys : List ℤ). x ∷ ys) (set_again xs n y z)

-- a variable that is set to what it is worth
pub set_same : (v : Values) (x : Var) → with_value v x (value_at v x) ≡ v
set_same v (Global n) = ap (λ (xs : List ℤ). let w : Values = record { globals = xs; locals = v.locals } in w) (set-get_or v.globals n (pos 0))
set_same v (Local t n) = ap (λ (xs : List ℤ). let w : Values = record { globals = v.globals; locals = xs } in w) (set-get_or v.locals n (pos 0))
set_same v (Havoc n) = refl

-- and one that is set and set back
pub set_back : (v : Values) (x : Var) (z : ℤ) → with_value (with_value v x z) x (value_at v x) ≡ v
set_back v (Global n) z =
    ap (λ (xs : List ℤ). let w : Values = record { globals = xs; locals = v.locals } in w) (set_again v.globals n z (slice_index_or v.globals n (pos 0)) ∙ set-get_or v.globals n (pos 0))
set_back v (Local t n) z =
    ap (λ (xs : List ℤ). let w : Values = record { globals = v.globals; locals = xs } in w) (set_again v.locals n z (slice_index_or v.locals n (pos 0)) ∙ set-get_or v.locals n (pos 0))
set_back v (Havoc n) z = refl

pub undone_last : (ps : List (Var × ℤ)) (p : Var × ℤ) (v : Values) → undone (ps ++ p ∷ []) v ≡ undone ps (with_value v p.0 p.1)
undone_last [] p v = refl
undone_last (q ∷ ps) p v = ap (λ (w : Values). with_value w q.0 q.1) (undone_last ps p v)

pub noted_same : (ps new : List (Var × ℤ)) (v : Values) (x : Var) → new ≡ ps ++ (x, value_at v x) ∷ [] → undone new v ≡ undone ps v
noted_same ps new v x e = ap (λ (qs : List (Var × ℤ)). undone qs v) e ∙ (undone_last ps (x, value_at v x) v ∙ ap (undone ps) (set_same v x))

pub noted_set : (ps new : List (Var × ℤ)) (v : Values) (x : Var) (z : ℤ) → new ≡ ps ++ (x, value_at v x) ∷ [] → undone new (with_value v x z) ≡ undone ps v
noted_set ps new v x z e =
    ap (λ (qs : List (Var × ℤ)). undone qs (with_value v x z)) e ∙ (undone_last ps (x, value_at v x) (with_value v x z) ∙ ap (undone ps) (set_back v x z))
