-- Lists of variables with terms, in ascending order.
use Rattle.std.specs.Prelude.{ℕ, suc, ◌<◌, List, length, slice_index_or, IsTrue}
use Rattle.ps_term.specs.Var.{var_lt}
use Rattle.ps_term.specs.declared.term.Term.{Term}
use Rattle.ps_term.specs.declared.var.Var.{Var}

-- each variable comes before the next
abbrev pub AreRising : List (Var × Term) → Type 0
AreRising after =
    (i : ℕ) (d : Var × Term) → suc i < length after → IsTrue (var_lt (slice_index_or after i d).0 (slice_index_or after (suc i) d).0)
