-- Worked examples of symbolic forms.
use Rattle.std.specs.Prelude.{◌≡◌, ℤ, pos, negsuc, List, [], ◌∷◌}
use Rattle.ps_command.specs.Form.{empty_form, form_of}
use Rattle.ps_command.specs.Symbolic.{IsForm}
use Rattle.ps_command.specs.declared.op.Op.TheVariants.{Assume, Assign, Havoc as HavocOp}
use Rattle.ps_term.specs.declared.row.Row.{Row}
use Rattle.ps_term.specs.declared.term.Term.{Term}
use Rattle.ps_term.specs.declared.var.Var.{Var}
use Rattle.ps_term.specs.declared.var.Var.TheVariants.{Global, Local, Havoc}

-- the globals x and y, and the local t
abbrev pub x : Var
x = Global 0

abbrev pub y : Var
y = Global 1

abbrev pub t : Var
t = Local 0 0

-- the first havoc value
abbrev pub h : Var
h = Havoc 0

abbrev pub term : List (Var × ℤ) → ℤ → Term
term pairs constant = record { pairs = pairs; constant = constant }

abbrev pub row : List (Var × ℤ) → ℤ → Row
row pairs constant = record { term = term pairs constant }

-- `havoc x; x := x + y; assume x >= 0;` is one row over the values before and the havoc value, and one term
abbrev pub HavocThenAssume : Type 0
HavocThenAssume =
    form_of (HavocOp x ∷ Assign x (term ((x, pos 1) ∷ (y, pos 1) ∷ []) (pos 0))
    ∷ Assume (row ((x, negsuc 0) ∷ []) (pos 0)) ∷ [])
    ≡ record {
      rows = row ((y, negsuc 0) ∷ (h, negsuc 0) ∷ []) (pos 0) ∷ [];
      after = (x, term ((y, pos 1) ∷ (h, pos 1) ∷ []) (pos 0)) ∷ [];
      havocs = 1;
    }

-- `x := t + 1; havoc t; assume t <= x; x := x + t;`: an assume sees the values so far, not those after all ops
abbrev pub AssumeInBetween : Type 0
AssumeInBetween =
    form_of (Assign x (term ((t, pos 1) ∷ []) (pos 1)) ∷ HavocOp t
    ∷ Assume (row ((x, negsuc 0) ∷ (t, pos 1) ∷ []) (pos 0))
    ∷ Assign x (term ((x, pos 1) ∷ (t, pos 1) ∷ []) (pos 0)) ∷ [])
    ≡ record {
      rows = row ((t, negsuc 0) ∷ (h, pos 1) ∷ []) (negsuc 0) ∷ [];
      after = (x, term ((t, pos 1) ∷ (h, pos 1) ∷ []) (pos 1)) ∷ (t, term ((h, pos 1) ∷ []) (pos 0)) ∷ [];
      havocs = 1;
    }

-- each assume has a row of its own, in order, also one that says the same, and no row is divided
abbrev pub RowsAreKept : Type 0
RowsAreKept =
    form_of (Assume (row ((x, pos 2) ∷ []) (pos 0)) ∷ Assume (row ((x, pos 1) ∷ []) (pos 0)) ∷ [])
    ≡ record { rows = row ((x, pos 2) ∷ []) (pos 0) ∷ row ((x, pos 1) ∷ []) (pos 0) ∷ []; after = []; havocs = 0 }

-- no rows, no terms and no havocs aren't a form of an assume, of an assignment or of a havoc
abbrev pub EmptyIsNone : Type 0
EmptyIsNone =
    (¬ IsForm (Assume (row ((x, pos 1) ∷ []) (pos 0)) ∷ []) empty_form)
    × (¬ IsForm (Assign x (term [] (pos 1)) ∷ []) empty_form)
    × (¬ IsForm (HavocOp x ∷ []) empty_form)
