-- The symbolic form of ops: they are run on terms over the values before them and over their havoc values.
use Rattle.std.specs.Prelude.{suc, List, [], ◌∷◌, ◌++◌}
use Rattle.ps_command.specs.declared.op.Op.{Op}
use Rattle.ps_command.specs.declared.op.Op.TheVariants.{Assume, Assign, Havoc as HavocOp}
use Rattle.ps_command.specs.declared.symbolic_form.SymbolicForm.{SymbolicForm}
use Rattle.ps_term.specs.Exact.{substituted}
use Rattle.ps_term.specs.Placed.{put}
use Rattle.ps_term.specs.Substitution.{SubstitutionFits}
use Rattle.ps_term.specs.Term.{variable_term}
use Rattle.ps_term.specs.declared.term.Term.{Term}
use Rattle.ps_term.specs.declared.var.Var.{Var}
use Rattle.ps_term.specs.declared.var.Var.TheVariants.{Havoc}

-- the list with this term for the variable, which stands in its place in the order of variables
abbrev pub with_term : Var → Term → List (Var × Term) → List (Var × Term)
with_term x t ps = put x t ps

-- a form with the row of one assume more, with a variable worth another term, with a variable worth one havoc more
abbrev pub with_op : SymbolicForm → Op → SymbolicForm
with_op form (Assume r) = record form { rows = form.rows ++ (record { term = substituted form.after r.term }) ∷ [] }
with_op form (Assign x t) = record form { after = with_term x (substituted form.after t) form.after }
with_op form (HavocOp x) = record form { after = with_term x (variable_term (Havoc form.havocs)) form.after; havocs = suc form.havocs }

-- the form of ops that come after those of a form
abbrev pub form_from : SymbolicForm → List Op → SymbolicForm
form_from form [] = form
form_from form (op ∷ ops) = form_from (with_op form op) ops

-- no rows, no terms, no havocs
abbrev pub empty_form : SymbolicForm
empty_form = record { rows = []; after = []; havocs = 0 }

-- the form of ops
abbrev pub form_of : List Op → SymbolicForm
form_of ops = form_from empty_form ops

-- each product and partial sum of the op's substitution fits
abbrev pub OpFits : SymbolicForm → Op → Type 0
OpFits form (Assume r) = SubstitutionFits form.after r.term
OpFits form (Assign x t) = SubstitutionFits form.after t
OpFits form (HavocOp x) = Unit {0}

-- the same of ops that come after those of a form
abbrev pub FormFitsFrom : SymbolicForm → List Op → Type 0
FormFitsFrom form [] = Unit {0}
FormFitsFrom form (op ∷ ops) = OpFits form op × FormFitsFrom (with_op form op) ops

-- each product and partial sum of the substitutions that make the form fits
abbrev pub FormFits : List Op → Type 0
FormFits ops = FormFitsFrom empty_form ops
