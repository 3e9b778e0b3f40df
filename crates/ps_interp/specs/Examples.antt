-- Worked examples. The branch: a thread adds 1 to the global x, which is 0 at first, by command 0, chooses between two empty
-- blocks by command 1, and asserts that x is at least 1, by command 2 where it is and command 3 where it isn't.
use Rattle.std.specs.Prelude.{ℕ, pos, negsuc, List, [], ◌∷◌, refl}
use Rattle.ps_atom.specs.declared.atom.Atom.{Atom}
use Rattle.ps_atom.specs.declared.predicate.Predicate.{Predicate}
use Rattle.ps_command.specs.Commands.{forms_of}
use Rattle.ps_command.specs.Examples.{term, x}
use Rattle.ps_command.specs.declared.command.Command.{Command}
use Rattle.ps_command.specs.declared.op.Op.TheVariants.{Assume, Assign}
use Rattle.ps_command.specs.declared.setting.Setting.{Setting}
use Rattle.ps_farkas.specs.Examples.{row_on_x}
use Rattle.ps_interp.specs.Interpolants.{Interpolant}
use Rattle.ps_interp.specs.Made.{letters_of}
use Rattle.ps_interp.specs.Sums.{Weighed}
use Rattle.ps_term.specs.declared.term.Term.{Term}
use Rattle.ps_triple.specs.Examples.{bare, begins, leads}
use Rattle.ps_triple.specs.declared.entry.Entry.{Entry}

abbrev pub branch_commands : List Command
branch_commands =
    record { ops = Assign x (term ((x, pos 1) ∷ []) (pos 1)) ∷ [] }
    ∷ record { ops = [] }
    ∷ record { ops = Assume (row_on_x (negsuc 0) (pos 1)) ∷ [] }
    ∷ record { ops = Assume (row_on_x (pos 1) (pos 0)) ∷ [] }
    ∷ []

abbrev pub branch_setting : Setting
branch_setting = record {
  globals = 1;
  locals = 0;
  init_once = row_on_x (pos 1) (pos 0) ∷ row_on_x (negsuc 0) (pos 0) ∷ [];
  init_each = [];
  commands = branch_commands;
  symbols = forms_of branch_commands;
  once_declared = refl;
  each_declared = refl;
  each_local = refl;
  commands_declared = refl;
  formed = refl;
}

-- thread 0 adds, chooses, and finds x below 1
abbrev pub branch_trace : List (ℕ × ℕ)
branch_trace = (0, 0) ∷ (0, 1) ∷ (0, 3) ∷ []

-- that x is at least 0 at first, and that x + 1 is found to be at most 0
abbrev pub branch_lambda : List ℕ
branch_lambda = 0 ∷ 1 ∷ 1 ∷ []

-- `x >= 1` and `x >= 0`
abbrev pub branch_new : List Predicate
branch_new = record { arity = 0; row = row_on_x (negsuc 0) (pos 1) } ∷ record { arity = 0; row = row_on_x (negsuc 0) (pos 0) } ∷ []

abbrev pub branch_entries : List Entry
branch_entries =
    leads 1 3 0 (1 ∷ 1 ∷ 0 ∷ [])
    ∷ leads 1 1 1 (1 ∷ 1 ∷ [])
    ∷ leads 2 0 1 (1 ∷ 1 ∷ [])
    ∷ begins 2 (0 ∷ 1 ∷ 1 ∷ [])
    ∷ []

-- the letters of the branch, weighed
abbrev pub branch_letters : List Weighed
branch_letters = letters_of branch_setting branch_trace branch_lambda

-- `x + 1`, `x` and `x`: what the multipliers make of the letters from the first, the second and the third on
abbrev pub branch_sums : List Term
branch_sums = term ((x, pos 1) ∷ []) (pos 1) ∷ term ((x, pos 1) ∷ []) (pos 0) ∷ term ((x, pos 1) ∷ []) (pos 0) ∷ []

-- the interpolant of a predicate without slots, whose row had nothing to be divided by
abbrev pub bare_interpolant : ℕ → Interpolant
bare_interpolant n = record { atom = bare n; divisor = 1 }

-- three threads that do nothing, each with a local that is at least 0 at first
abbrev pub idle_trace : List (ℕ × ℕ)
idle_trace = (2, 0) ∷ (0, 0) ∷ (5, 0) ∷ []

-- the multipliers of the rows of threads 0, 2 and 5
abbrev pub idle_lambda : List ℕ
idle_lambda = 3 ∷ 4 ∷ 5 ∷ []

-- the predicate of threads 2, 5 and 3
abbrev pub three_threads : Atom
three_threads = record { predicate = 1; threads = 2 ∷ 5 ∷ 3 ∷ [] }
