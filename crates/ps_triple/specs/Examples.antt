-- Worked examples. The counter: each thread adds 1 to the global x, which is 0 at first, by command 0, and then asserts that
-- x is at least 1, by command 1 where it is and command 2 where it isn't.
use Rattle.std.specs.Prelude.{ℕ, pos, negsuc, List, [], ◌∷◌, refl}
use Rattle.ps_term.specs.declared.row.Row.{Row}
use Rattle.ps_term.specs.declared.var.Var.TheVariants.{Local}
use Rattle.ps_farkas.specs.Examples.{row_on_x}
use Rattle.ps_command.specs.Commands.{forms_of}
use Rattle.ps_command.specs.Examples.{row, term, x}
use Rattle.ps_command.specs.declared.command.Command.{Command}
use Rattle.ps_command.specs.declared.op.Op.TheVariants.{Assume, Assign}
use Rattle.ps_command.specs.declared.setting.Setting.{Setting}
use Rattle.ps_atom.specs.Numbers.{false_predicate}
use Rattle.ps_atom.specs.declared.atom.Atom.{Atom}
use Rattle.ps_atom.specs.declared.predicate.Predicate.{Predicate}
use Rattle.ps_triple.specs.declared.entry.Entry.{Entry}
use Rattle.ps_triple.specs.declared.entry.Entry.TheVariants.{Triple as OfTriple, Initial as OfInitial}

abbrev pub counter_commands : List Command
counter_commands =
    record { ops = Assign x (term ((x, pos 1) ∷ []) (pos 1)) ∷ [] }
    ∷ record { ops = Assume (row_on_x (negsuc 0) (pos 1)) ∷ [] }
    ∷ record { ops = Assume (row_on_x (pos 1) (pos 0)) ∷ [] }
    ∷ []

abbrev pub counter_setting : Setting
counter_setting = record {
  globals = 1;
  locals = 0;
  init_once = row_on_x (pos 1) (pos 0) ∷ row_on_x (negsuc 0) (pos 0) ∷ [];
  init_each = [];
  commands = counter_commands;
  symbols = forms_of counter_commands;
  once_declared = refl;
  each_declared = refl;
  each_local = refl;
  commands_declared = refl;
  formed = refl;
}

-- false, `x >= 1` and `x >= 0`
abbrev pub counter_predicates : List Predicate
counter_predicates =
    false_predicate
    ∷ record { arity = 0; row = row_on_x (negsuc 0) (pos 1) }
    ∷ record { arity = 0; row = row_on_x (negsuc 0) (pos 0) }
    ∷ []

-- the atom of a predicate without slots
abbrev pub bare : ℕ → Atom
bare n = record { predicate = n; threads = [] }

-- that one atom before the command leads to one after it
abbrev pub leads : ℕ → ℕ → ℕ → List ℕ → Entry
leads before command after lambda =
    OfTriple (record { pre = bare before ∷ []; command = command; post = bare after; lambda = lambda; ascends = refl })

-- that the predicate holds at first
abbrev pub begins : ℕ → List ℕ → Entry
begins predicate lambda = OfInitial (record { predicate = predicate; lambda = lambda })

-- the entries that prove the counter safe
abbrev pub counter_entries : List Entry
counter_entries =
    begins 2 (0 ∷ 1 ∷ 1 ∷ [])
    ∷ leads 1 2 0 (1 ∷ 1 ∷ 0 ∷ [])
    ∷ leads 2 0 1 (1 ∷ 1 ∷ [])
    ∷ leads 1 1 1 (1 ∷ 0 ∷ 1 ∷ [])
    ∷ leads 2 0 2 (1 ∷ 1 ∷ [])
    ∷ leads 2 1 2 (1 ∷ 0 ∷ 1 ∷ [])
    ∷ []

-- that the local of a thread, or of a slot, is at least 0
abbrev pub at_least_0 : ℕ → Row
at_least_0 thread = row ((Local thread 0, negsuc 0) ∷ []) (pos 0)

-- a local that is at least 0 in each thread at first
abbrev pub local_setting : Setting
local_setting = record {
  globals = 0;
  locals = 1;
  init_once = [];
  init_each = at_least_0 0 ∷ [];
  commands = record { ops = [] } ∷ [];
  symbols = forms_of (record { ops = [] } ∷ []);
  once_declared = refl;
  each_declared = refl;
  each_local = refl;
  commands_declared = refl;
  formed = refl;
}

-- false, and that the local of a slot is at least 0
abbrev pub local_predicates : List Predicate
local_predicates = false_predicate ∷ record { arity = 1; row = at_least_0 0 } ∷ []

-- that the local of these threads is at least 0
abbrev pub of_threads : List ℕ → Atom
of_threads threads = record { predicate = 1; threads = threads }

-- that one such atom before the command without ops leads to one after it
abbrev pub keeps : List ℕ → List ℕ → List ℕ → Entry
keeps before after lambda = OfTriple
    (record { pre = of_threads before ∷ []; command = 0; post = of_threads after; lambda = lambda; ascends = refl })
