-- What atoms say of states, and which triples and predicates are true of all runs.
use Rattle.std.specs.Prelude.{◌≡◌, ℕ, ℤ, pos, ◌<◌, List, [], length, All, Some, slice_index_or}
use Rattle.ps_term.specs.declared.var.Var.{Var}
use Rattle.ps_term.specs.declared.var.Var.TheVariants.{Global, Local, Havoc}
use Rattle.ps_command.specs.Commands.{ops_of}
use Rattle.ps_command.specs.Fitting.{IsSized}
use Rattle.ps_command.specs.Initial.{IsInitial}
use Rattle.ps_command.specs.Run.{run_by, havocs_in}
use Rattle.ps_command.specs.declared.setting.Setting.{Setting}
use Rattle.ps_command.specs.declared.state.State.{State}
use Rattle.ps_atom.specs.Atoms.{HoldsAt}
use Rattle.ps_atom.specs.declared.atom.Atom.{Atom}
use Rattle.ps_atom.specs.declared.predicate.Predicate.{Predicate}
use Rattle.ps_triple.specs.Entries.{IsRenamed}
use Rattle.ps_triple.specs.Rows.{predicate_of}
use Rattle.ps_triple.specs.declared.triple.Triple.{Triple}

-- what a variable is worth in a state; a thread that there isn't has the locals of a guest
abbrev pub worth : State → List ℤ → Var → ℤ
worth s guest (Global n) = slice_index_or s.globals n (pos 0)
worth s guest (Local t n) = slice_index_or (slice_index_or s.locals t guest) n (pos 0)
worth s guest (Havoc _) = pos 0

-- the atom's predicate holds of its threads
abbrev pub HoldsOf : List Predicate → (Var → ℤ) → Atom → Type 0
HoldsOf predicates values q = HoldsAt values q.threads (predicate_of predicates q.predicate).row

-- the atom holds in a state
abbrev pub IsTrueIn : List Predicate → State → List ℤ → Atom → Type 0
IsTrueIn predicates s guest = HoldsOf predicates (worth s guest)

-- from every state in which the atoms before hold, every run of the command by the thread ends where the atom after holds
abbrev pub IsValid : Setting → List Predicate → ℕ → ℕ → List Atom → Atom → Type 0
IsValid setting predicates thread command before after = (s r : State) (guest hs : List ℤ) → IsSized setting s →
    thread < length s.locals → length hs ≡ havocs_in (ops_of setting.commands command) →
    run_by thread (ops_of setting.commands command) s hs ≡ Some r →
    All (IsTrueIn predicates s guest) before → IsTrueIn predicates r guest after

-- the triple is valid under every renaming of its threads
abbrev pub IsValidTriple : Setting → List Predicate → Triple → Type 0
IsValidTriple setting predicates t = (thread : ℕ) (before : List Atom) (after : Atom) →
    IsRenamed t thread before after → IsValid setting predicates thread t.command before after

-- the predicate holds of any threads in every initial state, where a thread that there isn't has the locals of thread 0
abbrev pub IsTrueAtFirst : Setting → List Predicate → ℕ → Type 0
IsTrueAtFirst setting predicates number = (s : State) (q : Atom) → IsInitial setting s → q.predicate ≡ number →
    IsTrueIn predicates s (slice_index_or s.locals 0 []) q
