-- The entries of a refutation.
use Rattle.std.specs.Prelude.{ℕ, suc, ◌==◌, not, List, [], ◌∷◌, ◌++◌, filter, Option, Some, None, refl, if◌then◌else◌}
use Rattle.ps_atom.specs.Atoms.{renamed}
use Rattle.ps_atom.specs.declared.atom.Atom.{Atom}
use Rattle.ps_command.specs.declared.setting.Setting.{Setting}
use Rattle.ps_interp.specs.Interpolants.{Interpolant}
use Rattle.ps_interp.specs.Sums.{Weighed}
use Rattle.ps_interp.specs.Weights.{initial_weights, zeros}
use Rattle.ps_triple.specs.Entries.{false_atom}
use Rattle.ps_triple.specs.Rows.{form_in}
use Rattle.ps_triple.specs.declared.entry.Entry.{Entry}
use Rattle.ps_triple.specs.declared.entry.Entry.TheVariants.{Triple as OfTriple, Initial as OfInitial}

-- the threads of a triple in the order of their numbers: the one that runs the command, then the others of the atom after, in
-- slot order
abbrev pub numbered_threads : ℕ → List ℕ → List ℕ
numbered_threads thread slots = thread ∷ filter (λ t. not (t == thread)) slots

-- the place of a thread in a list
abbrev pub place_in : List ℕ → ℕ → ℕ
place_in [] t = 0
place_in (u ∷ us) t = if u == t then 0 else suc (place_in us t)

-- an atom with each thread by its number
abbrev pub with_numbers : List ℕ → Atom → Atom
with_numbers threads = renamed (place_in threads)

-- the triple of a letter from what stands before it, if anything, to what stands after it
abbrev pub triple_of : Weighed → Option Interpolant → Interpolant → Entry
triple_of w None after = OfTriple (record {
  pre = [];
  command = w.command;
  post = with_numbers (numbered_threads w.thread after.atom.threads) after.atom;
  lambda = w.weights ++ after.divisor ∷ [];
  ascends = refl;
})
triple_of w (Some before) after = OfTriple (record {
  pre = with_numbers (numbered_threads w.thread after.atom.threads) before.atom ∷ [];
  command = w.command;
  post = with_numbers (numbered_threads w.thread after.atom.threads) after.atom;
  lambda = before.divisor ∷ (w.weights ++ after.divisor ∷ []);
  ascends = refl;
})

-- the triple from false to false by a command: the row of false refutes by itself
abbrev pub false_triple : Setting → ℕ → Entry
false_triple setting command = OfTriple (record {
  pre = false_atom ∷ [];
  command = command;
  post = false_atom;
  lambda = 1 ∷ (zeros (form_in setting command).rows ++ 0 ∷ []);
  ascends = refl;
})

-- the initial entry of what stands at cut 0
abbrev pub initial_of : Setting → List (ℕ × ℕ) → List ℕ → Interpolant → Entry
initial_of setting trace lambda q = OfInitial (record {
  predicate = q.atom.predicate;
  lambda = initial_weights setting trace lambda q.atom.threads ++ q.divisor ∷ [];
})
