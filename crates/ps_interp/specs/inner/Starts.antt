-- The multipliers of the rows at the start.
use Rattle.std.specs.Prelude.{◌≡◌, ℕ, ◌<◌, ◌^◌, ◌++◌, ◌∷◌, [], List, All, drop, length, map}
use Rattle.std.specs.List.{flat_map}
use Rattle.ps_atom.specs.declared.predicate.Predicate.{Predicate}
use Rattle.ps_command.specs.declared.setting.Setting.{Setting}
use Rattle.ps_interp.specs.Interpolants.{Interpolant}
use Rattle.ps_interp.specs.Weights.{once_weights, weights_by_thread, weights_of, weights_of_others, zeros}
use Rattle.ps_interp.specs.declared.interp_end.InterpEnd.{InterpEnd}
use Rattle.ps_interp.specs.declared.interp_end.InterpEnd.TheVariants.{Arity, Predicates, Past128, Memory}
use Rattle.ps_interp.specs.declared.meeting.Found.{Found}
use Rattle.ps_interp.specs.declared.start.StartWeights.{StartWeights}
use Rattle.ps_interp.specs.declared.start.ThreadWeights.{ThreadWeights}
use Rattle.ps_interp.specs.inner.Meetings.{IsListed}
use Rattle.ps_term.specs.declared.row.Row.{Row}
use Rattle.ps_trace.specs.Rows.{rows_at_start}
use Rattle.ps_triple.specs.Faults.{EntryHolds}
use Rattle.ps_triple.specs.declared.entry.Entry.{Entry}
use Rattle.ps_triple.specs.declared.entry.Entry.TheVariants.{Initial as OfInitial}

abbrev pub weights_in : ThreadWeights → ℕ × List ℕ
weights_in t = (t.thread, t.weights.now)

-- each thread with its multipliers
abbrev pub all_weights : List ThreadWeights → List (ℕ × List ℕ)
all_weights threads = map weights_in threads

-- each thread has as many as there are rows
abbrev pub HaveWeights : List Row → List ThreadWeights → Type 0
HaveWeights each threads = All (λ (t : ThreadWeights). length t.weights.now ≡ length each) threads

-- those of the rows that hold once, of each of these threads, and of the letters
pub record AreStartWeights (setting : Setting) (threads lambda : List ℕ) (start : StartWeights) : Type 0 where
  pub once : start.once.now ≡ once_weights setting lambda
  pub threads_are : all_weights start.threads.items ≡ weights_by_thread (length setting.init_each) threads (drop (length setting.init_once) lambda)
  pub each : HaveWeights setting.init_each start.threads.items
  pub letters : start.letters.now ≡ drop (length (rows_at_start setting threads)) lambda

-- those of the rows of an initial entry with these threads in its slots, but for the last row
abbrev pub weights_at : Setting → StartWeights → List ℕ → List ℕ
weights_at setting start slots =
    start.once.now
    ++ (flat_map (weights_of (zeros setting.init_each) (all_weights start.threads.items)) slots
    ++ weights_of_others (zeros setting.init_each) (all_weights start.threads.items) slots)

-- the number is one of 128 bits with a sign
abbrev pub IsSmall : ℕ → Type 0
IsSmall n = n < 2 ^ 127

-- the sums for all threads in no slot are
abbrev pub AreOthersSmall : Setting → List ThreadWeights → List ℕ → Type 0
AreOthersSmall setting threads slots = All IsSmall (weights_of_others (zeros setting.init_each) (all_weights threads) slots)

-- the initial entry of what stands at the first cut
abbrev pub initial_by : Setting → StartWeights → Interpolant → Entry
initial_by setting start q = OfInitial (record { predicate = q.atom.predicate; lambda = weights_at setting start q.atom.threads ++ q.divisor ∷ [] })

-- it is found
pub record IsStarted (setting : Setting) (start : StartWeights) (q : Interpolant) (old new : Found) : Type 0 where
  pub table : new.table ≡ old.table
  pub small : AreOthersSmall setting start.threads.items q.atom.threads
  pub holds : EntryHolds setting old.table (initial_by setting start q)
  pub listed : IsListed old.entries (initial_by setting start q) new.entries

-- why it isn't
abbrev pub EndsStarting : Setting → StartWeights → Interpolant → List Predicate → InterpEnd → Type 0
EndsStarting setting start q list (Arity at count) = ⊥
EndsStarting setting start q list (Predicates at) = ⊥
EndsStarting setting start q list Past128 = ¬ (AreOthersSmall setting start.threads.items q.atom.threads × EntryHolds setting list (initial_by setting start q))
EndsStarting setting start q list (Memory _) = Unit {0}
