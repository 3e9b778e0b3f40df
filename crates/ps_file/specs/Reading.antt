-- Reading proofs, with the first fault.
use Rattle.std.specs.Prelude.{ℕ, List, Result, Ok, codes}
use Rattle.ps_atom_text.specs.Reading.{config_at, entry_at, predicate_at}
use Rattle.ps_file.specs.declared.limits.TheConstants.{MOST_CONFIGS, MOST_ENTRIES, MOST_PREDICATES}
use Rattle.ps_file.specs.declared.proof.Proof.{Proof}
use Rattle.ps_lines.specs.declared.form_fault.FormFault.{FormFault}
use Rattle.ps_lines.specs.Reading.{Position, Read, done_at, end_at, header_at, line_at, only_at, times_at, word_at}
use Rattle.ps_lines.specs.Steps.{◌>>=◌}

-- The line `proof 1`.
unfoldable pub version_at : Read (Unit {0})
version_at at = do
  w ← line_at (codes "proof") at
  v ← word_at (codes "1") w.1
  end_at v.1

-- A line of a word and a count, at most `limit`, and so many members.
unfoldable pub listed_at : {A : Type 0} → List ℕ → ℕ → Read A → Read (List A)
listed_at word limit read at = do
  n ← header_at word limit at
  times_at read n.0 n.1

-- The whole text, and nothing after it.
unfoldable pub proof_at : Position → Result Proof FormFault
proof_at at = do
  v ← version_at at
  predicates ← listed_at (codes "preds") MOST_PREDICATES predicate_at v.1
  entries ← listed_at (codes "entries") MOST_ENTRIES entry_at predicates.1
  configs ← listed_at (codes "configs") MOST_CONFIGS config_at entries.1
  e ← only_at (codes "end") configs.1
  d ← done_at e.1
  Ok (record { predicates = predicates.0; entries = entries.0; configs = configs.0 })
