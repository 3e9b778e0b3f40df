-- Up to where a list of fields goes.
use Rattle.std.specs.Prelude.{ℕ, Bool, true, not, List, ◌==◌}
use Rattle.std.specs.List.{list_any}
use Rattle.std.specs.Str.{bytes_eq}
use Rattle.ps_lines.specs.declared.until.Until.{Until}
use Rattle.ps_lines.specs.declared.until.Until.TheVariants.{LineEnd, Word, Lacks}

-- Whether a list goes on with this field.
abbrev pub goes : Until → List ℕ → Bool
goes LineEnd field = true
goes (Word word) field = not (bytes_eq field word.now)
goes (Lacks byte) field = list_any (λ b. b == byte) field
