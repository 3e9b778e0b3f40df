-- The lines that are written where there is no other answer.
use Rattle.std.specs.Prelude.{ℕ, List, ◌++◌, codes}
use Rattle.std.specs.Fmt.{decimal}
use Rattle.ps_lines.specs.declared.form_fault.FormFault.{FormFault}
use Rattle.ps_lines.specs.declared.form_name.FormName.{FormName}
use Rattle.ps_lines.specs.declared.form_name.FormName.TheVariants.{Cut, Word, Field, Number, Order, Count, Limit}

-- the name of a fault
abbrev pub fault_name : FormName → List ℕ
fault_name Cut = codes "cut"
fault_name Word = codes "word"
fault_name Field = codes "field"
fault_name Number = codes "number"
fault_name Order = codes "order"
fault_name Count = codes "count"
fault_name Limit = codes "limit"

-- the line that names the first fault and its place
abbrev pub fault_line : FormFault → List ℕ
fault_line fault = codes "input: line " ++ (decimal fault.line ++ (codes " field " ++ (decimal fault.field ++ (codes ": " ++ (fault_name fault.what ++ codes "\n")))))
