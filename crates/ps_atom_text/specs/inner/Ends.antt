-- What a call that reads a field promises.
use Rattle.std.specs.Prelude.{◌≡◌, Result, Ok, Err}
use Rattle.ps_atom_text.specs.declared.field_end.FieldEnd.{FieldEnd}
use Rattle.ps_atom_text.specs.declared.field_end.FieldEnd.TheVariants as field
use Rattle.ps_lines.specs.declared.form_end.FormEnd.{FormEnd}
use Rattle.ps_lines.specs.declared.form_end.FormEnd.TheVariants as form
use Rattle.ps_lines.specs.declared.form_fault.FormFault.{FormFault}
use Rattle.ps_lines.specs.declared.form_name.FormName.{FormName}

-- The answer is this one, unless memory runs out.
abbrev pub IsRead : {A : Type 0} → Result A FieldEnd → Result A FormName → Type 0
IsRead (Ok x) answer = answer ≡ Ok x
IsRead (Err (field.Fault what)) answer = answer ≡ Err what
IsRead (Err (field.Memory e)) answer = Unit {0}

-- The end of a field, at its place.
abbrev pub end_placed : FormFault → FieldEnd → FormEnd
end_placed place (field.Fault what) = form.Fault (record place { what = what })
end_placed place (field.Memory e) = form.Memory e
