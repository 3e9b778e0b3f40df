-- The lines that say why a text is no program.
use Rattle.std.specs.Prelude.{ℕ, List, [], ◌∷◌, ◌++◌, Option, Some, None, codes, decimal}
use Rattle.ps_token.specs.declared.place.Place.{Place}
use Rattle.ps_tree.specs.declared.limit_name.LimitName.{LimitName}
use Rattle.ps_tree.specs.declared.limit_name.LimitName.TheVariants as limit
use Rattle.ps_parse.specs.declared.read_refusal.ReadRefusal.{ReadRefusal}
use Rattle.ps_parse.specs.declared.read_refusal.ReadRefusal.TheVariants as refusal

-- the name of a limit
abbrev pub limit_text : LimitName → List ℕ
limit_text limit.Globals = codes "globals"
limit_text limit.Locals = codes "locals"
limit_text limit.Init = codes "init"
limit_text limit.Depth = codes "depth"
limit_text limit.Alternatives = codes "alternatives"
limit_text limit.Paths = codes "paths"
limit_text limit.Rows = codes "rows"
limit_text limit.Numbers = codes "numbers"
limit_text limit.Locations = codes "locations"
limit_text limit.Edges = codes "edges"

-- `input: line L column C: `
abbrev pub place_text : Place → List ℕ
place_text place = (codes "input: line " ++ decimal place.line) ++ ((codes " column " ++ decimal place.column) ++ codes ": ")

-- the place, the name and a line feed
abbrev pub line_text : Place → List ℕ → List ℕ
line_text place name = place_text place ++ (name ++ 10 ∷ [])

-- The line of a refusal. Want of memory has none.
abbrev pub refusal_text : ReadRefusal → Option (List ℕ)
refusal_text (refusal.Token place) = Some (line_text place (codes "token"))
refusal_text (refusal.Grammar place) = Some (line_text place (codes "grammar"))
refusal_text (refusal.UnknownName place) = Some (line_text place (codes "unknown name"))
refusal_text (refusal.Twice place) = Some (line_text place (codes "name twice"))
refusal_text (refusal.NotLinear place) = Some (line_text place (codes "not linear"))
refusal_text (refusal.LoopInAtomic place) = Some (line_text place (codes "loop in atomic"))
refusal_text (refusal.Limit place limit) = Some (line_text place (codes "limit " ++ limit_text limit))
refusal_text (refusal.Memory e) = None
