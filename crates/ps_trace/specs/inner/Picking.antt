-- Choices that are taken one after another.
use Rattle.std.specs.Prelude.{ℤ, List, [], ◌∷◌, ◌++◌, Option, Some, None, option_map, if◌then◌else◌}
use Rattle.std.specs.Ordering.{int_eq}
use Rattle.ps_graph.specs.Picks.{choice_of, havocs_of}
use Rattle.ps_graph.specs.declared.edge.Pick.{Pick}
use Rattle.ps_graph.specs.declared.edge.Pick.TheVariants.{Star, Value}

-- the havoc values after a pick's choice, where it fits
abbrev pub with_choice : List ℤ → Pick → ℤ → Option (List ℤ)
with_choice hs (Star b) c = if int_eq c (choice_of b) then Some hs else None
with_choice hs Value c = Some (hs ++ c ∷ [])

-- the values so far, and those of the picks and choices that are left
abbrev pub havocs_from : List ℤ → List Pick → List ℤ → Option (List ℤ)
havocs_from so_far ps cs = option_map (λ (hs : List ℤ). so_far ++ hs) (havocs_of ps cs)
