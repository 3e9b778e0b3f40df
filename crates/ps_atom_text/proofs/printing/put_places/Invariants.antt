use Rattle.std.proofs.Common.{◌≡◌, ◌++◌, drop}
use Rattle.std.specs.List.{flat_map}
use Rattle.ps_atom_text.specs.Spelling.{place_text}
use Rattle.ps_atom_text.proofs.printing.put_places.Given as goal
use Rattle.ps_lines.specs.Tokens.{after_blank}

abbrev pub invariant-loop-place : goal.invariant-loop-place
invariant-loop-place l = l.out.items ++ flat_map (λ p. after_blank (place_text p)) (drop l.place-index l.places) ≡ l.fn.out.items ++ flat_map (λ p. after_blank (place_text p)) l.places
