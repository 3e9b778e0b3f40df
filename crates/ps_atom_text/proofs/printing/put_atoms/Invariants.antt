use Rattle.std.proofs.Common.{◌≡◌, ◌++◌, drop}
use Rattle.std.specs.List.{flat_map}
use Rattle.ps_atom_text.specs.Spelling.{atom_text}
use Rattle.ps_atom_text.proofs.printing.put_atoms.Given as goal
use Rattle.ps_lines.specs.Tokens.{after_blank}

abbrev pub invariant-loop-atom : goal.invariant-loop-atom
invariant-loop-atom l = l.out.items ++ flat_map (λ q. after_blank (atom_text q)) (drop l.atom-index l.atoms) ≡ l.fn.out.items ++ flat_map (λ q. after_blank (atom_text q)) l.atoms
