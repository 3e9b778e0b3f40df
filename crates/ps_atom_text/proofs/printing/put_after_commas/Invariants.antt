use Rattle.std.proofs.Common.{◌≡◌, ◌∷◌, ◌++◌, drop}
use Rattle.std.specs.Prelude.{decimal}
use Rattle.std.specs.List.{flat_map}
use Rattle.ps_atom_text.proofs.printing.put_after_commas.Given as goal

abbrev pub invariant-loop-thread : goal.invariant-loop-thread
invariant-loop-thread l = l.out.items ++ flat_map (λ t. 44 ∷ decimal t) (drop l.thread-index l.threads) ≡ l.fn.out.items ++ flat_map (λ t. 44 ∷ decimal t) l.threads
