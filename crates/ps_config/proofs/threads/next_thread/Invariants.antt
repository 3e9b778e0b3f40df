use Rattle.std.proofs.Common.{take, map, ◌++◌, ℕ}
use Rattle.std.specs.List.{flat_map}
use Rattle.ps_atom.specs.declared.atom.Atom.{Atom}
use Rattle.ps_config.specs.Next.{IsNextThread}
use Rattle.ps_config.proofs.threads.next_thread.Given as goal

abbrev pub invariant-loop-atom : goal.invariant-loop-atom
invariant-loop-atom l = IsNextThread (map (λ (p : ℕ × ℕ). p.0) l.at ++ flat_map (λ (q : Atom). q.threads) (take l.atom-index l.atoms)) l.from l.best
