use Rattle.std.proofs.Common.{ℕ, List, ◌++◌, subst, map, get_or}
use Rattle.std.proofs.lemmas.List.{take_all}
use Rattle.ps_atom.specs.Atoms.{threads_of}
use Rattle.ps_atom.specs.declared.atom.Atom.{Atom}
use Rattle.ps_config.specs.Next.{IsNextThread}
use Rattle.ps_config.proofs.Nexts.{next_atom_step}
use Rattle.ps_config.proofs.threads.next_thread.Goals as goal

pub loop-atom-preserved : goal.loop-atom-preserved
loop-atom-preserved c =
    let n : IsNextThread c.atom-item.result.threads c.args.from c.next_number.result = rw (← c.as_slice.ensures) c.next_number.ensures in
    let k : IsNextThread ((get_or c.args.atoms.now c.loop-atom.atom-index c.atom-item.result).threads) c.args.from c.next_number.result = subst (λ (q : Atom). IsNextThread q.threads c.args.from c.next_number.result) c.atom-item.is n in
    rw c.least-best.ensures (next_atom_step (map (λ (p : ℕ × ℕ). p.0) c.args.at.now) c.args.atoms.now c.loop-atom.atom-index c.args.from c.atom-item.result c.loop-atom.best c.next_number.result c.loop-atom-test.true c.loop-atom.invariant k)

pub returns : goal.returns
returns c = subst (λ (xs : List Atom). IsNextThread (map (λ (p : ℕ × ℕ). p.0) c.args.at.now ++ threads_of xs) c.args.from c.loop-atom.best) (take_all c.loop-atom.atom-index c.args.atoms.now c.loop-atom-test.false) c.loop-atom.invariant
