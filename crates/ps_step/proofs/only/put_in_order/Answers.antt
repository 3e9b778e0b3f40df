use Rattle.std.proofs.Common.{rules, of_calls}
use Rattle.std.specs.Ordering.{eq_by_cmp, is_lt}
use Rattle.std.proofs.lemmas.Fn.{always_returns_same, dedup_same}
use Rattle.ps_atom.specs.Atoms.{atom_cmp}
use Rattle.ps_atom.specs.declared.atom.Atom.{Atom}
use Rattle.ps_step.proofs.Alone.{atom_weak, once_ascends, once_same}
use Rattle.ps_step.proofs.only.put_in_order.Goals as goal

pub returns-clause-ascends : goal.returns-clause-ascends
returns-clause-ascends c =
    once_ascends c.sort_unstable_by.new.self.items c.dedup_by.new.self.items
    (c.sort_unstable_by.ensures.sorted (λ (p q : Atom). is_lt (atom_cmp p q)) atom_weak (always_returns_same _ _ _ (λ a r f k. search (rules, of_calls))))
    (dedup_same _ (eq_by_cmp atom_cmp) _ (λ x y b f' x' y' k. search rules) _ _ c.dedup_by.ensures.filtered)

pub returns-clause-same : goal.returns-clause-same
returns-clause-same c =
    once_same c.args.atoms.now.items c.sort_unstable_by.new.self.items c.dedup_by.new.self.items c.sort_unstable_by.ensures.permutation
    (dedup_same _ (eq_by_cmp atom_cmp) _ (λ x y b f' x' y' k. search rules) _ _ c.dedup_by.ensures.filtered)
