use Rattle.std.proofs.Common.{ℕ, List, ◌++◌, map, ap, sym, subst, ◌∙◌, Contains}
use Rattle.std.specs.declared.vec.Vec.{Vec}
use Rattle.std.proofs.Common.{Global}
use Rattle.ps_atom.specs.declared.atom.Atom.{Atom}
use Rattle.ps_config.specs.Configurations.{Configuration}
use Rattle.ps_config.specs.Forms.{IsConfig}
use Rattle.ps_list.proofs.Members.{here, there}
use Rattle.ps_step.specs.declared.expansion.Successor.{Successor}
use Rattle.ps_demand.specs.Pools.{lists_of}
use Rattle.ps_step.specs.inner.Sets.{successor_of}
use Rattle.ps_step.proofs.Over.{pushed}
use Rattle.ps_step.proofs.step.push_sets.Goals as goal

pub loop-atoms-init : goal.loop-atoms-init
loop-atoms-init c = record {
  all = ap (λ (vs : List (Vec Atom Global)). c.args.successors.now.items ++ map (successor_of c.args.number c.args.thread c.args.at.now) (lists_of vs)) c.into_iter-atoms-iterator.ensures.into_iter_gives.0;
  fit = λ set h. c.requires set (subst (λ (vs : List (Vec Atom Global)). Contains (lists_of vs) set) c.into_iter-atoms-iterator.ensures.into_iter_gives.0 h);
}

pub new-config-requires : goal.new-config-requires
new-config-requires c =
    subst (λ (at : List (ℕ × ℕ)). IsConfig (record { at = at; atoms = c.in-Some.atoms.items })) (sym c.in_ok-from_slice.ensures.items)
    (c.loop-atoms.invariant.fit c.in-Some.atoms.items (subst (λ (vs : List (Vec Atom Global)). Contains (lists_of vs) c.in-Some.atoms.items) (sym c.in-Some.ensures.steps.0) (here c.in-Some.atoms.items (lists_of c.next.new.self.rest.items))))

pub loop-atoms-preserved : goal.loop-atoms-preserved
loop-atoms-preserved c = record {
  all = pushed (successor_of c.args.number c.args.thread c.args.at.now) c.loop-atoms.successors.items c.push.new.self.items (record { edge = c.args.number; thread = c.args.thread; config = c.new-config.result }) c.in-Some.atoms.items
      (lists_of c.loop-atoms.atoms-iterator.rest.items) (lists_of c.next.new.self.rest.items)
      (c.args.successors.now.items ++ map (successor_of c.args.number c.args.thread c.args.at.now) (lists_of c.args.sets.items)) c.in_ok-push.ensures.items
      (ap (λ (config : Configuration). let s : Successor = record { edge = c.args.number; thread = c.args.thread; config = config } in s) c.new-config.ensures
      ∙ ap (λ (at : List (ℕ × ℕ)). successor_of c.args.number c.args.thread at c.in-Some.atoms.items) c.in_ok-from_slice.ensures.items)
      (ap lists_of c.in-Some.ensures.steps.0) c.loop-atoms.invariant.all;
  fit = λ set h. c.loop-atoms.invariant.fit set (subst (λ (vs : List (Vec Atom Global)). Contains (lists_of vs) set) (sym c.in-Some.ensures.steps.0) (there c.in-Some.atoms.items (lists_of c.next.new.self.rest.items) set h));
}
