use Rattle.std.proofs.Common.{refl, subst}
use Rattle.std.specs.List.{filter_map}
use Rattle.std.proofs.lemmas.Bool.{both_ways, false≢true}
use Rattle.ps_atom.specs.declared.atom.Atom.{Atom}
use Rattle.ps_list.proofs.Mapped.{flat_mapped, from_flat_mapped}
use Rattle.ps_demand.specs.Demands.{demand}
use Rattle.ps_demand.specs.Hitting.{HitsAll}
use Rattle.ps_step.proofs.Seen.{all_seen, one_more, read_in}
use Rattle.ps_step.proofs.standing.meets.Goals as goal

pub returns-then-not-meets_atom : goal.returns-then-not-meets_atom
returns-then-not-meets_atom g c = (
  (λ h. absurd (false≢true h)),
  (λ hits. absurd (both_ways c.meets_atom.result c.if-not-meets_atom.true (c.meets_atom.ensures.1 (λ set h. hits set
      (flat_mapped (λ (q : Atom). filter_map (demand c.args.thread c.args.command q) (g.B.Shown.entries c.args.basis.now)) c.args.demanding.now c.atom-item.result set
      (read_in c.args.demanding.now c.loop-atom.atom-index c.atom-item.result c.loop-atom-test.true c.atom-item.is) h))))),
)

pub loop-atom-preserved : goal.loop-atom-preserved
loop-atom-preserved g c =
    one_more (λ (q : Atom). HitsAll (filter_map (demand c.args.thread c.args.command q) (g.B.Shown.entries c.args.basis.now)) c.args.atoms.now) c.args.demanding.now c.loop-atom.atom-index c.atom-item.result c.loop-atom-test.true
    (subst (λ (q : Atom). HitsAll (filter_map (demand c.args.thread c.args.command q) (g.B.Shown.entries c.args.basis.now)) c.args.atoms.now) c.atom-item.is (c.meets_atom.ensures.0 c.if-not-meets_atom.false)) c.loop-atom.invariant

pub returns : goal.returns
returns g c = (
  (λ h set k.
      let w = from_flat_mapped (λ (q : Atom). filter_map (demand c.args.thread c.args.command q) (g.B.Shown.entries c.args.basis.now)) c.args.demanding.now set k in
      all_seen (λ (q : Atom). HitsAll (filter_map (demand c.args.thread c.args.command q) (g.B.Shown.entries c.args.basis.now)) c.args.atoms.now) c.args.demanding.now c.loop-atom.atom-index c.loop-atom-test.false c.loop-atom.invariant
      w.0 w.1 set w.2),
  (λ h. refl),
)
