use Rattle.std.proofs.Common.{◌∷◌, sym, subst, Contains}
use Rattle.std.proofs.lemmas.Bool.{both_ways, false≢true}
use Rattle.ps_atom.specs.Atoms.{renamed}
use Rattle.ps_atom.specs.declared.atom.Atom.{Atom}
use Rattle.ps_config.specs.Sent.{sent}
use Rattle.ps_list.proofs.Mapped.{from_mapped}
use Rattle.ps_step.proofs.Seen.{all_seen, one_more}
use Rattle.ps_step.proofs.standing.meets_set.Goals as goal

pub loop-atom-preserved : goal.loop-atom-preserved
loop-atom-preserved c =
    one_more (λ (p : Atom). ¬ Contains c.args.atoms.now (renamed (sent (0 ∷ c.args.numbers.now) (c.args.thread ∷ c.args.images.now)) p)) c.args.pre.now c.loop-atom.atom-index c.atom-item.result c.loop-atom-test.true
    (subst (λ (p : Atom). ¬ Contains c.args.atoms.now (renamed (sent (0 ∷ c.args.numbers.now) (c.args.thread ∷ c.args.images.now)) p)) c.atom-item.is (λ h. both_ways c.has_renamed.result c.if-has_renamed.false (c.has_renamed.ensures.1 h))) c.loop-atom.invariant

pub returns : goal.returns
returns c = (
  (λ h. absurd (false≢true h)),
  (λ m.
      let w = from_mapped (renamed (sent (0 ∷ c.args.numbers.now) (c.args.thread ∷ c.args.images.now))) c.args.pre.now m.0 m.2 in
      absurd (all_seen (λ (p : Atom). ¬ Contains c.args.atoms.now (renamed (sent (0 ∷ c.args.numbers.now) (c.args.thread ∷ c.args.images.now)) p)) c.args.pre.now c.loop-atom.atom-index c.loop-atom-test.false c.loop-atom.invariant
      w.0 w.1 (subst (λ (q : Atom). Contains c.args.atoms.now q) (sym w.2) m.1))),
)
