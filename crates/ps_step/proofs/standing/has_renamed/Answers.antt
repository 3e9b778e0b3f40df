use Rattle.std.proofs.Common.{◌≡◌, ◌∷◌, refl, subst}
use Rattle.std.proofs.lemmas.Bool.{both_ways, false≢true}
use Rattle.ps_atom.specs.Atoms.{renamed}
use Rattle.ps_atom.specs.declared.atom.Atom.{Atom}
use Rattle.ps_config.specs.Sent.{sent}
use Rattle.ps_step.proofs.Seen.{all_seen, one_more}
use Rattle.ps_step.proofs.standing.has_renamed.Goals as goal

pub loop-other-preserved : goal.loop-other-preserved
loop-other-preserved c =
    one_more (λ (q : Atom). ¬ (renamed (sent (0 ∷ c.args.numbers.now) (c.args.thread ∷ c.args.images.now)) c.args.atom.now ≡ q)) c.args.atoms.now c.loop-other.other-index c.other-item.result c.loop-other-test.true
    (subst (λ (q : Atom). ¬ (renamed (sent (0 ∷ c.args.numbers.now) (c.args.thread ∷ c.args.images.now)) c.args.atom.now ≡ q)) c.other-item.is (λ e. both_ways c.is_renamed.result c.if-is_renamed.false (c.is_renamed.ensures.1 e))) c.loop-other.invariant

pub returns : goal.returns
returns c = (
  (λ h. absurd (false≢true h)),
  (λ h. absurd (all_seen (λ (q : Atom). ¬ (renamed (sent (0 ∷ c.args.numbers.now) (c.args.thread ∷ c.args.images.now)) c.args.atom.now ≡ q)) c.args.atoms.now c.loop-other.other-index c.loop-other-test.false c.loop-other.invariant
      (renamed (sent (0 ∷ c.args.numbers.now) (c.args.thread ∷ c.args.images.now)) c.args.atom.now) h refl)),
)
