use Rattle.std.proofs.Common.{List, length, subst, sym, ◌∙◌}
use Rattle.std.proofs.lemmas.Result.{IfOk-weaker}
use Rattle.ps_check.specs.declared.located.Located.{Located}
use Rattle.ps_check.specs.inner.Index.{AreCandidates, AreLocated}
use Rattle.ps_check.proofs.Indexing.{candidates_are}
use Rattle.ps_config.specs.Configurations.{Configuration}
use Rattle.ps_check.proofs.listed.Listed.candidates.Goals as goal

pub returns : goal.returns
returns c =
    IfOk-weaker c.candidates_in.result _ _
    (λ numbers those. subst (λ (cs : List Configuration). AreCandidates cs c.args.at.now numbers.items) c.self.view_is
    (candidates_are c.self.inside.configs.items c.as_slice.result.now c.args.at.now c.as_slice-3.result.now numbers.items
    (subst (λ (ls : List Located). AreLocated c.self.inside.configs.items (length c.self.inside.configs.items) ls) (sym c.as_slice.ensures.value) c.self.invariant.listed)
    (c.as_slice-3.ensures.value ∙ c.in_ok-locations.ensures) those))
    c.candidates_in.ensures
