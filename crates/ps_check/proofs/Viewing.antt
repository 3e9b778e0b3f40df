-- The entries and configurations as slices are those of the proof.
use Rattle.std.proofs.Common.{◌≡◌, ◌+◌, ℕ, List, subst, Contains, Some}
use Rattle.std.specs.Prelude.{slice_get}
use Rattle.ps_check.specs.inner.Stages.{AreAllCovered, AreClosedBefore, DoHold, IsClosedAt, IsFirstUncovered}
use Rattle.ps_check.specs.declared.steps.Step.{Step}
use Rattle.ps_check.proofs.Before.{before_more}
use Rattle.ps_config.specs.Configurations.{Configuration}
use Rattle.ps_demand.specs.Demands.{AreTied}
use Rattle.ps_file.specs.declared.proof.Proof.{Proof}
use Rattle.ps_graph.specs.declared.graph.Graph.{Graph}
use Rattle.ps_triple.specs.declared.entry.Entry.{Entry}

pub tied_of : (graph : Graph) (proof : Proof) (front : List Entry) → front ≡ proof.entries → DoHold graph proof → AreTied front
tied_of graph proof front is held entry h = (held.hold entry (subst (λ (es : List Entry). Contains es entry) is h)).tied

module _ (graph : Graph) (proof : Proof) (front : List Entry) (configs : List Configuration) (from c : Configuration) where
  pub covered_views : front ≡ proof.entries → configs ≡ proof.configs → from ≡ c → AreAllCovered graph front configs from → AreAllCovered graph proof.entries proof.configs c
  covered_views fe ce e all =
      subst (λ (d : Configuration). AreAllCovered graph proof.entries proof.configs d) e
      (subst (λ (cs : List Configuration). AreAllCovered graph proof.entries cs from) ce (subst (λ (es : List Entry). AreAllCovered graph es configs from) fe all))

  pub first_views : (step : Step) → front ≡ proof.entries → configs ≡ proof.configs → from ≡ c → IsFirstUncovered graph front configs from step → IsFirstUncovered graph proof.entries proof.configs c step
  first_views step fe ce e first =
      subst (λ (d : Configuration). IsFirstUncovered graph proof.entries proof.configs d step) e
      (subst (λ (cs : List Configuration). IsFirstUncovered graph proof.entries cs from step) ce (subst (λ (es : List Entry). IsFirstUncovered graph es configs from step) fe first))

pub closed_more : (graph : Graph) (proof : Proof) (n : ℕ) (c : Configuration) → AreClosedBefore graph proof n → slice_get proof.configs n ≡ Some c → IsClosedAt graph proof.entries proof.configs c → AreClosedBefore graph proof (n + 1)
closed_more graph proof n c before is closed = before_more (IsClosedAt graph proof.entries proof.configs) proof.configs n c before is closed
