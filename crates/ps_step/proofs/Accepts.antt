-- The two tests of an accepting configuration.
use Rattle.std.proofs.Common.{◌≡◌, ℕ, Bool, true, false, List, sym, subst}
use Rattle.std.proofs.lemmas.Bool.{both_ways}
use Rattle.ps_atom.specs.declared.atom.Atom.{Atom}
use Rattle.ps_config.specs.Configurations.{Configuration}
use Rattle.ps_graph.specs.declared.graph.Graph.{Graph}
use Rattle.ps_step.specs.Steps.{AreEntered, AreUninitial, IsAccepting}
use Rattle.ps_triple.specs.declared.entry.Entry.{Entry}

module _ (graph : Graph) (entries : List Entry) (c : Configuration) (locations : List ℕ) (at : List (ℕ × ℕ)) (a : Bool)
    (are_entries : locations ≡ graph.entries) (is_at : at ≡ c.at) (told : (a ≡ true → AreEntered locations at) × (AreEntered locations at → a ≡ true)) where
  entered_of : a ≡ true → AreEntered graph.entries c.at
  entered_of h = subst (λ (ls : List ℕ). AreEntered ls c.at) are_entries (subst (AreEntered locations) is_at (told.0 h))

  of_entered : AreEntered graph.entries c.at → a ≡ true
  of_entered h = told.1 (subst (λ (ls : List ℕ). AreEntered ls at) (sym are_entries) (subst (AreEntered graph.entries) (sym is_at) h))

  pub second_decides : (atoms : List Atom) (b : Bool) → atoms ≡ c.atoms → (b ≡ true → AreUninitial entries atoms) × (AreUninitial entries atoms → b ≡ true) → a ≡ true →
      (b ≡ true → IsAccepting graph entries c) × (IsAccepting graph entries c → b ≡ true)
  second_decides atoms b is says first = (
    (λ h. record { entered = entered_of first; without = subst (AreUninitial entries) is (says.0 h) }),
    (λ accepting. says.1 (subst (AreUninitial entries) (sym is) accepting.without)),
  )

  pub first_refuses : a ≡ false → (a ≡ true → IsAccepting graph entries c) × (IsAccepting graph entries c → a ≡ true)
  first_refuses no_entry = ((λ h. absurd (both_ways a no_entry h)), (λ accepting. of_entered accepting.entered))
