-- The threads that were met, in the order in which they were.
use Rattle.std.specs.Prelude.{◌≡◌, ◌↔◌, ℕ, ◌==◌, List, [], ◌∷◌, ◌++◌, Contains, Ok, if◌then◌else◌}
use Rattle.std.specs.List.{list_any}
use Rattle.ps_atom_text.specs.Forms.{different, in_form}
use Rattle.ps_config.specs.Configurations.{Configuration, threads_at}

-- with one more, where it wasn't met yet
abbrev pub met_with : List ℕ → ℕ → List ℕ
met_with met thread = if list_any (λ m. m == thread) met then met else met ++ thread ∷ []

-- with each of these
abbrev pub met_with_all : List ℕ → List ℕ → List ℕ
met_with_all met [] = met
met_with_all met (thread ∷ threads) = met_with_all (met_with met thread) threads

-- the configuration is in form, and these are the threads that occur in it, each once
pub record IsMet (met : List ℕ) (c : Configuration) : Type 0 where
  pub form : in_form c ≡ Ok c
  pub once : different met ≡ met
  pub occurring : (t : ℕ) → Contains met t ↔ Contains (threads_at c) t
