-- What a list of entries shows.
use Rattle.std.specs.Prelude.{◌≡◌, ℕ, ◌<◌, ◌≤◌, List, Option, Some, None, slice_get}
use Rattle.ps_triple.specs.declared.entry.Entry.{Entry}
use Rattle.ps_triple.specs.declared.entry.Entry.TheVariants.{Triple as OfTriple}
use Rattle.ps_triple.specs.declared.triple.Triple.{Triple}

-- entry n is a triple whose atom after has this predicate, and that has this command
pub record IsFor (entries : List Entry) (post command n : ℕ) : Type 0 where
  pub triple : Triple
  pub stands : slice_get entries n ≡ Some (OfTriple triple)
  pub post_is : triple.post.predicate ≡ post
  pub command_is : triple.command ≡ command

-- the least number from this one on of such a triple, or none where there is none
abbrev pub IsNextFor : List Entry → ℕ → ℕ → ℕ → Option ℕ → Type 0
IsNextFor entries post command from None = (n : ℕ) → from ≤ n → ¬ IsFor entries post command n
IsNextFor entries post command from (Some n) =
    (from ≤ n) × IsFor entries post command n × ((k : ℕ) → from ≤ k → k < n → ¬ IsFor entries post command k)
