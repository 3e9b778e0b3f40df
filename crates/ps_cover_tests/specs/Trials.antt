-- What comes of trying all lists that begin with some images.
use Rattle.std.specs.Prelude.{◌≡◌, ◌≢◌, ℕ, List, ◌++◌, length}
use Rattle.std.specs.Cmp.Lexicographic.{slice_cmp}
use Rattle.std.specs.Ordering.{nat_cmp}
use Rattle.std.specs.declared.cmp.Ordering.TheVariants.{Greater}
use Rattle.ps_config.specs.Configurations.{Configuration}
use Rattle.ps_cover.specs.Coverings.{IsCovering}

-- no list that begins with these images, and has so many more, is a covering
abbrev pub HasNone : Configuration → Configuration → List ℕ → List ℕ → ℕ → Type 0
HasNone small large threads to left = (rest : List ℕ) → length rest ≡ left → ¬ IsCovering small large threads (to ++ rest)

-- of the coverings that begin with these images, and have so many more, this is the first
pub record IsLeast (small large : Configuration) (threads to : List ℕ) (left : ℕ) (all : List ℕ) : Type 0 where
  pub rest : List ℕ
  pub is : all ≡ to ++ rest
  pub covering : IsCovering small large threads (to ++ rest)
  pub least : (other : List ℕ) → length other ≡ left → IsCovering small large threads (to ++ other) → slice_cmp nat_cmp rest other ≢ Greater
