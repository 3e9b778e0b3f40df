-- Injections as lists of images, one for each thread in ascending order.
use Rattle.std.specs.Prelude.{◌≡◌, ◌≢◌, ℕ, List, length, take}
use Rattle.std.specs.Cmp.Lexicographic.{slice_cmp}
use Rattle.std.specs.Ordering.{nat_cmp}
use Rattle.std.specs.declared.cmp.Ordering.TheVariants.{Greater}
use Rattle.ps_config.specs.Configurations.{Configuration, Embeds}
use Rattle.ps_config.specs.Forms.{AreThreads}
use Rattle.ps_config.specs.Sent.{sent}
use Rattle.ps_cover.specs.declared.injection.Injection.{Injection}

-- the threads, each to its image, embed the smaller configuration in the larger one
pub record IsCovering (small large : Configuration) (threads to : List ℕ) : Type 0 where
  pub long : length to ≡ length threads
  pub embeds : Embeds small large (sent threads to)

-- and no images that do so come before these in the lexicographic order
pub record IsFirstCovering (small large : Configuration) (threads to : List ℕ) : Type 0 where
  pub covering : IsCovering small large threads to
  pub first : (other : List ℕ) → IsCovering small large threads other → slice_cmp nat_cmp to other ≢ Greater

-- these are the images of the first injection, for the threads in ascending order
abbrev pub IsFirstInjection : Configuration → Configuration → List ℕ → Type 0
IsFirstInjection small large to = (threads : List ℕ) × AreThreads small threads × IsFirstCovering small large threads to

-- the images of an injection
abbrev pub images : Injection → List ℕ
images i = take i.count i.to
