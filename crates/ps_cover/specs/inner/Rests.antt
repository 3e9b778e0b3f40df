-- What the search finds from the images so far.
use Rattle.std.specs.Prelude.{◌≡◌, ◌≢◌, ℕ, List, [], ◌∷◌, ◌++◌, map, length, drop, slice_index, Contains, Option, Some, None}
use Rattle.std.specs.Cmp.Lexicographic.{slice_cmp}
use Rattle.std.specs.Ordering.{nat_cmp}
use Rattle.std.specs.declared.cmp.Ordering.TheVariants.{Greater}
use Rattle.ps_atom.specs.Atoms.{IsInjectiveOn, renamed}
use Rattle.ps_atom.specs.declared.atom.Atom.{Atom}
use Rattle.ps_config.specs.Configurations.{Configuration, IsAt, threads_at, Embeds}
use Rattle.ps_config.specs.Sent.{sent}
use Rattle.ps_cover.specs.declared.partial.Partial.{Partial}
use Rattle.ps_cover.specs.declared.open.Probe.{Probe}
use Rattle.ps_cover.specs.declared.open.Probe.TheVariants.{Open, Closed, Barred}
use Rattle.ps_cover.specs.declared.search.Trial.{Trial}
use Rattle.ps_cover.specs.declared.search.Trial.TheVariants.{Found, Failed, Unfit}

abbrev pub large_of : List (ℕ × ℕ) → List Atom → Configuration
large_of at atoms = record { at = at; atoms = atoms }

-- so far these threads go to these images: those located, and the atoms with no other threads
pub record Fits (small large : Configuration) (threads to : List ℕ) : Type 0 where
  pub long : length to ≡ length threads
  pub apart : IsInjectiveOn (sent threads to) threads
  pub located : (t l : ℕ) → Contains threads t → IsAt small t l → IsAt large (sent threads to t) l
  pub atoms : (q : Atom) → Contains small.atoms q → ((t : ℕ) → Contains q.threads t → Contains threads t) → Contains large.atoms (renamed (sent threads to) q)

-- no embedding takes the threads to these images
abbrev pub NoWay : Configuration → Configuration → List ℕ → List ℕ → Type 0
NoWay small large threads to = (f : ℕ → ℕ) → Embeds small large f → map f threads ≡ to → ⊥

-- of the ways to go on the first, for the threads that are left
pub record IsFirstRest (small large : Configuration) (threads to left rest : List ℕ) : Type 0 where
  pub fits : Fits small large (threads ++ left) (to ++ rest)
  pub first : (other : List ℕ) → Fits small large (threads ++ left) (to ++ other) → slice_cmp nat_cmp rest other ≢ Greater

-- the images so far and the first way to go on, or none where there is no way
abbrev pub IsRestAnswer : Configuration → Configuration → Partial → List ℕ → Option (List ℕ) → Type 0
IsRestAnswer small large p left None = NoWay small large p.threads p.to
IsRestAnswer small large p left (Some all) = (rest : List ℕ) × (all ≡ p.to ++ rest) × IsFirstRest small large p.threads p.to left rest

-- the first of the threads that are left goes to the image too
abbrev pub one_more : Partial → List ℕ → ℕ → Partial
one_more p left image = record { threads = p.threads ++ slice_index left 0 ∷ []; to = p.to ++ image ∷ [] }

-- with the image the search goes on, or there is no way
abbrev pub IsTrial : Configuration → Configuration → Partial → List ℕ → ℕ → Trial → Type 0
IsTrial small large p left image (Found all) = IsRestAnswer small large (one_more p left image) (drop 1 left) (Some all)
IsTrial small large p left image Failed = IsRestAnswer small large (one_more p left image) (drop 1 left) None × (¬ Contains p.to image)
IsTrial small large p left image Unfit = IsRestAnswer small large (one_more p left image) (drop 1 left) None

-- with this image for the thread there is no way
abbrev pub Ends : Configuration → Configuration → Partial → ℕ → ℕ → Type 0
Ends small large p thread image = NoWay small large (p.threads ++ thread ∷ []) (p.to ++ image ∷ [])

-- none of these images has a way, and none is a thread's so far
abbrev pub HaveFailed : Configuration → Configuration → Partial → ℕ → List ℕ → Type 0
HaveFailed small large p thread failed = (w : ℕ) → Contains failed w → Ends small large p thread w × (¬ Contains p.to w)

-- each of these threads occurs
abbrev pub AllOccur : Configuration → List ℕ → Type 0
AllOccur small threads = (s : ℕ) → Contains threads s → Contains (threads_at small) s

-- the thread occurs and has no image yet
pub record Waits (small : Configuration) (threads : List ℕ) (thread : ℕ) : Type 0 where
  pub occurs : Contains (threads_at small) thread
  pub new : ¬ Contains threads thread

-- where the answer is that there is no way to go on, there is none
abbrev pub IsProbe : Configuration → Configuration → Partial → ℕ → ℕ → Probe → Type 0
IsProbe small large p thread image Open = Unit {0}
IsProbe small large p thread image Closed = Ends small large p thread image × (¬ Contains p.to image)
IsProbe small large p thread image Barred = Ends small large p thread image
