-- What a list of minimal hitting sets says.
use Rattle.std.specs.Prelude.{ℕ, ◌<◌, List, length, All as Each}
use Rattle.std.specs.Ordering.{nat_cmp}
use Rattle.std.specs.Cmp.Lexicographic.{slice_cmp}
use Rattle.std.specs.List.Sorted.{IsStrictlySortedBy}
use Rattle.ps_hit.specs.declared.hits.Hits.{Hits}
use Rattle.ps_hit.specs.declared.hits.Hits.TheVariants.{All, TooMany}
use Rattle.ps_hit.specs.Hitting.{IsListedHit}

-- the answer is a list, of which this holds
abbrev pub IfAll : Hits → (List (List ℕ) → Type 0) → Type 0
IfAll (All hits) P = P hits
IfAll TooMany P = Unit {0}

-- this holds where the answer is that there are too many
abbrev pub OnTooMany : Hits → Type 0 → Type 0
OnTooMany (All hits) P = Unit {0}
OnTooMany TooMany P = P

-- each list is below the next in the lexicographic order, so none stands twice
abbrev pub IsLexicographic : List (List ℕ) → Type 0
IsLexicographic hits = IsStrictlySortedBy (slice_cmp nat_cmp) hits

-- there are more than `most` minimal hitting sets, of which this lists as many, each once
pub record HasMore (sets : List (List ℕ)) (most : ℕ) : Type 0 where
  pub hits : List (List ℕ)
  pub are_minimal : Each (IsListedHit sets) hits
  pub ordered : IsLexicographic hits
  pub more : most < length hits
