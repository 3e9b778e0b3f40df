-- Vectors as the elimination holds them, with their rows and supports.
use Rattle.std.specs.Prelude.{◌≡◌, ◌≤◌, ◌<◌, ℕ, ℤ, pos, Bool, List, length, map, All, IsTrue, int_lt}
use Rattle.std.specs.Ordering.{int_eq}
use Rattle.ps_elim.specs.Combining.{AllFit, CombinationFits, eliminated, width}
use Rattle.ps_elim.specs.Places.{support_of}
use Rattle.ps_elim.specs.Stages.{PassesStage}
use Rattle.ps_elim.specs.Vectors.{IsSum}
use Rattle.ps_elim.specs.declared.limits.TheConstants.{MOST_VECTORS}
use Rattle.ps_elim.specs.declared.next.Next.{Next}
use Rattle.ps_elim.specs.declared.next.Next.TheVariants.{Set, Past128, TooWide}
use Rattle.ps_elim.specs.declared.sign.Sign.{Sign}
use Rattle.ps_elim.specs.declared.sign.Sign.TheVariants.{Zero, Positive, Negative}
use Rattle.ps_elim.specs.declared.weighted.Weighted.{Weighted}
use Rattle.ps_term.specs.Pairs.{coefficient}
use Rattle.ps_term.specs.declared.row.Row.{Row}
use Rattle.ps_term.specs.declared.var.Var.{Var}
use denote.Ref.{Bor}

-- the vectors alone
abbrev pub vectors_of : List Weighted → List (List ℕ)
vectors_of ws = map (λ w. w.vector) ws

-- the vector has an entry for each row, and its row and its support are kept with it
pub record IsWeighted (rows : List Row) (w : Weighted) : Type 0 where
  pub long : length w.vector ≡ length rows
  pub sum : IsSum rows w.vector w.row
  pub support : w.support ≡ support_of w.vector

-- the coefficient has the sign
abbrev pub is_of : Sign → ℤ → Bool
is_of Zero n = int_eq n (pos 0)
is_of Positive n = int_lt (pos 0) n
is_of Negative n = int_lt n (pos 0)

-- the coefficient that the kept row has
abbrev pub coefficient_in : Var → Weighted → ℤ
coefficient_in x w = coefficient x w.row.term.pairs

-- what the references point to
abbrev pub pointed_to : List (Bor Weighted) → List Weighted
pointed_to refs = map (λ r. r.now) refs

-- the row of the vector has a coefficient of the sign
abbrev pub IsPairable : List Row → Sign → Var → Weighted → Type 0
IsPairable rows sign x w = IsWeighted rows w × IsTrue (is_of sign (coefficient_in x w))

-- the rows of all of them do
abbrev pub ArePairable : List Row → Sign → Var → List Weighted → Type 0
ArePairable rows sign x ws = All (IsPairable rows sign x) ws

-- the making of each pair of a first and a second vector stays within 128 bits
abbrev pub AllPairsFit : List Row → Var → List (List ℕ) → List (List ℕ) → Type 0
AllPairsFit rows x ps qs = All (λ p. All (CombinationFits rows x p) qs) ps

-- what comes after a set of vectors by the elimination of a variable
abbrev pub IsNextSet : List Row → Var → List (List ℕ) → Next → Type 0
IsNextSet rows x vs (Set ws) =
    PassesStage rows vs x × All (IsWeighted rows) ws.items × (vectors_of ws.items ≡ eliminated rows x vs) × (length ws.items ≤ MOST_VECTORS)
IsNextSet rows x vs (TooWide count) = (MOST_VECTORS < width rows x vs) × (count ≡ width rows x vs)
IsNextSet rows x vs Past128 = (width rows x vs ≤ MOST_VECTORS) × ¬ AllFit rows x vs
