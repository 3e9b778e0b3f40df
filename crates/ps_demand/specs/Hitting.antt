-- Lists that have something in common with each of several.
use Rattle.std.specs.Prelude.{List, Contains}

-- the two have something in common
abbrev pub MeetsSet : {A : Type 0} → List A → List A → Type 0
MeetsSet {A} xs set = (q : A) × Contains xs q × Contains set q

-- it has something in common with each of the sets
abbrev pub HitsAll : {A : Type 0} → List (List A) → List A → Type 0
HitsAll {A} sets xs = (set : List A) → Contains sets set → MeetsSet xs set

-- it hits all of the sets, and a part of it that does is all of it
pub record IsLeastHit {A : Type 0} (sets : List (List A)) (hit : List A) : Type 0 where
  pub hits : HitsAll sets hit
  pub least : (part : List A) → ((q : A) → Contains part q → Contains hit q) → HitsAll sets part → (q : A) → Contains hit q → Contains part q
