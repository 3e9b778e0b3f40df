-- Lists of which one has what the items of another determine or allow, place by place.
use Rattle.std.proofs.Common.{◌≡◌, refl, ap, ap₂, List, [], ◌∷◌, ◌++◌}
use Rattle.std.specs.List.{AllZip}

-- where each item determines the other, the list is determined
pub same_zip : {A B : Type 0} (R : A → B → Type 0) → ((x : A) (y z : B) → R x y → R x z → y ≡ z) → (xs : List A) (ys zs : List B) → AllZip R xs ys → AllZip R xs zs → ys ≡ zs
same_zip R one [] [] [] h k = refl
same_zip R one [] [] (z ∷ zs) h k = absurd k
same_zip R one [] (y ∷ ys) zs h k = absurd h
same_zip R one (x ∷ xs) [] zs h k = absurd h
same_zip R one (x ∷ xs) (y ∷ ys) [] h k = absurd k
same_zip {A} {B} R one (x ∷ xs) (y ∷ ys) (z ∷ zs) h k =
    ap₂ (λ (u : B) (us : List B). u ∷ us) (one x y z h.0 k.0) (same_zip R one xs ys zs h.1 k.1)

-- what the last item has stands last
pub record LastZipped {A B : Type 0} (R : A → B → Type 0) (xs : List A) (x : A) (zs : List B) : Type 0 where
  pub before : List B
  pub last : B
  pub each : AllZip R xs before
  pub at_last : R x last
  pub all : zs ≡ before ++ last ∷ []

pub last_zipped : {A B : Type 0} (R : A → B → Type 0) (xs : List A) (x : A) (zs : List B) → AllZip R (xs ++ x ∷ []) zs → LastZipped R xs x zs
last_zipped R [] x [] h = absurd h
last_zipped R [] x (z ∷ []) h = record { before = []; last = z; each = tt; at_last = h.0; all = refl }
last_zipped R [] x (z ∷ (y ∷ zs)) h = absurd h.1
last_zipped R (w ∷ xs) x [] h = absurd h
last_zipped {A} {B} R (w ∷ xs) x (z ∷ zs) h =
    let p : LastZipped R xs x zs = last_zipped R xs x zs h.1 in
    record { before = z ∷ p.before; last = p.last; each = (h.0, p.each); at_last = p.at_last; all = ap (λ (us : List B). z ∷ us) p.all }
