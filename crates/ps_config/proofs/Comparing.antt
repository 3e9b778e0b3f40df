-- What is equal by the orders of atoms and of configurations is one.
use Rattle.std.proofs.Common.{◌≡◌, ◌≢◌, ◌<◌, ◌≤◌, ℕ, Bool, true, is_eq, List, [], ◌∷◌, length, drop, sym, ap, ap₂, ◌∙◌, subst, refl, arith}
use Rattle.std.specs.Cmp.Lexicographic.{slice_cmp}
use Rattle.std.specs.Ordering.{nat_cmp, ordering_then}
use Rattle.std.specs.declared.cmp.Ordering.{Ordering}
use Rattle.std.specs.declared.cmp.Ordering.TheVariants.{Less, Equal, Greater}
use Rattle.std.proofs.lemmas.Bool.{false≢true}
use Rattle.std.proofs.lemmas.Cmp.{ranked, tied_itself, nat_cmp_total, nat_list_cmp_total}
use Rattle.std.proofs.lemmas.List.{drop_all, length-drop}
use Rattle.ps_atom.specs.Atoms.{atom_cmp}
use Rattle.ps_atom.specs.declared.atom.Atom.{Atom}
use Rattle.ps_config.specs.Configurations.{Configuration}
use Rattle.ps_config.specs.Forms.{place_cmp, config_cmp}

pub then_equal : (a b : Ordering) → ordering_then a b ≡ Equal → (a ≡ Equal) × (b ≡ Equal)
then_equal Less b h = absurd (let f : ⊥ = cc in f)
then_equal Equal b h = (refl, h)
then_equal Greater b h = absurd (let f : ⊥ = cc in f)

equal_then : (a b : Ordering) → a ≡ Equal → b ≡ Equal → ordering_then a b ≡ Equal
equal_then a b e f = ap (λ (o : Ordering). ordering_then o b) e ∙ f

lists_equal : {X : Type 0} (R : X → X → Ordering) → ((x y : X) → R x y ≡ Equal → x ≡ y) → (xs ys : List X) → slice_cmp R xs ys ≡ Equal → xs ≡ ys
lists_equal R tell [] [] h = refl
lists_equal R tell [] (y ∷ ys) h = absurd (let f : ⊥ = cc in f)
lists_equal R tell (x ∷ xs) [] h = absurd (let f : ⊥ = cc in f)
lists_equal {X} R tell (x ∷ xs) (y ∷ ys) h =
    let both = then_equal (R x y) (slice_cmp R xs ys) h in
    ap₂ (λ (z : X) (zs : List X). z ∷ zs) (tell x y both.0) (lists_equal R tell xs ys both.1)

equal_lists : {X : Type 0} (R : X → X → Ordering) → ((x : X) → R x x ≡ Equal) → (xs : List X) → slice_cmp R xs xs ≡ Equal
equal_lists R itself [] = refl
equal_lists R itself (x ∷ xs) = equal_then (R x x) (slice_cmp R xs xs) (itself x) (equal_lists R itself xs)

numbers_equal : (m n : ℕ) → nat_cmp m n ≡ Equal → m ≡ n
numbers_equal m n h = ranked m n Equal (sym h)

atoms_equal : (a b : Atom) → atom_cmp a b ≡ Equal → a ≡ b
atoms_equal a b h =
    let both = then_equal (nat_cmp a.predicate b.predicate) (slice_cmp nat_cmp a.threads b.threads) h in
    ap₂ (λ (p : ℕ) (ts : List ℕ). let q : Atom = record { predicate = p; threads = ts } in q) (numbers_equal a.predicate b.predicate both.0) (lists_equal nat_cmp numbers_equal a.threads b.threads both.1)

pub atom_itself : (a : Atom) → atom_cmp a a ≡ Equal
atom_itself a = equal_then (nat_cmp a.predicate a.predicate) (slice_cmp nat_cmp a.threads a.threads) (tied_itself nat_cmp_total a.predicate) (tied_itself nat_list_cmp_total a.threads)

pub atom_not_less : (a : Atom) → atom_cmp a a ≢ Less
atom_not_less a h = (let e : Equal ≡ Less = sym (atom_itself a) ∙ h in let f : ⊥ = cc in f)

pub number_not_less : (n : ℕ) → nat_cmp n n ≢ Less
number_not_less n h = (let e : Equal ≡ Less = sym (tied_itself nat_cmp_total n) ∙ h in let f : ⊥ = cc in f)

places_equal : (p q : ℕ × ℕ) → place_cmp p q ≡ Equal → p ≡ q
places_equal p q h =
    let both = then_equal (nat_cmp p.0 q.0) (nat_cmp p.1 q.1) h in
    ap₂ (λ (t l : ℕ). let r : ℕ × ℕ = (t, l) in r) (numbers_equal p.0 q.0 both.0) (numbers_equal p.1 q.1 both.1)

place_itself : (p : ℕ × ℕ) → place_cmp p p ≡ Equal
place_itself p = equal_then (nat_cmp p.0 p.0) (nat_cmp p.1 p.1) (tied_itself nat_cmp_total p.0) (tied_itself nat_cmp_total p.1)

pub configs_equal : (a b : Configuration) → config_cmp a b ≡ Equal → a ≡ b
configs_equal a b h =
    let both = then_equal (slice_cmp place_cmp a.at b.at) (slice_cmp atom_cmp a.atoms b.atoms) h in
    ap₂ (λ (at : List (ℕ × ℕ)) (atoms : List Atom). let c : Configuration = record { at = at; atoms = atoms } in c) (lists_equal place_cmp places_equal a.at b.at both.0) (lists_equal atom_cmp atoms_equal a.atoms b.atoms both.1)

pub config_itself : (a b : Configuration) → a ≡ b → config_cmp a b ≡ Equal
config_itself a b e =
    subst (λ (c : Configuration). config_cmp a c ≡ Equal) e
    (equal_then (slice_cmp place_cmp a.at a.at) (slice_cmp atom_cmp a.atoms a.atoms) (equal_lists place_cmp place_itself a.at) (equal_lists atom_cmp atom_itself a.atoms))

-- a list that is done comes first where the other goes on
pub shorter_less : (xs ys : List Atom) (i : ℕ) → slice_cmp atom_cmp (drop i xs) (drop i ys) ≡ slice_cmp atom_cmp xs ys → length xs ≤ i → i ≤ length xs → length xs < length ys → Less ≡ slice_cmp atom_cmp xs ys
shorter_less xs ys i same done end more = at (drop i xs) (drop i ys) (drop_all i xs done) (omega (arith, length-drop i ys, end, more)) ∙ same
  where
    at : (ps qs : List Atom) → ps ≡ [] → 0 < length qs → Less ≡ slice_cmp atom_cmp ps qs
    at ps [] e h = (let f : ⊥ = omega (arith, h) in absurd f)
    at ps (q ∷ qs) e h = subst (λ (zs : List Atom). Less ≡ slice_cmp atom_cmp zs (q ∷ qs)) (sym e) refl

is_equal : (o : Ordering) → is_eq o ≡ true → o ≡ Equal
is_equal Less h = absurd (false≢true h)
is_equal Equal h = refl
is_equal Greater h = absurd (false≢true h)

-- the order tells whether two configurations are one
pub same_by_order : (a b : Configuration) (r : Bool) (o : Ordering) → r ≡ is_eq o → o ≡ config_cmp a b → (r ≡ true → a ≡ b) × (a ≡ b → r ≡ true)
same_by_order a b r o e f = ((λ h. configs_equal a b (sym f ∙ is_equal o (sym e ∙ h))), (λ h. e ∙ ap is_eq (f ∙ config_itself a b h)))
