-- Lists in the form of a configuration, told by neighbours.
use Rattle.std.proofs.Common.{◌≡◌, ◌<◌, ◌≤◌, ◌+◌, ◌-◌, ℕ, Bool, true, false, zero, suc, List, [], ◌∷◌, length, map, get_or, refl, sym, ap, ◌∙◌, subst, inl, inr, arith}
use Rattle.std.specs.List.Sorted.{IsStrictlyIncreasing, IsStrictlySortedBy}
use Rattle.std.specs.Cmp.{IsTotalOrder}
use Rattle.std.specs.declared.cmp.Ordering.TheVariants.{Less}
use Rattle.std.proofs.lemmas.Cmp.{nat_cmp_total, nat_list_cmp_total, on_total, then_total}
use Rattle.std.proofs.lemmas.List.{length-map}
use Rattle.std.proofs.lemmas.Bool.{both_ways, cases_lt}
use Rattle.std.proofs.lemmas.Map.Keys.{sorted_from_all_adjacent, Less-from_sorted}
use Rattle.ps_atom.specs.Atoms.{atom_cmp}
use Rattle.ps_atom.specs.declared.atom.Atom.{Atom}
use Rattle.ps_config.specs.Configurations.{Configuration}
use Rattle.ps_config.specs.Forms.{HasThreadCount, IsConfig}
use Rattle.ps_config.specs.declared.config.TheConstants.{MOST_ATOMS, MOST_THREADS}
use Rattle.ps_config.proofs.Bounded.{once_ascending}
use Rattle.ps_config.proofs.Once.{no_longer}

-- ---- threads

abbrev pub thread_of : List (ℕ × ℕ) → ℕ → ℕ
thread_of at k = let nowhere : ℕ × ℕ = (0, 0) in (get_or at k nowhere).0

thread_is : (at : List (ℕ × ℕ)) (k : ℕ) → get_or (map (λ (p : ℕ × ℕ). p.0) at) k 0 ≡ thread_of at k
thread_is [] k = refl
thread_is (p ∷ at) zero = refl
thread_is (p ∷ at) (suc k) = thread_is at k

-- the threads before this place ascend
abbrev pub AscendTo : List (ℕ × ℕ) → ℕ → Type 0
AscendTo at place = (k : ℕ) → k + 1 < place → k + 1 < length at → thread_of at k < thread_of at (k + 1)

pub ascend_more : (at : List (ℕ × ℕ)) (place : ℕ) → AscendTo at place → 1 ≤ place → thread_of at (place - 1) < thread_of at place → AscendTo at (place + 1)
ascend_more at place up first lt k h inside = elim (cases_lt (k + 1) place) [
  | inl lower ↦ up k lower inside
  | inr higher ↦
      let same : place - 1 ≡ k = omega (arith, h, higher, first) in
      let next : place ≡ k + 1 = omega (arith, h, higher) in
      subst (λ (m : ℕ). thread_of at k < thread_of at m) next (subst (λ (m : ℕ). thread_of at m < thread_of at place) same lt)
]

pub ascend_all : (at : List (ℕ × ℕ)) (place : ℕ) → AscendTo at place → length at ≤ place → IsStrictlyIncreasing (map (λ (p : ℕ × ℕ). p.0) at)
ascend_all at place up end k h =
    let long : length (map (λ (p : ℕ × ℕ). p.0) at) ≡ length at = length-map at (λ (p : ℕ × ℕ). p.0) in
    let lt : thread_of at k < thread_of at (k + 1) = up k (omega (arith, h, long, end)) (omega (arith, h, long)) in
    omega (arith, lt, thread_is at k, thread_is at (k + 1))

pub ascend_not : (at : List (ℕ × ℕ)) (place : ℕ) → 1 ≤ place → place < length at → thread_of at place ≤ thread_of at (place - 1) → ¬ IsStrictlyIncreasing (map (λ (p : ℕ × ℕ). p.0) at)
ascend_not at place first inside ge up =
    let long : length (map (λ (p : ℕ × ℕ). p.0) at) ≡ length at = length-map at (λ (p : ℕ × ℕ). p.0) in
    let back : place - 1 + 1 ≡ place = omega (arith, first) in
    let lt : get_or (map (λ (p : ℕ × ℕ). p.0) at) (place - 1) 0 < get_or (map (λ (p : ℕ × ℕ). p.0) at) (place - 1 + 1) 0 = up (place - 1) (omega (arith, inside, long, first)) in
    let there : get_or (map (λ (p : ℕ × ℕ). p.0) at) (place - 1 + 1) 0 ≡ thread_of at place = ap (λ (m : ℕ). get_or (map (λ (p : ℕ × ℕ). p.0) at) m 0) back ∙ thread_is at place in
    omega (arith, lt, ge, thread_is at (place - 1), there)

-- ---- atoms

atom_total : IsTotalOrder atom_cmp
atom_total = then_total (on_total (λ (q : Atom). q.predicate) nat_cmp_total) (on_total (λ (q : Atom). q.threads) nat_list_cmp_total)

-- the atoms before this place ascend
abbrev pub AtomsAscendTo : List Atom → ℕ → Type 0
AtomsAscendTo atoms place = (k : ℕ) (d : Atom) → k + 1 < place → k + 1 < length atoms → atom_cmp (get_or atoms k d) (get_or atoms (k + 1) d) ≡ Less

pub atoms_more : (atoms : List Atom) (place : ℕ) → AtomsAscendTo atoms place → 1 ≤ place → ((d : Atom) → atom_cmp (get_or atoms (place - 1) d) (get_or atoms place d) ≡ Less) → AtomsAscendTo atoms (place + 1)
atoms_more atoms place up first less k d h inside = elim (cases_lt (k + 1) place) [
  | inl lower ↦ up k d lower inside
  | inr higher ↦
      let same : place - 1 ≡ k = omega (arith, h, higher, first) in
      let next : place ≡ k + 1 = omega (arith, h, higher) in
      subst (λ (m : ℕ). atom_cmp (get_or atoms k d) (get_or atoms m d) ≡ Less) next (subst (λ (m : ℕ). atom_cmp (get_or atoms m d) (get_or atoms place d) ≡ Less) same (less d))
]

pub atoms_all : (atoms : List Atom) (place : ℕ) → AtomsAscendTo atoms place → length atoms ≤ place → IsStrictlySortedBy atom_cmp atoms
atoms_all atoms place up end =
    let d : Atom = record { predicate = 0; threads = [] } in
    sorted_from_all_adjacent atom_total atoms d (λ k h. up k d (omega (arith, h, end)) h)

-- ---- both

one_count : (c : Configuration) (m n : ℕ) → HasThreadCount c m → HasThreadCount c n → m ≤ n
one_count c m n (xs, are, long) (ys, also, longer) =
    let le : length xs ≤ length ys = no_longer xs ys (once_ascending xs are.ascend) (λ t h. (also.occurring t).1 ((are.occurring t).0 h)) in
    omega (arith, le, long, longer)

pub config_from : (c : Configuration) (count : ℕ) → IsStrictlyIncreasing (map (λ (p : ℕ × ℕ). p.0) c.at) → IsStrictlySortedBy atom_cmp c.atoms → length c.atoms ≤ MOST_ATOMS → HasThreadCount c count → count ≤ MOST_THREADS → IsConfig c
config_from c count located ordered few has le = record { located = located; ordered = ordered; few_threads = (count, has, le); few_atoms = few }

pub config_count : (c : Configuration) (count : ℕ) → HasThreadCount c count → IsConfig c → count ≤ MOST_THREADS
config_count c count has is =
    let w = is.few_threads in
    let le : count ≤ w.0 = one_count c count w.0 has w.1 in
    omega (arith, le, w.2)

same_default : (xs : List Atom) (k : ℕ) (d e : Atom) → k < length xs → get_or xs k d ≡ get_or xs k e
same_default [] k d e h = absurd (omega (arith, h))
same_default (x ∷ xs) zero d e h = refl
same_default (x ∷ xs) (suc k) d e h = same_default xs k d e (omega (arith, h))

-- two neighbours that don't ascend
pub neighbours_not : (atoms : List Atom) (place : ℕ) (a b : Atom) (r : Bool) → a ≡ get_or atoms (place - 1) a → b ≡ get_or atoms place b → 1 ≤ place → place < length atoms → (atom_cmp a b ≡ Less → r ≡ true) → r ≡ false → ¬ IsStrictlySortedBy atom_cmp atoms
neighbours_not atoms place a b r is_a is_b first inside tells lacks up =
    let less : atom_cmp (get_or atoms (place - 1) a) (get_or atoms place a) ≡ Less = Less-from_sorted atom_cmp atoms (place - 1) place a up (omega (arith, first)) inside in
    let second : get_or atoms place a ≡ b = same_default atoms place a b inside ∙ sym is_b in
    both_ways r lacks (tells (subst (λ (x : Atom). atom_cmp a x ≡ Less) second (subst (λ (x : Atom). atom_cmp x (get_or atoms place a) ≡ Less) (sym is_a) less)))
