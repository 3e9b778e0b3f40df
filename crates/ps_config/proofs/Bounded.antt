-- How few threads a configuration has.
use Rattle.std.proofs.Common.{◌≡◌, ◌<◌, ◌≤◌, ◌+◌, ℕ, List, [], ◌∷◌, ◌++◌, length, map, get_or, refl, sym, ap, ap₂, ◌∙◌, subst, inl, inr, Contains, arith, Some}
use Rattle.std.proofs.lemmas.Bool.{cases_lt}
use Rattle.std.specs.List.{range_with_len}
use Rattle.std.specs.List.Sorted.{IsStrictlyIncreasing, IsStrictlySortedBy}
use Rattle.std.specs.Ordering.{nat_cmp}
use Rattle.std.proofs.lemmas.List.{length_push}
use Rattle.std.proofs.lemmas.List.FromFn.{length-range_with_len, get_or-range_with_len}
use Rattle.std.proofs.lemmas.Map.Keys.{sorted_from_strictly_increasing}
use Rattle.ps_atom.specs.Atoms.{atom_cmp}
use Rattle.ps_atom.specs.declared.atom.Atom.{Atom}
use Rattle.ps_config.specs.Configurations.{Configuration, threads_at}
use Rattle.ps_config.specs.Forms.{IsConfig, start_configuration}
use Rattle.ps_config.specs.declared.config.TheConstants.{MOST_THREADS}
use Rattle.ps_config.proofs.Comparing.{atom_not_less, number_not_less}
use Rattle.ps_config.proofs.Nexts.{Listed, listed_more}
use Rattle.ps_config.specs.Next.{IsNextThread}
use Rattle.ps_config.proofs.Once.{IsOnce, no_longer, once_sorted, once_from_mapped}

pub once_ascending : (xs : List ℕ) → IsStrictlyIncreasing xs → IsOnce xs
once_ascending xs up = once_sorted nat_cmp number_not_less xs (sorted_from_strictly_increasing xs up)

pub once_located : (c : Configuration) → IsConfig c → IsOnce c.at
once_located c is = once_from_mapped (λ (p : ℕ × ℕ). p.0) c.at (once_ascending (map (λ (p : ℕ × ℕ). p.0) c.at) is.located)

pub once_atoms : (c : Configuration) → IsConfig c → IsOnce c.atoms
once_atoms c is = once_sorted atom_cmp atom_not_less c.atoms is.ordered

-- so many numbers that ascend are threads at most
pub few_threads : (c : Configuration) → IsConfig c → (xs : List ℕ) → IsStrictlyIncreasing xs → ((t : ℕ) → Contains xs t → Contains (threads_at c) t) → length xs ≤ MOST_THREADS
few_threads c is xs up within =
    let w = is.few_threads in
    let le : length xs ≤ length w.1.0 = no_longer xs w.1.0 (once_ascending xs up) (λ t h. (w.1.1.occurring t).1 (within t h)) in
    omega (arith, le, w.1.2, w.2)

range_increasing : (n : ℕ) → IsStrictlyIncreasing (range_with_len 0 n)
range_increasing n k h =
    let long : length (range_with_len 0 n) ≡ n = length-range_with_len 0 n in
    rw (get_or-range_with_len 0 n k 0 (omega (arith, h, long)), get_or-range_with_len 0 n (k + 1) 0 (omega (arith, h, long))) (omega arith)

range_below : (n t : ℕ) → Contains (range_with_len 0 n) t → t < n
range_below n t h =
    let long : length (range_with_len 0 n) ≡ n = length-range_with_len 0 n in
    let is : get_or (range_with_len 0 n) h.0 t ≡ 0 + h.0 = get_or-range_with_len 0 n h.0 t (omega (arith, h.1, long)) in
    omega (arith, is, h.2, h.1, long)

-- where all numbers below one are threads, it is small
pub few_below : (c : Configuration) → IsConfig c → (n : ℕ) → ((t : ℕ) → t < n → Contains (threads_at c) t) → n ≤ MOST_THREADS
few_below c is n below =
    let le : length (range_with_len 0 n) ≤ MOST_THREADS = few_threads c is (range_with_len 0 n) (range_increasing n) (λ t h. below t (range_below n t h)) in
    let long : length (range_with_len 0 n) ≡ n = length-range_with_len 0 n in
    omega (arith, le, long)

-- one more number is a thread
pub below_more : (c : Configuration) (n : ℕ) → ((t : ℕ) → t < n → Contains (threads_at c) t) → Contains (threads_at c) n → (t : ℕ) → t < n + 1 → Contains (threads_at c) t
below_more c n below more t h = elim (cases_lt t n) [
  | inl lower ↦ below t lower
  | inr higher ↦ (let same : n ≡ t = omega (arith, h, higher) in subst (λ (u : ℕ). Contains (threads_at c) u) same more)
]

-- ---- the start

start_ordered : IsStrictlySortedBy atom_cmp start_configuration.atoms
unfolding IsStrictlySortedBy
start_ordered = (tt, tt)

pub start_is : IsConfig start_configuration
start_is = record {
  located = λ k h. (let f : ⊥ = omega (arith, h) in absurd f);
  ordered = start_ordered;
  few_threads = (1, (0 ∷ [], record { ascend = λ k h. (let f : ⊥ = omega (arith, h) in absurd f); occurring = λ t. ((λ h. h), (λ h. h)) }, refl), omega arith);
  few_atoms = omega arith;
}

pub start_from : (c : Configuration) → c ≡ start_configuration → IsConfig c
start_from c e = subst (λ (d : Configuration). IsConfig d) (sym e) start_is

pub start_lists : (at : List (ℕ × ℕ)) (none atoms : List Atom) (threads : List ℕ) → at ≡ (0, 1) ∷ [] → atoms ≡ none ++ record { predicate = 0; threads = threads } ∷ [] → none ≡ [] → threads ≡ []
    → IsConfig (record { at = at; atoms = atoms })
start_lists at none atoms threads places is first is_none =
    let atom : List ℕ → Atom = λ ts. record { predicate = 0; threads = ts } in
    let only : atoms ≡ start_configuration.atoms = is ∙ (ap (λ (qs : List Atom). qs ++ atom threads ∷ []) first ∙ ap (λ (ts : List ℕ). atom ts ∷ []) is_none) in
    start_from (record { at = at; atoms = atoms }) (ap₂ (λ (ps : List (ℕ × ℕ)) (qs : List Atom). let c : Configuration = record { at = ps; atoms = qs } in c) places only)

-- ---- threads listed one after another

-- there is room for one more thread
pub listed_few : (c : Configuration) → IsConfig c → (from m : ℕ) (list : List ℕ) → Listed (threads_at c) from list → IsNextThread (threads_at c) from (Some m) → length list < MOST_THREADS
listed_few c is from m list l next =
    let more = listed_more (threads_at c) from m list (list ++ m ∷ []) l next refl in
    let long : length (list ++ m ∷ []) ≡ length list + 1 = length_push list m in
    let le : length (list ++ m ∷ []) ≤ MOST_THREADS = few_threads c is (list ++ m ∷ []) more.ascend (λ t h. (more.below t h).0) in
    omega (arith, long, le)
