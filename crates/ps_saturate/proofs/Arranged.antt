-- The lists of distinct threads, and the atoms of them.
use Rattle.std.proofs.Common.{◌≡◌, ◌≢◌, ◌<◌, ◌≤◌, ◌+◌, ◌-◌, ◌==◌, ℕ, zero, suc, Bool, true, false, not, List, [], ◌∷◌, ◌++◌, map, length, drop, take, refl, sym, ap, ◌∙◌, subst, inl, inr, ◌⊎◌, Contains, All, AllPairs, arith}
use Rattle.std.specs.Cmp.Lexicographic.{slice_cmp}
use Rattle.std.specs.List.{filter, list_any}
use Rattle.std.specs.List.Sorted.{IsStrictlySortedBy}
use Rattle.std.specs.Ordering.{nat_cmp, ordering_then}
use Rattle.std.specs.declared.cmp.Ordering.{Ordering}
use Rattle.std.specs.declared.cmp.Ordering.TheVariants.{Less}
use Rattle.std.proofs.lemmas.Bool.{both_ways, false≢true, true≢false}
use Rattle.std.proofs.lemmas.Bool.Decides.{nat_tests}
use Rattle.std.proofs.lemmas.Cmp.{nat_cmp_total, tied_itself}
use Rattle.std.proofs.lemmas.List.{take-append-drop}
use Rattle.std.proofs.lemmas.List.Elements.{All-contains, All-nil, Contains-append_cases, Contains-append_left, Contains-append_right}
use Rattle.std.proofs.lemmas.List.Kept.{AllPairs-cons}
use Rattle.ps_atom.specs.Atoms.{atom_cmp}
use Rattle.ps_atom.specs.declared.atom.Atom.{Atom}
use Rattle.ps_atom.specs.declared.predicate.Predicate.{Predicate}
use Rattle.ps_command.specs.declared.setting.Setting.{Setting}
use Rattle.ps_list.proofs.Mapped.{flat_mapped, from_flat_mapped, from_kept, from_mapped, kept, mapped}
use Rattle.ps_list.proofs.Members.{nothing, cons_cases, here, there}
use Rattle.ps_list.proofs.Numbers.{has_from, has_to}
use Rattle.ps_saturate.proofs.Ascents.{all_from, map_sorted, sorted_append, sorted_cons, sorted_kept, sorted_nil}
use Rattle.ps_saturate.specs.Patterns.{FitsSlots, post_threads, threads_from}
use Rattle.ps_saturate.specs.inner.Arranging.{AreThreadsOf, arrangements, atom_with, lacks, led_by, led_by_each, thread_count}
use Rattle.ps_saturate.specs.inner.Trials.{AreChoices, IsChoice, IsUsable, atoms_of}
use Rattle.ps_saturate.specs.declared.choice.Choice.{Choice}
use Rattle.ps_saturate.specs.declared.pattern.Pattern.{Pattern}
use Rattle.ps_saturate.specs.declared.pattern.Pattern.TheVariants.{None, Mover, Other}
use Rattle.ps_triple.specs.Rows.{predicate_of}
use Rattle.ps_triple.specs.Tests.{HasThreadsOnce, IsAtomOf, IsThere, IsTiedTo}

-- ---- threads from one on

pub from_threads : (first count n : ℕ) → Contains (threads_from first count) n → (first ≤ n) × (n < first + count)
from_threads first zero n h = absurd (nothing n h)
from_threads first (suc count) n h = elim (cons_cases first (threads_from (first + 1) count) n h) [
  | inl is ↦ ((let e : first ≡ n = is in omega arith), (let e : first ≡ n = is in omega arith))
  | inr later ↦ (let w = from_threads (first + 1) count n later in (omega (arith, w.0), omega (arith, w.1)))
]

pub to_threads : (first count n : ℕ) → first ≤ n → n < first + count → Contains (threads_from first count) n
to_threads first zero n low high = absurd (omega arith)
to_threads first (suc count) n low high = elim (Rattle.std.proofs.lemmas.Bool.cases_eq first n) [
  | inl is ↦ subst (λ (m : ℕ). Contains (first ∷ threads_from (first + 1) count) m) is (here first (threads_from (first + 1) count))
  | inr other ↦ there first (threads_from (first + 1) count) n (to_threads (first + 1) count n (omega arith) (omega arith))
]

-- ---- the lists of distinct threads

-- so many distinct threads below a number
pub record IsArranged (threads slots : ℕ) (list : List ℕ) : Type 0 where
  pub long : length list ≡ slots
  pub distinct : AllPairs (λ (s t : ℕ). s ≢ t) list
  pub below : (t : ℕ) → Contains list t → t < threads

pairs_nothing : AllPairs (λ (s t : ℕ). s ≢ t) []
pairs_nothing = λ i j d less within. absurd (omega arith)

pairs_first : (t : ℕ) (ts : List ℕ) → AllPairs (λ (s t : ℕ). s ≢ t) (t ∷ ts) → ¬ Contains ts t
pairs_first t ts h c = h 0 (suc c.0) t (omega arith) (let less : c.0 < length ts = c.1 in omega arith) (sym c.2)

pairs_rest : (t : ℕ) (ts : List ℕ) → AllPairs (λ (s t : ℕ). s ≢ t) (t ∷ ts) → AllPairs (λ (s t : ℕ). s ≢ t) ts
pairs_rest t ts h = λ i j d less within. h (suc i) (suc j) d (omega arith) (omega arith)

lacks_from : (t : ℕ) (list : List ℕ) → lacks t list ≡ true → ¬ Contains list t
lacks_from t list h c = (let e : list_any (λ u. u == t) list ≡ true = has_to list t c in absurd (false≢true (sym (ap not e) ∙ h)))

lacks_to : (t : ℕ) (list : List ℕ) → (¬ Contains list t) → lacks t list ≡ true
lacks_to t list h = by (list_any (λ u. u == t) list) refl
  where
    by : (b : Bool) → list_any (λ u. u == t) list ≡ b → not b ≡ true
    by true e = absurd (h (has_from list t e))
    by false e = refl

pub arranged_from : (threads slots : ℕ) (list : List ℕ) → Contains (arrangements threads slots) list → IsArranged threads slots list
arranged_from threads zero list h = elim (cons_cases [] [] list h) [
  | inl is ↦ subst (λ (ts : List ℕ). IsArranged threads zero ts) is (record { long = refl; distinct = pairs_nothing; below = λ t k. absurd (nothing t k) })
  | inr rest ↦ absurd (nothing list rest)
]
arranged_from threads (suc slots) list h =
    let w = from_flat_mapped (λ t. led_by t (arrangements threads slots)) (threads_from 0 threads) list h in
    let v = from_mapped (λ (ts : List ℕ). w.0 ∷ ts) (filter (lacks w.0) (arrangements threads slots)) list w.2 in
    let k = from_kept (lacks w.0) (arrangements threads slots) v.0 v.1 in
    let rest = arranged_from threads slots v.0 k.0 in
    subst (λ (ts : List ℕ). IsArranged threads (suc slots) ts) v.2 (record {
      long = ap suc rest.long;
      distinct = AllPairs-cons (λ (s t : ℕ). s ≢ t) w.0 v.0 (all_from (λ (t : ℕ). w.0 ≢ t) v.0 (λ t c same. lacks_from w.0 v.0 k.1 (subst (λ (u : ℕ). Contains v.0 u) (sym same) c))) rest.distinct;
      below = λ t c. elim (cons_cases w.0 v.0 t c) [
        | inl is ↦ (let m = from_threads 0 threads w.0 w.1 in let e : w.0 ≡ t = is in omega (arith, m.1))
        | inr later ↦ rest.below t later
      ];
    })

pub arranged_to : (threads slots : ℕ) (list : List ℕ) → IsArranged threads slots list → Contains (arrangements threads slots) list
arranged_to threads slots [] is = subst (λ (n : ℕ). Contains (arrangements threads n) []) is.long (here [] [])
arranged_to threads slots (t ∷ ts) is =
    let rest = arranged_to threads (length ts) ts (record { long = refl; distinct = pairs_rest t ts is.distinct; below = λ u c. is.below u (there t ts u c) }) in
    let less : t < threads = is.below t (here t ts) in
    subst (λ (n : ℕ). Contains (arrangements threads n) (t ∷ ts)) is.long
    (flat_mapped (λ u. led_by u (arrangements threads (length ts))) (threads_from 0 threads) t (t ∷ ts) (to_threads 0 threads t (omega arith) (omega arith))
    (mapped (λ (us : List ℕ). t ∷ us) (filter (lacks t) (arrangements threads (length ts))) ts (kept (lacks t) (arrangements threads (length ts)) ts rest (lacks_to t ts (pairs_first t ts is.distinct)))))

led_less : (t : ℕ) (a b : List ℕ) → slice_cmp nat_cmp a b ≡ Less → slice_cmp nat_cmp (t ∷ a) (t ∷ b) ≡ Less
led_less t a b h = ap (λ (o : Ordering). ordering_then o (slice_cmp nat_cmp a b)) (tied_itself nat_cmp_total t) ∙ h

led_sorted : (first count : ℕ) (lists : List (List ℕ)) → IsStrictlySortedBy (slice_cmp nat_cmp) lists → IsStrictlySortedBy (slice_cmp nat_cmp) (led_by_each first count lists)
led_sorted first zero lists s = sorted_nil (slice_cmp nat_cmp)
led_sorted first (suc count) lists s =
    sorted_append (slice_cmp nat_cmp) (led_by first lists) (led_by_each (first + 1) count lists)
    (sorted_kept (slice_cmp nat_cmp) (λ (ts : List ℕ). first ∷ ts) (lacks first) lists (map_sorted (slice_cmp nat_cmp) (slice_cmp nat_cmp) (λ (ts : List ℕ). first ∷ ts) (led_less first) lists s))
    (led_sorted (first + 1) count lists s)
    (λ a b h k. (
    let u = from_mapped (λ (ts : List ℕ). first ∷ ts) (filter (lacks first) lists) a h in
    let w = from_flat_mapped (λ t. led_by t lists) (threads_from (first + 1) count) b k in
    let v = from_mapped (λ (ts : List ℕ). w.0 ∷ ts) (filter (lacks w.0) lists) b w.2 in
    let m = from_threads (first + 1) count w.0 w.1 in
    let less : nat_cmp first w.0 ≡ Less = below first w.0 m.0 in
    subst (λ (x : List ℕ). slice_cmp nat_cmp x b ≡ Less) u.2 (subst (λ (y : List ℕ). slice_cmp nat_cmp (first ∷ u.0) y ≡ Less) v.2
    (ap (λ (o : Ordering). ordering_then o (slice_cmp nat_cmp u.0 v.0)) less))))
  where
    below : (n m : ℕ) → n + 1 ≤ m → nat_cmp n m ≡ Less
    below n m h = grind (arith, nat_tests)

pub arrangements_sorted : (threads slots : ℕ) → IsStrictlySortedBy (slice_cmp nat_cmp) (arrangements threads slots)
arrangements_sorted threads zero = sorted_cons (slice_cmp nat_cmp) [] [] (All-nil (λ b. slice_cmp nat_cmp [] b ≡ Less)) (sorted_nil (slice_cmp nat_cmp))
arrangements_sorted threads (suc slots) = led_sorted 0 threads (arrangements threads slots) (arrangements_sorted threads slots)

-- ---- the atoms

-- an atom of distinct threads that the post has, or thread 0, may be asked for
pub usable_with : (setting : Setting) (predicates : List Predicate) (number : ℕ) (post : Atom) (threads : ℕ) (list : List ℕ) → 1 ≤ number → IsThere setting predicates number
    → AreThreadsOf post.threads threads → IsArranged threads (predicate_of predicates number).arity list → IsUsable setting predicates (number + 1) post (atom_with number list)
usable_with setting predicates number post threads list least there of is = (
  record {
    known_is = omega arith;
    not_false = omega arith;
    slots = is.long;
    once = is.distinct;
    tied = all_from (λ (n : ℕ). (n ≡ 0) ⊎ Contains post.threads n) list (λ n c. (of n).1 (is.below n c));
  },
  there,
)

-- and each that may be is one
arranged_of : (setting : Setting) (predicates : List Predicate) (known : ℕ) (post : Atom) (threads : ℕ) (q : Atom) → AreThreadsOf post.threads threads
    → IsUsable setting predicates known post q → IsArranged threads (predicate_of predicates q.predicate).arity q.threads
arranged_of setting predicates known post threads q of is = record {
  long = is.0.slots;
  distinct = is.0.once;
  below = λ t c. (of t).0 (All-contains (λ (n : ℕ). (n ≡ 0) ⊎ Contains post.threads n) q.threads t is.0.tied c);
}

pub choice_with : (setting : Setting) (predicates : List Predicate) (number : ℕ) (post : Atom) (threads : ℕ) (list : List ℕ) → IsThere setting predicates number
    → AreThreadsOf post.threads threads → IsArranged threads (predicate_of predicates number).arity list
    → IsAtomOf setting predicates (atom_with number list) × HasThreadsOnce (atom_with number list) × IsTiedTo post.threads (atom_with number list)
choice_with setting predicates number post threads list there of is =
    ((there, is.long), is.distinct, all_from (λ (n : ℕ). (n ≡ 0) ⊎ Contains post.threads n) list (λ n c. (of n).1 (is.below n c)))

pub no_choices : (setting : Setting) (predicates : List Predicate) (post : Atom) → AreChoices setting predicates 1 post []
no_choices setting predicates post = record {
  made = All-nil (IsChoice setting predicates post);
  usable = All-nil (IsUsable setting predicates 1 post);
  every = λ q is. absurd (let low : 0 < q.predicate = is.0.not_false in let high : q.predicate < 1 = is.0.known_is in omega arith);
  ascend = sorted_nil atom_cmp;
}

more_known : (setting : Setting) (predicates : List Predicate) (number : ℕ) (post q : Atom) → IsUsable setting predicates number post q → IsUsable setting predicates (number + 1) post q
more_known setting predicates number post q is = (
  record {
    known_is = (let h : q.predicate < number = is.0.known_is in omega arith);
    not_false = is.0.not_false;
    slots = is.0.slots;
    once = is.0.once;
    tied = is.0.tied;
  },
  is.1,
)

fewer_known : (setting : Setting) (predicates : List Predicate) (number : ℕ) (post q : Atom) → IsUsable setting predicates (number + 1) post q → q.predicate ≢ number → IsUsable setting predicates number post q
fewer_known setting predicates number post q is other = (
  record {
    known_is = (let h : q.predicate < number + 1 = is.0.known_is in omega (arith, h, other));
    not_false = is.0.not_false;
    slots = is.0.slots;
    once = is.0.once;
    tied = is.0.tied;
  },
  is.1,
)

-- a predicate that isn't in range has none
pub choices_skipped : (setting : Setting) (predicates : List Predicate) (number : ℕ) (post : Atom) (list : List Choice) → (¬ IsThere setting predicates number)
    → AreChoices setting predicates number post list → AreChoices setting predicates (number + 1) post list
choices_skipped setting predicates number post list lacks are = record {
  made = are.made;
  usable = all_from (IsUsable setting predicates (number + 1) post) (atoms_of list) (λ q c. more_known setting predicates number post q (All-contains (IsUsable setting predicates number post) (atoms_of list) q are.usable c));
  every = λ q is. are.every q (fewer_known setting predicates number post q is (λ same. lacks (subst (λ (n : ℕ). IsThere setting predicates n) same is.1)));
  ascend = are.ascend;
}

with_less : (number : ℕ) (a b : List ℕ) → slice_cmp nat_cmp a b ≡ Less → atom_cmp (atom_with number a) (atom_with number b) ≡ Less
with_less number a b h = ap (λ (o : Ordering). ordering_then o (slice_cmp nat_cmp a b)) (tied_itself nat_cmp_total number) ∙ h

lower_less : (p q : Atom) → p.predicate < q.predicate → atom_cmp p q ≡ Less
lower_less p q h =
    let e : nat_cmp p.predicate q.predicate ≡ Less = grind (arith, nat_tests) in
    ap (λ (o : Ordering). ordering_then o (slice_cmp nat_cmp p.threads q.threads)) e

-- one in range has those of all lists of distinct threads
pub choices_more : (setting : Setting) (predicates : List Predicate) (number : ℕ) (post : Atom) (threads : ℕ) (list new : List Choice) → 1 ≤ number → IsThere setting predicates number
    → AreThreadsOf post.threads threads → AreChoices setting predicates number post list
    → atoms_of new ≡ atoms_of list ++ map (atom_with number) (arrangements threads (predicate_of predicates number).arity) → All (IsChoice setting predicates post) new
    → AreChoices setting predicates (number + 1) post new
choices_more setting predicates number post threads list new least there of are atoms made = record {
  made = made;
  usable = all_from (IsUsable setting predicates (number + 1) post) (atoms_of new) (λ q c. elim (Contains-append_cases (atoms_of list) those q (subst (λ (qs : List Atom). Contains qs q) atoms c)) [
    | inl old ↦ more_known setting predicates number post q (All-contains (IsUsable setting predicates number post) (atoms_of list) q are.usable old)
    | inr one ↦ (
        let w = from_mapped (atom_with number) lists q one in
        subst (λ (p : Atom). IsUsable setting predicates (number + 1) post p) w.2 (usable_with setting predicates number post threads w.0 least there of (arranged_from threads slots w.0 w.1)))
  ]);
  every = λ q is. subst (λ (qs : List Atom). Contains qs q) (sym atoms) (elim (Rattle.std.proofs.lemmas.Bool.cases_eq q.predicate number) [
    | inl same ↦ Contains-append_right (atoms_of list) those q (own q same (arranged_of setting predicates (number + 1) post threads q of is))
    | inr other ↦ Contains-append_left (atoms_of list) those q (are.every q (fewer_known setting predicates number post q is other))
  ]);
  ascend = subst (λ (qs : List Atom). IsStrictlySortedBy atom_cmp qs) (sym atoms) (sorted_append atom_cmp (atoms_of list) those are.ascend
      (map_sorted (slice_cmp nat_cmp) atom_cmp (atom_with number) (with_less number) lists (arrangements_sorted threads slots))
      (λ p q h k. lower_less p q (
      let w = from_mapped (atom_with number) lists q k in
      let low : p.predicate < number = (All-contains (IsUsable setting predicates number post) (atoms_of list) p are.usable h).0.known_is in
      let e : number ≡ q.predicate = ap (λ (r : Atom). r.predicate) w.2 in
      omega arith)));
}
  where
    slots : ℕ
    slots = (predicate_of predicates number).arity

    lists : List (List ℕ)
    lists = arrangements threads (predicate_of predicates number).arity

    those : List Atom
    those = map (atom_with number) (arrangements threads (predicate_of predicates number).arity)

    own : (q : Atom) → q.predicate ≡ number → IsArranged threads (predicate_of predicates q.predicate).arity q.threads → Contains (map (atom_with number) (arrangements threads (predicate_of predicates number).arity)) q
    own q same is =
        let arranged : IsArranged threads (predicate_of predicates number).arity q.threads = subst (λ (n : ℕ). IsArranged threads (predicate_of predicates n).arity q.threads) same is in
        let one : Contains (map (atom_with number) (arrangements threads (predicate_of predicates number).arity)) (atom_with number q.threads) = mapped (atom_with number) (arrangements threads (predicate_of predicates number).arity) q.threads (arranged_to threads (predicate_of predicates number).arity q.threads arranged) in
        let e : atom_with number q.threads ≡ q = ap (λ (n : ℕ). atom_with n q.threads) (sym same) in
        subst (λ (p : Atom). Contains (map (atom_with number) (arrangements threads (predicate_of predicates number).arity)) p) e one

-- ---- the threads of a post

taken_apart : (k : ℕ) (xs : List ℕ) (n : ℕ) → Contains xs n → Contains (take k xs) n ⊎ Contains (drop k xs) n
taken_apart k xs n h = Contains-append_cases (take k xs) (drop k xs) n (subst (λ (ys : List ℕ). Contains ys n) (sym (take-append-drop k xs)) h)

pub post_threads_are : (pattern : Pattern) (slots : ℕ) → FitsSlots pattern slots → AreThreadsOf (post_threads pattern slots) (thread_count pattern slots)
post_threads_are None slots fits n = ((λ h. elim h [ inl zero_is ↦ (let e : n ≡ 0 = zero_is in omega arith) | inr none ↦ absurd (nothing n none) ]), (λ h. inl (omega arith)))
post_threads_are (Mover slot) slots fits n = (
  (λ h. elim h [
    | inl zero_is ↦ (let e : n ≡ 0 = zero_is in let f : slot < slots = fits in omega arith)
    | inr among ↦ elim (Contains-append_cases (take slot (threads_from 1 (slots - 1))) (0 ∷ drop slot (threads_from 1 (slots - 1))) n among) [
      | inl first ↦ low (subst (λ (ys : List ℕ). Contains ys n) (take-append-drop slot (threads_from 1 (slots - 1))) (Contains-append_left (take slot (threads_from 1 (slots - 1))) (drop slot (threads_from 1 (slots - 1))) n first))
      | inr rest ↦ elim (cons_cases 0 (drop slot (threads_from 1 (slots - 1))) n rest) [
        | inl is ↦ (let e : 0 ≡ n = is in let f : slot < slots = fits in omega arith)
        | inr last ↦ low (subst (λ (ys : List ℕ). Contains ys n) (take-append-drop slot (threads_from 1 (slots - 1))) (Contains-append_right (take slot (threads_from 1 (slots - 1))) (drop slot (threads_from 1 (slots - 1))) n last))
      ]
    ]
  ]),
  (λ h. elim (Rattle.std.proofs.lemmas.Bool.cases_eq n 0) [
    | inl is ↦ inl is
    | inr other ↦ inr (elim (taken_apart slot (threads_from 1 (slots - 1)) n (to_threads 1 (slots - 1) n (omega (arith, other)) (let less : n < slots = h in omega (arith, other, less)))) [
      | inl first ↦ Contains-append_left (take slot (threads_from 1 (slots - 1))) (0 ∷ drop slot (threads_from 1 (slots - 1))) n first
      | inr last ↦ Contains-append_right (take slot (threads_from 1 (slots - 1))) (0 ∷ drop slot (threads_from 1 (slots - 1))) n (there 0 (drop slot (threads_from 1 (slots - 1))) n last)
    ])
  ]),
)
  where
    low : Contains (threads_from 1 (slots - 1)) n → n < slots
    low h = (let w = from_threads 1 (slots - 1) n h in let f : slot < slots = fits in omega (arith, w.1, f))
post_threads_are Other slots fits n = (
  (λ h. elim h [ inl zero_is ↦ (let e : n ≡ 0 = zero_is in omega arith) | inr among ↦ (let w = from_threads 1 slots n among in omega (arith, w.1)) ]),
  (λ h. elim (Rattle.std.proofs.lemmas.Bool.cases_eq n 0) [ inl is ↦ inl is | inr other ↦ inr (to_threads 1 slots n (omega (arith, other)) (let less : n < slots + 1 = h in omega arith)) ]),
)

one : (s : ℕ) → AllPairs (λ (s t : ℕ). s ≢ t) (s ∷ [])
one s = AllPairs-cons (λ (s t : ℕ). s ≢ t) s [] (All-nil (λ (t : ℕ). s ≢ t)) pairs_nothing

two : (s t : ℕ) → s ≢ t → AllPairs (λ (s t : ℕ). s ≢ t) (s ∷ t ∷ [])
two s t apart = AllPairs-cons (λ (s t : ℕ). s ≢ t) s (t ∷ []) (all_from (λ (u : ℕ). s ≢ u) (t ∷ []) (λ u c. elim (cons_cases t [] u c) [ inl is ↦ subst (λ (v : ℕ). s ≢ v) is apart | inr none ↦ absurd (nothing u none) ])) (one t)

-- a post of at most two slots has as many threads, none twice
pub post_threads_fit : (pattern : Pattern) (slots : ℕ) → FitsSlots pattern slots → slots ≤ 2 → (length (post_threads pattern slots) ≡ slots) × AllPairs (λ (s t : ℕ). s ≢ t) (post_threads pattern slots)
post_threads_fit None slots fits few = (sym fits, pairs_nothing)
post_threads_fit (Mover slot) zero fits few = absurd (let f : slot < 0 = fits in omega arith)
post_threads_fit (Mover zero) (suc zero) fits few = (refl, one 0)
post_threads_fit (Mover (suc slot)) (suc zero) fits few = absurd (let f : suc slot < 1 = fits in omega arith)
post_threads_fit (Mover zero) (suc (suc zero)) fits few = (refl, two 0 1 (omega arith))
post_threads_fit (Mover (suc zero)) (suc (suc zero)) fits few = (refl, two 1 0 (omega arith))
post_threads_fit (Mover (suc (suc slot))) (suc (suc zero)) fits few = absurd (let f : suc (suc slot) < 2 = fits in omega arith)
post_threads_fit (Mover slot) (suc (suc (suc slots))) fits few = absurd (omega arith)
post_threads_fit Other zero fits few = absurd (let f : 0 < 0 = fits in omega arith)
post_threads_fit Other (suc zero) fits few = (refl, one 1)
post_threads_fit Other (suc (suc zero)) fits few = (refl, two 1 2 (omega arith))
post_threads_fit Other (suc (suc (suc slots))) fits few = absurd (omega arith)
