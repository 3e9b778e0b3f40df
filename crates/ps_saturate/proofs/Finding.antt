-- What is found after all sets of some sizes were tried.
use Rattle.std.proofs.Common.{◌≡◌, ◌≢◌, ◌<◌, ◌≤◌, ◌+◌, ℕ, true, List, [], ◌∷◌, ◌++◌, map, length, refl, sym, ap, ◌∙◌, subst, inl, inr, ◌⊎◌, Contains, All, IsTrue, append_assoc, arith, nat_lt}
use Rattle.std.specs.Cmp.{IsTotalOrder}
use Rattle.std.specs.Cmp.Lexicographic.{slice_cmp}
use Rattle.std.specs.List.Sorted.{IsStrictlySortedBy}
use Rattle.std.specs.Ordering.{nat_cmp, ordering_then, then_cmp, on}
use Rattle.std.specs.declared.cmp.Ordering.{Ordering}
use Rattle.std.specs.declared.cmp.Ordering.TheVariants.{Less, Equal}
use Rattle.std.proofs.lemmas.Bool.{both_ways, or_left, true≢false}
use Rattle.std.proofs.lemmas.Bool.Decides.{nat_tests}
use Rattle.std.proofs.lemmas.Cmp.{nat_cmp_total, nat_list_cmp_total, on_total, then_total, tied_itself}
use Rattle.std.proofs.lemmas.List.Elements.{All-contains, All-push, All-weaker, Contains-append_left, Contains-push, Contains-push_cases}
use Rattle.std.proofs.lemmas.Map.Keys.{sorted_tail}
use Rattle.ps_atom.specs.Atoms.{atom_cmp}
use Rattle.ps_atom.specs.declared.atom.Atom.{Atom}
use Rattle.ps_list.proofs.Mapped.{from_mapped}
use Rattle.ps_list.proofs.Members.{nothing, cons_cases, here, there}
use Rattle.ps_saturate.proofs.Ascents.{IsPick, all_from, below_later, choices_sorted, every_pick, picked, same_or_shorter, sorted_append, sorted_cons, sorted_nil}
use Rattle.ps_saturate.proofs.Trying.{append_nothing}
use Rattle.ps_saturate.specs.Answered.{set_cmp}
use Rattle.ps_saturate.specs.inner.Choosing.{choices}
use Rattle.ps_saturate.specs.inner.Trials.{AreTried, IsBlocked, IsRefutedIn, IsTried, ShowsSet, is_new, is_wanted}
use Rattle.ps_saturate.specs.inner.Trials.IsTried.{unwanted as was_unwanted, blocked as was_blocked, unrefuted as was_unrefuted, refuted as was_refuted}
use Rattle.ps_saturate.specs.declared.trial.Trial.{Trial}
use Rattle.ps_triple.specs.Ascending.{ascend, atom_is_before_all}
use Rattle.ps_triple.specs.declared.triple.Triple.{Triple}

-- ---- the order of atoms

pub atom_total : IsTotalOrder atom_cmp
atom_total = then_total (on_total (λ (a : Atom). a.predicate) nat_cmp_total) (on_total (λ (a : Atom). a.threads) nat_list_cmp_total)

less_from : (o : Ordering) → Rattle.std.specs.Ordering.is_lt o ≡ true → o ≡ Less
less_from o h = grind (arith)

below_all : (q : Atom) (qs : List Atom) → atom_is_before_all q qs ≡ true → IsStrictlySortedBy atom_cmp qs → All (λ r. atom_cmp q r ≡ Less) qs
below_all q [] h s = all_from (λ r. atom_cmp q r ≡ Less) [] (λ r k. absurd (nothing r k))
below_all q (p ∷ qs) h s = all_from (λ r. atom_cmp q r ≡ Less) (p ∷ qs) (λ r k. elim (cons_cases p qs r k) [
  | inl is ↦ subst (λ (z : Atom). atom_cmp q z ≡ Less) is (less_from (atom_cmp q p) h)
  | inr later ↦ atom_total.trans q p r (less_from (atom_cmp q p) h) (below_later atom_cmp p qs s r later)
])

pub sorted_from_ascend : (qs : List Atom) → IsTrue (ascend qs) → IsStrictlySortedBy atom_cmp qs
sorted_from_ascend [] h = sorted_nil atom_cmp
sorted_from_ascend (q ∷ qs) h =
    let both = Rattle.std.proofs.lemmas.Bool.and_parts (atom_is_before_all q qs) (ascend qs) h in
    let rest = sorted_from_ascend qs both.1 in
    sorted_cons atom_cmp q qs (below_all q qs both.0 rest) rest

before_all : (q : Atom) (qs : List Atom) → IsStrictlySortedBy atom_cmp (q ∷ qs) → atom_is_before_all q qs ≡ true
before_all q [] s = refl
before_all q (r ∷ qs) s = ap Rattle.std.specs.Ordering.is_lt (below_later atom_cmp q (r ∷ qs) s r (here r qs))

pub ascend_from_sorted : (qs : List Atom) → IsStrictlySortedBy atom_cmp qs → IsTrue (ascend qs)
ascend_from_sorted [] s = refl
ascend_from_sorted (q ∷ qs) s =
    Rattle.std.proofs.lemmas.Bool.and_from (atom_is_before_all q qs) (ascend qs) (before_all q qs s) (ascend_from_sorted qs (sorted_tail atom_cmp q qs s))

-- ---- the order of sets

pub smaller_first : (a b : List Atom) → length a < length b → set_cmp a b ≡ Less
smaller_first a b h =
    let e : nat_cmp (length a) (length b) ≡ Less = grind (arith, nat_tests) in
    ap (λ (o : Ordering). ordering_then o (slice_cmp atom_cmp a b)) e

pub same_size : (a b : List Atom) → length a ≡ length b → slice_cmp atom_cmp a b ≡ Less → set_cmp a b ≡ Less
same_size a b e h =
    let tied : nat_cmp (length a) (length b) ≡ Equal = ap (λ (n : ℕ). nat_cmp (length a) n) (sym e) ∙ tied_itself nat_cmp_total (length a) in
    ap (λ (o : Ordering). ordering_then o (slice_cmp atom_cmp a b)) tied ∙ h

-- ---- sets of the atoms of a list

pub record IsSetOf (atoms set : List Atom) : Type 0 where
  pub ascends : IsStrictlySortedBy atom_cmp set
  pub among : All (Contains atoms) set

-- the triple shows a set of the atoms, and no other set of its atoms is refuted
pub record IsLeastOf (trial : Trial) (atoms : List Atom) (t : Triple) : Type 0 where
  pub shows : ShowsSet trial t.pre t
  pub set : IsSetOf atoms t.pre
  pub least : (part : List Atom) → All (Contains t.pre) part → part ≢ t.pre → ¬ IsRefutedIn trial part

-- after some sets of one size, and all smaller ones, were tried
pub record IsUpTo (trial : Trial) (atoms : List Atom) (size : ℕ) (done left : List (List Atom)) (found : List Triple) : Type 0 where
  pub least : All (λ t. IsLeastOf trial atoms t × (length t.pre ≤ size)) found
  pub inside : (set : List Atom) → IsSetOf atoms set → (length set < size) ⊎ Contains done set →
      is_wanted trial.width trial.question.old set ≡ true → IsRefutedIn trial set → IsBlocked found set
  pub ordered : IsStrictlySortedBy set_cmp (map (λ t. t.pre) found)
  pub before : (t : Triple) (set : List Atom) → Contains found t → Contains left set → set_cmp t.pre set ≡ Less

-- after all sets below a size were tried
pub record IsBelow (trial : Trial) (atoms : List Atom) (size : ℕ) (found : List Triple) : Type 0 where
  pub least : All (λ t. IsLeastOf trial atoms t × (length t.pre < size)) found
  pub inside : (set : List Atom) → IsSetOf atoms set → length set < size →
      is_wanted trial.width trial.question.old set ≡ true → IsRefutedIn trial set → IsBlocked found set
  pub ordered : IsStrictlySortedBy set_cmp (map (λ t. t.pre) found)

pub nothing_below : (trial : Trial) (atoms : List Atom) → IsBelow trial atoms 0 []
nothing_below trial atoms = record {
  least = all_from (λ t. IsLeastOf trial atoms t × (length t.pre < 0)) [] (λ t h. absurd (nothing t h));
  inside = λ set is less. absurd (omega arith);
  ordered = sorted_nil set_cmp;
}

-- a refuted part of a set of atoms is one too
refuted_set : (trial : Trial) (atoms set part : List Atom) → IsSetOf atoms set → All (Contains set) part → IsRefutedIn trial part → IsSetOf atoms part
refuted_set trial atoms set part is inside h = record {
  ascends = sorted_from_ascend part (subst (λ (qs : List Atom). IsTrue (ascend qs)) h.1.before h.0.ascends);
  among = All-weaker (Contains set) (Contains atoms) (λ q k. All-contains (Contains atoms) set q is.among k) part inside;
}

part_shorter : (atoms set part : List Atom) → IsSetOf atoms set → IsSetOf atoms part → All (Contains set) part → part ≢ set → length part < length set
part_shorter atoms set part is part_is inside other =
    elim (same_or_shorter atom_cmp atom_total set part is.ascends part_is.ascends (λ q k. All-contains (Contains set) part q inside k)) [ inl same ↦ absurd (other same) | inr less ↦ less ]

small_wanted : (width old : ℕ) (set : List Atom) → length set < width → is_wanted width old set ≡ true
small_wanted width old set h = or_left (nat_lt (length set) width) (is_new old set) (let e : nat_lt (length set) width ≡ true = grind (arith, nat_tests) in e)

blocked_part : (found : List Triple) (set part : List Atom) → All (Contains set) part → IsBlocked found part → IsBlocked found set
blocked_part found set part inside h = (h.0, h.1, All-weaker (Contains part) (Contains set) (λ q k. All-contains (Contains set) part q inside k) h.0.pre h.2)

pub blocked_later : (found : List Triple) (t : Triple) (set : List Atom) → IsBlocked found set → IsBlocked (found ++ t ∷ []) set
blocked_later found t set h = (h.0, Contains-append_left found (t ∷ []) h.0 h.1, h.2)

-- ---- one more set

-- where nothing more is found
passed : (trial : Trial) (atoms : List Atom) (size : ℕ) (done : List (List Atom)) (set : List Atom) (left : List (List Atom)) (found : List Triple)
    → IsUpTo trial atoms size done (set ∷ left) found → (is_wanted trial.width trial.question.old set ≡ true → IsRefutedIn trial set → IsBlocked found set)
    → IsUpTo trial atoms size (done ++ set ∷ []) left found
passed trial atoms size done set left found up h = record {
  least = up.least;
  inside = λ other is when wanted refuted. elim when [
    | inl less ↦ up.inside other is (inl less) wanted refuted
    | inr among ↦ elim (Contains-push_cases done set other among) [
      | inl earlier ↦ up.inside other is (inr earlier) wanted refuted
      | inr same ↦ subst (λ (qs : List Atom). IsBlocked found qs) same (h (subst (λ (qs : List Atom). is_wanted trial.width trial.question.old qs ≡ true) (sym same) wanted) (subst (λ (qs : List Atom). IsRefutedIn trial qs) (sym same) refuted))
    ]
  ];
  ordered = up.ordered;
  before = λ t other k l. up.before t other k (there set left other l);
}

map_push : {X Y : Type 0} (f : X → Y) (xs : List X) (x : X) → map f (xs ++ x ∷ []) ≡ map f xs ++ f x ∷ []
map_push f [] x = refl
map_push {X} {Y} f (y ∷ xs) x = ap (λ (ys : List Y). f y ∷ ys) (map_push f xs x)

-- where its triple is
took : (trial : Trial) (atoms : List Atom) (size : ℕ) (done : List (List Atom)) (set : List Atom) (left : List (List Atom)) (found : List Triple) (t : Triple)
    → size ≤ trial.width → IsUpTo trial atoms size done (set ∷ left) found → IsStrictlySortedBy set_cmp (set ∷ left) → IsSetOf atoms set → length set ≡ size
    → (¬ IsBlocked found set) → ShowsSet trial set t → IsUpTo trial atoms size (done ++ set ∷ []) left (found ++ t ∷ [])
took trial atoms size done set left found t within up sorted is long free shows =
    let pre_is : t.pre ≡ set = shows.before in
    let own : ShowsSet trial t.pre t = subst (λ (qs : List Atom). ShowsSet trial qs t) (sym pre_is) shows in
    let own_set : IsSetOf atoms t.pre = subst (λ (qs : List Atom). IsSetOf atoms qs) (sym pre_is) is in
    record {
      least = All-push (λ u. IsLeastOf trial atoms u × (length u.pre ≤ size)) found t up.least
          (record { shows = own; set = own_set; least = λ part inside other refuted. free (subst (λ (qs : List Atom). IsBlocked found qs) pre_is (smaller part inside other refuted own_set (ap length pre_is ∙ long))) }, (let e : length t.pre ≡ size = ap length pre_is ∙ long in omega arith));
      inside = λ other o_is when wanted refuted. elim when [
        | inl less ↦ blocked_later found t other (up.inside other o_is (inl less) wanted refuted)
        | inr among ↦ elim (Contains-push_cases done set other among) [
          | inl earlier ↦ blocked_later found t other (up.inside other o_is (inr earlier) wanted refuted)
          | inr same ↦ (t, Contains-push found t, subst (λ (qs : List Atom). All (Contains qs) t.pre) (pre_is ∙ same) (all_from (Contains t.pre) t.pre (λ q k. k)))
        ]
      ];
      ordered = subst (λ (sets : List (List Atom)). IsStrictlySortedBy set_cmp sets) (sym (map_push (λ (u : Triple). u.pre) found t))
          (sorted_append set_cmp (map (λ (u : Triple). u.pre) found) (t.pre ∷ []) up.ordered (sorted_cons set_cmp t.pre [] (all_from (λ y. set_cmp t.pre y ≡ Less) [] (λ y k. absurd (nothing y k))) (sorted_nil set_cmp))
          (λ a b h k. later_than a b (from_mapped (λ (u : Triple). u.pre) found a h) (cons_cases t.pre [] b k)));
      before = λ u other k l. elim (Contains-push_cases found t u k) [
        | inl earlier ↦ up.before u other earlier (there set left other l)
        | inr same ↦ subst (λ (v : Triple). set_cmp v.pre other ≡ Less) same (subst (λ (qs : List Atom). set_cmp qs other ≡ Less) (sym pre_is) (below_later set_cmp set left sorted other l))
      ];
    }
  where
    smaller : (part : List Atom) → All (Contains t.pre) part → part ≢ t.pre → IsRefutedIn trial part → IsSetOf atoms t.pre → length t.pre ≡ size → IsBlocked found t.pre
    smaller part inside other refuted own_set own_long =
        let part_is = refuted_set trial atoms t.pre part own_set inside refuted in
        let less : length part < length t.pre = part_shorter atoms t.pre part own_set part_is inside other in
        blocked_part found t.pre part inside (up.inside part part_is (inl (omega (arith, less, own_long))) (small_wanted trial.width trial.question.old part (omega (arith, less, own_long, within))) refuted)

    later_than : (a b : List Atom) → (u : Triple) × Contains found u × (u.pre ≡ a) → (t.pre ≡ b) ⊎ Contains [] b → set_cmp a b ≡ Less
    later_than a b w (inl same) =
        subst (λ (qs : List Atom). set_cmp qs b ≡ Less) w.2 (subst (λ (qs : List Atom). set_cmp w.0.pre qs ≡ Less) (sym shows.before ∙ same) (up.before w.0 set w.1 (here set left)))
    later_than a b w (inr none) = absurd (nothing b none)

-- ---- the sets of a size

tried_one : (trial : Trial) (atoms : List Atom) (size : ℕ) (done : List (List Atom)) (set : List Atom) (left : List (List Atom)) (found new : List Triple)
    → size ≤ trial.width → IsUpTo trial atoms size done (set ∷ left) found → IsStrictlySortedBy set_cmp (set ∷ left) → IsSetOf atoms set → length set ≡ size
    → IsTried trial found set new → IsUpTo trial atoms size (done ++ set ∷ []) left new
tried_one trial atoms size done set left found new within up sorted is long (was_unwanted h) =
    passed trial atoms size done set left found up (λ wanted refuted. absurd (true≢false (sym wanted ∙ h)))
tried_one trial atoms size done set left found new within up sorted is long (was_blocked h) = passed trial atoms size done set left found up (λ wanted refuted. h)
tried_one trial atoms size done set left found new within up sorted is long (was_unrefuted h) = passed trial atoms size done set left found up (λ wanted r. absurd (h r))
tried_one trial atoms size done set left found new within up sorted is long (was_refuted t free shows) = took trial atoms size done set left found t within up sorted is long free shows

tried_all : (trial : Trial) (atoms : List Atom) (size : ℕ) (left done : List (List Atom)) (found new : List Triple)
    → size ≤ trial.width → IsUpTo trial atoms size done left found → IsStrictlySortedBy set_cmp left → All (λ set. IsSetOf atoms set × (length set ≡ size)) left
    → AreTried trial left found new → IsUpTo trial atoms size (done ++ left) [] new
tried_all trial atoms size [] done found new within up sorted are h =
    subst (λ (f : List Triple). IsUpTo trial atoms size (done ++ []) [] f) h (subst (λ (d : List (List Atom)). IsUpTo trial atoms size d [] found) (sym (append_nothing done)) up)
tried_all trial atoms size (set ∷ left) done found new within up sorted are h =
    let one = All-contains (λ qs. IsSetOf atoms qs × (length qs ≡ size)) (set ∷ left) set are (here set left) in
    let next = tried_one trial atoms size done set left found h.0 within up sorted one.0 one.1 h.1 in
    let rest = tried_all trial atoms size left (done ++ set ∷ []) h.0 new within next (sorted_tail set_cmp set left sorted) (all_from (λ qs. IsSetOf atoms qs × (length qs ≡ size)) left (λ qs k. All-contains (λ qs. IsSetOf atoms qs × (length qs ≡ size)) (set ∷ left) qs are (there set left qs k))) h.2 in
    subst (λ (d : List (List Atom)). IsUpTo trial atoms size d [] new) (append_assoc done (set ∷ []) left) rest

sizes_sorted : (sets : List (List Atom)) (size : ℕ) → All (λ set. length set ≡ size) sets → IsStrictlySortedBy (slice_cmp atom_cmp) sets → IsStrictlySortedBy set_cmp sets
sizes_sorted [] size are s = sorted_nil set_cmp
sizes_sorted (a ∷ sets) size are s =
    sorted_cons set_cmp a sets (all_from (λ b. set_cmp a b ≡ Less) sets (λ b k. same_size a b (All-contains (λ set. length set ≡ size) (a ∷ sets) a are (here a sets) ∙ sym (All-contains (λ set. length set ≡ size) (a ∷ sets) b are (there a sets b k))) (below_later (slice_cmp atom_cmp) a sets s b k)))
    (sizes_sorted sets size (all_from (λ set. length set ≡ size) sets (λ b k. All-contains (λ set. length set ≡ size) (a ∷ sets) b are (there a sets b k))) (sorted_tail (slice_cmp atom_cmp) a sets s))

pub one_size_more : (trial : Trial) (atoms : List Atom) (size : ℕ) (found new : List Triple) → IsStrictlySortedBy atom_cmp atoms → size ≤ trial.width
    → IsBelow trial atoms size found → AreTried trial (choices atoms size) found new → IsBelow trial atoms (size + 1) new
one_size_more trial atoms size found new sorted within below h =
    let are : All (λ set. IsSetOf atoms set × (length set ≡ size)) (choices atoms size) = all_from (λ set. IsSetOf atoms set × (length set ≡ size)) (choices atoms size) (λ set k. set_of_pick set (picked atom_cmp atoms sorted size set k)) in
    let start : IsUpTo trial atoms size [] (choices atoms size) found = record {
      least = All-weaker (λ t. IsLeastOf trial atoms t × (length t.pre < size)) (λ t. IsLeastOf trial atoms t × (length t.pre ≤ size)) (λ t k. (k.0, (let less = k.1 in omega arith))) found below.least;
      inside = λ set is when wanted refuted. elim when [ inl less ↦ below.inside set is less wanted refuted | inr none ↦ absurd (nothing set none) ];
      ordered = below.ordered;
      before = λ t set k l. smaller_first t.pre set (let a = (All-contains (λ t. IsLeastOf trial atoms t × (length t.pre < size)) found t below.least k).1 in let b = (All-contains (λ set. IsSetOf atoms set × (length set ≡ size)) (choices atoms size) set are l).1 in omega arith);
    } in
    let end = tried_all trial atoms size (choices atoms size) [] found new within start
    (sizes_sorted (choices atoms size) size (All-weaker (λ set. IsSetOf atoms set × (length set ≡ size)) (λ set. length set ≡ size) (λ set k. k.1) (choices atoms size) are) (choices_sorted atom_cmp atom_total atoms sorted size)) are h in
    record {
      least = All-weaker (λ t. IsLeastOf trial atoms t × (length t.pre ≤ size)) (λ t. IsLeastOf trial atoms t × (length t.pre < size + 1)) (λ t k. (k.0, (let less = k.1 in omega arith))) new end.least;
      inside = λ set is less wanted refuted. end.inside set is (placed set is less) wanted refuted;
      ordered = end.ordered;
    }
  where
    set_of_pick : (set : List Atom) → IsPick atom_cmp atoms size set → IsSetOf atoms set × (length set ≡ size)
    set_of_pick set p = (record { ascends = p.ascends; among = all_from (Contains atoms) set p.among }, p.long)

    placed : (set : List Atom) → IsSetOf atoms set → length set < size + 1 → (length set < size) ⊎ Contains (choices atoms size) set
    placed set is less = elim (Rattle.std.proofs.lemmas.Bool.cases_eq (length set) size) [
      | inl same ↦ inr (subst (λ (n : ℕ). Contains (choices atoms n) set) same (every_pick atom_cmp atom_total atoms set sorted is.ascends (λ q k. All-contains (Contains atoms) set q is.among k)))
      | inr other ↦ inl (omega (arith, other, less))
    ]
