-- The entries of an interpolation prove its trace.
use Rattle.std.proofs.Common.{◌≡◌, ◌≢◌, refl, sym, ap, ap₂, ◌∙◌, subst, ℕ, zero, suc, ◌<◌, ◌≤◌, ◌+◌, ◌-◌, ℤ, pos, ◌≤ℤ◌, List, [], ◌∷◌, ◌++◌, length, map, take, drop, reverse, inl, inr, ◌⊎◌, Contains, get_or, arith}
use Rattle.std.specs.Prelude.{slice_get, slice_index, Option, Some, None}
use Rattle.std.specs.List.{AllByRecursion, AllZip, range_with_len}
use mathlib.Core.List.{reverse-append, reverse-cons}
use Rattle.std.proofs.lemmas.Bool.{cases_eq, cases_lt}
use Rattle.std.proofs.lemmas.Int.{ints}
use Rattle.std.proofs.lemmas.List.{get_or_past, length-map, take_all}
use Rattle.std.proofs.lemmas.List.Elements.{All-nil, All-cons, Contains-append_left, Contains-append_right, Contains-append_cases}
use Rattle.std.proofs.lemmas.Option.{same_Some, slice_get-get_or}
use Rattle.ps_list.proofs.Members.{nothing, cons_cases, here, there}
use Rattle.ps_list.proofs.Mapped.{mapped, from_mapped, from_flat_mapped}
use Rattle.ps_atom.specs.Atoms.{IsInjectiveOn, renamed, threads_of}
use Rattle.ps_atom.specs.declared.atom.Atom.{Atom}
use Rattle.ps_atom.specs.declared.predicate.Predicate.{Predicate}
use Rattle.ps_basis.specs.Demands.{IsGiven}
use Rattle.ps_basis.specs.Space.{IsProved}
use Rattle.ps_basis.proofs.Rules.{rules_are_demands}
use Rattle.ps_command.specs.declared.setting.Setting.{Setting}
use Rattle.ps_interp.specs.Cuts.{IsFalseSum, IsTrivialSum, cuts_down, sum_at}
use Rattle.ps_interp.specs.Entries.{false_triple, initial_of, numbered_threads, place_in, triple_of, with_numbers}
use Rattle.ps_interp.specs.Interpolants.{Interpolant, StandsAt, false_interpolant}
use Rattle.ps_interp.specs.Made.{IsInterpolation, IsTripleAt, false_triples, letters_of}
use Rattle.ps_interp.specs.Sums.{Weighed, weighed}
use Rattle.ps_interp.specs.Weights.{initial_weights, letter_weights, zeros}
use Rattle.ps_term.specs.Exact.{number_term}
use Rattle.ps_term.specs.Pairs.{IsCanonical}
use Rattle.ps_term.specs.declared.term.Term.{Term}
use Rattle.ps_term.specs.declared.var.Var.{Var}
use Rattle.ps_triple.specs.Entries.{GivesAtom, HasInitial, false_atom, threads_in}
use Rattle.ps_triple.specs.Rows.{form_in}
use Rattle.ps_triple.specs.declared.entry.Entry.{Entry}
use Rattle.ps_triple.specs.declared.entry.Entry.TheVariants.{Triple as OfTriple}
use Rattle.ps_triple.specs.declared.initial.Initial.{Initial}
use Rattle.ps_triple.specs.declared.triple.Triple.{Triple}
use Rattle.ps_interp.proofs.Firsts.{first_has}
use Rattle.ps_interp.proofs.Letters.{AreVars, IsLetter, letter_at, letter_there, sum_canonical_at, sum_vars_at}
use Rattle.ps_interp.proofs.Slots.{among_after, among_before, back, nothing_stands, renamed_back, slot_named, stands_once}
use Rattle.ps_interp.proofs.Triples.{mover_first}
use Rattle.ps_interp.proofs.Vars.{IsVarOf, before_every, form_every}

-- ---- a triple by numbers, with the threads of the trace again
module _ (entries : List Entry) (k : ℕ) (q : Atom) (atoms : List Atom) (t : Triple) (listed : Contains entries (OfTriple t))
    (pre : t.pre ≡ map (with_numbers (numbered_threads k q.threads)) atoms) (post : t.post ≡ with_numbers (numbered_threads k q.threads) q)
    (named : (p : Atom) (s : ℕ) → Contains atoms p → Contains p.threads s → Contains (numbered_threads k q.threads) s) where
  abbrev names : List ℕ
  names = numbered_threads k q.threads

  abbrev IsNumber : ℕ → Type 0
  IsNumber s = (a : ℕ) × Contains names a × (s ≡ place_in names a)

  in_slots : (s : ℕ) → Contains q.threads s → Contains (numbered_threads k q.threads) s
  in_slots s h = slot_named k q.threads s (inr h)

  of_atom : (p : Atom) → ((s : ℕ) → Contains p.threads s → Contains names s) → (s : ℕ) → Contains (with_numbers names p).threads s → IsNumber s
  of_atom p h s c = let w : (a : ℕ) × Contains p.threads a × (place_in names a ≡ s) = from_mapped (place_in names) p.threads s c in (w.0, h w.0 w.1, sym w.2)

  numbers : (s : ℕ) → Contains (threads_in t) s → IsNumber s
  numbers s c = elim (cons_cases 0 (t.post.threads ++ threads_of t.pre) s c) [
    | inl is ↦ (k, slot_named k q.threads k (inl refl), sym is ∙ sym (mover_first k q.threads))
    | inr rest ↦ elim (Contains-append_cases t.post.threads (threads_of t.pre) s rest) [
      | inl h ↦ of_atom q in_slots s (subst (λ (p : Atom). Contains p.threads s) post h)
      | inr h ↦ in_pre (from_flat_mapped (λ (p : Atom). p.threads) t.pre s h)
    ]
  ]
    where
      in_pre : (p : Atom) × Contains t.pre p × Contains p.threads s → IsNumber s
      in_pre (p, i, j) = at (from_mapped (with_numbers names) atoms p (subst (λ (ps : List Atom). Contains ps p) pre i))
        where
          at : (r : Atom) × Contains atoms r × (with_numbers names r ≡ p) → IsNumber s
          at (r, m, e) = of_atom r (λ x h. named r x m h) s (subst (λ (p : Atom). Contains p.threads s) (sym e) j)

  apart : IsInjectiveOn (slice_index (numbered_threads k q.threads)) (threads_in t)
  apart s u hs hu e = at (numbers s hs) (numbers u hu)
    where
      at : IsNumber s → IsNumber u → s ≡ u
      at (a, i, x) (b, j, y) =
          let same : a ≡ b = sym (back names a i) ∙ (ap (slice_index names) (sym x) ∙ (e ∙ (ap (slice_index names) y ∙ back names b j))) in
          x ∙ (ap (place_in names) same ∙ sym y)

  all_back : (ps : List Atom) → ((p : Atom) → Contains ps p → Contains atoms p) → ps ≡ map (renamed (slice_index names)) (map (with_numbers names) ps)
  all_back [] h = refl
  all_back (p ∷ ps) h =
      ap₂ (λ (x : Atom) (xs : List Atom). x ∷ xs) (sym (renamed_back names p (λ s c. named p s (h p (here p ps)) c))) (all_back ps (λ r i. h r (there p ps r i)))

  pub gives : GivesAtom entries k t.command atoms q
  gives = record {
    triple = t;
    listed = listed;
    same = refl;
    by = record {
      new = slice_index (numbered_threads k q.threads);
      apart = apart;
      runs = refl;
      pre = all_back atoms (λ p i. i) ∙ ap (map (renamed (slice_index (numbered_threads k q.threads)))) (sym pre);
      post = sym (ap (renamed (slice_index (numbered_threads k q.threads))) post ∙ renamed_back (numbered_threads k q.threads) q in_slots);
    };
  }

-- the triple from false to false, by any thread
pub gives_false : (entries : List Entry) (setting : Setting) (k command : ℕ) → Contains entries (false_triple setting command) → GivesAtom entries k command (false_atom ∷ []) false_atom
gives_false entries setting k command listed = record {
  triple = t;
  listed = listed;
  same = refl;
  by = record {
    new = λ n. n + k;
    apart = λ m n _ _ e. let is : m ≡ n = omega (arith, e) in is;
    runs = let is : 0 + k ≡ k = omega arith in is;
    pre = refl;
    post = refl;
  };
}
  where
    t : Triple
    t = record {
      pre = false_atom ∷ [];
      command = command;
      post = false_atom;
      lambda = 1 ∷ (zeros (form_in setting command).rows ++ 0 ∷ []);
      ascends = refl;
    }

-- ---- lists
reversed : {X : Type 0} (xs : List X) (x : X) → Contains xs x → Contains (reverse xs) x
reversed [] x h = absurd (nothing x h)
reversed {X} (y ∷ ys) x h = subst (λ (zs : List X). Contains zs x) (sym (reverse-cons y ys)) (elim (cons_cases y ys x h) [
  | inl is ↦ Contains-append_right (reverse ys) (y ∷ []) x (subst (λ (z : X). Contains (y ∷ []) z) is (here y []))
  | inr later ↦ Contains-append_left (reverse ys) (y ∷ []) x (reversed ys x later)
])

in_range : (n a i : ℕ) → a ≤ i → i < a + n → Contains (range_with_len a n) i
in_range zero a i low high = let no : ⊥ = omega (arith, low, high) in absurd no
in_range (suc n) a i low high = elim (cases_eq a i) [
  | inl is ↦ subst (λ (j : ℕ). Contains (a ∷ range_with_len (a + 1) n) j) is (here a (range_with_len (a + 1) n))
  | inr other ↦ there a (range_with_len (a + 1) n) i (in_range n (a + 1) i (omega (arith, low, other)) (omega (arith, high)))
]

pub among_cuts : (low high i : ℕ) → low ≤ i → i < high → Contains (cuts_down low high) i
among_cuts low high i a b = reversed (range_with_len low (high - low)) i (in_range (high - low) low i a (omega (arith, a, b)))

pub zip_find : {A B : Type 0} (R : A → B → Type 0) (xs : List A) (ys : List B) (x : A) → AllZip R xs ys → Contains xs x → (y : B) × Contains ys y × R x y
zip_find R [] ys x h c = absurd (nothing x c)
zip_find R (a ∷ xs) [] x h c = absurd h
zip_find {A} {B} R (a ∷ xs) (b ∷ ys) x h c = elim (cons_cases a xs x c) [
  | inl is ↦ (b, here b ys, subst (λ (z : A). R z b) is h.0)
  | inr later ↦ (let w : (y : B) × Contains ys y × R x y = zip_find R xs ys x h.1 later in (w.0, there b ys w.0 w.1, w.2))
]

take_letter : {X : Type 0} (xs : List X) (i : ℕ) (x : X) → slice_get xs i ≡ Some x → take (suc i) xs ≡ take i xs ++ x ∷ []
take_letter [] i x e = cc
take_letter {X} (y ∷ ys) zero x e = ap (λ (z : X). z ∷ []) (same_Some y x e)
take_letter {X} (y ∷ ys) (suc i) x e = ap (λ (zs : List X). y ∷ zs) (take_letter ys i x e)

late : {X : Type 0} (xs : List X) (high i : ℕ) (x : X) → slice_get xs i ≡ Some x → high ≤ i → Contains (drop high xs) x
late [] high i x e h = cc
late {X} (y ∷ ys) zero zero x e h = subst (λ (z : X). Contains (y ∷ ys) z) (same_Some y x e) (here y ys)
late (y ∷ ys) zero (suc i) x e h = there y ys x (late ys zero i x e (omega arith))
late (y ∷ ys) (suc high) zero x e h = let no : ⊥ = omega (arith, h) in absurd no
late (y ∷ ys) (suc high) (suc i) x e h = late ys high i x e (omega (arith, h))

-- the triple of a letter, as a triple
abbrev from_nothing : Weighed → Interpolant → Triple
from_nothing w after = record {
  pre = [];
  command = w.command;
  post = with_numbers (numbered_threads w.thread after.atom.threads) after.atom;
  lambda = w.weights ++ after.divisor ∷ [];
  ascends = refl;
}

abbrev from_one : Weighed → Interpolant → Interpolant → Triple
from_one w before after = record {
  pre = with_numbers (numbered_threads w.thread after.atom.threads) before.atom ∷ [];
  command = w.command;
  post = with_numbers (numbered_threads w.thread after.atom.threads) after.atom;
  lambda = before.divisor ∷ (w.weights ++ after.divisor ∷ []);
  ascends = refl;
}

pub only : (a p : Atom) → Contains (a ∷ []) p → a ≡ p
only a p h = elim (cons_cases a [] p h) [ inl is ↦ is | inr none ↦ absurd (nothing p none) ]

-- each thread of what stands before a letter is the letter's, or one of what stands after it
pub threads_tied : (setting : Setting) (list : List Predicate) (trace : List (ℕ × ℕ)) (ws : List ℕ) (i : ℕ) (w : Weighed) → IsLetter setting trace (weighed setting trace ws) i w →
    (after : Interpolant) → StandsAt list w.after (Some after) → (b : Interpolant) → StandsAt list w.before (Some b) → (s : ℕ) → Contains b.atom.threads s →
    (s ≡ w.thread) ⊎ Contains after.atom.threads s
threads_tied setting list trace ws i w l after stands b h s c =
    among_before list setting.globals setting.locals Has w.before b h
    (subst (λ (u : Term). AllByRecursion (λ (p : Var × ℤ). IsVarOf setting.globals setting.locals Has p.0) u.pairs) (sym l.is)
    (before_every setting.globals setting.locals Has w.thread (inl refl) (form_in setting w.command) w.weights w.after (form_every setting w.command)
    (among_after list setting.globals setting.locals Has w.after after (subst (λ (s : Term). IsCanonical s.pairs) (sym l.after) (sum_canonical_at setting trace ws (suc i)))
    stands (λ s h. inr h) (subst (AreVars setting) (sym l.after) (sum_vars_at setting trace ws (suc i))))))
    s c
  where
    Has : ℕ → Type 0
    Has s = (s ≡ w.thread) ⊎ Contains after.atom.threads s

-- ---- cut by cut
module _ (setting : Setting) (known : List Predicate) (trace : List (ℕ × ℕ)) (lambda : List ℕ) (new : List Predicate) (entries : List Entry)
    (m : IsInterpolation setting known trace lambda new entries) where
  abbrev letters : List Weighed
  letters = letters_of setting trace lambda

  abbrev list : List Predicate
  list = known ++ new

  in_all : (e : Entry) → Contains (false_triples setting (drop m.high trace) ++ (m.triples ++ m.initial)) e → Contains entries e
  in_all e h = elim (first_has [] (false_triples setting (drop m.high trace) ++ (m.triples ++ m.initial)) entries e m.first h) [
    | inl none ↦ absurd (nothing e none)
    | inr i ↦ i
  ]

  abbrev IsGivenAt : ℕ → Type 0
  IsGivenAt i = (q : Interpolant) → StandsAt list (sum_at letters i) (Some q) → IsGiven entries (reverse (take i trace)) q.atom

  abbrev first_of_initial : Interpolant → Initial
  first_of_initial p = record { predicate = p.atom.predicate; lambda = initial_weights setting trace lambda p.atom.threads ++ p.divisor ∷ [] }

  -- at the lowest cut
  first_given : IsGivenAt m.low
  first_given q stands = at m.bounds.starts
    where
      in_initial : (p : Interpolant) → StandsAt list (sum_at letters m.low) (Some p) → m.initial ≡ initial_of setting trace lambda p ∷ [] → HasInitial entries q.atom.predicate
      in_initial p there_too is = (
        first_of_initial p,
        in_all (initial_of setting trace lambda p)
            (Contains-append_right (false_triples setting (drop m.high trace)) (m.triples ++ m.initial) (initial_of setting trace lambda p)
            (Contains-append_right m.triples m.initial (initial_of setting trace lambda p)
            (subst (λ (es : List Entry). Contains es (initial_of setting trace lambda p)) (sym is) (here (initial_of setting trace lambda p) [])))),
        ap (λ (a : Atom). a.predicate) (stands_once list (sum_at letters m.low) p q there_too stands),
      )

      begins : HasInitial entries q.atom.predicate
      begins = elim m.initial_is [
        | inl trivial ↦ absurd (nothing_stands list (sum_at letters m.low) q trivial.0 stands)
        | inr there_is ↦ in_initial there_is.0 there_is.1 there_is.4
      ]

      at : (m.low ≡ 0) ⊎ ((m.low < m.high) × IsTrivialSum (sum_at letters m.low)) → IsGiven entries (reverse (take m.low trace)) q.atom
      at (inl zero_is) = subst (λ (i : ℕ). IsGiven entries (reverse (take i trace)) q.atom) (sym zero_is) begins
      at (inr trivial) = absurd (nothing_stands list (sum_at letters m.low) q trivial.1 stands)

  -- from one cut to the next
  next_given : (j : ℕ) → m.low ≤ j → j < m.high → IsGivenAt j → IsGivenAt (suc j)
  next_given j low high given q stands = at (zip_find (IsTripleAt letters list) (cuts_down m.low m.high) m.triples j m.made.triples_are (among_cuts m.low m.high j low high))
    where
      at : (e : Entry) × Contains m.triples e × IsTripleAt letters list j e → IsGiven entries (reverse (take (suc j) trace)) q.atom
      at (e, within, t) =
          subst (λ (ls : List (ℕ × ℕ)). IsGiven entries ls q.atom) (sym letters_are)
          (subst (λ (a : Atom). IsGiven entries ((t.letter.thread, t.letter.command) ∷ reverse (take j trace)) a) same (by_triple t.before t.stands_before t.is))
        where
          is_letter : IsLetter setting trace letters j t.letter
          is_letter = letter_at setting trace (letter_weights setting trace lambda) j t.letter t.stands

          letters_are : reverse (take (suc j) trace) ≡ (t.letter.thread, t.letter.command) ∷ reverse (take j trace)
          letters_are =
              ap reverse (take_letter trace j (t.letter.thread, t.letter.command) is_letter.letter)
              ∙ reverse-append (take j trace) ((t.letter.thread, t.letter.command) ∷ [])

          same : t.after.atom ≡ q.atom
          same = stands_once list (sum_at letters (suc j)) t.after q (subst (λ (s : Term). StandsAt list s (Some t.after)) is_letter.after t.stands_after) stands

          listed : Contains entries e
          listed = in_all e (Contains-append_right (false_triples setting (drop m.high trace)) (m.triples ++ m.initial) e (Contains-append_left m.triples m.initial e within))

          tied : (b : Interpolant) → StandsAt list t.letter.before (Some b) → (s : ℕ) → Contains b.atom.threads s → Contains (numbered_threads t.letter.thread t.after.atom.threads) s
          tied b h s c = slot_named t.letter.thread t.after.atom.threads s
              (threads_tied setting list trace (letter_weights setting trace lambda) j t.letter is_letter t.after t.stands_after b h s c)

          by_triple : (before : Option Interpolant) → StandsAt list t.letter.before before → e ≡ triple_of t.letter before t.after →
              IsGiven entries ((t.letter.thread, t.letter.command) ∷ reverse (take j trace)) t.after.atom
          by_triple None h is = (
            [],
            gives entries t.letter.thread t.after.atom [] (from_nothing t.letter t.after) (subst (Contains entries) is listed) refl refl (λ p s i c. absurd (nothing p i)),
            All-nil (IsGiven entries (reverse (take j trace))),
          )
          by_triple (Some b) h is = (
            b.atom ∷ [],
            gives entries t.letter.thread t.after.atom (b.atom ∷ []) (from_one t.letter b t.after) (subst (Contains entries) is listed) refl refl
                (λ p s i c. tied b h s (subst (λ (r : Atom). Contains r.threads s) (sym (only b.atom p i)) c)),
            All-cons (IsGiven entries (reverse (take j trace))) b.atom [] (given b (subst (λ (s : Term). StandsAt list s (Some b)) is_letter.before h)) (All-nil (IsGiven entries (reverse (take j trace)))),
          )

  given_up : (count i : ℕ) → i ≡ m.low + count → i ≤ m.high → IsGivenAt i
  given_up zero i e high = subst IsGivenAt (let is : m.low ≡ i = omega (arith, e) in is) first_given
  given_up (suc c) i e high =
      subst IsGivenAt (let is : suc (m.low + c) ≡ i = omega (arith, e) in is)
      (next_given (m.low + c) (omega arith) (omega (arith, e, high)) (given_up c (m.low + c) refl (omega (arith, e, high))))

  -- from the least false cut on
  false_given : (count i : ℕ) → i ≡ m.high + count → i ≤ length trace → IsGiven entries (reverse (take i trace)) false_atom
  false_given zero i e high =
      given_up (m.high - m.low) i (let low : m.low ≤ m.high = m.bounds.within in omega (arith, e, low)) (omega (arith, e)) false_interpolant
      (inl (subst (λ (j : ℕ). IsFalseSum (sum_at letters j)) (let is : m.high ≡ i = omega (arith, e) in is) m.bounds.ends, refl))
  false_given (suc c) i e high =
      subst (λ (j : ℕ). IsGiven entries (reverse (take j trace)) false_atom) (let is : suc (m.high + c) ≡ i = omega (arith, e) in is)
      (one_more (m.high + c) (omega arith) (get_or trace (m.high + c) (0, 0)) (slice_get-get_or trace (m.high + c) (0, 0) (omega (arith, e, high)))
      (false_given c (m.high + c) refl (omega (arith, e, high))))
    where
      one_more : (j : ℕ) → m.high ≤ j → (l : ℕ × ℕ) → slice_get trace j ≡ Some l → IsGiven entries (reverse (take j trace)) false_atom → IsGiven entries (reverse (take (suc j) trace)) false_atom
      one_more j h l is given =
          subst (λ (ls : List (ℕ × ℕ)). IsGiven entries ls false_atom)
          (sym (ap reverse (take_letter trace j l is) ∙ reverse-append (take j trace) (l ∷ []))) (
            false_atom ∷ [],
            gives_false entries setting l.0 l.1 (in_all (false_triple setting l.1)
                (Contains-append_left (false_triples setting (drop m.high trace)) (m.triples ++ m.initial) (false_triple setting l.1)
                (mapped (λ (l : ℕ × ℕ). false_triple setting l.1) (reverse (drop m.high trace)) l (reversed (drop m.high trace) l (late trace m.high j l is h))))),
            All-cons (IsGiven entries (reverse (take j trace))) false_atom [] given (All-nil (IsGiven entries (reverse (take j trace)))),
          )

  high_within : m.high ≤ length trace
  high_within = elim (cases_lt (length trace) m.high) [
    | inl less ↦ absurd (m.bounds.least (length trace) less (ap (λ (t : Term). t.pairs) past, subst (λ (t : Term). t.constant ≤ℤ pos 0) (sym past) (omega (arith, ints))))
    | inr le ↦ le
  ]
    where
      past : sum_at letters (length trace) ≡ number_term (pos 0)
      past = get_or_past (map (λ (w : Weighed). w.before) letters) (length trace) (number_term (pos 0))
          (let e : length (map (λ (w : Weighed). w.before) letters) ≡ length trace = length-map letters (λ (w : Weighed). w.before) ∙ letter_there setting trace (letter_weights setting trace lambda) in omega (arith, e))

  pub proved : trace ≢ [] → IsProved entries trace
  proved some = (rules_are_demands entries trace).1 (
    some,
    subst (λ (ls : List (ℕ × ℕ)). IsGiven entries (reverse ls) false_atom) (take_all (length trace) trace (omega arith))
        (false_given (length trace - m.high) (length trace) (let h : m.high ≤ length trace = high_within in omega (arith, h)) (omega arith)),
  )
