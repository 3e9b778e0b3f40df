-- The laws of the atoms before a command.
use Rattle.std.proofs.Common.{◌≡◌, ℕ, ◌+◌, ◌<◌, ◌≤◌, Bool, true, false, IsTrue, List, [], ◌∷◌, ◌++◌, length, Result, Ok, Err, refl, sym, ap, subst, ◌∙◌, arith, append_assoc}
use Rattle.std.specs.Prelude.{IfOk, ◌-◌, ◌&&◌, codes, nat_le, slice_get, if◌then◌else◌}
use Rattle.std.specs.List.{AllByRecursion}
use Rattle.std.proofs.Math.Bool.{Bool-set}
use Rattle.std.proofs.lemmas.Bool.{both_ways, cond-true, cond-false, false_from_ne_true, leb-true, le-leb}
use Rattle.std.proofs.lemmas.List.{append-nil, length-append, length_push}
use Rattle.ps_atom.specs.declared.atom.Atom.{Atom}
use Rattle.ps_atom_text.specs.declared.before.Before.{Before}
use Rattle.ps_atom_text.specs.declared.limits.TheConstants.{ANY_THREAD, MOST_BEFORE}
use Rattle.ps_atom_text.specs.Growing.{grow_at, goes_to}
use Rattle.ps_atom_text.specs.Reading.{atom_in_field, before_of, before_with, none_before}
use Rattle.ps_atom_text.specs.inner.Last.{is_atom_after}
use Rattle.ps_atom_text.specs.Spelling.{atom_text, threads_text, AtomHasSpelling}
use Rattle.ps_atom_text.proofs.Atoms.{atom_is_leaf}
use Rattle.ps_atom_text.proofs.Fields.{found_as, if_then, number_goes_on, then_is}
use Rattle.ps_atom_text.proofs.Growths.{GrewBy, IsGrowth, Steps, grow_again, grow_clean, grow_found}
use Rattle.ps_atom_text.proofs.Orders.{ascend-push, ascend_front}
use Rattle.ps_lines.specs.declared.form_name.FormName.{FormName}
use Rattle.ps_lines.specs.declared.form_name.FormName.TheVariants as name
use Rattle.ps_lines.specs.Reading.{Position}
use Rattle.ps_lines.specs.Tokens.{LinePart}
use Rattle.ps_lines.proofs.Exact.{Exact, Finds, Gets, IsLeaf}
use Rattle.ps_lines.proofs.Forms.{Stops, member_tokens}
use Rattle.ps_triple.specs.Ascending.{ascend}

pub any_atom : IsLeaf (atom_in_field ANY_THREAD) atom_text (AtomHasSpelling ANY_THREAD)
any_atom = atom_is_leaf ANY_THREAD (omega arith)

-- ---- lists of atoms that ascend

pub same_before : (s t : Before) → s.atoms ≡ t.atoms → s ≡ t
same_before s t e = subst (λ (p : List Atom). (a : IsTrue (ascend p)) → s ≡ record { atoms = p; ascends = a }) e at_first t.ascends
  where
    at_first : (a : IsTrue (ascend s.atoms)) → s ≡ record { atoms = s.atoms; ascends = a }
    at_first a = λ i. record { atoms = s.atoms; ascends = Bool-set (ascend s.atoms) true s.ascends a i }

before_is : (atoms : List Atom) (t : Bool) (up : ascend atoms ≡ t) → IfOk (before_of atoms t up) (λ b. (b.atoms ≡ atoms) × (length atoms ≤ MOST_BEFORE))
before_is atoms false up = tt
before_is atoms true up = by_test (nat_le (length atoms) MOST_BEFORE) refl
  where
    by_test : (t : Bool) → nat_le (length atoms) MOST_BEFORE ≡ t → IfOk (if t then Ok (record { atoms = atoms; ascends = up }) else Err name.Limit) (λ (b : Before). (b.atoms ≡ atoms) × (length atoms ≤ MOST_BEFORE))
    by_test true few = (refl, leb-true _ _ few)
    by_test false many = tt

before_from : (atoms : List Atom) (t : Bool) (up : ascend atoms ≡ t) (b : Before) → b.atoms ≡ atoms → length atoms ≤ MOST_BEFORE → before_of atoms t up ≡ Ok b
before_from atoms false up b e few = absurd (both_ways (ascend atoms) up (subst (λ (qs : List Atom). ascend qs ≡ true) e b.ascends))
before_from atoms true up b e few = cond-true _ _ _ (le-leb _ _ few) ∙ ap (λ (c : Before). Ok c) (same_before (record { atoms = atoms; ascends = up }) b (sym e))

-- ---- one more atom, as it is made

refused_by : (atoms : List Atom) (t : Bool) (up : ascend atoms ≡ t) → t ≡ false → before_of atoms t up ≡ Err name.Order
refused_by atoms false up e = refl
refused_by atoms true up e = absurd cc

full_by : (atoms : List Atom) (t : Bool) (up : ascend atoms ≡ t) → t ≡ true → MOST_BEFORE < length atoms → before_of atoms t up ≡ Err name.Limit
full_by atoms false up e many = absurd cc
full_by atoms true up e many = cond-false _ _ _ (false_from_ne_true (nat_le (length atoms) MOST_BEFORE) (λ few. let le : length atoms ≤ MOST_BEFORE = leb-true _ _ few in omega (arith, le, many)))

-- whether the atom comes last decides whether all ascend
joined_ascend : (b : Before) (q : Atom) (slice : List Atom) (t : Bool) → slice ≡ b.atoms → t ≡ is_atom_after (slice_get slice (length slice - 1)) q → ascend (b.atoms ++ q ∷ []) ≡ t
joined_ascend b q slice t same test =
    ascend-push b.atoms q ∙ ap (λ (u : Bool). u && is_atom_after (slice_get b.atoms (length b.atoms - 1)) q) b.ascends
    ∙ sym (subst (λ (qs : List Atom). t ≡ is_atom_after (slice_get qs (length qs - 1)) q) same test)

pub before_refused : (b : Before) (q : Atom) (slice : List Atom) → slice ≡ b.atoms → false ≡ is_atom_after (slice_get slice (length slice - 1)) q → before_of (b.atoms ++ q ∷ []) (ascend (b.atoms ++ q ∷ [])) refl ≡ Err name.Order
before_refused b q slice same test = refused_by (b.atoms ++ q ∷ []) (ascend (b.atoms ++ q ∷ [])) refl (joined_ascend b q slice false same test)

pub before_full : (b : Before) (q : Atom) (slice : List Atom) → slice ≡ b.atoms → true ≡ is_atom_after (slice_get slice (length slice - 1)) q → MOST_BEFORE ≤ length slice → before_of (b.atoms ++ q ∷ []) (ascend (b.atoms ++ q ∷ [])) refl ≡ Err name.Limit
before_full b q slice same test many =
    let long : length (b.atoms ++ q ∷ []) ≡ length b.atoms + 1 = length_push b.atoms q in
    let one : length slice ≡ length b.atoms = ap length same in
    full_by (b.atoms ++ q ∷ []) (ascend (b.atoms ++ q ∷ [])) refl (joined_ascend b q slice true same test) (omega (arith, many, long, one))

pub before_ascends : (b : Before) (q : Atom) (slice atoms : List Atom) → slice ≡ b.atoms → true ≡ is_atom_after (slice_get slice (length slice - 1)) q → atoms ≡ slice ++ q ∷ [] → ascend atoms ≡ true
before_ascends b q slice atoms same test e =
    let all : atoms ≡ b.atoms ++ q ∷ [] = e ∙ ap (λ (qs : List Atom). qs ++ q ∷ []) same in
    ap ascend all ∙ joined_ascend b q slice true same test

pub before_joined : (b : Before) (q : Atom) (slice : List Atom) (c : Before) → slice ≡ b.atoms → c.atoms ≡ slice ++ q ∷ [] → length slice < MOST_BEFORE → before_of (b.atoms ++ q ∷ []) (ascend (b.atoms ++ q ∷ [])) refl ≡ Ok c
before_joined b q slice c same e room =
    let all : c.atoms ≡ b.atoms ++ q ∷ [] = e ∙ ap (λ (qs : List Atom). qs ++ q ∷ []) same in
    let long : length (b.atoms ++ q ∷ []) ≡ length b.atoms + 1 = length_push b.atoms q in
    let one : length slice ≡ length b.atoms = ap length same in
    before_from (b.atoms ++ q ∷ []) (ascend (b.atoms ++ q ∷ [])) refl c all (omega (arith, long, one, room))

-- ---- one more atom

pub record Joins (s : Before) (q : Atom) (t : Before) : Type 0 where
  pub atoms : t.atoms ≡ s.atoms ++ q ∷ []
  pub fits : AtomHasSpelling ANY_THREAD q
  pub few : length t.atoms ≤ MOST_BEFORE

joined_found : (s : Before) (f : List ℕ) → IfOk (before_with s f) (λ t. (q : Atom) × (f ≡ atom_text q) × Joins s q t)
unfolding before_with
joined_found s f =
    if_then (atom_in_field ANY_THREAD f) (λ q. before_of (s.atoms ++ q ∷ []) (ascend (s.atoms ++ q ∷ [])) refl) (λ q. (f ≡ atom_text q) × AtomHasSpelling ANY_THREAD q) (λ t. (q : Atom) × (f ≡ atom_text q) × Joins s q t) (any_atom.found f) (λ q p.
    if_then_join q p (before_of (s.atoms ++ q ∷ []) (ascend (s.atoms ++ q ∷ [])) refl) (before_is (s.atoms ++ q ∷ []) (ascend (s.atoms ++ q ∷ [])) refl))
  where
    if_then_join : (q : Atom) → (f ≡ atom_text q) × AtomHasSpelling ANY_THREAD q → (r : Result Before FormName) → IfOk r (λ b. (b.atoms ≡ s.atoms ++ q ∷ []) × (length (s.atoms ++ q ∷ []) ≤ MOST_BEFORE)) → IfOk r (λ t. (q : Atom) × (f ≡ atom_text q) × Joins s q t)
    if_then_join q p (Err what) h = tt
    if_then_join q p (Ok t) h =
        let same : length t.atoms ≡ length (s.atoms ++ q ∷ []) = ap length h.0 in
        (q, p.0, record { atoms = h.0; fits = p.1; few = omega (arith, same, h.1) })

joined_again : (s : Before) (q : Atom) (t : Before) → Joins s q t → before_with s (atom_text q) ≡ Ok t
unfolding before_with
joined_again s q t j =
    let same : length t.atoms ≡ length (s.atoms ++ q ∷ []) = ap length j.atoms in
    then_is (atom_in_field ANY_THREAD (atom_text q)) (λ r. before_of (s.atoms ++ r ∷ []) (ascend (s.atoms ++ r ∷ [])) refl) q t (any_atom.again q j.fits)
    (before_from (s.atoms ++ q ∷ []) (ascend (s.atoms ++ q ∷ [])) refl t j.atoms (omega (arith, same, j.few)))

joins : IsGrowth (goes_to (codes "by")) before_with atom_text Joins
joins = record {
  found = joined_found;
  again = joined_again;
  goes_on = λ s q t j. number_goes_on 98 (121 ∷ []) q.predicate (threads_text q.threads) (omega arith) j.fits.predicate;
  clean = λ s q t j. any_atom.clean q j.fits;
}

-- ---- the whole list

pub record BeforeFits (b : Before) : Type 0 where
  pub few : length b.atoms ≤ MOST_BEFORE
  pub atoms : AllByRecursion (AtomHasSpelling ANY_THREAD) b.atoms

abbrev Fit : List Atom → Type 0
Fit qs = AllByRecursion (AtomHasSpelling ANY_THREAD) qs

joined_steps : (qs : List Atom) (s t : Before) → Steps Joins s qs t → length s.atoms ≤ MOST_BEFORE → (t.atoms ≡ s.atoms ++ qs) × (length t.atoms ≤ MOST_BEFORE) × Fit qs
joined_steps [] s t steps few = (ap (λ (b : Before). b.atoms) (sym steps) ∙ sym (append-nil s.atoms), subst (λ (b : Before). length b.atoms ≤ MOST_BEFORE) steps few, tt)
joined_steps (q ∷ qs) s t steps few =
    let u = steps.0 in
    let rest = joined_steps qs u t steps.2 steps.1.few in
    (rest.0 ∙ ap (λ (rs : List Atom). rs ++ qs) steps.1.atoms ∙ append_assoc s.atoms (q ∷ []) qs, rest.1, (steps.1.fits, rest.2))

steps_joined : (qs : List Atom) (s t : Before) → t.atoms ≡ s.atoms ++ qs → length t.atoms ≤ MOST_BEFORE → Fit qs → Steps Joins s qs t
steps_joined [] s t e few fit = same_before s t (sym (append-nil s.atoms) ∙ sym e)
steps_joined (q ∷ qs) s t e few fit =
    let all : t.atoms ≡ (s.atoms ++ q ∷ []) ++ qs = e ∙ sym (append_assoc s.atoms (q ∷ []) qs) in
    let u : Before = record { atoms = s.atoms ++ q ∷ []; ascends = ascend_front (s.atoms ++ q ∷ []) qs (subst (λ (rs : List Atom). ascend rs ≡ true) all t.ascends) } in
    let long : length t.atoms ≡ length (s.atoms ++ q ∷ []) + length qs = ap length all ∙ length-append (s.atoms ++ q ∷ []) qs in
    (u, record { atoms = refl; fits = fit.0; few = omega (arith, long, few) }, steps_joined qs u t all few fit.1)

before_found : (at : Position) → Finds (grow_at (goes_to (codes "by")) before_with none_before at) (λ y. (at.tokens ≡ member_tokens atom_text y.0.atoms ++ y.1.tokens) × BeforeFits y.0)
before_found at =
    found_as (grow_at (goes_to (codes "by")) before_with none_before at) (GrewBy atom_text Joins none_before at.tokens) _ (grow_found (goes_to (codes "by")) before_with atom_text Joins joins at.tokens none_before at.line at.field) (λ y g.
    let p = joined_steps g.0 none_before y.0 g.2 (omega arith) in
    (g.1 ∙ ap (λ (qs : List Atom). member_tokens atom_text qs ++ y.1.tokens) (sym p.0), record { few = p.1; atoms = subst Fit (sym p.0) p.2 }))

before_steps : (b : Before) → BeforeFits b → Steps Joins none_before b.atoms b
before_steps b fit = steps_joined b.atoms none_before b refl fit.few fit.atoms

before_again : (at : Position) (b : Before) (rest : List LinePart) → BeforeFits b → at.tokens ≡ member_tokens atom_text b.atoms ++ rest → Stops (goes_to (codes "by")) rest → Gets (grow_at (goes_to (codes "by")) before_with none_before at) (λ y. (y.0 ≡ b) × (y.1.tokens ≡ rest))
before_again at b rest fit e stops =
    subst (λ (ts : List LinePart). Gets (grow_at (goes_to (codes "by")) before_with none_before (record { line = at.line; field = at.field; tokens = ts })) (λ y. (y.0 ≡ b) × (y.1.tokens ≡ rest))) (sym e)
    (grow_again (goes_to (codes "by")) before_with atom_text Joins joins b.atoms none_before b at.line at.field rest (before_steps b fit) stops)

pub before_exact : Exact (grow_at (goes_to (codes "by")) before_with none_before) (λ b. member_tokens atom_text b.atoms) BeforeFits (Stops (goes_to (codes "by")))
before_exact = record {
  found = before_found;
  again = before_again;
  clean = λ b fit. grow_clean (goes_to (codes "by")) before_with atom_text Joins joins b.atoms none_before b (before_steps b fit);
}
