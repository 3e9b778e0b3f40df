-- The laws of atoms and places as fields: what is read is spelled so, and what is spelled so is read.
use Rattle.std.proofs.Common.{◌≡◌, ℕ, ◌^◌, ◌<◌, ◌≤◌, ◌&&◌, Bool, true, false, List, [], ◌∷◌, ◌++◌, map, Option, Some, None, Ok, Err, refl, sym, ap, subst, ◌∙◌, arith}
use Rattle.std.specs.Prelude.{decimal, IfOk, nat_le, ok_or, option_map, if◌then◌else◌}
use Rattle.std.specs.List.{list_all, AllByRecursion}
use Rattle.std.proofs.lemmas.Bool.{and_from, cond-true, leb-true, le-leb}
use Rattle.std.proofs.lemmas.List.{append-nil}
use Rattle.std.proofs.lemmas.Option.{none-some, same_Some, cond_some, option_and_then_some}
use Rattle.ps_atom.specs.declared.atom.Atom.{Atom}
use Rattle.ps_atom_text.specs.declared.limits.TheConstants.{MOST_THREAD}
use Rattle.ps_atom_text.specs.Reading.{atom_from, atom_in_field, atom_of, between_commas, number_up_to, numbers_up_to, parts_round, place_from, place_in_field, place_of}
use Rattle.ps_atom_text.specs.inner.Faults.{atom_fault, place_fault}
use Rattle.ps_atom_text.specs.Spelling.{atom_text, place_text, threads_text, AtomHasSpelling, PlaceHasSpelling}
use Rattle.ps_atom_text.proofs.Commas.{AreSmall, after_commas, commas_again, commas_found, commas_some, decimal_free_of, decimal_uncut}
use Rattle.ps_lines.specs.declared.form_name.FormName.TheVariants as name
use Rattle.ps_lines.specs.Decimal.{counts_as_decimal, u32_of}
use Rattle.ps_lines.specs.Parts.{cut_at}
use Rattle.ps_lines.proofs.Bytes.{IsPlain}
use Rattle.ps_lines.proofs.Cutting.{cut_again, cut_found}
use Rattle.ps_lines.proofs.Decimals.{decimal-of, decimal-is, decimal_counts, decimal_plain}
use Rattle.ps_lines.proofs.Digits.{u32_is, u32_from}
use Rattle.ps_lines.proofs.Exact.{IsLeaf}

-- ---- numbers

number_is : (f : List ℕ) (n : ℕ) → u32_of f ≡ Some n → (f ≡ decimal n) × (n < 2 ^ 32)
number_is f n e = (let p = u32_is f n e in (decimal-of f n (omega (arith, p.0)) p.1, p.0))

number_from : (n : ℕ) → n < 2 ^ 32 → u32_of (decimal n) ≡ Some n
number_from n small = u32_from (decimal n) n small (decimal-is n (omega (arith, small)))

number_counts : (n : ℕ) → n < 2 ^ 32 → counts_as_decimal (decimal n) ≡ true
number_counts n small = decimal_counts (decimal n) n (decimal-is n (omega (arith, small)))

bounded_is : (most : ℕ) (f : List ℕ) (n : ℕ) → number_up_to most f ≡ Some n → (f ≡ decimal n) × (n ≤ most)
bounded_is most f n e =
    option_and_then_some (λ (m : ℕ). if nat_le m most then Some m else None) (u32_of f) n e (λ m whole small.
    let p = cond_some _ _ _ small in
    subst (λ (k : ℕ). (f ≡ decimal k) × (k ≤ most)) p.1 ((number_is f m whole).0, leb-true _ _ p.0))

bounded_from : (most n : ℕ) → most < 2 ^ 32 → n ≤ most → number_up_to most (decimal n) ≡ Some n
bounded_from most n small le = rw (number_from n (omega (arith, small, le))) (cond-true _ _ _ (le-leb _ _ le))

option_map_some : {A B : Type 0} (g : A → B) (o : Option A) (y : B) → option_map g o ≡ Some y → (x : A) × (o ≡ Some x) × (g x ≡ y)
option_map_some g None y e = absurd (none-some y e)
option_map_some g (Some x) y e = (x, refl, same_Some (g x) y e)

-- numbers that are at most this one
abbrev UpTo : ℕ → List ℕ → Type 0
UpTo most ts = AllByRecursion (λ (t : ℕ). t ≤ most) ts

numbers_are : (most : ℕ) (fs : List (List ℕ)) (ts : List ℕ) → numbers_up_to most fs ≡ Some ts → (fs ≡ map decimal ts) × UpTo most ts
numbers_are most [] ts e = subst (λ (us : List ℕ). ([] ≡ map decimal us) × UpTo most us) (same_Some [] ts e) (refl, tt)
numbers_are most (f ∷ fs) ts e =
    option_and_then_some (λ (n : ℕ). option_map (λ (ns : List ℕ). n ∷ ns) (numbers_up_to most fs)) (number_up_to most f) ts e (λ n first inner.
    let rest = option_map_some (λ (ns : List ℕ). n ∷ ns) (numbers_up_to most fs) ts inner in
    let p = bounded_is most f n first in
    let q = numbers_are most fs rest.0 rest.1 in
    subst (λ (us : List ℕ). (f ∷ fs ≡ map decimal us) × UpTo most us) rest.2
    (ap (λ (g : List ℕ). g ∷ fs) p.0 ∙ ap (λ (gs : List (List ℕ)). decimal n ∷ gs) q.0, (p.1, q.1)))

numbers_from : (most : ℕ) (ts : List ℕ) → most < 2 ^ 32 → UpTo most ts → numbers_up_to most (map decimal ts) ≡ Some ts
numbers_from most [] small le = refl
numbers_from most (t ∷ ts) small le = rw (bounded_from most t small le.0, numbers_from most ts small le.1) refl

numbers_count : (most : ℕ) (ts : List ℕ) → most < 2 ^ 32 → UpTo most ts → list_all counts_as_decimal (map decimal ts) ≡ true
numbers_count most [] small le = refl
numbers_count most (t ∷ ts) small le = and_from _ _ (number_counts t (omega (arith, small, le.0))) (numbers_count most ts small le.1)

are_small : (most : ℕ) (ts : List ℕ) → most < 2 ^ 32 → UpTo most ts → AreSmall ts
are_small most [] small le = tt
are_small most (t ∷ ts) small le = (omega (arith, small, le.0), are_small most ts small le.1)

-- ---- what is read through a test

pub tested : {A : Type 0} (t : Bool) (o : Option A) (Q : A → Type 0) → ((x : A) → o ≡ Some x → Q x) → IfOk (if t then ok_or o name.Number else Err name.Field) Q
tested false o Q h = tt
tested true None Q h = tt
tested true (Some x) Q h = h x refl

pub passes : {A : Type 0} (t : Bool) (o : Option A) (x : A) → t ≡ true → o ≡ Some x → (if t then ok_or o name.Number else Err name.Field) ≡ Ok x
passes {A = A} t o x test is = cond-true _ _ _ test ∙ ap (λ (p : Option A). ok_or p name.Number) is

-- ---- atoms

abbrev pub atom : ℕ → List ℕ → Atom
atom p ts = record { predicate = p; threads = ts }

atom_parts : (most : ℕ) (parts : List ℕ × List (List ℕ)) (q : Atom) → atom_of most parts ≡ Some q → (parts.0 ≡ decimal q.predicate) × (parts.1 ≡ map decimal q.threads) × AtomHasSpelling most q
atom_parts most parts q e =
    option_and_then_some (λ (p : ℕ). option_map (λ (ts : List ℕ). atom p ts) (numbers_up_to most parts.1)) (u32_of parts.0) q e (λ p first inner.
    let rest = option_map_some (λ (ts : List ℕ). atom p ts) (numbers_up_to most parts.1) q inner in
    let a = number_is parts.0 p first in
    let b = numbers_are most parts.1 rest.0 rest.1 in
    subst (λ (r : Atom). (parts.0 ≡ decimal r.predicate) × (parts.1 ≡ map decimal r.threads) × AtomHasSpelling most r) rest.2
    (a.0, b.0, record { predicate = a.1; threads = b.1 }))

threads_read : (bs ts : List ℕ) → between_commas bs ≡ map decimal ts → 58 ∷ bs ≡ threads_text ts
threads_read bs [] e = absurd (commas_some bs e)
threads_read bs (t ∷ ts) e = ap (λ (r : List ℕ). 58 ∷ r) (commas_found bs t ts e)

no_threads : (ts : List ℕ) → [] ≡ map decimal ts → threads_text ts ≡ []
no_threads [] e = refl
no_threads (t ∷ ts) e = absurd cc

abbrev IsAtomIn : ℕ → List ℕ → Atom → Type 0
IsAtomIn most f q = (f ≡ atom_text q) × AtomHasSpelling most q

atom_cut : (most : ℕ) (f : List ℕ) (r : Option (List ℕ × List ℕ)) → ((parts : List ℕ × List ℕ) → r ≡ Some parts → f ≡ parts.0 ++ 58 ∷ parts.1) → IfOk (atom_from most (parts_round f r)) (IsAtomIn most f)
atom_cut most f None cut =
    tested (counts_as_decimal f && list_all counts_as_decimal []) (atom_of most (f, [])) (IsAtomIn most f) (λ q e.
    let p = atom_parts most (f, []) q e in
    (p.0 ∙ sym (append-nil (decimal q.predicate)) ∙ ap (λ (r : List ℕ). decimal q.predicate ++ r) (sym (no_threads q.threads p.1)), p.2))
atom_cut most f (Some parts) cut =
    tested (counts_as_decimal parts.0 && list_all counts_as_decimal (between_commas parts.1)) (atom_of most (parts.0, between_commas parts.1)) (IsAtomIn most f) (λ q e.
    let p = atom_parts most (parts.0, between_commas parts.1) q e in
    (cut parts refl ∙ ap (λ (r : List ℕ). r ++ 58 ∷ parts.1) p.0 ∙ ap (λ (r : List ℕ). decimal q.predicate ++ r) (threads_read parts.1 q.threads p.1), p.2))

atom_again : (most p : ℕ) (ts : List ℕ) → most < 2 ^ 32 → p < 2 ^ 32 → UpTo most ts → atom_in_field most (decimal p ++ threads_text ts) ≡ Ok (atom p ts)
atom_again most p [] small fit le =
    let is : atom_of most (decimal p, []) ≡ Some (atom p []) = rw (number_from p fit) refl in
    ap (atom_in_field most) (append-nil (decimal p))
    ∙ ap (λ (r : Option (List ℕ × List ℕ)). atom_from most (parts_round (decimal p) r)) (decimal_uncut 58 p (omega arith) fit)
    ∙ passes (counts_as_decimal (decimal p) && list_all counts_as_decimal []) (atom_of most (decimal p, [])) (atom p []) (and_from _ _ (number_counts p fit) refl) is
atom_again most p (t ∷ ts) small fit le =
    let rest : List ℕ = decimal t ++ after_commas ts in
    let fs : List (List ℕ) = map decimal (t ∷ ts) in
    let is : atom_of most (decimal p, fs) ≡ Some (atom p (t ∷ ts)) = rw (number_from p fit, numbers_from most (t ∷ ts) small le) refl in
    ap (λ (r : Option (List ℕ × List ℕ)). atom_from most (parts_round (decimal p ++ 58 ∷ rest) r)) (cut_again 58 (decimal p) rest (decimal_free_of 58 p (omega arith) fit))
    ∙ ap (λ (gs : List (List ℕ)). atom_from most (decimal p, gs)) (commas_again t ts (are_small most (t ∷ ts) small le))
    ∙ passes (counts_as_decimal (decimal p) && list_all counts_as_decimal fs) (atom_of most (decimal p, fs)) (atom p (t ∷ ts)) (and_from _ _ (number_counts p fit) (numbers_count most (t ∷ ts) small le)) is

plain_append : (xs ys : List ℕ) → IsPlain xs → IsPlain ys → IsPlain (xs ++ ys)
plain_append [] ys p q = q
plain_append (x ∷ xs) ys p q = (p.0, plain_append xs ys p.1 q)

number_plain : (n : ℕ) → n < 2 ^ 32 → IsPlain (decimal n)
number_plain n small = decimal_plain n (omega (arith, small))

commas_plain : (most : ℕ) (ts : List ℕ) → most < 2 ^ 32 → UpTo most ts → IsPlain (after_commas ts)
commas_plain most [] small le = tt
commas_plain most (t ∷ ts) small le =
    (record { no_blank = refl; no_feed = refl }, plain_append (decimal t) (after_commas ts) (number_plain t (omega (arith, small, le.0))) (commas_plain most ts small le.1))

threads_plain : (most : ℕ) (ts : List ℕ) → most < 2 ^ 32 → UpTo most ts → IsPlain (threads_text ts)
threads_plain most [] small le = tt
threads_plain most (t ∷ ts) small le =
    (record { no_blank = refl; no_feed = refl }, plain_append (decimal t) (after_commas ts) (number_plain t (omega (arith, small, le.0))) (commas_plain most ts small le.1))

pub atom_is_leaf : (most : ℕ) → most < 2 ^ 32 → IsLeaf (atom_in_field most) atom_text (AtomHasSpelling most)
atom_is_leaf most small = record {
  found = λ f. atom_cut most f (cut_at 58 f) (λ parts h. cut_found 58 f parts.0 parts.1 h);
  again = λ q fit. atom_again most q.predicate q.threads small fit.predicate fit.threads;
  clean = λ q fit. plain_append (decimal q.predicate) (threads_text q.threads) (number_plain q.predicate fit.predicate) (threads_plain most q.threads small fit.threads);
}

-- ---- places

abbrev place : ℕ → ℕ → ℕ × ℕ
place t l = (t, l)

place_is : (parts : List ℕ × List ℕ) (p : ℕ × ℕ) → place_of parts ≡ Some p → (parts.0 ≡ decimal p.0) × (parts.1 ≡ decimal p.1) × PlaceHasSpelling p
place_is parts p e =
    option_and_then_some (λ (t : ℕ). option_map (λ (l : ℕ). place t l) (u32_of parts.1)) (number_up_to MOST_THREAD parts.0) p e (λ t first inner.
    let second = option_map_some (λ (l : ℕ). place t l) (u32_of parts.1) p inner in
    let a = bounded_is MOST_THREAD parts.0 t first in
    let b = number_is parts.1 second.0 second.1 in
    subst (λ (q : ℕ × ℕ). (parts.0 ≡ decimal q.0) × (parts.1 ≡ decimal q.1) × PlaceHasSpelling q) second.2 (a.0, b.0, record { thread = a.1; location = b.1 }))

abbrev IsPlaceIn : List ℕ → ℕ × ℕ → Type 0
IsPlaceIn f p = (f ≡ place_text p) × PlaceHasSpelling p

place_cut : (f : List ℕ) (r : Option (List ℕ × List ℕ)) → ((parts : List ℕ × List ℕ) → r ≡ Some parts → f ≡ parts.0 ++ 58 ∷ parts.1) → IfOk (place_from r) (IsPlaceIn f)
place_cut f None cut = tt
place_cut f (Some parts) cut =
    tested (counts_as_decimal parts.0 && counts_as_decimal parts.1) (place_of parts) (IsPlaceIn f) (λ p e.
    let q = place_is parts p e in
    (cut parts refl ∙ ap (λ (r : List ℕ). r ++ 58 ∷ parts.1) q.0 ∙ ap (λ (r : List ℕ). decimal p.0 ++ 58 ∷ r) q.1, q.2))

place_again : (p : ℕ × ℕ) → PlaceHasSpelling p → place_in_field (place_text p) ≡ Ok p
place_again p fit =
    let small : p.0 < 2 ^ 32 = omega (arith, fit.thread) in
    let is : place_of (decimal p.0, decimal p.1) ≡ Some p = rw (bounded_from MOST_THREAD p.0 (omega arith) fit.thread, number_from p.1 fit.location) refl in
    ap place_from (cut_again 58 (decimal p.0) (decimal p.1) (decimal_free_of 58 p.0 (omega arith) small))
    ∙ passes (counts_as_decimal (decimal p.0) && counts_as_decimal (decimal p.1)) (place_of (decimal p.0, decimal p.1)) p (and_from _ _ (number_counts p.0 small) (number_counts p.1 fit.location)) is

pub place_is_leaf : IsLeaf place_in_field place_text PlaceHasSpelling
place_is_leaf = record {
  found = λ f. place_cut f (cut_at 58 f) (λ parts h. cut_found 58 f parts.0 parts.1 h);
  again = place_again;
  clean = λ p fit. plain_append (decimal p.0) (58 ∷ decimal p.1) (number_plain p.0 (omega (arith, fit.thread))) (record { no_blank = refl; no_feed = refl }, number_plain p.1 fit.location);
}

-- ---- a part whose number can be read is in form, so the fault of others decides

read_counts : (f : List ℕ) (n : ℕ) → u32_of f ≡ Some n → counts_as_decimal f ≡ true
read_counts f n e = (let p = number_is f n e in ap counts_as_decimal p.0 ∙ number_counts n p.1)

bounded_counts : (most : ℕ) (f : List ℕ) (n : ℕ) → number_up_to most f ≡ Some n → counts_as_decimal f ≡ true
bounded_counts most f n e =
    option_and_then_some (λ (m : ℕ). if nat_le m most then Some m else None) (u32_of f) n e (λ m whole small. read_counts f m whole)

threads_count : (most : ℕ) (fs : List (List ℕ)) (ts : List ℕ) → numbers_up_to most fs ≡ Some ts → list_all counts_as_decimal fs ≡ true
threads_count most [] ts e = refl
threads_count most (f ∷ fs) ts e =
    option_and_then_some (λ (n : ℕ). option_map (λ (ns : List ℕ). n ∷ ns) (numbers_up_to most fs)) (number_up_to most f) ts e (λ n first inner.
    let rest = option_map_some (λ (ns : List ℕ). n ∷ ns) (numbers_up_to most fs) ts inner in
    and_from _ _ (bounded_counts most f n first) (threads_count most fs rest.0 rest.1))

fails : {A : Type 0} (t : Bool) (o : Option A) → o ≡ None → (if t then ok_or o name.Number else Err name.Field) ≡ Err (if t then name.Number else name.Field)
fails {A = A} true o e = ap (λ (p : Option A). ok_or p name.Number) e
fails false o e = refl

pub atom_read : (most : ℕ) (p : List ℕ) (fs : List (List ℕ)) (n : ℕ) (ts : List ℕ) → Some n ≡ u32_of p → Some ts ≡ numbers_up_to most fs → atom_from most (p, fs) ≡ Ok (atom n ts)
atom_read most p fs n ts number threads =
    let is : atom_of most (p, fs) ≡ Some (atom n ts) = rw (sym number, sym threads) refl in
    passes (counts_as_decimal p && list_all counts_as_decimal fs) (atom_of most (p, fs)) (atom n ts) (and_from _ _ (read_counts p n (sym number)) (threads_count most fs ts (sym threads))) is

pub atom_unnumbered : (most : ℕ) (p : List ℕ) (fs : List (List ℕ)) → None ≡ u32_of p → atom_from most (p, fs) ≡ Err (atom_fault p fs)
atom_unnumbered most p fs number =
    let none : atom_of most (p, fs) ≡ None = rw (sym number) refl in
    fails (counts_as_decimal p && list_all counts_as_decimal fs) (atom_of most (p, fs)) none

pub atom_threadless : (most : ℕ) (p : List ℕ) (fs : List (List ℕ)) (n : ℕ) → Some n ≡ u32_of p → None ≡ numbers_up_to most fs → atom_from most (p, fs) ≡ Err (atom_fault p fs)
atom_threadless most p fs n number threads =
    let none : atom_of most (p, fs) ≡ None = rw (sym number, sym threads) refl in
    fails (counts_as_decimal p && list_all counts_as_decimal fs) (atom_of most (p, fs)) none

pub place_read : (parts : List ℕ × List ℕ) (p : ℕ × ℕ) → Some p ≡ place_of parts → place_from (Some parts) ≡ Ok p
place_read parts p e =
    let q = place_is parts p (sym e) in
    let small : p.0 < 2 ^ 32 = omega (arith, q.2.thread) in
    passes (counts_as_decimal parts.0 && counts_as_decimal parts.1) (place_of parts) p (and_from _ _ (ap counts_as_decimal q.0 ∙ number_counts p.0 small) (ap counts_as_decimal q.1 ∙ number_counts p.1 q.2.location)) (sym e)

pub place_unread : (parts : List ℕ × List ℕ) → None ≡ place_of parts → place_from (Some parts) ≡ Err (place_fault parts)
place_unread parts e = fails (counts_as_decimal parts.0 && counts_as_decimal parts.1) (place_of parts) (sym e)
