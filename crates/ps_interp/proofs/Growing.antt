-- What is said over a list of predicates is said over a longer one.
use Rattle.std.proofs.Common.{◌≡◌, refl, sym, ap, ap₂, ◌∙◌, subst, ℕ, zero, suc, ◌+◌, ◌<◌, List, [], ◌∷◌, ◌++◌, length, length-append, map, inl, inr, arith}
use Rattle.std.specs.Prelude.{slice_get, slice_index_or, Option, Some, None}
use Rattle.std.specs.List.{AllByRecursion}
use Rattle.std.proofs.lemmas.List.Elements.{All-from_recursion, recursion_from_All}
use Rattle.std.proofs.lemmas.Option.{slice_get_within}
use Rattle.ps_atom.specs.Numbers.{IsNumberOf, false_predicate}
use Rattle.ps_atom.specs.Range.{IsInRange}
use Rattle.ps_atom.specs.declared.atom.Atom.{Atom}
use Rattle.ps_atom.specs.declared.predicate.Predicate.{Predicate}
use Rattle.ps_command.specs.declared.setting.Setting.{Setting}
use Rattle.ps_farkas.specs.Refutes.{AllSumsFit, Refutes}
use Rattle.ps_interp.specs.Entries.{triple_of}
use Rattle.ps_interp.specs.Interpolants.{Interpolant, StandsAt}
use Rattle.ps_interp.specs.Made.{IsTripleAt}
use Rattle.ps_interp.specs.Sums.{Weighed}
use Rattle.ps_term.specs.Negation.{NegationFits}
use Rattle.ps_term.specs.Substitution.{SubstitutionFits}
use Rattle.ps_term.specs.declared.row.Row.{Row}
use Rattle.ps_term.specs.declared.term.Term.{Term}
use Rattle.ps_triple.specs.Faults.{EntryHolds}
use Rattle.ps_triple.specs.Fits.{EntryFits, MakingFits, entry_rows, lambda_of}
use Rattle.ps_triple.specs.Rows.{atom_row, form_in, initial_rows, negated, predicate_of, row_after}
use Rattle.ps_triple.specs.Tests.{IsAtomOf, IsThere, NamesThings}
use Rattle.ps_triple.specs.declared.entry.Entry.{Entry}
use Rattle.ps_triple.specs.declared.entry.Entry.TheVariants.{Triple as OfTriple, Initial as OfInitial}

got_longer : {X : Type 0} (xs ys : List X) (k : ℕ) → k < length xs → slice_get (xs ++ ys) k ≡ slice_get xs k
got_longer [] ys k h = let no : ⊥ = omega (arith, h) in absurd no
got_longer (x ∷ xs) ys zero h = refl
got_longer (x ∷ xs) ys (suc k) h = got_longer xs ys k (omega (arith, h))

module _ (list more : List Predicate) where
  predicate_longer : (n : ℕ) → n < length list → predicate_of (list ++ more) n ≡ predicate_of list n
  predicate_longer n h = go list n h
    where
      go : (xs : List Predicate) (k : ℕ) → k < length xs → slice_index_or (xs ++ more) k false_predicate ≡ slice_index_or xs k false_predicate
      go [] k i = let no : ⊥ = omega (arith, i) in absurd no
      go (x ∷ xs) zero i = refl
      go (x ∷ xs) (suc k) i = go xs k (omega (arith, i))

  number_longer : (p : Predicate) (n : ℕ) → IsNumberOf list p n → IsNumberOf (list ++ more) p n
  number_longer p n h = record {
    stands = got_longer list more n (slice_get_within list n p h.stands) ∙ h.stands;
    least = λ k below e. h.least k below (sym (got_longer list more k (let w : n < length list = slice_get_within list n p h.stands in omega (arith, below, w))) ∙ e);
  }

  pub stands_longer : (sum : Term) (q : Option Interpolant) → StandsAt list sum q → StandsAt (list ++ more) sum q
  stands_longer sum None h = h
  stands_longer sum (Some q) (inl h) = inl h
  stands_longer sum (Some q) (inr h) = inr ((h.0.0, h.0.1, number_longer h.0.0 q.atom.predicate h.0.2), h.1)

  pub triple_longer : (letters : List Weighed) (cut : ℕ) (entry : Entry) → IsTripleAt letters list cut entry → IsTripleAt letters (list ++ more) cut entry
  triple_longer letters cut entry t = record {
    letter = t.letter;
    stands = t.stands;
    before = t.before;
    stands_before = stands_longer t.letter.before t.before t.stands_before;
    after = t.after;
    stands_after = stands_longer t.letter.after (Some t.after) t.stands_after;
    is = t.is;
  }

  -- each predicate that the entry names is in the list
  abbrev pub IsNamedIn : Entry → Type 0
  IsNamedIn (OfTriple t) = AllByRecursion (λ (q : Atom). q.predicate < length list) t.pre × (t.post.predicate < length list)
  IsNamedIn (OfInitial i) = i.predicate < length list

  stands_within : 0 < length list → (sum : Term) (q : Interpolant) → StandsAt list sum (Some q) → q.atom.predicate < length list
  stands_within some sum q (inl h) = subst (λ (r : Interpolant). r.atom.predicate < length list) (sym h.1) some
  stands_within some sum q (inr h) = slice_get_within list q.atom.predicate h.0.0 h.0.2.stands

  pub triple_named : 0 < length list → (letters : List Weighed) (cut : ℕ) (entry : Entry) → IsTripleAt letters list cut entry → IsNamedIn entry
  triple_named some letters cut entry t = subst IsNamedIn (sym t.is) (at t.before t.stands_before)
    where
      after : t.after.atom.predicate < length list
      after = stands_within some t.letter.after t.after t.stands_after

      at : (q : Option Interpolant) → StandsAt list t.letter.before q → IsNamedIn (triple_of t.letter q t.after)
      at None h = (tt, after)
      at (Some q) h = ((stands_within some t.letter.before q h, tt), after)

  module _ (setting : Setting) where
    there_longer : (n : ℕ) → IsThere setting list n → IsThere setting (list ++ more) n
    there_longer n h = (
      (let e : length (list ++ more) ≡ length list + length more = length-append list more in omega (arith, h.0, e)),
      subst (λ (p : Predicate). IsInRange setting.globals setting.locals p) (sym (predicate_longer n h.0)) h.1,
    )

    atom_longer : (q : Atom) → IsAtomOf setting list q → IsAtomOf setting (list ++ more) q
    atom_longer q h = (there_longer q.predicate h.0, h.1 ∙ ap (λ (p : Predicate). p.arity) (sym (predicate_longer q.predicate h.0.0)))

    atoms_longer : (qs : List Atom) → AllByRecursion (IsAtomOf setting list) qs → AllByRecursion (IsAtomOf setting (list ++ more)) qs
    atoms_longer [] h = tt
    atoms_longer (q ∷ qs) h = (atom_longer q h.0, atoms_longer qs h.1)

    names_longer : (e : Entry) → NamesThings setting list e → NamesThings setting (list ++ more) e
    names_longer (OfTriple t) h = (
      h.0,
      All-from_recursion (IsAtomOf setting (list ++ more)) t.pre (atoms_longer t.pre (recursion_from_All (IsAtomOf setting list) t.pre h.1)),
      atom_longer t.post h.2,
    )
    names_longer (OfInitial i) h = there_longer i.predicate h

    named_from : (e : Entry) → NamesThings setting list e → IsNamedIn e
    named_from (OfTriple t) h = (all t.pre (recursion_from_All (IsAtomOf setting list) t.pre h.1), h.2.0.0)
      where
        all : (qs : List Atom) → AllByRecursion (IsAtomOf setting list) qs → AllByRecursion (λ (q : Atom). q.predicate < length list) qs
        all [] h = tt
        all (q ∷ qs) h = (h.0.0.0, all qs h.1)
    named_from (OfInitial i) h = h.0

    row_longer : (q : Atom) → q.predicate < length list → atom_row (list ++ more) q ≡ atom_row list q
    row_longer q h = ap (λ (p : Predicate). Rattle.ps_triple.specs.Places.row_by (Rattle.ps_atom.specs.Atoms.at_threads q.threads) p.row) (predicate_longer q.predicate h)

    all_rows_longer : (qs : List Atom) → AllByRecursion (λ (q : Atom). q.predicate < length list) qs → map (atom_row (list ++ more)) qs ≡ map (atom_row list) qs
    all_rows_longer [] h = refl
    all_rows_longer (q ∷ qs) h = ap₂ (λ (r : Row) (rs : List Row). r ∷ rs) (row_longer q h.0) (all_rows_longer qs h.1)

    rows_longer : (e : Entry) → IsNamedIn e → entry_rows setting (list ++ more) e ≡ entry_rows setting list e
    rows_longer (OfTriple t) h =
        ap₂ (λ (rs : List Row) (r : Row). rs ++ ((form_in setting t.command).rows ++ row_after (form_in setting t.command) (negated r) ∷ []))
        (all_rows_longer t.pre h.0) (row_longer t.post h.1)
    rows_longer (OfInitial i) h =
        ap (λ (p : Predicate). setting.init_once ++ (Rattle.ps_triple.specs.Rows.rows_of_threads setting.init_each (p.arity + 1) ++ negated p.row ∷ [])) (predicate_longer i.predicate h)

    making_longer : (e : Entry) → IsNamedIn e → MakingFits setting list e → MakingFits setting (list ++ more) e
    making_longer (OfTriple t) h m =
        subst (λ (r : Row). NegationFits r × SubstitutionFits (form_in setting t.command).after (negated r).term) (sym (row_longer t.post h.1)) m
    making_longer (OfInitial i) h m = subst (λ (p : Predicate). NegationFits p.row) (sym (predicate_longer i.predicate h)) m

    making_shorter : (e : Entry) → IsNamedIn e → MakingFits setting (list ++ more) e → MakingFits setting list e
    making_shorter (OfTriple t) h m =
        subst (λ (r : Row). NegationFits r × SubstitutionFits (form_in setting t.command).after (negated r).term) (row_longer t.post h.1) m
    making_shorter (OfInitial i) h m = subst (λ (p : Predicate). NegationFits p.row) (predicate_longer i.predicate h) m

    -- an entry that fits over the longer list, and names only what is in the shorter one, fits over this
    pub fits_shorter : (e : Entry) → IsNamedIn e → EntryFits setting (list ++ more) e → EntryFits setting list e
    fits_shorter e h f = (making_shorter e h f.0, subst (λ (rs : List Row). AllSumsFit rs (lambda_of e)) (rows_longer e h) f.1)

    pub holds_longer : (e : Entry) → EntryHolds setting list e → EntryHolds setting (list ++ more) e
    holds_longer e h = record {
      names = names_longer e h.names;
      distinct = h.distinct;
      tied = h.tied;
      fits = (making_longer e (named_from e h.names) h.fits.0, subst (λ (rs : List Row). AllSumsFit rs (lambda_of e)) (sym (rows_longer e (named_from e h.names))) h.fits.1);
      refutes = subst (λ (rs : List Row). Refutes rs (lambda_of e)) (sym (rows_longer e (named_from e h.names))) h.refutes;
    }
