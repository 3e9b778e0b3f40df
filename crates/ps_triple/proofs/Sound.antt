-- What rows without a solution say of an entry, at all values.
use Rattle.std.proofs.Common.{◌≡◌, refl, sym, subst, Bool, true, false, ℕ, zero, suc, ◌+◌, ◌<◌, ℤ, pos, negsuc, ◌+ℤ◌, ◌*ℤ◌, ◌≤ℤ◌, int_le, List, [], ◌∷◌, ◌++◌, map, All, arith}
use Rattle.std.specs.List.{list_all}
use Rattle.std.proofs.lemmas.Bool.{and_parts}
use Rattle.std.proofs.lemmas.Int.{ints}
use Rattle.std.proofs.lemmas.List.Elements.{All-nil, All-cons, All-head, All-tail, All-append}
use Rattle.ps_term.proofs.ExactTerms.{put_worth, sum_worth}
use Rattle.ps_term.specs.Exact.{number_term}
use Rattle.ps_term.specs.Row.{Holds}
use Rattle.ps_term.specs.Substitution.{values_after}
use Rattle.ps_term.specs.Term.{value}
use Rattle.ps_term.specs.declared.row.Row.{Row}
use Rattle.ps_term.specs.declared.var.Var.{Var}
use Rattle.ps_command.specs.Run.{holds}
use Rattle.ps_command.specs.declared.setting.Setting.{Setting}
use Rattle.ps_atom.specs.Atoms.{at_threads}
use Rattle.ps_atom.specs.declared.atom.Atom.{Atom}
use Rattle.ps_atom.specs.declared.predicate.Predicate.{Predicate}
use Rattle.ps_triple.specs.Places.{row_by}
use Rattle.ps_triple.specs.Rows.{atom_row, form_in, initial_rows, negated, predicate_of, row_after, rows_of_threads, triple_rows}
use Rattle.ps_triple.specs.Validity.{HoldsOf}
use Rattle.ps_triple.specs.declared.initial.Initial.{Initial}
use Rattle.ps_triple.specs.declared.triple.Triple.{Triple}
use Rattle.ps_triple.proofs.Renewed.{row_worth}

le_yes : (a b : ℤ) → int_le a b ≡ true → a ≤ℤ b
le_yes a b h = grind (arith, ints)

pub rows_hold : (v : Var → ℤ) (rs : List Row) → list_all (holds v) rs ≡ true → All (Holds v) rs
rows_hold v [] h = All-nil (Holds v)
rows_hold v (r ∷ rs) h =
    let q : (holds v r ≡ true) × (list_all (holds v) rs ≡ true) = and_parts (holds v r) (list_all (holds v) rs) h in
    All-cons (Holds v) r rs (le_yes (value v r.term) (pos 0) q.0) (rows_hold v rs q.1)

-- an atom holds where its row does
atom_to_row : (predicates : List Predicate) (v : Var → ℤ) (q : Atom) → HoldsOf predicates v q → Holds v (atom_row predicates q)
atom_to_row predicates v q h = subst (λ (z : ℤ). z ≤ℤ pos 0) (sym (row_worth (at_threads q.threads) v (predicate_of predicates q.predicate).row)) h

row_to_atom : (predicates : List Predicate) (v : Var → ℤ) (q : Atom) → Holds v (atom_row predicates q) → HoldsOf predicates v q
row_to_atom predicates v q h = subst (λ (z : ℤ). z ≤ℤ pos 0) (row_worth (at_threads q.threads) v (predicate_of predicates q.predicate).row) h

rows_before : (predicates : List Predicate) (v : Var → ℤ) (qs : List Atom) → All (HoldsOf predicates v) qs → All (Holds v) (map (atom_row predicates) qs)
rows_before predicates v [] h = All-nil (Holds v)
rows_before predicates v (q ∷ qs) h =
    All-cons (Holds v) (atom_row predicates q) (map (atom_row predicates) qs) (atom_to_row predicates v q (All-head (HoldsOf predicates v) q qs h))
    (rows_before predicates v qs (All-tail (HoldsOf predicates v) q qs h))

-- a row holds where its negation doesn't
negated_worth : (v : Var → ℤ) (r : Row) → value v (negated r).term ≡ (pos 1 +ℤ (negsuc 0 *ℤ value v r.term))
negated_worth v r = sum_worth v (number_term (pos 1)) (negsuc 0) r.term

not_one_more : (w o : ℤ) → w ≡ (pos 1 +ℤ (negsuc 0 *ℤ o)) → (w ≤ℤ pos 0 → ⊥) → o ≤ℤ pos 0
not_one_more w o e h = at (int_le w (pos 0)) refl
  where
    at : (b : Bool) → int_le w (pos 0) ≡ b → o ≤ℤ pos 0
    at true f = absurd (h (le_yes w (pos 0) f))
    at false f = grind (arith, ints)

denied : (v : Var → ℤ) (r : Row) → (Holds v (negated r) → ⊥) → Holds v r
denied v r h = not_one_more (value v (negated r).term) (value v r.term) (negated_worth v r) h

last_one : (v : Var → ℤ) (r : Row) → Holds v r → All (Holds v) (r ∷ [])
last_one v r h = All-cons (Holds v) r [] h (All-nil (Holds v))

-- where the rows of a triple have no solution: from values of which the atoms before hold and on which the command runs,
-- the atom after holds of those after it
pub holds_after : (setting : Setting) (predicates : List Predicate) (t : Triple) → ((v : Var → ℤ) → ¬ All (Holds v) (triple_rows setting predicates t)) →
    (v : Var → ℤ) → All (HoldsOf predicates v) t.pre → list_all (holds v) (form_in setting t.command).rows ≡ true →
    HoldsOf predicates (values_after v (form_in setting t.command).after) t.post
holds_after setting predicates t none v before runs =
    row_to_atom predicates (values_after v (form_in setting t.command).after) t.post (denied (values_after v (form_in setting t.command).after) (atom_row predicates t.post) not_denied)
  where
    not_denied : Holds (values_after v (form_in setting t.command).after) (negated (atom_row predicates t.post)) → ⊥
    not_denied h =
        let fails : Holds v (row_after (form_in setting t.command) (negated (atom_row predicates t.post))) =
        subst (λ (z : ℤ). z ≤ℤ pos 0) (sym (put_worth v (form_in setting t.command).after (negated (atom_row predicates t.post)).term)) h in
        none v (All-append (Holds v) (map (atom_row predicates) t.pre) ((form_in setting t.command).rows ++ row_after (form_in setting t.command) (negated (atom_row predicates t.post)) ∷ [])
        (rows_before predicates v t.pre before)
        (All-append (Holds v) (form_in setting t.command).rows (row_after (form_in setting t.command) (negated (atom_row predicates t.post)) ∷ [])
        (rows_hold v (form_in setting t.command).rows runs)
        (last_one v (row_after (form_in setting t.command) (negated (atom_row predicates t.post))) fails)))

-- ---- initial entries
rows_of_one : (v : Var → ℤ) (new : Var → Var) (rs : List Row) → All (Holds (λ x. v (new x))) rs → All (Holds v) (map (row_by new) rs)
rows_of_one v new [] h = All-nil (Holds v)
rows_of_one v new (r ∷ rs) h =
    All-cons (Holds v) (row_by new r) (map (row_by new) rs)
    (subst (λ (z : ℤ). z ≤ℤ pos 0) (sym (row_worth new v r)) (All-head (Holds (λ x. v (new x))) r rs h))
    (rows_of_one v new rs (All-tail (Holds (λ x. v (new x))) r rs h))

rows_of_all : (v : Var → ℤ) (each : List Row) (n : ℕ) → ((i : ℕ) → i < n → All (Holds (λ x. v (at_threads (i ∷ []) x))) each) → All (Holds v) (rows_of_threads each n)
rows_of_all v each zero h = All-nil (Holds v)
rows_of_all v each (suc n) h =
    All-append (Holds v) (rows_of_threads each n) (map (row_by (at_threads (n ∷ []))) each)
    (rows_of_all v each n (λ i l. h i (omega (arith, l))))
    (rows_of_one v (at_threads (n ∷ [])) each (h n (omega arith)))

-- where the rows of an initial entry have no solution: the predicate holds of values of which the rows of initial states
-- do, those for each thread at one thread more than it has slots
pub holds_at_first : (setting : Setting) (predicates : List Predicate) (i : Initial) → ((v : Var → ℤ) → ¬ All (Holds v) (initial_rows setting predicates i)) →
    (v : Var → ℤ) → list_all (holds v) setting.init_once ≡ true →
    ((k : ℕ) → k < (predicate_of predicates i.predicate).arity + 1 → list_all (holds (λ x. v (at_threads (k ∷ []) x))) setting.init_each ≡ true) →
    Holds v (predicate_of predicates i.predicate).row
holds_at_first setting predicates i none v once each = denied v (predicate_of predicates i.predicate).row not_denied
  where
    not_denied : Holds v (negated (predicate_of predicates i.predicate).row) → ⊥
    not_denied h =
        none v (All-append (Holds v) setting.init_once (rows_of_threads setting.init_each ((predicate_of predicates i.predicate).arity + 1) ++ negated (predicate_of predicates i.predicate).row ∷ [])
        (rows_hold v setting.init_once once)
        (All-append (Holds v) (rows_of_threads setting.init_each ((predicate_of predicates i.predicate).arity + 1)) (negated (predicate_of predicates i.predicate).row ∷ [])
        (rows_of_all v setting.init_each ((predicate_of predicates i.predicate).arity + 1) (λ k l. rows_hold (λ x. v (at_threads (k ∷ []) x)) setting.init_each (each k l)))
        (last_one v (negated (predicate_of predicates i.predicate).row) h)))
