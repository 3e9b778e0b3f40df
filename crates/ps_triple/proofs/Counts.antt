-- How many rows an initial entry has.
use Rattle.std.proofs.Common.{◌≡◌, ◌+◌, ◌*◌, ℕ, zero, suc, List, [], ◌∷◌, ◌++◌, length, map, get_or, sym, ap, ◌∙◌, subst, arith, length-append}
use Rattle.std.proofs.lemmas.List.{length-map}
use Rattle.ps_atom.specs.Atoms.{at_threads}
use Rattle.ps_term.specs.declared.row.Row.{Row}
use Rattle.ps_triple.specs.Places.{row_by}
use Rattle.ps_atom.specs.Numbers.{false_predicate}
use Rattle.ps_atom.specs.declared.predicate.Predicate.{Predicate}
use Rattle.ps_command.specs.declared.setting.Setting.{Setting}
use Rattle.ps_triple.specs.Fits.{entry_rows}
use Rattle.ps_triple.specs.Rows.{negated, predicate_of, rows_of_threads}
use Rattle.ps_triple.specs.Tests.{NamesThings}
use Rattle.ps_triple.specs.declared.entry.Entry.{Entry}
use Rattle.ps_triple.specs.declared.entry.Entry.TheVariants.{Initial as OfInitial}
use Rattle.ps_triple.specs.declared.initial.Initial.{Initial}
use Rattle.ps_triple.proofs.Membership.{any_default}

of_threads : (each : List Row) (n : ℕ) → length (rows_of_threads each n) ≡ n * length each
of_threads each zero = omega arith
of_threads each (suc n) =
    let before : length (rows_of_threads each n) ≡ n * length each = of_threads each n in
    let more : length (map (row_by (at_threads (n ∷ []))) each) ≡ length each = length-map each (row_by (at_threads (n ∷ []))) in
    let all : length (rows_of_threads each n ++ map (row_by (at_threads (n ∷ []))) each) ≡ length (rows_of_threads each n) + length (map (row_by (at_threads (n ∷ []))) each) = length-append (rows_of_threads each n) (map (row_by (at_threads (n ∷ []))) each) in
    omega (arith, before, more, all)

pub initial_count : (once each : List Row) (last : Row) (slots : ℕ) → length (once ++ (rows_of_threads each (slots + 1) ++ last ∷ [])) ≡ (length once + (slots + 1) * length each) + 1
initial_count once each last slots =
    let a : length (once ++ (rows_of_threads each (slots + 1) ++ last ∷ [])) ≡ length once + length (rows_of_threads each (slots + 1) ++ last ∷ []) = length-append once (rows_of_threads each (slots + 1) ++ last ∷ []) in
    let b : length (rows_of_threads each (slots + 1) ++ last ∷ []) ≡ length (rows_of_threads each (slots + 1)) + 1 = length-append (rows_of_threads each (slots + 1)) (last ∷ []) in
    let d : length (rows_of_threads each (slots + 1)) ≡ (slots + 1) * length each = of_threads each (slots + 1) in
    omega (arith, a, b, d)

pub counted : (setting : Setting) (predicates : List Predicate) (entry : Entry) (i : Initial) (p : Predicate) (once each : List Row) → entry ≡ OfInitial i → NamesThings setting predicates entry →
    once ≡ setting.init_once → each ≡ setting.init_each → (length once + ((get_or predicates i.predicate p).arity + 1) * length each) + 1 ≡ length (entry_rows setting predicates entry)
counted setting predicates entry i p once each is names e f =
    let named : NamesThings setting predicates (OfInitial i) = subst (λ (x : Entry). NamesThings setting predicates x) is names in
    let slots : (get_or predicates i.predicate p).arity ≡ (predicate_of predicates i.predicate).arity =
    ap (λ (q : Predicate). q.arity) (any_default predicates i.predicate p false_predicate named.0) in
    let all : length (entry_rows setting predicates (OfInitial i)) ≡ (length setting.init_once + ((predicate_of predicates i.predicate).arity + 1) * length setting.init_each) + 1 =
    initial_count setting.init_once setting.init_each (negated (predicate_of predicates i.predicate).row) (predicate_of predicates i.predicate).arity in
    let rows : length (entry_rows setting predicates entry) ≡ length (entry_rows setting predicates (OfInitial i)) = ap (λ (x : Entry). length (entry_rows setting predicates x)) is in
    ap (λ (xs : List Row). (length xs + ((get_or predicates i.predicate p).arity + 1) * length each) + 1) e
    ∙ (ap (λ (ys : List Row). (length setting.init_once + ((get_or predicates i.predicate p).arity + 1) * length ys) + 1) f
    ∙ (ap (λ (n : ℕ). (length setting.init_once + (n + 1) * length setting.init_each) + 1) slots ∙ (sym all ∙ sym rows)))
