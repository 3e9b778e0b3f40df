-- Alike entries.
use Rattle.std.proofs.Common.{◌≡◌, refl, ap, subst, true, IsTrue, ℕ, List, ◌∷◌, [], ◌++◌, map}
use Rattle.std.proofs.Math.Bool.{Bool-set}
use Rattle.ps_term.specs.declared.row.Row.{Row}
use Rattle.ps_command.specs.declared.setting.Setting.{Setting}
use Rattle.ps_atom.specs.declared.atom.Atom.{Atom}
use Rattle.ps_atom.specs.declared.predicate.Predicate.{Predicate}
use Rattle.ps_triple.specs.Ascending.{ascend}
use Rattle.ps_triple.specs.Entries.{AreAlike}
use Rattle.ps_triple.specs.Fits.{entry_rows, lambda_of}
use Rattle.ps_triple.specs.Rows.{atom_row, form_in, initial_rows, negated, row_after}
use Rattle.ps_triple.specs.declared.entry.Entry.{Entry}
use Rattle.ps_triple.specs.declared.entry.Entry.TheVariants.{Triple as OfTriple, Initial as OfInitial}
use Rattle.ps_triple.specs.declared.triple.Triple.{Triple}

-- the rows of a triple with this command and these atoms
abbrev made : Setting → List Predicate → List Atom → ℕ → Atom → List Row
made setting predicates pre command post =
    map (atom_row predicates) pre ++ ((form_in setting command).rows ++ row_after (form_in setting command) (negated (atom_row predicates post)) ∷ [])

pub same_rows : (setting : Setting) (predicates : List Predicate) (one other : Entry) → AreAlike one other → entry_rows setting predicates one ≡ entry_rows setting predicates other
same_rows setting predicates (OfTriple s) (OfTriple t) h = λ i. made setting predicates (h.0 i) (h.1 i) (h.2 i)
same_rows setting predicates (OfTriple s) (OfInitial j) h = absurd h
same_rows setting predicates (OfInitial i) (OfTriple t) h = absurd h
same_rows setting predicates (OfInitial i) (OfInitial j) h = ap (λ (n : ℕ). initial_rows setting predicates (record { predicate = n; lambda = [] })) h

same_triple : (s t : Triple) → s.pre ≡ t.pre → s.command ≡ t.command → s.post ≡ t.post → s.lambda ≡ t.lambda → s ≡ t
same_triple s t pre command post lambda =
    subst (λ (p : List Atom). (a : IsTrue (ascend p)) → s ≡ record { pre = p; command = t.command; post = t.post; lambda = t.lambda; ascends = a }) pre at_pre t.ascends
  where
    at_pre : (a : IsTrue (ascend s.pre)) → s ≡ record { pre = s.pre; command = t.command; post = t.post; lambda = t.lambda; ascends = a }
    at_pre a = λ i. record { pre = s.pre; command = command i; post = post i; lambda = lambda i; ascends = Bool-set (ascend s.pre) true s.ascends a i }

pub same_but_multipliers : (one other : Entry) → AreAlike one other → lambda_of one ≡ lambda_of other → one ≡ other
same_but_multipliers (OfTriple s) (OfTriple t) h e = ap OfTriple (same_triple s t h.0 h.1 h.2 e)
same_but_multipliers (OfTriple s) (OfInitial j) h e = absurd h
same_but_multipliers (OfInitial i) (OfTriple t) h e = absurd h
same_but_multipliers (OfInitial i) (OfInitial j) h e = ap OfInitial (λ k. record { predicate = h k; lambda = e k })

alike_to_itself : (e : Entry) → AreAlike e e
alike_to_itself (OfTriple s) = (refl, refl, refl)
alike_to_itself (OfInitial i) = refl

pub alike_itself : (one other : Entry) → one ≡ other → AreAlike one other
alike_itself one other e = subst (λ (x : Entry). AreAlike one x) e (alike_to_itself one)
