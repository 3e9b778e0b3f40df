-- The triples of letters, and the list that they are put into.
use Rattle.std.proofs.Common.{◌≡◌, true, refl, sym, ap, ◌∙◌, ℕ, List, [], ◌∷◌, ◌++◌, inl, inr, Contains}
use Rattle.std.specs.Prelude.{Option, Some, None}
use Rattle.std.proofs.lemmas.List.{append-nil}
use Rattle.ps_atom.specs.declared.atom.Atom.{Atom}
use Rattle.ps_interp.specs.Entries.{numbered_threads, triple_of, with_numbers}
use Rattle.ps_interp.specs.Interpolants.{Interpolant}
use Rattle.ps_interp.specs.Sums.{Weighed}
use Rattle.ps_interp.specs.declared.weights.WeighedLetter.{WeighedLetter}
use Rattle.ps_interp.specs.inner.Meetings.{IsListed}
use Rattle.ps_interp.specs.inner.Parts.{Part, part_in, part_of}
use Rattle.ps_interp.specs.inner.Triples.{atoms_by, multipliers_by}
use Rattle.ps_triple.specs.Ascending.{ascend}
use Rattle.ps_triple.specs.declared.entry.Entry.{Entry}
use Rattle.ps_triple.specs.declared.entry.Entry.TheVariants.{Triple as OfTriple}
use Rattle.ps_triple.specs.declared.triple.Triple.{Triple}
use Rattle.ps_triple.proofs.Alike.{same_but_multipliers}

pub same_triple : (s t : Triple) → s.pre ≡ t.pre → s.command ≡ t.command → s.post ≡ t.post → s.lambda ≡ t.lambda → s ≡ t
same_triple s t pre command post lambda = let e : OfTriple s ≡ OfTriple t = same_but_multipliers (OfTriple s) (OfTriple t) (pre, command, post) lambda in cc

pub atoms_ascend : (names : List ℕ) (q : Option Interpolant) (atoms : List Atom) → atoms ≡ atoms_by names q → ascend atoms ≡ true
atoms_ascend names None atoms e = ap ascend e
atoms_ascend names (Some q) atoms e = ap ascend e

triple_is : (w : Weighed) (q : Option Interpolant) (after : Interpolant) (t : Triple) →
    t.pre ≡ atoms_by (numbered_threads w.thread after.atom.threads) q → t.command ≡ w.command → t.post ≡ with_numbers (numbered_threads w.thread after.atom.threads) after.atom →
    t.lambda ≡ multipliers_by q w.weights after.divisor → OfTriple t ≡ triple_of w q after
triple_is w None after t pre command post lambda = same_but_multipliers (OfTriple t) (triple_of w None after) (pre, command, post) lambda
triple_is w (Some q) after t pre command post lambda = same_but_multipliers (OfTriple t) (triple_of w (Some q) after) (pre, command, post) lambda

pub triple_made : (l : WeighedLetter) (w : Weighed) (q : Option Interpolant) (after : Interpolant) (names : List ℕ) (t : Triple) → part_in w ≡ part_of l → names ≡ numbered_threads l.thread after.atom.threads →
    t.pre ≡ atoms_by names q → t.command ≡ l.command → t.post ≡ with_numbers names after.atom → t.lambda ≡ multipliers_by q l.weights.now after.divisor → OfTriple t ≡ triple_of w q after
triple_made l w q after names t same is pre command post lambda =
    triple_is w q after t (pre ∙ ap (λ (ns : List ℕ). atoms_by ns q) names_are) (command ∙ sym (ap (λ (p : Part). p.command) same)) (post ∙ ap (λ (ns : List ℕ). with_numbers ns after.atom) names_are)
    (lambda ∙ sym (ap (λ (p : Part). multipliers_by q p.weights after.divisor) same))
  where
    names_are : names ≡ numbered_threads w.thread after.atom.threads
    names_are = is ∙ sym (ap (λ (p : Part). numbered_threads p.thread after.atom.threads) same)

-- ---- entries once
pub listed_there : (old new : List Entry) (entry : Entry) → new ≡ old → Contains old entry → IsListed old entry new
listed_there old new entry e h = record { more = []; first = inl (h, refl); all = e ∙ sym (append-nil old) }

pub listed_new : (old new : List Entry) (entry : Entry) → new ≡ old ++ entry ∷ [] → ¬ Contains old entry → IsListed old entry new
listed_new old new entry e h = record { more = entry ∷ []; first = inr (h, ([], refl, refl)); all = e }

-- ---- a list of one
pub one_item : {X : Type 0} (before after : List X) (x y : X) → before ≡ [] → after ≡ before ++ x ∷ [] → x ≡ y → after ≡ y ∷ []
one_item {X} before after x y none all is = all ∙ (ap (λ (xs : List X). xs ++ x ∷ []) none ∙ ap (λ (z : X). z ∷ []) is)
