-- The worked example of a counter.
use Rattle.std.proofs.Common.{◌≡◌, refl, sym, ap, ◌∙◌, subst, ℕ, ◌+◌, ◌<◌, List, [], ◌∷◌, map, All, Contains, arith}
use Rattle.std.proofs.lemmas.List.Elements.{All-nil, All-cons, All-head, All-contains, All-from_recursion}
use Rattle.ps_atom.specs.Atoms.{renamed}
use Rattle.ps_atom.specs.declared.atom.Atom.{Atom}
use Rattle.ps_triple.specs.Entries.{GivesAtom, HasInitial, IsRenamed, false_atom}
use Rattle.ps_triple.specs.declared.entry.Entry.{Entry}
use Rattle.ps_triple.specs.declared.entry.Entry.TheVariants.{Triple as OfTriple, Initial as OfInitial}
use Rattle.ps_triple.specs.declared.triple.Triple.{Triple}
use Rattle.ps_basis.specs.Demands.{IsGiven}
use Rattle.ps_triple.specs.Examples.{bare, counter_entries}
use Rattle.ps_basis.specs.Space.{listed, sequence, IsProved}
use Rattle.ps_basis.proofs.Rules.{rules_are_demands}

-- every thread, where no atom has one
by_thread : (t : Triple) (before after thread : ℕ) → t.pre ≡ bare before ∷ [] → t.post ≡ bare after → IsRenamed t thread (bare before ∷ []) (bare after)
by_thread t before after thread pre post = record {
  new = λ n. n + thread;
  apart = λ m n _ _ e. let is : m ≡ n = omega (arith, e) in is;
  runs = let is : 0 + thread ≡ thread = omega arith in is;
  pre = sym (ap (λ (qs : List Atom). map (renamed (λ n. n + thread)) qs) pre);
  post = sym (ap (λ (q : Atom). renamed (λ n. n + thread) q) post);
}

gives : (t : Triple) (before command after thread : ℕ) → Contains counter_entries (OfTriple t) → t.command ≡ command → t.pre ≡ bare before ∷ [] → t.post ≡ bare after →
    GivesAtom counter_entries thread command (bare before ∷ []) (bare after)
gives t before command after thread here same pre post = record { triple = t; listed = here; same = same; by = by_thread t before after thread pre post }

abbrev finds : Triple
finds = record { pre = bare 1 ∷ []; command = 2; post = bare 0; lambda = 1 ∷ 1 ∷ 0 ∷ []; ascends = refl }

abbrev adds : Triple
adds = record { pre = bare 2 ∷ []; command = 0; post = bare 1; lambda = 1 ∷ 1 ∷ []; ascends = refl }

abbrev keeps : Triple
keeps = record { pre = bare 2 ∷ []; command = 0; post = bare 2; lambda = 1 ∷ 1 ∷ []; ascends = refl }

pub three_letters : IsProved counter_entries ((0, 0) ∷ (1, 0) ∷ (1, 2) ∷ [])
three_letters = record {
  initial = bare 2 ∷ [];
  hold = All-cons (λ (q : Atom). HasInitial counter_entries q.predicate) (bare 2) [] (record { predicate = 2; lambda = 0 ∷ 1 ∷ 1 ∷ [] }, (0, (let l : 0 < 6 = omega arith in l), refl), refl)
      (All-nil (λ (q : Atom). HasInitial counter_entries q.predicate));
  proof = sequence (listed first) (sequence (listed second) (listed third) (λ q i. i)) (λ q i. i);
}
  where
    first : GivesAtom counter_entries 0 0 (bare 2 ∷ []) (bare 2)
    first = gives keeps 2 0 2 0 (4, (let l : 4 < 6 = omega arith in l), refl) refl refl refl

    second : GivesAtom counter_entries 1 0 (bare 2 ∷ []) (bare 1)
    second = gives adds 2 0 1 1 (2, (let l : 2 < 6 = omega arith in l), refl) refl refl refl

    third : GivesAtom counter_entries 1 2 (bare 1 ∷ []) (bare 0)
    third = gives finds 1 2 0 1 (1, (let l : 1 < 6 = omega arith in l), refl) refl refl refl

-- of the entries, only one triple has command 2, and none of predicate 1 is initial
abbrev OnlyFinds : Entry → Type 0
OnlyFinds (OfTriple t) = t.command ≡ 2 → t.pre ≡ bare 1 ∷ []
OnlyFinds (OfInitial i) = Unit {0}

abbrev NotOne : Entry → Type 0
NotOne (OfTriple t) = Unit {0}
NotOne (OfInitial i) = i.predicate ≡ 1 → ⊥

only_finds : All OnlyFinds counter_entries
only_finds = All-from_recursion OnlyFinds counter_entries (
  tt,
  (
    (λ e. refl),
    (
      (λ e. absurd (let no : ⊥ = omega (arith, e) in no)),
      (
        (λ e. absurd (let no : ⊥ = omega (arith, e) in no)),
        ((λ e. absurd (let no : ⊥ = omega (arith, e) in no)), ((λ e. absurd (let no : ⊥ = omega (arith, e) in no)), tt)),
      ),
    ),
  ),
)

not_one : All NotOne counter_entries
not_one = All-from_recursion NotOne counter_entries ((λ e. let no : ⊥ = omega (arith, e) in no), (tt, (tt, (tt, (tt, (tt, tt))))))

pub not_one_letter : ¬ IsProved counter_entries ((0, 2) ∷ [])
not_one_letter proved = demanded ((rules_are_demands counter_entries ((0, 2) ∷ [])).0 proved).1
  where
    from : (a : List Atom) → GivesAtom counter_entries 0 2 a false_atom → All (λ (q : Atom). HasInitial counter_entries q.predicate) a → ⊥
    from a g all = at_first (All-head (λ (q : Atom). HasInitial counter_entries q.predicate) (renamed g.by.new (bare 1)) []
        (subst (All (λ (q : Atom). HasInitial counter_entries q.predicate)) (g.by.pre ∙ ap (λ (qs : List Atom). map (renamed g.by.new) qs)
        (All-contains OnlyFinds counter_entries (OfTriple g.triple) only_finds g.listed g.same)) all))
      where
        at_first : HasInitial counter_entries 1 → ⊥
        at_first (i, here, is) = All-contains NotOne counter_entries (OfInitial i) not_one here is

    demanded : IsGiven counter_entries ((0, 2) ∷ []) false_atom → ⊥
    demanded (a, g, all) = from a g all
