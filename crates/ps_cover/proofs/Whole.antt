-- The whole call: counts first, then the search from no image.
use Rattle.std.proofs.Common.{◌≡◌, ◌≤◌, ℕ, true, false, not, ◌||◌, ◌==◌, nat_le, List, [], ◌∷◌, ◌++◌, length, map, refl, sym, ap, ap₂, ◌∙◌, subst, Contains, Some, arith}
use Rattle.std.specs.List.{list_all, list_any}
use Rattle.std.proofs.lemmas.Bool.{both_ways, and_parts, and_from, eqb-true, eq-eqb}
use Rattle.std.proofs.lemmas.Bool.Decides.{nat_tests}
use Rattle.ps_atom.specs.declared.atom.Atom.{Atom}
use Rattle.ps_config.specs.Configurations.{Configuration, Covers}
use Rattle.ps_config.proofs.Once.{IsOnce}
use Rattle.ps_cover.specs.inner.Counts.{HasBare, those_at, those_of, place_counts, is_bare, atom_counts, counts_allow}
use Rattle.ps_config.specs.Forms.{AreThreads, IsConfig}
use Rattle.ps_config.proofs.Bounded.{once_atoms, once_located}
use Rattle.ps_cover.specs.Coverings.{IsFirstInjection}
use Rattle.ps_cover.specs.inner.Rests.{Fits, IsFirstRest, IsRestAnswer, NoWay}
use Rattle.ps_cover.specs.declared.partial.Partial.{Partial}
use Rattle.ps_cover.proofs.Counted.{fewer_at, fewer_of}
use Rattle.ps_cover.proofs.Firsts.{bare_there, fits_none, first_covering}
use Rattle.ps_config.proofs.Tested.{all_from, all_to, any_from, any_to}
use Rattle.ps_cover.proofs.Testing.{unless_from, unless_to}

le_test : (a b : ℕ) → a ≤ b → nat_le a b ≡ true
le_test a b h = grind (arith, nat_tests, h)

empty_from : (xs : List ℕ) → length xs ≡ 0 → xs ≡ []
empty_from [] h = refl
empty_from (x ∷ xs) h = absurd (omega (arith, h))

bare_is : (q r : Atom) → q.threads ≡ [] → is_bare q.predicate r ≡ true → r ≡ q
bare_is q r e h =
    let both = and_parts (r.predicate == q.predicate) (length r.threads == 0) h in
    ap₂ (λ (p : ℕ) (ts : List ℕ). let a : Atom = record { predicate = p; threads = ts } in a) (eqb-true r.predicate q.predicate both.0) (empty_from r.threads (eqb-true (length r.threads) 0 both.1) ∙ sym e)

pub allow_bare : (small large : Configuration) → counts_allow small.at small.atoms large.at large.atoms ≡ true → HasBare small large
allow_bare small large h q c e =
    let both = and_parts (list_all (place_counts small.at large.at) small.at) (list_all (atom_counts small.atoms large.atoms) small.atoms) h in
    let one = all_from (atom_counts small.atoms large.atoms) small.atoms both.1 q c in
    let parts = and_parts (nat_le (length (those_of q.predicate small.atoms)) (length (those_of q.predicate large.atoms))) (not (length q.threads == 0) || list_any (is_bare q.predicate) large.atoms) one in
    let w = any_from (is_bare q.predicate) large.atoms (unless_from (length q.threads == 0) (list_any (is_bare q.predicate) large.atoms) parts.1 (eq-eqb (length q.threads) 0 (ap length e))) in
    subst (λ (r : Atom). Contains large.atoms r) (bare_is q w.0 e w.2) w.1

covers_allow : (small large : Configuration) → IsOnce small.at → IsOnce small.atoms → Covers small large → counts_allow small.at small.atoms large.at large.atoms ≡ true
covers_allow small large once_at once_atoms c =
    and_from (list_all (place_counts small.at large.at) small.at) (list_all (atom_counts small.atoms large.atoms) small.atoms)
    (all_to (place_counts small.at large.at) small.at (λ p h. le_test (length (those_at p.1 small.at)) (length (those_at p.1 large.at)) (fewer_at small large c once_at p.1)))
    (all_to (atom_counts small.atoms large.atoms) small.atoms (λ q h.
    and_from (nat_le (length (those_of q.predicate small.atoms)) (length (those_of q.predicate large.atoms))) (not (length q.threads == 0) || list_any (is_bare q.predicate) large.atoms)
    (le_test (length (those_of q.predicate small.atoms)) (length (those_of q.predicate large.atoms)) (fewer_of small large c once_atoms q.predicate))
    (unless_to (length q.threads == 0) (list_any (is_bare q.predicate) large.atoms) (λ e.
    let none : q.threads ≡ [] = empty_from q.threads (eqb-true (length q.threads) 0 e) in
    any_to (is_bare q.predicate) large.atoms q (bare_there small large c q h none) (and_from (q.predicate == q.predicate) (length q.threads == 0) (eq-eqb q.predicate q.predicate refl) e)))))

pub refused : (small large : Configuration) → IsOnce small.at → IsOnce small.atoms → counts_allow small.at small.atoms large.at large.atoms ≡ false → ¬ Covers small large
refused small large once_at once_atoms e c = both_ways (counts_allow small.at small.atoms large.at large.atoms) e (covers_allow small large once_at once_atoms c)

pub refused_by_counts : (small large : Configuration) → IsConfig small → counts_allow small.at small.atoms large.at large.atoms ≡ false → ¬ Covers small large
refused_by_counts small large is e = refused small large (once_located small is) (once_atoms small is) e

-- ---- from no image on

pub begins : (small large : Configuration) (p : Partial) → p.threads ≡ [] → p.to ≡ [] → HasBare small large → Fits small large p.threads p.to
begins small large p e f bare = subst (λ (xs : List ℕ). Fits small large xs p.to) (sym e) (subst (λ (ys : List ℕ). Fits small large [] ys) (sym f) (fits_none small large bare))

pub found_first : (small large : Configuration) (p : Partial) (threads to : List ℕ) → p.threads ≡ [] → p.to ≡ [] → AreThreads small threads → IsRestAnswer small large p threads (Some to) → IsFirstInjection small large to
found_first small large p threads to e f are (rest, is, first) =
    let same : to ≡ rest = is ∙ ap (λ (xs : List ℕ). xs ++ rest) f in
    let at_none : IsFirstRest small large [] [] threads rest = subst (λ (xs : List ℕ). IsFirstRest small large xs [] threads rest) e (subst (λ (ys : List ℕ). IsFirstRest small large p.threads ys threads rest) f first) in
    (threads, are, first_covering small large threads to are (subst (λ (xs : List ℕ). IsFirstRest small large [] [] threads xs) (sym same) at_none))

pub found_none : (small large : Configuration) (p : Partial) → p.threads ≡ [] → p.to ≡ [] → NoWay small large p.threads p.to → ¬ Covers small large
found_none small large p e f none c = none c.0 c.1 (ap (map c.0) e ∙ sym f)

-- the threads of what the two lists say are those of the configuration
pub listed_threads : (small said : Configuration) (none threads left : List ℕ) → said ≡ small → none ≡ [] → left ≡ threads → AreThreads said threads → AreThreads small (none ++ left)
listed_threads small said none threads left e f g are =
    subst (λ (xs : List ℕ). AreThreads small (xs ++ left)) (sym f) (subst (λ (xs : List ℕ). AreThreads small xs) (sym g) (subst (λ (c : Configuration). AreThreads c threads) e are))

pub found_images : (small large : Configuration) (p : Partial) (threads left to images : List ℕ) → p.threads ≡ [] → p.to ≡ [] → left ≡ threads → images ≡ to → AreThreads small threads → IsRestAnswer small large p left (Some to) → IsFirstInjection small large images
found_images small large p threads left to images e f g h are answer =
    subst (λ (xs : List ℕ). IsFirstInjection small large xs) (sym h) (found_first small large p threads to e f are (subst (λ (xs : List ℕ). IsRestAnswer small large p xs (Some to)) g answer))
