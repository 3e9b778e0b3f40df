-- The rules of the proof space give what is demanded, and what is demanded is given by the rules.
use Rattle.std.proofs.Common.{◌≡◌, ◌≢◌, refl, sym, ap, ◌∙◌, subst, ℕ, List, [], ◌∷◌, ◌++◌, reverse, inl, inr, ◌↔◌, ⊎_elim, Contains, All}
use mathlib.Core.List.{reverse-append, reverse-reverse, reverse-cons}
use Rattle.std.proofs.lemmas.List.Elements.{All-nil, All-cons, All-weaker, All-contains, All-append, Contains-append_left, Contains-append_right, Contains-append_cases}
use Rattle.ps_list.proofs.Members.{nothing, cons_cases, here, there}
use Rattle.ps_atom.specs.declared.atom.Atom.{Atom}
use Rattle.ps_triple.specs.declared.entry.Entry.{Entry}
use Rattle.ps_triple.specs.Entries.{GivesAtom, HasInitial, false_atom}
use Rattle.ps_basis.specs.Space.{InSpace, listed, idle, union, sequence, IsUnion, IsProved}
use Rattle.ps_basis.specs.Demands.{IsGivenFrom, IsGiven}
use Rattle.ps_triple.proofs.Membership.{all_of}

-- what is given from what is given
joined : (entries : List Entry) (P Q : Atom → Type 0) (ss ts : List (ℕ × ℕ)) → ((q : Atom) → P q → IsGivenFrom entries Q ss q) →
    (q : Atom) → IsGivenFrom entries P ts q → IsGivenFrom entries Q (ts ++ ss) q
joined entries P Q ss [] f q h = f q h
joined entries P Q ss (l ∷ ts) f q (a, g, all) =
    (a, g, All-weaker (IsGivenFrom entries P ts) (IsGivenFrom entries Q (ts ++ ss)) (λ p h. joined entries P Q ss ts f p h) a all)

-- what the rules give is given
pub found : (entries : List Entry) {trace : List (ℕ × ℕ)} {a b : List Atom} → InSpace entries trace a b →
    (P : Atom → Type 0) → ((q : Atom) → Contains a q → P q) → (q : Atom) → Contains b q → IsGivenFrom entries P (reverse trace) q
found entries (listed {thread = k} {command = c} {a = a} {q = p} g) P given q within = elim (cons_cases p [] q within) [
  | inl is ↦ subst (λ (r : Atom). IsGivenFrom entries P ((k, c) ∷ []) r) is (a, g, all_of P a given)
  | inr none ↦ absurd (nothing q none)
]
found entries idle P given q within = absurd (nothing q within)
found entries (union h k before after) P given q within = elim ((after q).0 within) [
  | inl i ↦ found entries h P (λ r j. given r ((before r).1 (inl j))) q i
  | inr i ↦ found entries k P (λ r j. given r ((before r).1 (inr j))) q i
]
found entries (sequence {s = s} {t = t} {c = c} h k part) P given q within =
    subst (λ (ls : List (ℕ × ℕ)). IsGivenFrom entries P ls q) (sym (reverse-append s t))
    (joined entries (Contains c) P (reverse s) (reverse t) (λ r i. found entries h P given r (part r i)) q
    (found entries k (Contains c) (λ r i. i) q within))

appended : (a b : List Atom) → IsUnion a b (a ++ b)
appended a b = λ q. (Contains-append_cases a b q, ⊎_elim (Contains-append_left a b q) (Contains-append_right a b q))

abbrev ByRules : List Entry → (Atom → Type 0) → List (ℕ × ℕ) → List Atom → Type 0
ByRules entries P trace b = (a : List Atom) × All P a × InSpace entries trace a b

-- the triples of one letter, together
one_letter : (entries : List Entry) (l : ℕ × ℕ) (P : Atom → Type 0) (b : List Atom) →
    ((q : Atom) → Contains b q → (a : List Atom) × GivesAtom entries l.0 l.1 a q × All P a) → ByRules entries P (l ∷ []) b
one_letter entries l P [] h = ([], All-nil P, idle)
one_letter entries l P (q ∷ b) h = put (h q (here q b)) (one_letter entries l P b (λ r i. h r (there q b r i)))
  where
    put : (a : List Atom) × GivesAtom entries l.0 l.1 a q × All P a → ByRules entries P (l ∷ []) b → ByRules entries P (l ∷ []) (q ∷ b)
    put (a, g, all) (others, rest, s) = (a ++ others, All-append P a others all rest, union (listed g) s (appended a others) (appended (q ∷ []) b))

-- what is given, the rules give
pub by_rules : (entries : List Entry) (P : Atom → Type 0) (ls : List (ℕ × ℕ)) (l : ℕ × ℕ) (b : List Atom) →
    All (IsGivenFrom entries P (l ∷ ls)) b → ByRules entries P (reverse (l ∷ ls)) b
by_rules entries P [] l b h = one_letter entries l P b (λ q i. All-contains (IsGivenFrom entries P (l ∷ [])) b q h i)
by_rules entries P (m ∷ ls) l b h =
    put (one_letter entries l (IsGivenFrom entries P (m ∷ ls)) b (λ q i. All-contains (IsGivenFrom entries P (l ∷ m ∷ ls)) b q h i))
    (λ c all. by_rules entries P ls m c all)
  where
    join : (c : List Atom) → InSpace entries (l ∷ []) c b → ByRules entries P (reverse (m ∷ ls)) c → ByRules entries P (reverse (l ∷ m ∷ ls)) b
    join c s (a, all, r) = (a, all, subst (λ (t : List (ℕ × ℕ)). InSpace entries t a b) (sym (reverse-cons l (m ∷ ls))) (sequence r s (λ q i. i)))

    put : ByRules entries (IsGivenFrom entries P (m ∷ ls)) (l ∷ []) b →
        ((c : List Atom) → All (IsGivenFrom entries P (m ∷ ls)) c → ByRules entries P (reverse (m ∷ ls)) c) → ByRules entries P (reverse (l ∷ m ∷ ls)) b
    put (c, all, s) rest = join c s (rest c all)

abbrev pub IsLong : List (ℕ × ℕ) → Type 0
IsLong [] = ⊥
IsLong (l ∷ ls) = Unit {0}

longer : (s t : List (ℕ × ℕ)) → IsLong s → IsLong (s ++ t)
longer [] t h = absurd h
longer (l ∷ s) t h = tt

-- no triple of the space is of the empty trace
pub long : (entries : List Entry) {trace : List (ℕ × ℕ)} {a b : List Atom} → InSpace entries trace a b → IsLong trace
long entries (listed g) = tt
long entries idle = tt
long entries (union h k before after) = long entries h
long entries (sequence {s = s} {t = t} h k part) = longer s t (long entries h)

-- a trace is proved exactly where it has a letter, and from its last letter to its first false is given from atoms that
-- hold initially
pub rules_are_demands : (entries : List Entry) (trace : List (ℕ × ℕ)) →
    IsProved entries trace ↔ ((trace ≢ []) × IsGiven entries (reverse trace) false_atom)
rules_are_demands entries trace = (forth, back)
  where
    Initially : Atom → Type 0
    Initially q = HasInitial entries q.predicate

    forth : IsProved entries trace → (trace ≢ []) × IsGiven entries (reverse trace) false_atom
    forth p = (
      (λ e. subst IsLong e (long entries p.proof)),
      found entries p.proof Initially (λ q i. All-contains Initially p.initial q p.hold i) false_atom (here false_atom []),
    )

    at : (ls : List (ℕ × ℕ)) → reverse trace ≡ ls → (trace ≢ []) → IsGiven entries ls false_atom → IsProved entries trace
    at [] e some h = absurd (some (sym (reverse-reverse trace) ∙ ap reverse e))
    at (l ∷ ls) e some h = put (by_rules entries Initially ls l (false_atom ∷ []) (All-cons (IsGiven entries (l ∷ ls)) false_atom [] h (All-nil (IsGiven entries (l ∷ ls)))))
      where
        put : ByRules entries Initially (reverse (l ∷ ls)) (false_atom ∷ []) → IsProved entries trace
        put (a, all, s) = record {
          initial = a;
          hold = all;
          proof = subst (λ (t : List (ℕ × ℕ)). InSpace entries t a (false_atom ∷ [])) (ap reverse (sym e) ∙ reverse-reverse trace) s;
        }

    back : (trace ≢ []) × IsGiven entries (reverse trace) false_atom → IsProved entries trace
    back h = at (reverse trace) refl h.0 h.1
