-- The letters of a walk, the last one first, and what they say of the trace.
use Rattle.std.proofs.Common.{◌≡◌, ◌≢◌, ◌<◌, ◌≤◌, ◌+◌, ◌-◌, ◌↔◌, ℕ, Bool, false, IsTrue, List, [], ◌∷◌, ◌++◌, length, drop, get_or, map, refl, sym, ap, ap₂, ◌∙◌, subst, reverse, arith}
use mathlib.Core.List.{reverse-cons}
use Rattle.std.proofs.lemmas.Bool.{false≢true}
use Rattle.std.proofs.lemmas.List.{drop_all, drop_more, map_push}
use Rattle.ps_basis.proofs.Rules.{rules_are_demands}
use Rattle.ps_basis.specs.Demands.{IsGiven}
use Rattle.ps_basis.specs.Space.{IsProved}
use Rattle.ps_graph.specs.declared.edge.Edge.{Edge}
use Rattle.ps_member.specs.declared.cut.Cut.{Cut}
use Rattle.ps_member.specs.inner.Walks.{letter_of}
use Rattle.ps_soundness.specs.Traces.{command_of_edge, trace_of}
use Rattle.ps_trace.specs.Traces.{pairs_in}
use Rattle.ps_trace.specs.declared.trace.Letter.{Letter}
use Rattle.ps_triple.specs.Entries.{false_atom}
use Rattle.ps_triple.specs.declared.entry.Entry.{Entry}

-- the letters were walked over, the last one first
abbrev pub HasLetters : List Edge → List Cut → List Letter → Type 0
HasLetters edges cuts letters = map letter_of cuts ≡ reverse (trace_of edges (pairs_in letters))

pub letters_none : (edges : List Edge) (cuts : List Cut) (letters : List Letter) → cuts ≡ [] → HasLetters edges cuts (drop (length letters) letters)
letters_none edges cuts letters none =
    ap (λ (cs : List Cut). map letter_of cs) none
    ∙ sym (ap (λ (ls : List Letter). reverse (trace_of edges (pairs_in ls))) (drop_all (length letters) letters (omega arith)))

abbrev pair_at : List Edge → Letter → ℕ × ℕ
pair_at edges letter = (letter.thread, command_of_edge edges letter.edge)

-- one letter more, before those that were walked over
pub letters_more : (edges : List Edge) (cuts later : List Cut) (cut : Cut) (letters : List Letter) (i : ℕ) (d : Letter) → 0 < i → i ≤ length letters →
    cut.thread ≡ (get_or letters (i - 1) d).thread → cut.command ≡ command_of_edge edges (get_or letters (i - 1) d).edge →
    later ≡ cuts ++ cut ∷ [] → HasLetters edges cuts (drop i letters) → HasLetters edges later (drop (i - 1) letters)
letters_more edges cuts later cut letters i d some within thread command more all =
    let inside : i - 1 < length letters = omega (arith, some, within) in
    let same : (i - 1) + 1 ≡ i = omega (arith, some) in
    let pair : letter_of cut ≡ pair_at edges (get_or letters (i - 1) d) = ap₂ (λ (x y : ℕ). let p : ℕ × ℕ = (x, y) in p) thread command in
    let opened : drop (i - 1) letters ≡ get_or letters (i - 1) d ∷ drop i letters =
    drop_more letters (i - 1) d inside ∙ ap (λ (n : ℕ). get_or letters (i - 1) d ∷ drop n letters) same in
    ap (λ (cs : List Cut). map letter_of cs) more
    ∙ (map_push letter_of cuts cut
    ∙ (ap₂ (λ (ls : List (ℕ × ℕ)) (l : ℕ × ℕ). ls ++ l ∷ []) all pair
    ∙ (sym (reverse-cons (pair_at edges (get_or letters (i - 1) d)) (trace_of edges (pairs_in (drop i letters))))
    ∙ ap (λ (ls : List Letter). reverse (trace_of edges (pairs_in ls))) (sym opened))))

-- ---- what is proved

pub none_proved : (entries : List Entry) (edges : List Edge) (letters : List Letter) → length letters ≡ 0 →
    IsTrue false ↔ IsProved entries (trace_of edges (pairs_in letters))
none_proved entries edges [] none = (
  (λ t. absurd (false≢true t)),
  (λ p. absurd (((rules_are_demands entries []).0 p).0 refl)),
)
none_proved entries edges (l ∷ letters) none = absurd (let none_such : ⊥ = omega (arith, none) in none_such)

has_letter : (edges : List Edge) (letters : List Letter) → length letters ≢ 0 → trace_of edges (pairs_in letters) ≢ []
has_letter edges [] some = absurd (some refl)
has_letter edges (l ∷ letters) some = λ e. (let none_such : ⊥ = cc in none_such)

pub given_proved : (entries : List Entry) (edges : List Edge) (letters : List Letter) (cuts : List Cut) (b : Bool) → length letters ≢ 0 → HasLetters edges cuts letters →
    IsTrue b ↔ IsGiven entries (map letter_of cuts) false_atom → IsTrue b ↔ IsProved entries (trace_of edges (pairs_in letters))
given_proved entries edges letters cuts b some has given =
    let rules : IsProved entries (trace_of edges (pairs_in letters)) ↔ ((trace_of edges (pairs_in letters) ≢ []) × IsGiven entries (reverse (trace_of edges (pairs_in letters))) false_atom) =
    rules_are_demands entries (trace_of edges (pairs_in letters)) in (
      (λ h. rules.1 (has_letter edges letters some, subst (λ (ls : List (ℕ × ℕ)). IsGiven entries ls false_atom) has (given.0 h))),
      (λ p. given.1 (subst (λ (ls : List (ℕ × ℕ)). IsGiven entries ls false_atom) (sym has) (rules.0 p).1)),
    )
