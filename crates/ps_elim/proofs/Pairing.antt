-- The vector of a pair, with its row.
use Rattle.std.proofs.Common.{◌≡◌, ℕ, ◌/◌, ◌<◌, ℤ, pos, ◌+ℤ◌, ◌*ℤ◌, List, [], ◌∷◌, ◌++◌, ◌+◌, map, take, length, get_or, All, Result, Ok, Err, OnOk, IsErrOf, Bor, unsigned_abs, sym, ap, ap₂, ◌∙◌, subst, subst₂}
use Rattle.std.proofs.lemmas.List.{append-nil, append_assoc, get_or-map, length-map, map_push, take_more}
use Rattle.std.proofs.lemmas.List.Elements.{All-push}
use Rattle.ps_elim.specs.Combining.{CombinationFits, WeightedFits, all_combined, combined, size_under, weight, weighted_entries}
use Rattle.ps_elim.specs.Divisors.{common_divisor}
use Rattle.ps_elim.specs.Vectors.{IsSum, coefficient_under, constant_under}
use Rattle.ps_elim.specs.inner.Weighing.{IsWeighted, pointed_to, vectors_of}
use Rattle.ps_elim.specs.inner.Weights.{AreWeights, TermsFit, size_in}
use Rattle.ps_elim.specs.declared.pair.Weights.{Weights}
use Rattle.ps_elim.specs.declared.weighted.Weighted.{Weighted}
use Rattle.ps_elim.proofs.Sums.{weighted-entries}
use Rattle.ps_elim.proofs.Entries.{EntriesFit}
use Rattle.ps_term.specs.Pairs.{coefficient}
use Rattle.ps_term.specs.declared.row.Row.{Row}
use Rattle.ps_term.specs.declared.var.Var.{Var}

-- an error is the same in two types of results
pub same_error : {T U E : Type 0} (e d : E) → IsErrOf {T = T} {E = E} (Err e) d → IsErrOf {T = U} {E = E} (Err e) d
same_error e d h = let same : e ≡ d = cc in ap (λ x. Err x) same

pub on_ok : {T E : Type 0} (P : Type 0) (r : Result T E) → P → OnOk r P
on_ok P (Ok x) p = p
on_ok P (Err e) p = tt

pub on_ok_too : {T E P Q : Type 0} (r : Result T E) → (P → Q) → OnOk r P → OnOk r Q
on_ok_too (Ok x) f p = f p
on_ok_too (Err e) f p = tt

size_is : (rows : List Row) (x : Var) (w : Weighted) → IsWeighted rows w → size_in x w.row ≡ size_under rows x w.vector
size_is rows x w h = ap unsigned_abs (h.sum.coefficients x)

pub first_weight : (rows : List Row) (x : Var) (p q : Weighted) (m : Weights) → IsWeighted rows p → IsWeighted rows q → AreWeights x p.row q.row m → m.first ≡ weight rows x p.vector q.vector
first_weight rows x p q m h k a =
    a.first ∙ ap₂ (λ (s t : ℕ). t / common_divisor s t) (size_is rows x p h) (size_is rows x q k)

pub second_weight : (rows : List Row) (x : Var) (p q : Weighted) (m : Weights) → IsWeighted rows p → IsWeighted rows q → AreWeights x p.row q.row m → m.second ≡ weight rows x q.vector p.vector
second_weight rows x p q m h k a =
    a.second ∙ ap₂ (λ (s t : ℕ). s / common_divisor t s) (size_is rows x p h) (size_is rows x q k)

pub pair_sum : (rows : List Row) (p q : Weighted) (m n : ℕ) (row : Row) → IsWeighted rows p → IsWeighted rows q → ((x : Var) → coefficient x row.term.pairs ≡ ((pos m *ℤ coefficient x p.row.term.pairs) +ℤ (pos n *ℤ coefficient x q.row.term.pairs))) → row.term.constant ≡ ((pos m *ℤ p.row.term.constant) +ℤ (pos n *ℤ q.row.term.constant)) → IsSum rows (weighted_entries m p.vector n q.vector) row
pair_sum rows p q m n row h k c d = record {
  coefficients = λ x. c x ∙ (ap₂ (λ (y z : ℤ). (pos m *ℤ y) +ℤ (pos n *ℤ z)) (h.sum.coefficients x) (k.sum.coefficients x) ∙ sym (weighted-entries (λ t. coefficient x t.pairs) rows m p.vector n q.vector (h.long ∙ sym k.long)));
  constant = d ∙ (ap₂ (λ (y z : ℤ). (pos m *ℤ y) +ℤ (pos n *ℤ z)) h.sum.constant k.sum.constant ∙ sym (weighted-entries (λ t. t.constant) rows m p.vector n q.vector (h.long ∙ sym k.long)));
}

pub pair_fits : (rows : List Row) (x : Var) (p q : Weighted) (m n : ℕ) → IsWeighted rows p → IsWeighted rows q → m ≡ weight rows x p.vector q.vector → n ≡ weight rows x q.vector p.vector → EntriesFit m n p.vector q.vector → TermsFit m p.row.term n q.row.term → CombinationFits rows x p.vector q.vector
pair_fits rows x p q m n h k e f a b = record {
  entries = subst₂ (λ (i j : ℕ). EntriesFit i j p.vector q.vector) e f a;
  coefficients = λ y. subst₂ (λ (i j : ℕ). WeightedFits i (coefficient_under rows y p.vector) j (coefficient_under rows y q.vector)) e f (subst₂ (λ (i j : ℤ). WeightedFits m i n j) (h.sum.coefficients y) (k.sum.coefficients y) (b.0 y));
  constant = subst₂ (λ (i j : ℕ). WeightedFits i (constant_under rows p.vector) j (constant_under rows q.vector)) e f (subst₂ (λ (i j : ℤ). WeightedFits m i n j) h.sum.constant k.sum.constant b.1);
}

-- ---- what a reference among others points to
pub pointed_item : (P : Weighted → Type 0) (refs : List (Bor Weighted)) (i : ℕ) (r : Bor Weighted) → i < length refs → r ≡ get_or refs i r → All P (pointed_to refs) → P r.now
pointed_item P refs i r l is h =
    let same : get_or (pointed_to refs) i r.now ≡ r.now = get_or-map (λ s. s.now) refs i r r.now l ∙ ap (λ (s : Bor Weighted). s.now) (sym is) in
    subst P same (h i r.now (subst (λ (n : ℕ). i < n) (sym (length-map refs (λ s. s.now))) l))

pub vector_item : (P : List ℕ → Type 0) (refs : List (Bor Weighted)) (i : ℕ) (r : Bor Weighted) → i < length refs → r ≡ get_or refs i r → All P (vectors_of (pointed_to refs)) → P r.now.vector
vector_item P refs i r l is h =
    pointed_item (λ w. P w.vector) refs i r l is (λ k d m. subst P (get_or-map (λ w. w.vector) (pointed_to refs) k d d.vector m) (h k d.vector (subst (λ (n : ℕ). k < n) (sym (length-map (pointed_to refs) (λ w. w.vector))) m)))

-- ---- one reference more
pub refs-step : (refs : List (Bor Weighted)) (i : ℕ) (r : Bor Weighted) → i < length refs → r ≡ get_or refs i r → vectors_of (pointed_to (take (i + 1) refs)) ≡ vectors_of (pointed_to (take i refs)) ++ r.now.vector ∷ []
refs-step refs i r l is =
    let more : take (i + 1) refs ≡ take i refs ++ r ∷ [] = take_more refs i r l ∙ ap (λ (s : Bor Weighted). take i refs ++ s ∷ []) (sym is) in
    ap (λ (rs : List (Bor Weighted)). vectors_of (pointed_to rs)) more ∙ (ap vectors_of (map_push (λ s. s.now) (take i refs) r) ∙ map_push (λ w. w.vector) (pointed_to (take i refs)) r.now)

pub pairs-step : (f : List ℕ → List ℕ) (refs : List (Bor Weighted)) (i : ℕ) (r : Bor Weighted) (all made : List Weighted) (w : Weighted) → i < length refs → r ≡ get_or refs i r → vectors_of all ≡ vectors_of made ++ map f (vectors_of (pointed_to (take i refs))) → w.vector ≡ f r.now.vector → vectors_of (all ++ w ∷ []) ≡ vectors_of made ++ map f (vectors_of (pointed_to (take (i + 1) refs)))
pairs-step f refs i r all made w l is h e =
    let done = vectors_of (pointed_to (take i refs)) in
    map_push (λ u. u.vector) all w ∙ (ap₂ (λ (us : List (List ℕ)) (v : List ℕ). us ++ v ∷ []) h e ∙ (append_assoc (vectors_of made) (map f done) (f r.now.vector ∷ []) ∙ (ap (λ (us : List (List ℕ)). vectors_of made ++ us) (sym (map_push f done r.now.vector)) ∙ ap (λ (us : List (List ℕ)). vectors_of made ++ map f us) (sym (refs-step refs i r l is)))))

pub fits-step : (P : List ℕ → Type 0) (refs : List (Bor Weighted)) (i : ℕ) (r : Bor Weighted) → i < length refs → r ≡ get_or refs i r → All P (vectors_of (pointed_to (take i refs))) → P r.now.vector → All P (vectors_of (pointed_to (take (i + 1) refs)))
fits-step P refs i r l is h p =
    subst (λ (us : List (List ℕ)). All P us) (sym (refs-step refs i r l is)) (All-push P (vectors_of (pointed_to (take i refs))) r.now.vector h p)

all_combined-push : (rows : List Row) (x : Var) (ps : List (List ℕ)) (p : List ℕ) (qs : List (List ℕ)) → all_combined rows x (ps ++ p ∷ []) qs ≡ all_combined rows x ps qs ++ map (combined rows x p) qs
all_combined-push rows x [] p qs = append-nil (map (combined rows x p) qs)
all_combined-push rows x (o ∷ ps) p qs =
    ap (λ (us : List (List ℕ)). map (combined rows x o) qs ++ us) (all_combined-push rows x ps p qs) ∙ sym (append_assoc (map (combined rows x o) qs) (all_combined rows x ps qs) (map (combined rows x p) qs))

pub all_pairs-step : (rows : List Row) (x : Var) (refs : List (Bor Weighted)) (i : ℕ) (r : Bor Weighted) (qs : List (List ℕ)) (all new made : List Weighted) → i < length refs → r ≡ get_or refs i r → vectors_of all ≡ vectors_of made ++ all_combined rows x (vectors_of (pointed_to (take i refs))) qs → vectors_of new ≡ vectors_of all ++ map (combined rows x r.now.vector) qs → vectors_of new ≡ vectors_of made ++ all_combined rows x (vectors_of (pointed_to (take (i + 1) refs))) qs
all_pairs-step rows x refs i r qs all new made l is h e =
    let done = vectors_of (pointed_to (take i refs)) in
    e ∙ (ap (λ (us : List (List ℕ)). us ++ map (combined rows x r.now.vector) qs) h ∙ (append_assoc (vectors_of made) (all_combined rows x done qs) (map (combined rows x r.now.vector) qs) ∙ ap (λ (us : List (List ℕ)). vectors_of made ++ us) (sym (all_combined-push rows x done r.now.vector qs) ∙ ap (λ (us : List (List ℕ)). all_combined rows x us qs) (sym (refs-step refs i r l is)))))
