-- The tests of images say that they are a covering.
use Rattle.std.proofs.Common.{◌≡◌, ◌≢◌, ◌<◌, ◌+◌, ℕ, Bool, true, false, not, ◌&&◌, ◌||◌, ◌==◌, List, [], ◌∷◌, length, drop, get_or, map, refl, sym, ap, ap₂, ◌∙◌, subst, inl, inr, Contains, if◌then◌else◌, arith}
use Rattle.std.specs.List.{list_any, list_all}
use Rattle.std.proofs.lemmas.Bool.{both_ways, cases_eq, false≢true, eqb-true, eq-eqb, ne_eqb, and_parts, and_from, or_cases, or_left, or_right}
use Rattle.std.proofs.lemmas.List.{drop_more}
use Rattle.ps_atom.specs.Atoms.{renamed}
use Rattle.ps_atom.specs.declared.atom.Atom.{Atom}
use Rattle.ps_config.specs.Configurations.{Configuration, IsAt, threads_at}
use Rattle.ps_config.specs.Forms.{AreThreads}
use Rattle.ps_config.specs.Sent.{sent}
use Rattle.ps_config.proofs.Sent.{sent_later}
use Rattle.ps_cover.specs.Coverings.{IsCovering}
use Rattle.ps_config.proofs.Tested.{all_from, all_to, any_from, any_to}
use Rattle.ps_cover.proofs.Testing.{placed_from, placed_to}
use Rattle.ps_cover_tests.specs.Embedding.{is_apart, is_placed_too, are_sent, goes_to, is_kept, takes_into}

-- ---- steps of loops

pub sent_step : (threads to : List ℕ) (t i : ℕ) → i < length threads → length to ≡ length threads → get_or threads i 0 ≢ t
    → sent (drop (i + 1) threads) (drop (i + 1) to) t ≡ sent (drop i threads) (drop i to) t
sent_step threads to t i h long n =
    let within : i < length to = omega (arith, h, long) in
    sym (ap₂ (λ (xs ys : List ℕ). sent xs ys t) (drop_more threads i 0 h) (drop_more to i 0 within)
    ∙ sent_later (get_or threads i 0) (get_or to i 0) t (drop (i + 1) threads) (drop (i + 1) to) n)

pub sent_long : (threads to xs ys : List ℕ) → length xs ≢ length ys → false ≡ are_sent threads to xs ys
sent_long threads to [] [] n = absurd (n refl)
sent_long threads to [] (y ∷ ys) n = refl
sent_long threads to (x ∷ xs) [] n = refl
sent_long threads to (x ∷ xs) (y ∷ ys) n = at (sent threads to x == y) (sent_long threads to xs ys (λ e. n (omega (arith, e))))
  where
    at : (b : Bool) → false ≡ are_sent threads to xs ys → false ≡ (b && are_sent threads to xs ys)
    at true rest = rest
    at false rest = refl

-- ---- threads

apart_from : (threads to : List ℕ) → list_all (is_apart threads to) threads ≡ true → (s t : ℕ) → Contains threads s → Contains threads t → sent threads to s ≡ sent threads to t → s ≡ t
apart_from threads to h s t hs ht e =
    elim (or_cases (s == t) (not (sent threads to s == sent threads to t)) (all_from (λ r. (r == t) || not (sent threads to r == sent threads to t)) threads (all_from (is_apart threads to) threads h t ht) s hs)) [
      | inl same ↦ eqb-true s t same
      | inr other ↦ absurd (both_ways (not (sent threads to s == sent threads to t)) (ap not (eq-eqb (sent threads to s) (sent threads to t) e)) other)
    ]

apart_to : (threads to : List ℕ) → ((s t : ℕ) → Contains threads s → Contains threads t → sent threads to s ≡ sent threads to t → s ≡ t) → list_all (is_apart threads to) threads ≡ true
apart_to threads to apart = all_to (is_apart threads to) threads (λ t ht. all_to (λ r. (r == t) || not (sent threads to r == sent threads to t)) threads (λ s hs. elim (cases_eq s t) [
  | inl same ↦ or_left (s == t) (not (sent threads to s == sent threads to t)) (eq-eqb s t same)
  | inr other ↦ or_right (s == t) (not (sent threads to s == sent threads to t)) (ap not (ne_eqb (sent threads to s) (sent threads to t) (λ e. other (apart s t hs ht e))))
]))

-- ---- atoms

sent_from : (threads to xs ys : List ℕ) → are_sent threads to xs ys ≡ true → map (sent threads to) xs ≡ ys
sent_from threads to [] [] h = refl
sent_from threads to [] (y ∷ ys) h = absurd (false≢true h)
sent_from threads to (x ∷ xs) [] h = absurd (false≢true h)
sent_from threads to (x ∷ xs) (y ∷ ys) h =
    let both = and_parts (sent threads to x == y) (are_sent threads to xs ys) h in
    ap₂ (λ (z : ℕ) (zs : List ℕ). z ∷ zs) (eqb-true (sent threads to x) y both.0) (sent_from threads to xs ys both.1)

sent_itself : (threads to xs : List ℕ) → are_sent threads to xs (map (sent threads to) xs) ≡ true
sent_itself threads to [] = refl
sent_itself threads to (x ∷ xs) = and_from (sent threads to x == sent threads to x) (are_sent threads to xs (map (sent threads to) xs)) (eq-eqb (sent threads to x) (sent threads to x) refl) (sent_itself threads to xs)

goes_from : (threads to : List ℕ) (q r : Atom) → goes_to threads to q r ≡ true → renamed (sent threads to) q ≡ r
goes_from threads to q r h =
    let both = and_parts (q.predicate == r.predicate) (are_sent threads to q.threads r.threads) h in
    ap₂ (λ (p : ℕ) (ts : List ℕ). let a : Atom = record { predicate = p; threads = ts } in a) (eqb-true q.predicate r.predicate both.0) (sent_from threads to q.threads r.threads both.1)

goes_itself : (threads to : List ℕ) (q : Atom) → goes_to threads to q (renamed (sent threads to) q) ≡ true
goes_itself threads to q = and_from (q.predicate == q.predicate) (are_sent threads to q.threads (map (sent threads to) q.threads)) (eq-eqb q.predicate q.predicate refl) (sent_itself threads to q.threads)

-- ---- all together

pub covering_from : (small large : Configuration) (threads to : List ℕ) → AreThreads small threads → length to ≡ length threads → takes_into small large threads to ≡ true → IsCovering small large threads to
covering_from small large threads to are long h =
    let first = and_parts (list_all (is_apart threads to) threads) (list_all (is_placed_too large.at threads to) small.at && list_all (is_kept large.atoms threads to) small.atoms) h in
    let rest = and_parts (list_all (is_placed_too large.at threads to) small.at) (list_all (is_kept large.atoms threads to) small.atoms) first.1 in
    record {
      long = long;
      embeds = record {
        apart = λ s t hs ht e. apart_from threads to first.0 s t ((are.occurring s).1 hs) ((are.occurring t).1 ht) e;
        located = λ t l at. placed_from large.at (sent threads to t) l (all_from (is_placed_too large.at threads to) small.at rest.0 (t, l) at);
        atoms = λ q c.
            let w = any_from (goes_to threads to q) large.atoms (all_from (is_kept large.atoms threads to) small.atoms rest.1 q c) in
            subst (λ (r : Atom). Contains large.atoms r) (sym (goes_from threads to q w.0 w.2)) w.1;
      };
    }

pub covering_to : (small large : Configuration) (threads to : List ℕ) → AreThreads small threads → IsCovering small large threads to → takes_into small large threads to ≡ true
covering_to small large threads to are is =
    and_from (list_all (is_apart threads to) threads) (list_all (is_placed_too large.at threads to) small.at && list_all (is_kept large.atoms threads to) small.atoms)
    (apart_to threads to (λ s t hs ht e. is.embeds.apart s t ((are.occurring s).0 hs) ((are.occurring t).0 ht) e))
    (and_from (list_all (is_placed_too large.at threads to) small.at) (list_all (is_kept large.atoms threads to) small.atoms)
    (all_to (is_placed_too large.at threads to) small.at (λ p c. placed_to large.at (sent threads to p.0) p.1 (is.embeds.located p.0 p.1 c)))
    (all_to (is_kept large.atoms threads to) small.atoms (λ q c. any_to (goes_to threads to q) large.atoms (renamed (sent threads to) q) (is.embeds.atoms q c) (goes_itself threads to q))))
