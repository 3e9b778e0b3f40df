-- The tests of one more image say what they are to say.
use Rattle.std.proofs.Common.{◌≡◌, ◌≢◌, ◌<◌, ◌+◌, ℕ, Bool, true, false, not, ◌&&◌, ◌||◌, ◌==◌, List, [], ◌∷◌, ◌++◌, length, drop, get_or, map, refl, sym, ap, ap₂, ◌∙◌, subst, inl, inr, Contains, Option, Some, if◌then◌else◌, arith}
use Rattle.std.specs.List.{list_any, list_all}
use Rattle.std.proofs.lemmas.Bool.{both_ways, false≢true, cases_Bool, eqb-true, eq-eqb, eqb-false, and_parts, and_from}
use Rattle.std.proofs.lemmas.List.{drop_more, length-append}
use Rattle.ps_atom.specs.Atoms.{renamed}
use Rattle.ps_atom.specs.declared.atom.Atom.{Atom}
use Rattle.ps_list.proofs.Members.{nothing, here, there}
use Rattle.ps_config.specs.Configurations.{Configuration}
use Rattle.ps_config.specs.Sent.{sent}
use Rattle.ps_list.proofs.Numbers.{has_from, has_to}
use Rattle.ps_config.proofs.Sent.{later_in}
use Rattle.ps_config.proofs.Tested.{all_from, any_from, any_to}
use Rattle.ps_cover.proofs.Fitting.{FitsNext}
use Rattle.ps_cover.specs.inner.Agreeing.{found, agrees_with, slots_agree, atom_agrees}
use Rattle.ps_cover.specs.inner.Tests.{is_listed, is_placed, place_kept, atom_kept, can_go}

-- ---- steps of loops

pub found_step : (threads to : List ℕ) (t i : ℕ) → i < length threads → length threads ≡ length to → get_or threads i 0 ≢ t
    → found (drop (i + 1) threads) (drop (i + 1) to) t ≡ found (drop i threads) (drop i to) t
found_step threads to t i h long n =
    let within : i < length to = omega (arith, h, long) in
    sym (ap₂ (λ (xs ys : List ℕ). found xs ys t) (drop_more threads i 0 h) (drop_more to i 0 within)
    ∙ later (get_or threads i 0) (get_or to i 0) (drop (i + 1) threads) (drop (i + 1) to) n)
  where
    later : (s u : ℕ) (ss us : List ℕ) → s ≢ t → found (s ∷ ss) (u ∷ us) t ≡ found ss us t
    later s u ss us other = at (s == t) refl
      where
        at : (b : Bool) → (s == t) ≡ b → (if b then Some u else found ss us t) ≡ found ss us t
        at true e = absurd (other (eqb-true s t e))
        at false e = refl

pub agree_long : (threads to xs ys : List ℕ) → length xs ≢ length ys → false ≡ slots_agree threads to xs ys
agree_long threads to [] [] n = absurd (n refl)
agree_long threads to [] (y ∷ ys) n = refl
agree_long threads to (x ∷ xs) [] n = refl
agree_long threads to (x ∷ xs) (y ∷ ys) n = at (agrees_with (found threads to x) y) (agree_long threads to xs ys (λ e. n (omega (arith, e))))
  where
    at : (b : Bool) → false ≡ slots_agree threads to xs ys → false ≡ (b && slots_agree threads to xs ys)
    at true rest = rest
    at false rest = refl

-- ---- places

pair_is : (a b c d : ℕ) → a ≡ c → b ≡ d → (let p : ℕ × ℕ = (a, b) in let q : ℕ × ℕ = (c, d) in p ≡ q)
pair_is a b c d e f = ap₂ (λ (x y : ℕ). let p : ℕ × ℕ = (x, y) in p) e f

pub placed_from : (at : List (ℕ × ℕ)) (t l : ℕ) → is_placed at t l ≡ true → Contains at (t, l)
placed_from at t l h =
    let w = any_from (λ (p : ℕ × ℕ). (p.0 == t) && (p.1 == l)) at h in
    let both = and_parts (w.0.0 == t) (w.0.1 == l) w.2 in
    subst (λ (p : ℕ × ℕ). Contains at p) (pair_is w.0.0 w.0.1 t l (eqb-true w.0.0 t both.0) (eqb-true w.0.1 l both.1)) w.1

pub placed_to : (at : List (ℕ × ℕ)) (t l : ℕ) → Contains at (t, l) → is_placed at t l ≡ true
placed_to at t l c = any_to (λ (p : ℕ × ℕ). (p.0 == t) && (p.1 == l)) at (t, l) c (and_from (t == t) (l == l) (eq-eqb t t refl) (eq-eqb l l refl))

pub unless_from : (a b : Bool) → (not a || b) ≡ true → a ≡ true → b ≡ true
unless_from true b h e = h
unless_from false b h e = absurd (false≢true e)

pub unless_to : (a b : Bool) → (a ≡ true → b ≡ true) → (not a || b) ≡ true
unless_to true b h = h refl
unless_to false b h = refl

-- ---- atoms

found_at : (s u t : ℕ) (ss us : List ℕ) (y : ℕ) → (Contains ss t → agrees_with (found ss us t) y ≡ true → sent ss us t ≡ y) → Contains (s ∷ ss) t → (b : Bool) → (s == t) ≡ b
    → agrees_with (if b then Some u else found ss us t) y ≡ true → (if b then u else sent ss us t) ≡ y
found_at s u t ss us y rest c true e h = eqb-true u y h
found_at s u t ss us y rest c false e h = rest (later_in s t ss (eqb-false s t e) c) h

agrees_sent : (ss us : List ℕ) → length us ≡ length ss → (t y : ℕ) → Contains ss t → agrees_with (found ss us t) y ≡ true → sent ss us t ≡ y
agrees_sent [] us long t y c h = absurd (nothing t c)
agrees_sent (s ∷ ss) [] long t y c h = absurd (omega (arith, long))
agrees_sent (s ∷ ss) (u ∷ us) long t y c h = found_at s u t ss us y (agrees_sent ss us (omega (arith, long)) t y) c (s == t) refl h

slots_from : (ss us xs ys : List ℕ) → length us ≡ length ss → slots_agree ss us xs ys ≡ true → ((t : ℕ) → Contains xs t → Contains ss t) → map (sent ss us) xs ≡ ys
slots_from ss us [] [] long h all = refl
slots_from ss us [] (y ∷ ys) long h all = absurd (false≢true h)
slots_from ss us (x ∷ xs) [] long h all = absurd (false≢true h)
slots_from ss us (x ∷ xs) (y ∷ ys) long h all =
    let both = and_parts (agrees_with (found ss us x) y) (slots_agree ss us xs ys) h in
    ap₂ (λ (z : ℕ) (zs : List ℕ). z ∷ zs) (agrees_sent ss us long x y (all x (here x xs)) both.0) (slots_from ss us xs ys long both.1 (λ t c. all t (there x xs t c)))

-- an atom whose threads all have images agrees with its image alone
atom_from : (ss us : List ℕ) (q r : Atom) → length us ≡ length ss → atom_agrees ss us q r ≡ true → ((t : ℕ) → Contains q.threads t → Contains ss t) → renamed (sent ss us) q ≡ r
atom_from ss us q r long h all =
    let both = and_parts (q.predicate == r.predicate) (slots_agree ss us q.threads r.threads) h in
    ap₂ (λ (p : ℕ) (ts : List ℕ). let a : Atom = record { predicate = p; threads = ts } in a) (eqb-true q.predicate r.predicate both.0) (slots_from ss us q.threads r.threads long both.1 all)

image_at : (f : ℕ → ℕ) (s t : ℕ) (o : Option ℕ) → agrees_with o (f t) ≡ true → (b : Bool) → (s == t) ≡ b → agrees_with (if b then Some (f s) else o) (f t) ≡ true
image_at f s t o rest true e = eq-eqb (f s) (f t) (ap f (eqb-true s t e))
image_at f s t o rest false e = rest

agrees_image : (f : ℕ → ℕ) (ss : List ℕ) (t : ℕ) → agrees_with (found ss (map f ss) t) (f t) ≡ true
agrees_image f [] t = refl
agrees_image f (s ∷ ss) t = image_at f s t (found ss (map f ss) t) (agrees_image f ss t) (s == t) refl

slots_image : (f : ℕ → ℕ) (ss xs : List ℕ) → slots_agree ss (map f ss) xs (map f xs) ≡ true
slots_image f ss [] = refl
slots_image f ss (x ∷ xs) = and_from (agrees_with (found ss (map f ss) x) (f x)) (slots_agree ss (map f ss) xs (map f xs)) (agrees_image f ss x) (slots_image f ss xs)

-- an atom agrees with its image under each function that gives the images so far
pub atom_image : (f : ℕ → ℕ) (ss us : List ℕ) (q : Atom) → map f ss ≡ us → atom_agrees ss us q (renamed f q) ≡ true
atom_image f ss us q e = subst (λ (vs : List ℕ). atom_agrees ss vs q (renamed f q) ≡ true) e
    (and_from (q.predicate == q.predicate) (slots_agree ss (map f ss) q.threads (map f q.threads)) (eq-eqb q.predicate q.predicate refl) (slots_image f ss q.threads))

-- ---- the image fits

pub not_listed : (to : List ℕ) (u : ℕ) → not (is_listed to u) ≡ true → ¬ Contains to u
not_listed to u h c = both_ways (not (is_listed to u)) (ap not (has_to to u c)) h

pub listed_not : (to : List ℕ) (u : ℕ) → (¬ Contains to u) → not (is_listed to u) ≡ true
listed_not to u n = elim (cases_Bool (is_listed to u)) [
  | inl has ↦ absurd (n (has_from to u has))
  | inr lacks ↦ ap not lacks
]

pub fitting_from : (small large : Configuration) (ss us : List ℕ) (t u : ℕ) → length us ≡ length ss → can_go small.at small.atoms large.at large.atoms ss us t u ≡ true → FitsNext small large ss us t u
fitting_from small large ss us t u long h =
    let xs : List ℕ = ss ++ t ∷ [] in
    let ys : List ℕ = us ++ u ∷ [] in
    let longer : length ys ≡ length xs = rw (length-append, length-append) (omega (arith, long)) in
    let first = and_parts (not (is_listed us u)) (list_all (place_kept large.at t u) small.at && list_all (atom_kept large.atoms t xs ys) small.atoms) h in
    let rest = and_parts (list_all (place_kept large.at t u) small.at) (list_all (atom_kept large.atoms t xs ys) small.atoms) first.1 in
    record {
      unused = not_listed us u first.0;
      located = λ l at. placed_from large.at u l (unless_from (t == t) (is_placed large.at u l) (all_from (place_kept large.at t u) small.at rest.0 (t, l) at) (eq-eqb t t refl));
      atoms = λ q c named all.
          let w = any_from (atom_agrees xs ys q) large.atoms (unless_from (is_listed q.threads t) (list_any (atom_agrees xs ys q) large.atoms) (all_from (atom_kept large.atoms t xs ys) small.atoms rest.1 q c) (has_to q.threads t named)) in
          subst (λ (r : Atom). Contains large.atoms r) (sym (atom_from xs ys q w.0 longer w.2 all)) w.1;
    }
