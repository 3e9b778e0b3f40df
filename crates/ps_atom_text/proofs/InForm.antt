-- Configurations that are in form, and with one more thread or atom.
use Rattle.std.proofs.Common.{◌≡◌, ℕ, ◌+◌, ◌-◌, ◌<◌, ◌≤◌, ◌&&◌, Bool, true, false, List, [], ◌∷◌, ◌++◌, length, map, Result, Ok, Err, refl, sym, ap, ◌∙◌, subst, inl, inr, ◌⊎◌, Contains, arith}
use Rattle.std.specs.Prelude.{◌↔◌, IsTrue, nat_le, slice_get, if◌then◌else◌}
use Rattle.std.proofs.lemmas.Bool.{and_parts, and_from, cond-true, cond-false, leb-true, le-leb, false_from_ne_true}
use Rattle.std.proofs.lemmas.Grind.{flat_map-append}
use Rattle.std.proofs.lemmas.List.{append-nil, length-append, length_push, map-append, map_push}
use Rattle.std.proofs.lemmas.List.Elements.{Contains-append_left, Contains-append_right, Contains-append_cases, Contains-push, Contains-push_cases}
use Rattle.ps_atom.specs.Atoms.{threads_of}
use Rattle.ps_atom.specs.declared.atom.Atom.{Atom}
use Rattle.ps_atom_text.specs.Forms.{different, in_form, is_ordered, is_small, places_ascend}
use Rattle.ps_atom_text.specs.inner.Last.{is_atom_after, is_thread_after}
use Rattle.ps_atom_text.specs.inner.Met.{IsMet, met_with, met_with_all}
use Rattle.ps_atom_text.proofs.Different.{Once, as_many_different, ascending_many, fewer_different, listing, listing_has, listing_increases, met_all_has, met_all_once, met_has, met_once}
use Rattle.ps_atom_text.proofs.Orders.{ascend-push, ascend_front, ascend_sorted, increasing_places, places_ascend-push, places_front, places_increase, sorted_ascend}
use Rattle.ps_config.specs.Configurations.{Configuration, threads_at}
use Rattle.ps_config.specs.Forms.{IsConfig}
use Rattle.ps_config.specs.declared.config.TheConstants.{MOST_ATOMS, MOST_THREADS}
use Rattle.ps_lines.specs.declared.form_name.FormName.{FormName}
use Rattle.ps_lines.specs.declared.form_name.FormName.TheVariants as name
use Rattle.ps_triple.specs.Ascending.{ascend}

-- ---- the tests

abbrev formed : Configuration → Result Configuration FormName
formed c = Ok c

formed_is : (c d : Configuration) → formed c ≡ formed d → c ≡ d
formed_is c d e = cc

pub record IsFormed (c : Configuration) : Type 0 where
  pub ordered : is_ordered c ≡ true
  pub small : is_small c ≡ true

tests_are : (c d : Configuration) (t u : Bool) → is_ordered c ≡ t → is_small c ≡ u → (if t then (if u then formed c else Err name.Limit) else Err name.Order) ≡ formed d → IsFormed c × (c ≡ d)
tests_are c d true true a b e = (record { ordered = a; small = b }, formed_is c d e)
tests_are c d true false a b e = absurd cc
tests_are c d false u a b e = absurd cc

pub in_form_is : (c d : Configuration) → in_form c ≡ Ok d → IsFormed c × (c ≡ d)
in_form_is c d e = tests_are c d (is_ordered c) (is_small c) refl refl e

pub in_form_from : (c : Configuration) → IsFormed c → in_form c ≡ Ok c
in_form_from c is = cond-true _ _ _ is.ordered ∙ cond-true _ _ _ is.small

-- ---- they say the same as the form of a configuration

pub config_from : (c : Configuration) → IsFormed c → IsConfig c
config_from c is =
    let order = and_parts (places_ascend c.at) (ascend c.atoms) is.ordered in
    let small = and_parts (nat_le (length (different (threads_at c))) MOST_THREADS) (nat_le (length c.atoms) MOST_ATOMS) is.small in
    let le : length (different (threads_at c)) ≤ MOST_THREADS = leb-true _ _ small.0 in
    let same : length (listing (threads_at c)) ≡ length (different (threads_at c)) = ascending_many (threads_at c) (listing (threads_at c)) (listing_increases (threads_at c)) (listing_has (threads_at c)) in
    record {
      located = places_increase c.at order.0;
      ordered = ascend_sorted c.atoms order.1;
      few_threads = (length (listing (threads_at c)), (listing (threads_at c), record { ascend = listing_increases (threads_at c); occurring = listing_has (threads_at c) }, refl), omega (arith, le, same));
      few_atoms = leb-true _ _ small.1;
    }

pub config_to : (c : Configuration) → IsConfig c → IsFormed c
config_to c is =
    let w = is.few_threads in
    let same : length w.1.0 ≡ length (different (threads_at c)) = ascending_many (threads_at c) w.1.0 w.1.1.ascend w.1.1.occurring in
    let le : length (different (threads_at c)) ≤ MOST_THREADS = omega (arith, same, w.1.2, w.2) in
    record {
      ordered = and_from _ _ (increasing_places c.at is.located) (sorted_ascend c.atoms is.ordered);
      small = and_from _ _ (le-leb _ _ le) (le-leb _ _ is.few_atoms);
    }

-- ---- the threads of one more member

abbrev pub placed : Configuration → ℕ × ℕ → Configuration
placed c p = record { at = c.at ++ p ∷ []; atoms = c.atoms }

abbrev pub held : Configuration → Atom → Configuration
held c q = record { at = c.at; atoms = c.atoms ++ q ∷ [] }

abbrev thread : ℕ × ℕ → ℕ
thread p = p.0

-- what stands in one of two lists
in_either : (xs ys : List ℕ) (t : ℕ) → Contains (xs ++ ys) t ↔ (Contains xs t ⊎ Contains ys t)
in_either xs ys t = (Contains-append_cases xs ys t, λ h. elim h [ inl first ↦ Contains-append_left xs ys t first | inr later ↦ Contains-append_right xs ys t later ])

threads_push : (qs : List Atom) (q : Atom) (t : ℕ) → Contains (threads_of (qs ++ q ∷ [])) t ↔ (Contains (threads_of qs) t ⊎ Contains q.threads t)
threads_push qs q t = rw (flat_map-append (λ (r : Atom). r.threads) qs (q ∷ []), append-nil q.threads) (in_either (threads_of qs) q.threads t)

pub placed_threads : (c : Configuration) (p : ℕ × ℕ) (t : ℕ) → Contains (threads_at (placed c p)) t ↔ (Contains (threads_at c) t ⊎ (p.0 ≡ t))
placed_threads c p t =
    rw (map_push thread c.at p) (
      λ h. elim (Contains-append_cases (map thread c.at ++ p.0 ∷ []) (threads_of c.atoms) t h) [
        | inl located ↦ elim (Contains-push_cases (map thread c.at) p.0 t located) [ inl old ↦ inl (Contains-append_left (map thread c.at) (threads_of c.atoms) t old) | inr is ↦ inr is ]
        | inr named ↦ inl (Contains-append_right (map thread c.at) (threads_of c.atoms) t named)
      ],
      λ h. elim h [
        | inl old ↦ elim (Contains-append_cases (map thread c.at) (threads_of c.atoms) t old) [
          | inl located ↦ Contains-append_left (map thread c.at ++ p.0 ∷ []) (threads_of c.atoms) t (Contains-append_left (map thread c.at) (p.0 ∷ []) t located)
          | inr named ↦ Contains-append_right (map thread c.at ++ p.0 ∷ []) (threads_of c.atoms) t named
        ]
        | inr is ↦ Contains-append_left (map thread c.at ++ p.0 ∷ []) (threads_of c.atoms) t (subst (λ (u : ℕ). Contains (map thread c.at ++ p.0 ∷ []) u) is (Contains-push (map thread c.at) p.0))
      ],
    )

pub held_threads : (c : Configuration) (q : Atom) (t : ℕ) → Contains (threads_at (held c q)) t ↔ (Contains (threads_at c) t ⊎ Contains q.threads t)
held_threads c q t =
    let push = threads_push c.atoms q t in (
      λ h. elim (Contains-append_cases (map thread c.at) (threads_of (c.atoms ++ q ∷ [])) t h) [
        | inl located ↦ inl (Contains-append_left (map thread c.at) (threads_of c.atoms) t located)
        | inr named ↦ elim (push.0 named) [ inl old ↦ inl (Contains-append_right (map thread c.at) (threads_of c.atoms) t old) | inr new ↦ inr new ]
      ],
      λ h. elim h [
        | inl old ↦ elim (Contains-append_cases (map thread c.at) (threads_of c.atoms) t old) [
          | inl located ↦ Contains-append_left (map thread c.at) (threads_of (c.atoms ++ q ∷ [])) t located
          | inr named ↦ Contains-append_right (map thread c.at) (threads_of (c.atoms ++ q ∷ [])) t (push.1 (inl named))
        ]
        | inr new ↦ Contains-append_right (map thread c.at) (threads_of (c.atoms ++ q ∷ [])) t (push.1 (inr new))
      ],
    )

-- ---- with one more member, as it is made

-- so many threads are met as are different
met_many : (met : List ℕ) (c : Configuration) → Once met → ((t : ℕ) → Contains met t ↔ Contains (threads_at c) t) → length (different (threads_at c)) ≡ length met
met_many met c once same = sym (as_many_different met (threads_at c) same) ∙ ap length once

place_met : (met : List ℕ) (c : Configuration) (p : ℕ × ℕ) → IsMet met c → (t : ℕ) → Contains (met_with met p.0) t ↔ Contains (threads_at (placed c p)) t
place_met met c p is t =
    let one = met_has met p.0 t in
    let two = placed_threads c p t in (
      λ h. two.1 (elim (one.0 h) [ inl old ↦ inl ((is.occurring t).0 old) | inr same ↦ inr same ]),
      λ h. one.1 (elim (two.0 h) [ inl old ↦ inl ((is.occurring t).1 old) | inr same ↦ inr same ]),
    )

atom_met : (met : List ℕ) (c : Configuration) (q : Atom) → IsMet met c → (t : ℕ) → Contains (met_with_all met q.threads) t ↔ Contains (threads_at (held c q)) t
atom_met met c q is t =
    let one = met_all_has q.threads met t in
    let two = held_threads c q t in (
      λ h. two.1 (elim (one.0 h) [ inl old ↦ inl ((is.occurring t).0 old) | inr new ↦ inr new ]),
      λ h. one.1 (elim (two.0 h) [ inl old ↦ inl ((is.occurring t).1 old) | inr new ↦ inr new ]),
    )

-- a place that comes last, or not
place_order : (met : List ℕ) (c : Configuration) (p : ℕ × ℕ) (t : Bool) → IsMet met c → is_thread_after (slice_get c.at (length c.at - 1)) p.0 ≡ t → is_ordered (placed c p) ≡ t
place_order met c p t is after =
    let order = and_parts (places_ascend c.at) (ascend c.atoms) (in_form_is c c is.form).0.ordered in
    rw (places_ascend-push c.at p, order.0, order.1, after) (ends t)
  where
    ends : (t : Bool) → (t && true) ≡ t
    ends true = refl
    ends false = refl

atom_order : (met : List ℕ) (c : Configuration) (q : Atom) (t : Bool) → IsMet met c → is_atom_after (slice_get c.atoms (length c.atoms - 1)) q ≡ t → is_ordered (held c q) ≡ t
atom_order met c q t is after =
    let order = and_parts (places_ascend c.at) (ascend c.atoms) (in_form_is c c is.form).0.ordered in
    rw (ascend-push c.atoms q, order.0, order.1, after) refl

pub place_refused : (met : List ℕ) (c : Configuration) (p : ℕ × ℕ) → IsMet met c → is_thread_after (slice_get c.at (length c.at - 1)) p.0 ≡ false → in_form (placed c p) ≡ Err name.Order
place_refused met c p is after = cond-false _ _ _ (place_order met c p false is after)

pub atom_refused : (met : List ℕ) (c : Configuration) (q : Atom) → IsMet met c → is_atom_after (slice_get c.atoms (length c.atoms - 1)) q ≡ false → in_form (held c q) ≡ Err name.Order
atom_refused met c q is after = cond-false _ _ _ (atom_order met c q false is after)

not_small : (c : Configuration) → is_ordered c ≡ true → (is_small c ≡ true → ⊥) → in_form c ≡ Err name.Limit
not_small c up large = cond-true _ _ _ up ∙ cond-false _ _ _ (false_from_ne_true (is_small c) large)

pub place_too_many : (met : List ℕ) (c : Configuration) (p : ℕ × ℕ) → IsMet met c → is_thread_after (slice_get c.at (length c.at - 1)) p.0 ≡ true → MOST_THREADS < length (met_with met p.0) → in_form (placed c p) ≡ Err name.Limit
place_too_many met c p is after many =
    let count : length (different (threads_at (placed c p))) ≡ length (met_with met p.0) = met_many (met_with met p.0) (placed c p) (met_once met p.0 is.once) (place_met met c p is) in
    not_small (placed c p) (place_order met c p true is after) (λ small.
    let le : length (different (threads_at (placed c p))) ≤ MOST_THREADS = leb-true _ _ (and_parts _ _ small).0 in omega (arith, le, count, many))

pub atom_too_many : (met : List ℕ) (c : Configuration) (q : Atom) → IsMet met c → is_atom_after (slice_get c.atoms (length c.atoms - 1)) q ≡ true → (MOST_THREADS < length (met_with_all met q.threads)) ⊎ (MOST_ATOMS ≤ length c.atoms) → in_form (held c q) ≡ Err name.Limit
atom_too_many met c q is after many =
    let count : length (different (threads_at (held c q))) ≡ length (met_with_all met q.threads) = met_many (met_with_all met q.threads) (held c q) (met_all_once q.threads met is.once) (atom_met met c q is) in
    let long : length (c.atoms ++ q ∷ []) ≡ length c.atoms + 1 = length_push c.atoms q in
    not_small (held c q) (atom_order met c q true is after) (λ small.
    let parts = and_parts (nat_le (length (different (threads_at (held c q)))) MOST_THREADS) (nat_le (length (c.atoms ++ q ∷ [])) MOST_ATOMS) small in
    let threads : length (different (threads_at (held c q))) ≤ MOST_THREADS = leb-true _ _ parts.0 in
    let atoms : length (c.atoms ++ q ∷ []) ≤ MOST_ATOMS = leb-true _ _ parts.1 in
    elim many [ inl high ↦ omega (arith, threads, count, high) | inr full ↦ omega (arith, atoms, long, full) ])

pub place_fits : (met : List ℕ) (c : Configuration) (p : ℕ × ℕ) → IsMet met c → is_thread_after (slice_get c.at (length c.at - 1)) p.0 ≡ true → length (met_with met p.0) ≤ MOST_THREADS → IsMet (met_with met p.0) (placed c p)
place_fits met c p is after few =
    let count : length (different (threads_at (placed c p))) ≡ length (met_with met p.0) = met_many (met_with met p.0) (placed c p) (met_once met p.0 is.once) (place_met met c p is) in
    let le : length (different (threads_at (placed c p))) ≤ MOST_THREADS = omega (arith, count, few) in
    let small = and_parts (nat_le (length (different (threads_at c))) MOST_THREADS) (nat_le (length c.atoms) MOST_ATOMS) (in_form_is c c is.form).0.small in
    record {
      form = in_form_from (placed c p) (record { ordered = place_order met c p true is after; small = and_from _ _ (le-leb _ _ le) small.1 });
      once = met_once met p.0 is.once;
      occurring = place_met met c p is;
    }

pub atom_fits : (met : List ℕ) (c : Configuration) (q : Atom) → IsMet met c → is_atom_after (slice_get c.atoms (length c.atoms - 1)) q ≡ true → length (met_with_all met q.threads) ≤ MOST_THREADS → length c.atoms < MOST_ATOMS → IsMet (met_with_all met q.threads) (held c q)
atom_fits met c q is after few room =
    let count : length (different (threads_at (held c q))) ≡ length (met_with_all met q.threads) = met_many (met_with_all met q.threads) (held c q) (met_all_once q.threads met is.once) (atom_met met c q is) in
    let le : length (different (threads_at (held c q))) ≤ MOST_THREADS = omega (arith, count, few) in
    let long : length (c.atoms ++ q ∷ []) ≡ length c.atoms + 1 = length_push c.atoms q in
    let fit : length (c.atoms ++ q ∷ []) ≤ MOST_ATOMS = omega (arith, long, room) in
    record {
      form = in_form_from (held c q) (record { ordered = atom_order met c q true is after; small = and_from _ _ (le-leb _ _ le) (le-leb _ _ fit) });
      once = met_all_once q.threads met is.once;
      occurring = atom_met met c q is;
    }

-- the same, of the lists that code has: a slice of those before, the threads met, and the list after
place_test : (c : Configuration) (p : ℕ × ℕ) (slice : List (ℕ × ℕ)) (t : Bool) → slice ≡ c.at → t ≡ is_thread_after (slice_get slice (length slice - 1)) p.0 → is_thread_after (slice_get c.at (length c.at - 1)) p.0 ≡ t
place_test c p slice t same test = sym (subst (λ (ps : List (ℕ × ℕ)). t ≡ is_thread_after (slice_get ps (length ps - 1)) p.0) same test)

atom_test : (c : Configuration) (q : Atom) (slice : List Atom) (t : Bool) → slice ≡ c.atoms → t ≡ is_atom_after (slice_get slice (length slice - 1)) q → is_atom_after (slice_get c.atoms (length c.atoms - 1)) q ≡ t
atom_test c q slice t same test = sym (subst (λ (qs : List Atom). t ≡ is_atom_after (slice_get qs (length qs - 1)) q) same test)

pub place_refused_by : (met : List ℕ) (c : Configuration) (p : ℕ × ℕ) (slice : List (ℕ × ℕ)) → IsMet met c → slice ≡ c.at → false ≡ is_thread_after (slice_get slice (length slice - 1)) p.0 → in_form (placed c p) ≡ Err name.Order
place_refused_by met c p slice is same test = place_refused met c p is (place_test c p slice false same test)

pub atom_refused_by : (met : List ℕ) (c : Configuration) (q : Atom) (slice : List Atom) → IsMet met c → slice ≡ c.atoms → false ≡ is_atom_after (slice_get slice (length slice - 1)) q → in_form (held c q) ≡ Err name.Order
atom_refused_by met c q slice is same test = atom_refused met c q is (atom_test c q slice false same test)

pub place_too_many_by : (met new : List ℕ) (c : Configuration) (p : ℕ × ℕ) (slice : List (ℕ × ℕ)) → IsMet met c → slice ≡ c.at → true ≡ is_thread_after (slice_get slice (length slice - 1)) p.0 → new ≡ met_with met p.0 → MOST_THREADS < length new → in_form (placed c p) ≡ Err name.Limit
place_too_many_by met new c p slice is same test e many = place_too_many met c p is (place_test c p slice true same test) (subst (λ (ts : List ℕ). MOST_THREADS < length ts) e many)

all_met : (met new threads : List ℕ) (q : Atom) → new ≡ met_with_all met threads → threads ≡ q.threads → new ≡ met_with_all met q.threads
all_met met new threads q e same = e ∙ ap (met_with_all met) same

pub atom_too_many_by : (met new threads : List ℕ) (c : Configuration) (q : Atom) (slice : List Atom) → IsMet met c → slice ≡ c.atoms → true ≡ is_atom_after (slice_get slice (length slice - 1)) q → new ≡ met_with_all met threads → threads ≡ q.threads → (MOST_THREADS < length new) ⊎ (MOST_ATOMS ≤ length c.atoms) → in_form (held c q) ≡ Err name.Limit
atom_too_many_by met new threads c q slice is same test e named many =
    atom_too_many met c q is (atom_test c q slice true same test) (subst (λ (ts : List ℕ). (MOST_THREADS < length ts) ⊎ (MOST_ATOMS ≤ length c.atoms)) (all_met met new threads q e named) many)

pub place_fits_by : (met new : List ℕ) (c : Configuration) (p : ℕ × ℕ) (slice at : List (ℕ × ℕ)) → IsMet met c → slice ≡ c.at → true ≡ is_thread_after (slice_get slice (length slice - 1)) p.0 → new ≡ met_with met p.0 → length new ≤ MOST_THREADS → at ≡ c.at ++ p ∷ [] → IsMet new (record { at = at; atoms = c.atoms })
place_fits_by met new c p slice at is same test e few long =
    subst (λ (ps : List (ℕ × ℕ)). IsMet new (record { at = ps; atoms = c.atoms })) (sym long)
    (subst (λ (ts : List ℕ). IsMet ts (placed c p)) (sym e) (place_fits met c p is (place_test c p slice true same test) (subst (λ (ts : List ℕ). length ts ≤ MOST_THREADS) e few)))

pub atom_fits_by : (met new threads : List ℕ) (c : Configuration) (q : Atom) (slice atoms : List Atom) → IsMet met c → slice ≡ c.atoms → true ≡ is_atom_after (slice_get slice (length slice - 1)) q → new ≡ met_with_all met threads → threads ≡ q.threads → length new ≤ MOST_THREADS → length c.atoms < MOST_ATOMS → atoms ≡ c.atoms ++ q ∷ [] → IsMet new (record { at = c.at; atoms = atoms })
atom_fits_by met new threads c q slice atoms is same test e named few room long =
    let all : new ≡ met_with_all met q.threads = all_met met new threads q e named in
    subst (λ (qs : List Atom). IsMet new (record { at = c.at; atoms = qs })) (sym long)
    (subst (λ (ts : List ℕ). IsMet ts (held c q)) (sym all) (atom_fits met c q is (atom_test c q slice true same test) (subst (λ (ts : List ℕ). length ts ≤ MOST_THREADS) all few) room))

-- what is in form is its own answer, however its lists are called
pub place_is_formed : (met : List ℕ) (c : Configuration) (p : ℕ × ℕ) (at : List (ℕ × ℕ)) → IsMet met (record { at = at; atoms = c.atoms }) → at ≡ c.at ++ p ∷ [] → in_form (placed c p) ≡ Ok (record { at = at; atoms = c.atoms })
place_is_formed met c p at is long = subst (λ (ps : List (ℕ × ℕ)). in_form (record { at = ps; atoms = c.atoms }) ≡ Ok (record { at = at; atoms = c.atoms })) long is.form

pub atom_is_formed : (met : List ℕ) (c : Configuration) (q : Atom) (atoms : List Atom) → IsMet met (record { at = c.at; atoms = atoms }) → atoms ≡ c.atoms ++ q ∷ [] → in_form (held c q) ≡ Ok (record { at = c.at; atoms = atoms })
atom_is_formed met c q atoms is long = subst (λ (qs : List Atom). in_form (record { at = c.at; atoms = qs }) ≡ Ok (record { at = c.at; atoms = atoms })) long is.form

pub none_met : IsMet [] (record { at = []; atoms = [] })
none_met = record { form = refl; once = refl; occurring = λ t. ((λ h. h), (λ h. h)) }

-- ---- the first members are in form too

pub placed_front : (c d : Configuration) (ps : List (ℕ × ℕ)) → IsFormed d → d.at ≡ c.at ++ ps → c.atoms ≡ d.atoms → IsFormed c
placed_front c d ps is at atoms =
    let order = and_parts (places_ascend d.at) (ascend d.atoms) is.ordered in
    let small = and_parts (nat_le (length (different (threads_at d))) MOST_THREADS) (nat_le (length d.atoms) MOST_ATOMS) is.small in
    let most : length (different (threads_at d)) ≤ MOST_THREADS = leb-true _ _ small.0 in
    let fewer : length (different (threads_at c)) ≤ length (different (threads_at d)) = fewer_different (threads_at c) (threads_at d) within in
    let le : length (different (threads_at c)) ≤ MOST_THREADS = omega (arith, most, fewer) in
    record {
      ordered = and_from _ _ (places_front c.at ps (subst (λ (rs : List (ℕ × ℕ)). places_ascend rs ≡ true) at order.0)) (subst (λ (qs : List Atom). ascend qs ≡ true) (sym atoms) order.1);
      small = and_from _ _ (le-leb _ _ le) (subst (λ (qs : List Atom). nat_le (length qs) MOST_ATOMS ≡ true) (sym atoms) small.1);
    }
  where
    within : (t : ℕ) → Contains (threads_at c) t → Contains (threads_at d) t
    within t h = rw (at, map-append thread c.at ps) (elim (Contains-append_cases (map thread c.at) (threads_of c.atoms) t h) [
      | inl located ↦ Contains-append_left (map thread c.at ++ map thread ps) (threads_of d.atoms) t (Contains-append_left (map thread c.at) (map thread ps) t located)
      | inr named ↦ Contains-append_right (map thread c.at ++ map thread ps) (threads_of d.atoms) t (subst (λ (qs : List Atom). Contains (threads_of qs) t) atoms named)
    ])

pub held_front : (c d : Configuration) (qs : List Atom) → IsFormed d → c.at ≡ d.at → d.atoms ≡ c.atoms ++ qs → IsFormed c
held_front c d qs is at atoms =
    let order = and_parts (places_ascend d.at) (ascend d.atoms) is.ordered in
    let small = and_parts (nat_le (length (different (threads_at d))) MOST_THREADS) (nat_le (length d.atoms) MOST_ATOMS) is.small in
    let most : length (different (threads_at d)) ≤ MOST_THREADS = leb-true _ _ small.0 in
    let fewer : length (different (threads_at c)) ≤ length (different (threads_at d)) = fewer_different (threads_at c) (threads_at d) within in
    let le : length (different (threads_at c)) ≤ MOST_THREADS = omega (arith, most, fewer) in
    let some : length d.atoms ≤ MOST_ATOMS = leb-true _ _ small.1 in
    let long : length d.atoms ≡ length c.atoms + length qs = ap length atoms ∙ length-append c.atoms qs in
    let few : length c.atoms ≤ MOST_ATOMS = omega (arith, some, long) in
    record {
      ordered = and_from _ _ (subst (λ (ps : List (ℕ × ℕ)). places_ascend ps ≡ true) (sym at) order.0) (ascend_front c.atoms qs (subst (λ (rs : List Atom). ascend rs ≡ true) atoms order.1));
      small = and_from _ _ (le-leb _ _ le) (le-leb _ _ few);
    }
  where
    within : (t : ℕ) → Contains (threads_at c) t → Contains (threads_at d) t
    within t h = rw (atoms, flat_map-append (λ (r : Atom). r.threads) c.atoms qs) (elim (Contains-append_cases (map thread c.at) (threads_of c.atoms) t h) [
      | inl located ↦ Contains-append_left (map thread d.at) (threads_of c.atoms ++ threads_of qs) t (subst (λ (ps : List (ℕ × ℕ)). Contains (map thread ps) t) at located)
      | inr named ↦ Contains-append_right (map thread d.at) (threads_of c.atoms ++ threads_of qs) t (Contains-append_left (threads_of c.atoms) (threads_of qs) t named)
    ])

-- ---- the law

pub tests_say_form : (c : Configuration) → IsTrue (is_ordered c && is_small c) ↔ IsConfig c
tests_say_form c = (
  λ h. (let p = and_parts (is_ordered c) (is_small c) h in config_from c (record { ordered = p.0; small = p.1 })),
  λ is. (let f = config_to c is in and_from (is_ordered c) (is_small c) f.ordered f.small),
)
