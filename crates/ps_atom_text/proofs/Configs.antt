-- The laws of configurations as lines.
use Rattle.std.proofs.Common.{◌≡◌, ℕ, Bool, true, List, [], ◌∷◌, ◌++◌, map, Result, Ok, refl, sym, ap, subst, ◌∙◌, arith, append_assoc}
use Rattle.std.specs.Prelude.{IfOk, codes, decimal}
use Rattle.std.specs.List.{AllByRecursion}
use Rattle.std.proofs.lemmas.List.{append-nil}
use Rattle.ps_atom.specs.declared.atom.Atom.{Atom}
use Rattle.ps_atom_text.specs.declared.limits.TheConstants.{MOST_THREAD}
use Rattle.ps_atom_text.specs.Forms.{in_form}
use Rattle.ps_atom_text.specs.Growing.{grow_at, goes_to}
use Rattle.ps_atom_text.specs.Reading.{atom_in_field, config_at, configuration_at, empty_configuration, place_in_field, with_atom, with_place}
use Rattle.ps_atom_text.specs.Spelling.{atom_text, config_fields, config_line, place_text, AtomHasSpelling, ConfigHasSpelling, PlaceHasSpelling}
use Rattle.ps_atom_text.proofs.Atoms.{atom_is_leaf, place_is_leaf}
use Rattle.ps_atom_text.proofs.Fields.{fields_clean, fields_last, fields_then, found_as, if_ok, if_then, last_clean, number_goes_on, then_is}
use Rattle.ps_atom_text.proofs.Growths.{GrewBy, IsGrowth, Steps, grow_again, grow_clean, grow_found}
use Rattle.ps_atom_text.proofs.InForm.{IsFormed, config_from, config_to, held, held_front, in_form_from, in_form_is, placed, placed_front}
use Rattle.ps_config.specs.Configurations.{Configuration}
use Rattle.ps_lines.specs.declared.form_name.FormName.{FormName}
use Rattle.ps_lines.specs.Reading.{Position}
use Rattle.ps_lines.specs.Tokens.{LinePart, Field, Newline, parts_of_line}
use Rattle.ps_lines.proofs.Bytes.{IsClean, IsClean-append, IsPlain, plain_word}
use Rattle.ps_lines.proofs.Exact.{Always, Exact, Finds, Gets, IsLeaf, end_exact, ended-append, found_bind, found_end, gets_bind, gets_end, line_exact, word_exact}
use Rattle.ps_lines.proofs.Forms.{Stops, member_tokens}

low_atom : IsLeaf (atom_in_field MOST_THREAD) atom_text (AtomHasSpelling MOST_THREAD)
low_atom = atom_is_leaf MOST_THREAD (omega arith)

abbrev configuration : List (ℕ × ℕ) → List Atom → Configuration
configuration ps qs = record { at = ps; atoms = qs }

-- ---- one more thread

pub record Places (c : Configuration) (p : ℕ × ℕ) (d : Configuration) : Type 0 where
  pub is : d ≡ placed c p
  pub fits : PlaceHasSpelling p
  pub formed : IsFormed d

placed_found : (c : Configuration) (f : List ℕ) → IfOk (with_place c f) (λ d. (p : ℕ × ℕ) × (f ≡ place_text p) × Places c p d)
unfolding with_place
placed_found c f =
    if_then (place_in_field f) (λ p. in_form (placed c p)) (λ p. (f ≡ place_text p) × PlaceHasSpelling p) (λ d. (p : ℕ × ℕ) × (f ≡ place_text p) × Places c p d) (place_is_leaf.found f) (λ p h.
    if_ok (in_form (placed c p)) (λ d. (p : ℕ × ℕ) × (f ≡ place_text p) × Places c p d) (λ d e.
    let is = in_form_is (placed c p) d e in
    (p, h.0, record { is = sym is.1; fits = h.1; formed = subst IsFormed is.1 is.0 })))

placed_again : (c : Configuration) (p : ℕ × ℕ) (d : Configuration) → Places c p d → with_place c (place_text p) ≡ Ok d
unfolding with_place
placed_again c p d h =
    then_is (place_in_field (place_text p)) (λ q. in_form (placed c q)) p d (place_is_leaf.again p h.fits)
    (in_form_from (placed c p) (subst IsFormed h.is h.formed) ∙ ap (λ (e : Configuration). Ok e) (sym h.is))

places : IsGrowth (goes_to (codes "has")) with_place place_text Places
places = record {
  found = placed_found;
  again = placed_again;
  goes_on = λ c p d h. number_goes_on 104 (97 ∷ 115 ∷ []) p.0 (58 ∷ decimal p.1) (omega arith) (omega (arith, h.fits.thread));
  clean = λ c p d h. place_is_leaf.clean p h.fits;
}

-- ---- one more atom

pub record Holds (c : Configuration) (q : Atom) (d : Configuration) : Type 0 where
  pub is : d ≡ held c q
  pub fits : AtomHasSpelling MOST_THREAD q
  pub formed : IsFormed d

held_found : (c : Configuration) (f : List ℕ) → IfOk (with_atom c f) (λ d. (q : Atom) × (f ≡ atom_text q) × Holds c q d)
unfolding with_atom
held_found c f =
    if_then (atom_in_field MOST_THREAD f) (λ q. in_form (held c q)) (λ q. (f ≡ atom_text q) × AtomHasSpelling MOST_THREAD q) (λ d. (q : Atom) × (f ≡ atom_text q) × Holds c q d) (low_atom.found f) (λ q h.
    if_ok (in_form (held c q)) (λ d. (q : Atom) × (f ≡ atom_text q) × Holds c q d) (λ d e.
    let is = in_form_is (held c q) d e in
    (q, h.0, record { is = sym is.1; fits = h.1; formed = subst IsFormed is.1 is.0 })))

held_again : (c : Configuration) (q : Atom) (d : Configuration) → Holds c q d → with_atom c (atom_text q) ≡ Ok d
unfolding with_atom
held_again c q d h =
    then_is (atom_in_field MOST_THREAD (atom_text q)) (λ r. in_form (held c r)) q d (low_atom.again q h.fits)
    (in_form_from (held c q) (subst IsFormed h.is h.formed) ∙ ap (λ (e : Configuration). Ok e) (sym h.is))

atoms : IsGrowth (λ _. true) with_atom atom_text Holds
atoms = record {
  found = held_found;
  again = held_again;
  goes_on = λ c q d h. refl;
  clean = λ c q d h. low_atom.clean q h.fits;
}

-- ---- all threads, and all atoms

abbrev PlacesFit : List (ℕ × ℕ) → Type 0
PlacesFit ps = AllByRecursion PlaceHasSpelling ps

abbrev AtomsFit : List Atom → Type 0
AtomsFit qs = AllByRecursion (AtomHasSpelling MOST_THREAD) qs

placed_steps : (ps : List (ℕ × ℕ)) (c d : Configuration) → Steps Places c ps d → IsFormed c → (d ≡ configuration (c.at ++ ps) c.atoms) × PlacesFit ps × IsFormed d
placed_steps [] c d steps formed = (sym steps ∙ ap (λ (rs : List (ℕ × ℕ)). configuration rs c.atoms) (sym (append-nil c.at)), tt, subst IsFormed steps formed)
placed_steps (p ∷ ps) c d steps formed =
    let u = steps.0 in
    let rest = placed_steps ps u d steps.2 steps.1.formed in (
      rest.0 ∙ ap (λ (v : Configuration). configuration (v.at ++ ps) v.atoms) steps.1.is ∙ ap (λ (rs : List (ℕ × ℕ)). configuration rs c.atoms) (append_assoc c.at (p ∷ []) ps),
      (steps.1.fits, rest.1),
      rest.2,
    )

steps_placed : (ps : List (ℕ × ℕ)) (c d : Configuration) → d ≡ configuration (c.at ++ ps) c.atoms → IsFormed d → PlacesFit ps → Steps Places c ps d
steps_placed [] c d e formed fit = ap (λ (rs : List (ℕ × ℕ)). configuration rs c.atoms) (sym (append-nil c.at)) ∙ sym e
steps_placed (p ∷ ps) c d e formed fit =
    let u : Configuration = placed c p in
    let all : d ≡ configuration (u.at ++ ps) u.atoms = e ∙ ap (λ (rs : List (ℕ × ℕ)). configuration rs c.atoms) (sym (append_assoc c.at (p ∷ []) ps)) in
    let front : IsFormed u = placed_front u d ps formed (ap (λ (v : Configuration). v.at) all) (sym (ap (λ (v : Configuration). v.atoms) all)) in
    (u, record { is = refl; fits = fit.0; formed = front }, steps_placed ps u d all formed fit.1)

held_steps : (qs : List Atom) (c d : Configuration) → Steps Holds c qs d → IsFormed c → (d ≡ configuration c.at (c.atoms ++ qs)) × AtomsFit qs × IsFormed d
held_steps [] c d steps formed = (sym steps ∙ ap (λ (rs : List Atom). configuration c.at rs) (sym (append-nil c.atoms)), tt, subst IsFormed steps formed)
held_steps (q ∷ qs) c d steps formed =
    let u = steps.0 in
    let rest = held_steps qs u d steps.2 steps.1.formed in (
      rest.0 ∙ ap (λ (v : Configuration). configuration v.at (v.atoms ++ qs)) steps.1.is ∙ ap (λ (rs : List Atom). configuration c.at rs) (append_assoc c.atoms (q ∷ []) qs),
      (steps.1.fits, rest.1),
      rest.2,
    )

steps_held : (qs : List Atom) (c d : Configuration) → d ≡ configuration c.at (c.atoms ++ qs) → IsFormed d → AtomsFit qs → Steps Holds c qs d
steps_held [] c d e formed fit = ap (λ (rs : List Atom). configuration c.at rs) (sym (append-nil c.atoms)) ∙ sym e
steps_held (q ∷ qs) c d e formed fit =
    let u : Configuration = held c q in
    let all : d ≡ configuration u.at (u.atoms ++ qs) = e ∙ ap (λ (rs : List Atom). configuration c.at rs) (sym (append_assoc c.atoms (q ∷ []) qs)) in
    let front : IsFormed u = held_front u d qs formed (sym (ap (λ (v : Configuration). v.at) all)) (ap (λ (v : Configuration). v.atoms) all) in
    (u, record { is = refl; fits = fit.0; formed = front }, steps_held qs u d all formed fit.1)

empty_formed : IsFormed empty_configuration
empty_formed = record { ordered = refl; small = refl }

-- ---- the fields of a configuration

at_plain : IsPlain (codes "at")
at_plain = plain_word (codes "at") refl

has_plain : IsPlain (codes "has")
has_plain = plain_word (codes "has") refl

config_plain : IsPlain (codes "config")
config_plain = plain_word (codes "config") refl

abbrev config_parts : List (ℕ × ℕ) → List Atom → List LinePart → List LinePart
config_parts ps qs rest = Field (codes "at") ∷ (member_tokens place_text ps ++ (Field (codes "has") ∷ (member_tokens atom_text qs ++ rest)))

parts_are : (c : Configuration) (rest : List LinePart) → map Field (config_fields c) ++ rest ≡ config_parts c.at c.atoms rest
parts_are c rest =
    ap (λ (ts : List LinePart). Field (codes "at") ∷ ts)
    (fields_then place_text c.at (codes "has" ∷ map atom_text c.atoms) rest
    ∙ ap (λ (ts : List LinePart). member_tokens place_text c.at ++ (Field (codes "has") ∷ ts)) (fields_last atom_text c.atoms rest))

configuration_found : (at : Position) → Finds (configuration_at at) (λ y. (at.tokens ≡ map Field (config_fields y.0) ++ y.1.tokens) × ConfigHasSpelling y.0)
unfolding configuration_at
configuration_found at =
    found_bind _ _ _ _ ((word_exact (codes "at") at_plain).found at) (λ a p.
    found_bind _ _ _ _ (grow_found (goes_to (codes "has")) with_place place_text Places places a.1.tokens empty_configuration a.1.line a.1.field) (λ l g.
    found_bind _ _ _ _ ((word_exact (codes "has") has_plain).found l.1) (λ h q.
    found_as (grow_at (λ _. true) with_atom l.0 h.1) (GrewBy atom_text Holds l.0 h.1.tokens) _ (grow_found (λ _. true) with_atom atom_text Holds atoms h.1.tokens l.0 h.1.line h.1.field) (λ y k.
    let first = placed_steps g.0 empty_configuration l.0 g.2 empty_formed in
    let second = held_steps k.0 l.0 y.0 k.2 first.2 in
    let is : y.0 ≡ configuration g.0 k.0 = second.0 ∙ ap (λ (c : Configuration). configuration c.at (c.atoms ++ k.0)) first.0 in
    let tokens : at.tokens ≡ config_parts g.0 k.0 y.1.tokens =
    p.0 ∙ ap (λ (ts : List LinePart). Field (codes "at") ∷ ts) (g.1 ∙ ap (λ (ts : List LinePart). member_tokens place_text g.0 ++ ts) (q.0 ∙ ap (λ (ts : List LinePart). Field (codes "has") ∷ ts) k.1)) in (
      tokens ∙ sym (parts_are (configuration g.0 k.0) y.1.tokens) ∙ ap (λ (c : Configuration). map Field (config_fields c) ++ y.1.tokens) (sym is),
      subst ConfigHasSpelling (sym is) (record { form = config_from (configuration g.0 k.0) (subst IsFormed is second.2); at = first.1; atoms = second.1 }),
    )))))

configuration_again : (at : Position) (c : Configuration) (rest : List LinePart) → ConfigHasSpelling c → at.tokens ≡ map Field (config_fields c) ++ rest → Stops (λ _. true) rest → Gets (configuration_at at) (λ y. (y.0 ≡ c) × (y.1.tokens ≡ rest))
unfolding configuration_at
configuration_again at c rest fit e stops =
    let formed : IsFormed c = config_to c fit.form in
    let located : Configuration = configuration c.at [] in
    let front : IsFormed located = held_front located c c.atoms formed refl refl in
    let first : List LinePart = member_tokens place_text c.at ++ (Field (codes "has") ∷ (member_tokens atom_text c.atoms ++ rest)) in
    gets_bind _ _ _ _ ((word_exact (codes "at") at_plain).again at tt first tt (e ∙ parts_are c rest) tt) (λ a p.
    gets_bind _ _ _ _ (grown_at (goes_to (codes "has")) with_place place_text Places places c.at empty_configuration located a.1 (Field (codes "has") ∷ (member_tokens atom_text c.atoms ++ rest)) p.1 (steps_placed c.at empty_configuration located refl front fit.at) refl) (λ l q.
    gets_bind _ _ _ _ ((word_exact (codes "has") has_plain).again l.1 tt (member_tokens atom_text c.atoms ++ rest) tt q.1 tt) (λ h r.
    grown_at (λ _. true) with_atom atom_text Holds atoms c.atoms l.0 c h.1 rest r.1 (subst (λ (d : Configuration). Steps Holds d c.atoms c) (sym q.0) (steps_held c.atoms located c refl formed fit.atoms)) stops)))
  where
    grown_at : {S A : Type 0} (goes : List ℕ → Bool) (grown : S → List ℕ → Result S FormName) (text : A → List ℕ) (step : S → A → S → Type 0) → IsGrowth goes grown text step → (xs : List A) (s t : S) (mid : Position) (rest : List LinePart) →
        mid.tokens ≡ member_tokens text xs ++ rest → Steps step s xs t → Stops goes rest → Gets (grow_at goes grown s mid) (λ y. (y.0 ≡ t) × (y.1.tokens ≡ rest))
    grown_at {S = S} goes grown text step is xs s t mid rest e steps stops =
        subst (λ (ts : List LinePart). Gets (grow_at goes grown s (record { line = mid.line; field = mid.field; tokens = ts })) (λ (y : S × Position). (y.0 ≡ t) × (y.1.tokens ≡ rest))) (sym e) (grow_again goes grown text step is xs s t mid.line mid.field rest steps stops)

configuration_clean : (c : Configuration) → ConfigHasSpelling c → IsClean (map Field (config_fields c))
configuration_clean c fit =
    let formed : IsFormed c = config_to c fit.form in
    let located : Configuration = configuration c.at [] in
    let front : IsFormed located = held_front located c c.atoms formed refl refl in
    let places_clean : IsClean (member_tokens place_text c.at) = grow_clean (goes_to (codes "has")) with_place place_text Places places c.at empty_configuration located (steps_placed c.at empty_configuration located refl front fit.at) in
    let atoms_clean : IsClean (map Field (map atom_text c.atoms)) = last_clean atom_text c.atoms (grow_clean (λ _. true) with_atom atom_text Holds atoms c.atoms located c (steps_held c.atoms located c refl formed fit.atoms)) in
    (at_plain, fields_clean place_text c.at (codes "has" ∷ map atom_text c.atoms) places_clean (has_plain, atoms_clean))

-- what is read as the fields of a configuration is spelled so, and a configuration with a spelling is read from it
pub configuration_exact : Exact configuration_at (λ c. map Field (config_fields c)) ConfigHasSpelling (Stops (λ _. true))
configuration_exact = record { found = configuration_found; again = configuration_again; clean = configuration_clean }

-- ---- the line

abbrev pub config_tokens : Configuration → List LinePart
config_tokens c = parts_of_line (config_line c)

config_split : (c : Configuration) (rest : List LinePart) → config_tokens c ++ rest ≡ Field (codes "config") ∷ (map Field (config_fields c) ++ Newline ∷ rest)
config_split c rest = ap (λ (ts : List LinePart). Field (codes "config") ∷ ts) (append_assoc (map Field (config_fields c)) (Newline ∷ []) rest)

config_found : (at : Position) → Finds (config_at at) (λ y. (at.tokens ≡ config_tokens y.0 ++ y.1.tokens) × ConfigHasSpelling y.0)
unfolding config_at
config_found at =
    found_bind _ _ _ _ ((line_exact (codes "config") config_plain).found at) (λ w p.
    found_bind _ _ _ _ (configuration_exact.found w.1) (λ c q.
    found_bind _ _ _ _ (end_exact.found c.1) (λ e r.
    found_end _ _ (
      p.0 ∙ ap (λ (ts : List LinePart). Field (codes "config") ∷ ts) (q.0 ∙ ap (λ (ts : List LinePart). map Field (config_fields c.0) ++ ts) r.0) ∙ sym (config_split c.0 e.1.tokens),
      q.1,
    ))))

config_again : (at : Position) (c : Configuration) (rest : List LinePart) → ConfigHasSpelling c → at.tokens ≡ config_tokens c ++ rest → Unit {0} → Gets (config_at at) (λ y. (y.0 ≡ c) × (y.1.tokens ≡ rest))
unfolding config_at
config_again at c rest fit e h =
    gets_bind _ _ _ _ ((line_exact (codes "config") config_plain).again at tt (map Field (config_fields c) ++ Newline ∷ rest) tt (e ∙ config_split c rest) (ended-append (map Field (config_fields c)) rest)) (λ w p.
    gets_bind _ _ _ _ (configuration_exact.again w.1 c (Newline ∷ rest) fit p.1 tt) (λ d q.
    gets_bind _ _ _ _ (end_exact.again d.1 tt rest tt q.1 tt) (λ e' r.
    gets_end _ _ (q.0, r.1))))

pub config_exact : Exact config_at config_tokens ConfigHasSpelling Always
config_exact = record {
  found = config_found;
  again = config_again;
  clean = λ c fit. (config_plain, IsClean-append (map Field (config_fields c)) (Newline ∷ []) (configuration_exact.clean c fit) tt);
}
