-- From what was found to the answer.
use Rattle.std.proofs.Common.{◌≡◌, ◌<◌, ◌≤◌, ◌+◌, ◌==◌, ℕ, Bool, true, false, not, List, [], ◌∷◌, map, length, min, refl, sym, ap, ◌∙◌, subst, inl, inr, ◌⊎◌, Contains, All, arith, nat_lt, eqb-true}
use Rattle.std.specs.List.{filter, list_any}
use Rattle.std.specs.List.Sorted.{IsStrictlySortedBy}
use Rattle.std.proofs.lemmas.Bool.{both_ways, false≢true, or_cases, or_left, or_right}
use Rattle.std.proofs.lemmas.Bool.Decides.{nat_tests}
use Rattle.std.proofs.lemmas.List.Elements.{All-contains, All-map}
use Rattle.std.proofs.lemmas.List.{length-map}
use Rattle.ps_atom.specs.Atoms.{atom_cmp}
use Rattle.ps_atom.specs.declared.atom.Atom.{Atom}
use Rattle.ps_atom.specs.declared.predicate.Predicate.{Predicate}
use Rattle.ps_command.specs.declared.setting.Setting.{Setting}
use Rattle.ps_list.proofs.Mapped.{from_kept, kept, map_map, mapped}
use Rattle.ps_list.proofs.Members.{nothing, cons_cases, here, there}
use Rattle.ps_saturate.proofs.Ascents.{all_from, same_or_shorter, sorted_kept, sorted_nil}
use Rattle.ps_saturate.proofs.Finding.{IsBelow, IsLeastOf, IsSetOf, atom_total, sorted_from_ascend}
use Rattle.ps_saturate.specs.Answered.{IsAnswerTo, IsAskedTriple, set_cmp, set_of}
use Rattle.ps_saturate.specs.Asked.{Asks, IsAskedAt, IsAskedAtom, asked_post}
use Rattle.ps_saturate.specs.Refuted.{IsLeastRefuted, IsRefutedSet, RefutesSet}
use Rattle.ps_saturate.specs.inner.Trials.{AreChoices, AreFound, GivesNothing, IsBlocked, IsReady, IsRefutedIn, IsTrialOf, IsUsable, ShowsSet, atoms_of, is_new, new_entries}
use Rattle.ps_saturate.specs.declared.choice.Choice.{Choice}
use Rattle.ps_saturate.specs.declared.question.Question.{Question}
use Rattle.ps_saturate.specs.declared.trial.Trial.{Trial}
use Rattle.ps_triple.specs.Tests.{IsThere}
use Rattle.ps_triple.specs.declared.entry.Entry.TheVariants.{Triple as OfTriple}
use Rattle.ps_triple.specs.declared.triple.Triple.{Triple}

-- ---- sets that weren't asked for before

any_from : {X : Type 0} (p : X → Bool) (xs : List X) → list_any p xs ≡ true → (x : X) × Contains xs x × (p x ≡ true)
any_from p [] h = absurd (false≢true h)
any_from p (x ∷ xs) h = elim (or_cases (p x) (list_any p xs) h) [
  | inl is ↦ (x, here x xs, is)
  | inr later ↦ (let w = any_from p xs later in (w.0, there x xs w.0 w.1, w.2))
]

any_to : {X : Type 0} (p : X → Bool) (xs : List X) (x : X) → Contains xs x → p x ≡ true → list_any p xs ≡ true
any_to p [] x h k = absurd (nothing x h)
any_to {X} p (y ∷ xs) x h k = elim (cons_cases y xs x h) [
  | inl is ↦ or_left (p y) (list_any p xs) (ap p is ∙ k)
  | inr later ↦ or_right (p y) (list_any p xs) (any_to p xs x later k)
]

pub not_asked_before : (predicates : List Predicate) (old : ℕ) (post : Atom) (set : List Atom) → is_new old set ≡ true → ¬ IsAskedAt predicates old post set
not_asked_before predicates old post set new asked = elim (or_cases (old == 0) (list_any (λ (q : Atom). not (nat_lt q.predicate old)) set) new) [
  | inl none ↦ (let e : old ≡ 0 = eqb-true old 0 none in let some : 0 < old = asked.some in absurd (omega arith))
  | inr later ↦ (
      let w = any_from (λ (q : Atom). not (nat_lt q.predicate old)) set later in
      let known : w.0.predicate < old = (All-contains (IsAskedAtom predicates old post) set w.0 asked.atoms w.1).known_is in
      at_least w.0.predicate old w.2 known)
]
  where
    at_least : (n m : ℕ) → not (nat_lt n m) ≡ true → n < m → ⊥
    at_least n m h k = grind (arith, nat_tests)

below_unless : (n m : ℕ) → (not (nat_lt n m) ≡ true → ⊥) → n < m
below_unless n m h = grind (arith, nat_tests)

some_unless : (n : ℕ) → ((n == 0) ≡ true → ⊥) → 0 < n
some_unless n h = grind (arith, nat_tests)

-- a set that isn't new was asked for before
pub asked_before : (predicates : List Predicate) (old known : ℕ) (post : Atom) (set : List Atom) → IsAskedAt predicates known post set → is_new old set ≡ false → IsAskedAt predicates old post set
asked_before predicates old known post set asked e = record {
  some = some_unless old (λ is. both_ways (is_new old set) e (or_left (old == 0) (list_any (λ (q : Atom). not (nat_lt q.predicate old)) set) is));
  ascends = asked.ascends;
  atoms = all_from (IsAskedAtom predicates old post) set (λ q k. (
      let a = All-contains (IsAskedAtom predicates known post) set q asked.atoms k in
      record {
        known_is = below_unless q.predicate old (λ is. both_ways (is_new old set) e (or_right (old == 0) (list_any (λ (q : Atom). not (nat_lt q.predicate old)) set) (any_to (λ (q : Atom). not (nat_lt q.predicate old)) set q k is)));
        not_false = a.not_false;
        slots = a.slots;
        once = a.once;
        tied = a.tied;
      }));
}

pub new_if_asked : (predicates : List Predicate) (question : Question) (width : ℕ) (set : List Atom) → Asks predicates question width set → is_new question.old set ≡ true
new_if_asked predicates question width set asks = by (is_new question.old set) refl
  where
    by : (b : Bool) → is_new question.old set ≡ b → is_new question.old set ≡ true
    by true e = e
    by false e = absurd (asks.new (asked_before predicates question.old question.now (asked_post predicates question) set asks.now e))

-- ---- what was found is all

-- the atoms of a refuted set that is asked for are choices
among_choices : (trial : Trial) (list : List Choice) → AreChoices trial.setting.now trial.predicates.now trial.question.now trial.post list → (set : List Atom)
    → IsAskedAt trial.predicates.now trial.question.now trial.post set → IsRefutedIn trial set → IsSetOf (atoms_of list) set
among_choices trial list are set asked refuted = record {
  ascends = sorted_from_ascend set asked.ascends;
  among = all_from (Contains (atoms_of list)) set (λ q k. are.every q (
    All-contains (IsAskedAtom trial.predicates.now trial.question.now trial.post) set q asked.atoms k,
    (All-contains (Rattle.ps_triple.specs.Tests.IsAtomOf trial.setting.now trial.predicates.now) refuted.0.pre q refuted.1.holds.names.1 (subst (λ (qs : List Atom). Contains qs q) (sym refuted.1.before) k)).0,
  ));
}

pub found_all : (trial : Trial) (list : List Choice) (most : ℕ) (found : List Triple) → AreChoices trial.setting.now trial.predicates.now trial.question.now trial.post list
    → most ≡ min (length list) trial.width → IsBelow trial (atoms_of list) (most + 1) found → AreFound trial found
found_all trial list most found are most_is below = record {
  least = all_from (λ t. ShowsSet trial t.pre t × IsLeastRefuted trial.setting.now trial.predicates.now trial.question.command trial.post t.pre
      × All (IsAskedAtom trial.predicates.now trial.question.now trial.post) t.pre × (length t.pre ≤ trial.width)) found (λ t k. (
      let h = All-contains (λ t. IsLeastOf trial (atoms_of list) t × (length t.pre < most + 1)) found t below.least k in (
        h.0.shows,
        record { refuted = (t, h.0.shows); least = h.0.least },
        all_from (IsAskedAtom trial.predicates.now trial.question.now trial.post) t.pre (λ q l. asked_choice q (All-contains (Contains (atoms_of list)) t.pre q h.0.set.among l)),
        (let less = h.1 in omega arith),
      )));
  inside = λ set asked small wanted refuted. (
      let is = among_choices trial list are set asked refuted in
      below.inside set is (few set is small (same_or_shorter atom_cmp atom_total (atoms_of list) set are.ascend is.ascends (λ q k. All-contains (Contains (atoms_of list)) set q is.among k))) wanted refuted);
  ordered = below.ordered;
}
  where
    asked_choice : (q : Atom) → Contains (atoms_of list) q → IsAskedAtom trial.predicates.now trial.question.now trial.post q
    asked_choice q h = (All-contains (IsUsable trial.setting.now trial.predicates.now trial.question.now trial.post) (atoms_of list) q are.usable h).0

    few : (set : List Atom) → IsSetOf (atoms_of list) set → length set ≤ trial.width → (set ≡ atoms_of list) ⊎ (length set < length (atoms_of list)) → length set < most + 1
    few set is small (inl same) = (let e : length set ≡ length (atoms_of list) = ap length same in let l : length (atoms_of list) ≡ length list = length-map list (λ (c : Choice). c.atom) in omega arith)
    few set is small (inr less) = (let l : length (atoms_of list) ≡ length list = length-map list (λ (c : Choice). c.atom) in omega arith)

-- ---- the answer

-- the answer of a trial, where its post is written as it is
answer_of : (trial : Trial) (post : Atom) → trial.post ≡ post → post ≡ asked_post trial.predicates.now trial.question → (found : List Triple) → 0 < trial.question.now → AreFound trial found
    → IsAnswerTo trial.setting.now trial.predicates.now trial.question trial.width (new_entries trial.question.old found)
answer_of trial post post_is asked_is found some are = record {
  asked = All-map (IsAskedTriple trial.setting.now trial.predicates.now trial.question trial.width) (λ (t : Triple). OfTriple t) new_found (all_from (λ (t : Triple). IsAskedTriple trial.setting.now trial.predicates.now trial.question trial.width (OfTriple t)) new_found (λ t k. triple t (from_kept new found t k)));
  every = λ set asks least. listed set asks least (blocked set asks least.refuted);
  ordered = subst (λ (sets : List (List Atom)). IsStrictlySortedBy set_cmp sets) (sym (map_map (λ (t : Triple). OfTriple t) set_of new_found)) (sorted_kept set_cmp (λ (t : Triple). t.pre) new found are.ordered);
  inside = λ set asks refuted. (let w = blocked set asks refuted in (w.0.pre, w.2, put_least w.0.pre (facts w.0 w.1).1));
}
  where
    new : Triple → Bool
    new = λ t. is_new trial.question.old t.pre

    new_found : List Triple
    new_found = filter new found

    facts : (t : Triple) → Contains found t → ShowsSet trial t.pre t × IsLeastRefuted trial.setting.now trial.predicates.now trial.question.command trial.post t.pre
        × All (IsAskedAtom trial.predicates.now trial.question.now trial.post) t.pre × (length t.pre ≤ trial.width)
    facts t k = All-contains (λ t. ShowsSet trial t.pre t × IsLeastRefuted trial.setting.now trial.predicates.now trial.question.command trial.post t.pre
        × All (IsAskedAtom trial.predicates.now trial.question.now trial.post) t.pre × (length t.pre ≤ trial.width)) found t are.least k

    is_post : trial.post ≡ asked_post trial.predicates.now trial.question
    is_post = post_is ∙ asked_is

    put_least : (set : List Atom) → IsLeastRefuted trial.setting.now trial.predicates.now trial.question.command trial.post set
        → IsLeastRefuted trial.setting.now trial.predicates.now trial.question.command (asked_post trial.predicates.now trial.question) set
    put_least set h = subst (λ (q : Atom). IsLeastRefuted trial.setting.now trial.predicates.now trial.question.command q set) is_post h

    blocked : (set : List Atom) → Asks trial.predicates.now trial.question trial.width set
        → IsRefutedSet trial.setting.now trial.predicates.now trial.question.command (asked_post trial.predicates.now trial.question) set → IsBlocked found set
    blocked set asks refuted = are.inside set (subst (λ (q : Atom). IsAskedAt trial.predicates.now trial.question.now q set) (sym is_post) asks.now) asks.small
        (or_right (nat_lt (length set) trial.width) (is_new trial.question.old set) (new_if_asked trial.predicates.now trial.question trial.width set asks))
        (subst (λ (q : Atom). IsRefutedSet trial.setting.now trial.predicates.now trial.question.command q set) (sym is_post) refuted)

    triple : (t : Triple) → Contains found t × (new t ≡ true) → IsAskedTriple trial.setting.now trial.predicates.now trial.question trial.width (OfTriple t)
    triple t k = (let h = facts t k.0 in (
      record {
        now = record { some = some; ascends = t.ascends; atoms = subst (λ (q : Atom). All (IsAskedAtom trial.predicates.now trial.question.now q) t.pre) is_post h.2 };
        new = not_asked_before trial.predicates.now trial.question.old (asked_post trial.predicates.now trial.question) t.pre k.1;
        small = h.3;
      },
      put_least t.pre h.1,
      subst (λ (q : Atom). RefutesSet trial.setting.now trial.predicates.now trial.question.command q t.pre t) is_post h.0,
    ))

    listed : (set : List Atom) → Asks trial.predicates.now trial.question trial.width set
        → IsLeastRefuted trial.setting.now trial.predicates.now trial.question.command (asked_post trial.predicates.now trial.question) set → IsBlocked found set → Contains (map set_of (new_entries trial.question.old found)) set
    listed set asks least w =
        let same : w.0.pre ≡ set = elim (same_or_shorter atom_cmp atom_total set w.0.pre (sorted_from_ascend set asks.now.ascends) (sorted_from_ascend w.0.pre w.0.ascends) (λ q k. All-contains (Contains set) w.0.pre q w.2 k)) [
          | inl is ↦ is
          | inr less ↦ absurd (least.least w.0.pre w.2 (λ is. (let e : length w.0.pre ≡ length set = ap length is in omega arith)) (put_least w.0.pre (facts w.0 w.1).1).refuted)
        ] in
        let is_new_set : is_new trial.question.old w.0.pre ≡ true = subst (λ (qs : List Atom). is_new trial.question.old qs ≡ true) (sym same) (new_if_asked trial.predicates.now trial.question trial.width set asks) in
        subst (λ (qs : List Atom). Contains (map set_of (new_entries trial.question.old found)) qs) same
        (mapped set_of (new_entries trial.question.old found) (OfTriple w.0) (mapped (λ (t : Triple). OfTriple t) new_found w.0 (kept new found w.0 w.1 is_new_set)))

pub answer_from : (setting : Setting) (predicates : List Predicate) (question : Question) (width : ℕ) (trial : Trial) (found : List Triple) → IsReady trial → IsTrialOf setting predicates question width trial
    → AreFound trial found → IsAnswerTo setting predicates question width (new_entries question.old found)
answer_from setting predicates question width trial found ready is are =
    subst (λ (s : Setting). IsAnswerTo s predicates question width (new_entries question.old found)) is.setting_is
    (subst (λ (ps : List Predicate). IsAnswerTo trial.setting.now ps question width (new_entries question.old found)) is.predicates_are
    (subst (λ (q : Question). IsAnswerTo trial.setting.now trial.predicates.now q width (new_entries q.old found)) is.question_is
    (subst (λ (w : ℕ). IsAnswerTo trial.setting.now trial.predicates.now trial.question w (new_entries trial.question.old found)) is.width_is
    (answer_of trial trial.post refl ready.post_is found (subst (λ (q : Question). 0 < q.now) (sym is.question_is) is.some) are))))

-- where nothing that is asked for is refuted, there is nothing to answer
pub answer_nothing : (setting : Setting) (predicates : List Predicate) (question : Question) (width : ℕ) → GivesNothing setting predicates question width → IsAnswerTo setting predicates question width []
answer_nothing setting predicates question width none = record {
  asked = all_from (IsAskedTriple setting predicates question width) [] (λ e k. absurd (nothing e k));
  every = λ set asks least. absurd (none set asks least.refuted);
  ordered = sorted_nil set_cmp;
  inside = λ set asks refuted. absurd (none set asks refuted);
}
