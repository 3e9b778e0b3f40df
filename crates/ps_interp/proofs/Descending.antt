-- The cuts of a trace are met in descending order.
use Rattle.std.proofs.Common.{◌≡◌, refl, sym, ap, ◌∙◌, subst, ℕ, zero, suc, ◌+◌, ◌-◌, ◌<◌, ◌≤◌, List, [], ◌∷◌, ◌++◌, append_assoc, get_or, length, map, pos, reverse, inl, inr, All, arith}
use Rattle.std.specs.Prelude.{slice_get, Option, Some, None}
use Rattle.std.specs.List.{AllZip, filter_map, range_with_len}
use mathlib.Core.List.{reverse-cons}
use Rattle.std.proofs.lemmas.Bool.{cases_eq, cases_lt}
use Rattle.std.proofs.lemmas.List.{append-nil}
use Rattle.std.proofs.lemmas.List.Elements.{All-nil, All-push, All-weaker, filter_map-append}
use Rattle.std.proofs.lemmas.Option.{same_Some}
use Rattle.std.proofs.lemmas.Slice.Zip.{all_zipped_more}
use Rattle.ps_atom.specs.declared.predicate.Predicate.{Predicate}
use Rattle.ps_atom.specs.declared.predicates.TheConstants.Predicates.{MOST}
use Rattle.ps_command.specs.declared.setting.Setting.{Setting}
use Rattle.ps_interp.specs.Cuts.{IsFalseSum, cuts_down, sum_at}
use Rattle.ps_interp.specs.Entries.{triple_of}
use Rattle.ps_interp.specs.Firsts.{AreFirst}
use Rattle.ps_interp.specs.Interpolants.{Interpolant, IsPredicateAt, StandsAt, false_interpolant}
use Rattle.ps_interp.specs.Made.{InterpolantFits, IsTripleAt}
use Rattle.ps_interp.specs.Sums.{Weighed, weigh}
use Rattle.ps_interp.specs.declared.cuts.Cuts.{Cuts}
use Rattle.ps_interp.specs.declared.interp_end.InterpEnd.{InterpEnd}
use Rattle.ps_interp.specs.declared.interp_end.InterpEnd.TheVariants.{Arity, Predicates, Past128, Memory}
use Rattle.ps_interp.specs.declared.meeting.Found.{Found}
use Rattle.ps_interp.specs.declared.weights.WeighedLetter.{WeighedLetter}
use Rattle.ps_interp.specs.inner.Meetings.{AreCuts, AreMet, EndsAtCut, EndsMeeting, EndsMeetings, EndsTaking, IsListed, IsMet, IsTaken, letters_in}
use Rattle.ps_interp.specs.inner.Parts.{Part, letters_by, part_in, part_of, weighed_by}
use Rattle.ps_term.specs.Exact.{number_term}
use Rattle.ps_term.specs.declared.term.Term.{Term}
use Rattle.ps_triple.specs.Faults.{EntryHolds}
use Rattle.ps_triple.specs.Fits.{EntryFits}
use Rattle.ps_triple.specs.declared.entry.Entry.{Entry}
use Rattle.ps_triple.proofs.Membership.{any_default}
use Rattle.ps_interp.proofs.Bounding.{by_letters_long, sums_many, sums_same}
use Rattle.ps_interp.proofs.Firsts.{first_append}
use Rattle.ps_interp.proofs.Growing.{holds_longer, stands_longer, triple_longer}
use Rattle.ps_interp.proofs.Letters.{first_is}
use Rattle.ps_interp.proofs.Totals.{there_is}

-- ---- cuts
no_cuts : (n : ℕ) → cuts_down n n ≡ []
no_cuts n = ap (λ (k : ℕ). reverse (range_with_len n k)) (let e : n - n ≡ 0 = omega arith in e)

pub one_cut : (cut high : ℕ) → cut < high → cuts_down cut high ≡ cuts_down (cut + 1) high ++ cut ∷ []
one_cut cut high h =
    ap (λ (k : ℕ). reverse (range_with_len cut k)) (let e : high - cut ≡ suc (high - (cut + 1)) = omega (arith, h) in e)
    ∙ reverse-cons cut (range_with_len (cut + 1) (high - (cut + 1)))

zip_weaker : {A B : Type 0} (R S : A → B → Type 0) → ((x : A) (y : B) → R x y → S x y) → (xs : List A) (ys : List B) → AllZip R xs ys → AllZip S xs ys
zip_weaker R S w [] [] h = tt
zip_weaker R S w [] (y ∷ ys) h = absurd h
zip_weaker R S w (x ∷ xs) [] h = absurd h
zip_weaker R S w (x ∷ xs) (y ∷ ys) h = (w x y h.0, zip_weaker R S w xs ys h.1)

-- ---- letters
pub record Joins (letters : List Weighed) (i : ℕ) (w : Weighed) : Type 0 where
  pub before : w.before ≡ sum_at letters i
  pub after : w.after ≡ sum_at letters (suc i)

pub joins : (setting : Setting) (ps : List Part) (i : ℕ) (w : Weighed) → slice_get (weighed_by setting ps) i ≡ Some w → Joins (weighed_by setting ps) i w
joins setting [] i w e = cc
joins setting (p ∷ ps) zero w e =
    subst (λ (x : Weighed). Joins (weighed_by setting (p ∷ ps)) 0 x) (same_Some (weigh setting (p.thread, p.command) p.weights (weighed_by setting ps)) w e)
    (record { before = refl; after = first_is (weighed_by setting ps) })
joins setting (p ∷ ps) (suc i) w e = at (joins setting ps i w e)
  where
    at : Joins (weighed_by setting ps) i w → Joins (weighed_by setting (p ∷ ps)) (suc i) w
    at j = record { before = j.before; after = j.after }

-- the triple of a letter from what stands before it to what stands after it
pub triple_at : (letters : List Weighed) → ((i : ℕ) (w : Weighed) → slice_get letters i ≡ Some w → Joins letters i w) →
    (list : List Predicate) (cut : ℕ) (q : Option Interpolant) (after : Interpolant) (entry : Entry) → cut < length letters →
    StandsAt list (sum_at letters cut) q → StandsAt list (sum_at letters (cut + 1)) (Some after) →
    ((w : Weighed) → slice_get letters cut ≡ Some w → entry ≡ triple_of w q after) → IsTripleAt letters list cut entry
triple_at letters joined list cut q after entry within stands next is = at (there_is letters cut within)
  where
    at : (w : Weighed) × (slice_get letters cut ≡ Some w) → IsTripleAt letters list cut entry
    at (w, got) = record {
      letter = w;
      stands = got;
      before = q;
      stands_before = subst (λ (t : Term). StandsAt list t q) (sym (joined cut w got).before) stands;
      after = after;
      stands_after = subst (λ (t : Term). StandsAt list t (Some after)) (ap (sum_at letters) (let e : cut + 1 ≡ suc cut = omega arith in e) ∙ sym (joined cut w got).after) next;
      is = is w got;
    }

-- ---- one cut after another
module _ (setting : Setting) (letters : List Weighed) (joined : (i : ℕ) (w : Weighed) → slice_get letters i ≡ Some w → Joins letters i w)
    (known : List Predicate) (before : List Entry) (high : ℕ) where
  pub met_none : (found : Found) → found.table ≡ known → found.entries ≡ before → length known ≤ MOST → IsFalseSum (sum_at letters high) →
      AreMet setting letters known before high high found (Some false_interpolant)
  met_none found e f room h = record {
    new = [];
    table = e ∙ sym (append-nil known);
    triples = [];
    made = record {
      fit = λ i low below. let no : ⊥ = omega (arith, low, below) in absurd no;
      predicates = [];
      each = subst (λ (is : List ℕ). AllZip (λ i p. IsPredicateAt (sum_at letters i) p) is []) (sym (no_cuts high)) tt;
      first = refl;
      triples_are = subst (λ (is : List ℕ). AllZip (IsTripleAt letters (known ++ [])) is []) (sym (no_cuts high)) tt;
      triples_fit = All-nil (EntryFits setting (known ++ []));
      room = subst (λ (ps : List Predicate). length ps ≤ MOST) (sym (append-nil known)) room;
    };
    hold = All-nil (EntryHolds setting (known ++ []));
    more = [];
    first = refl;
    entries = f ∙ sym (append-nil before);
    stands = inl (h, refl);
  }

  module _ (cut : ℕ) (old new : Found) (after : Interpolant) (q : Option Interpolant) (below : cut < high) (within : cut < length letters)
      (m : AreMet setting letters known before high (cut + 1) old (Some after)) (s : IsMet setting letters cut after old new q) where
    abbrev all : List Predicate
    all = known ++ (m.new ++ s.taken.more)

    longer_is : old.table ++ s.taken.more ≡ all
    longer_is = ap (λ (ps : List Predicate). ps ++ s.taken.more) m.table ∙ append_assoc known m.new s.taken.more

    table_is : new.table ≡ all
    table_is = s.taken.all ∙ longer_is

    longer : (P : List Predicate → Type 0) → P ((known ++ m.new) ++ s.taken.more) → P all
    longer P h = subst P (append_assoc known m.new s.taken.more) h

    this_triple : IsTripleAt letters all cut s.entry
    this_triple = triple_at letters joined all cut q after s.entry within
        (subst (λ (ps : List Predicate). StandsAt ps (sum_at letters cut) q) table_is s.stands)
        (subst (λ (ps : List Predicate). StandsAt ps (sum_at letters (cut + 1)) (Some after)) longer_is
        (stands_longer old.table s.taken.more (sum_at letters (cut + 1)) (Some after) m.stands))
        s.triple

    hold_all : All (EntryHolds setting all) (m.triples ++ s.entry ∷ [])
    hold_all = All-push (EntryHolds setting all) m.triples s.entry
        (All-weaker (EntryHolds setting (known ++ m.new)) (EntryHolds setting all) (λ e h. longer (λ (ps : List Predicate). EntryHolds setting ps e) (holds_longer (known ++ m.new) s.taken.more setting e h)) m.triples m.hold)
        (subst (λ (ps : List Predicate). EntryHolds setting ps s.entry) table_is s.holds)

    pub met_more : AreMet setting letters known before high cut new q
    met_more = record {
      new = m.new ++ s.taken.more;
      table = table_is;
      triples = m.triples ++ s.entry ∷ [];
      made = record {
        fit = λ i low less. elim (cases_eq cut i) [
          | inl is ↦ subst (λ (j : ℕ). InterpolantFits (sum_at letters j)) is s.fits
          | inr other ↦ m.made.fit i (omega (arith, low, other)) less
        ];
        predicates = m.made.predicates ++ s.taken.predicate ∷ [];
        each = subst (λ (is : List ℕ). AllZip (λ i p. IsPredicateAt (sum_at letters i) p) is (m.made.predicates ++ s.taken.predicate ∷ [])) (sym (one_cut cut high below))
            (all_zipped_more (λ i p. IsPredicateAt (sum_at letters i) p) (cuts_down (cut + 1) high) m.made.predicates cut s.taken.predicate m.made.each s.taken.is);
        first = subst (λ (ps : List Predicate). AreFirst known ps (m.new ++ s.taken.more)) (sym (filter_map-append (λ p. p) m.made.predicates (s.taken.predicate ∷ [])))
            (first_append known (filter_map (λ p. p) m.made.predicates) m.new (filter_map (λ p. p) (s.taken.predicate ∷ [])) s.taken.more m.made.first
            (subst (λ (ps : List Predicate). AreFirst ps (filter_map (λ p. p) (s.taken.predicate ∷ [])) s.taken.more) m.table s.taken.first));
        triples_are = subst (λ (is : List ℕ). AllZip (IsTripleAt letters all) is (m.triples ++ s.entry ∷ [])) (sym (one_cut cut high below))
            (all_zipped_more (IsTripleAt letters all) (cuts_down (cut + 1) high) m.triples cut s.entry
            (zip_weaker (IsTripleAt letters (known ++ m.new)) (IsTripleAt letters all) (λ i e h. longer (λ (ps : List Predicate). IsTripleAt letters ps i e) (triple_longer (known ++ m.new) s.taken.more letters i e h)) (cuts_down (cut + 1) high) m.triples m.made.triples_are)
            this_triple);
        triples_fit = All-weaker (EntryHolds setting all) (EntryFits setting all) (λ e h. h.fits) (m.triples ++ s.entry ∷ []) hold_all;
        room = subst (λ (ps : List Predicate). length ps ≤ MOST) table_is s.room;
      };
      hold = hold_all;
      more = m.more ++ s.listed.more;
      first = first_append before m.triples m.more (s.entry ∷ []) s.listed.more m.first
          (subst (λ (es : List Entry). AreFirst es (s.entry ∷ []) s.listed.more) m.entries s.listed.first);
      entries = s.listed.all ∙ (ap (λ (es : List Entry). es ++ s.listed.more) m.entries ∙ append_assoc before m.more s.listed.more);
      stands = s.stands;
    }

  -- why a cut isn't met
  module _ (low cut : ℕ) (old : Found) (after : Interpolant) (above : low ≤ cut) (below : cut < high)
      (m : AreMet setting letters known before high (cut + 1) old (Some after)) where
    at_cut : (end : InterpEnd) → EndsMeeting setting letters cut after old.table end → EndsAtCut setting letters known low high end
    at_cut end h = record {
      cut = cut;
      above = above;
      below = below;
      new = m.new;
      triples = m.triples;
      made = m.made;
      after = after;
      stands = subst (λ (ps : List Predicate). StandsAt ps (sum_at letters (cut + 1)) (Some after)) m.table m.stands;
      ends = subst (λ (ps : List Predicate). EndsMeeting setting letters cut after ps end) m.table h;
    }

    pub ends_more : (end : InterpEnd) → EndsMeeting setting letters cut after old.table end → EndsMeetings setting letters known low high end
    ends_more (Arity at count) h = at_cut (Arity at count) h
    ends_more (Predicates at) h = at_cut (Predicates at) h
    ends_more Past128 h = at_cut Past128 h
    ends_more (Memory end) h = tt

-- ---- the cuts of letters
part_at : (setting : Setting) (letters : List WeighedLetter) (cut : ℕ) (w : Weighed) (d : WeighedLetter) → slice_get (letters_by setting letters) cut ≡ Some w → part_in w ≡ part_of (get_or letters cut d)
part_at setting [] cut w d e = cc
part_at setting (x ∷ xs) zero w d e = ap part_in (sym (same_Some (weigh setting (x.thread, x.command) x.weights.now (letters_by setting xs)) w e))
part_at setting (x ∷ xs) (suc cut) w d e = part_at setting xs cut w d e

module _ (cuts : Cuts) (a : AreCuts cuts) where
  joined_in : (i : ℕ) (w : Weighed) → slice_get (letters_in cuts) i ≡ Some w → Joins (letters_in cuts) i w
  joined_in = joins cuts.setting.now (map part_of cuts.letters.items)

  long_in : length (letters_in cuts) ≡ length cuts.letters.items
  long_in = by_letters_long cuts.setting.now cuts.letters.items

  pub sums_many_in : length cuts.sums.items ≡ length cuts.letters.items + 1
  sums_many_in = sums_many (letters_in cuts) cuts.sums.items a.sums ∙ ap (λ (n : ℕ). n + 1) long_in

  pub sum_at_is : (cut : ℕ) (d : Term) → cut < length cuts.letters.items → get_or cuts.sums.items cut d ≡ sum_at (letters_in cuts) cut
  sum_at_is cut d below =
      any_default cuts.sums.items cut d (number_term (pos 0)) (let n : length cuts.sums.items ≡ length cuts.letters.items + 1 = sums_many_in in omega (arith, below, n))
      ∙ sums_same (letters_in cuts) cuts.sums.items a.sums cut

  -- one cut is met
  pub meet_from : (cut : ℕ) (sum : Term) (d : WeighedLetter) (after : Interpolant) (old mid new : Found) (q : Option Interpolant) (entry : Entry) → cut < length cuts.letters.items →
      sum ≡ sum_at (letters_in cuts) cut → InterpolantFits sum → IsTaken old.table sum mid.table → length mid.table ≤ MOST → StandsAt mid.table sum q →
      ((w : Weighed) → part_in w ≡ part_of (get_or cuts.letters.items cut d) → entry ≡ triple_of w q after) →
      EntryHolds cuts.setting.now mid.table entry → mid.entries ≡ old.entries → new.table ≡ mid.table → IsListed mid.entries entry new.entries →
      IsMet cuts.setting.now (letters_in cuts) cut after old new q
  meet_from cut sum d after old mid new q entry below is fits taken room stands triple holds kept same listed = record {
    fits = subst InterpolantFits is fits;
    taken = subst (λ (t : Term). IsTaken old.table t new.table) is (subst (λ (ps : List Predicate). IsTaken old.table sum ps) (sym same) taken);
    room = subst (λ (ps : List Predicate). length ps ≤ MOST) (sym same) room;
    stands = subst (λ (t : Term). StandsAt new.table t q) is (subst (λ (ps : List Predicate). StandsAt ps sum q) (sym same) stands);
    entry = entry;
    triple = λ w got. triple w (part_at cuts.setting.now cuts.letters.items cut w d got);
    holds = subst (λ (ps : List Predicate). EntryHolds cuts.setting.now ps entry) (sym same) holds;
    listed = subst (λ (es : List Entry). IsListed es entry new.entries) kept listed;
  }

  -- its triple doesn't hold
  pub unheld_from : (cut : ℕ) (sum : Term) (d : WeighedLetter) (after : Interpolant) (old mid : List Predicate) (q : Option Interpolant) (entry : Entry) →
      sum ≡ sum_at (letters_in cuts) cut → InterpolantFits sum → IsTaken old sum mid → length mid ≤ MOST → StandsAt mid sum q →
      ((w : Weighed) → part_in w ≡ part_of (get_or cuts.letters.items cut d) → entry ≡ triple_of w q after) → ¬ EntryHolds cuts.setting.now mid entry →
      EndsMeeting cuts.setting.now (letters_in cuts) cut after old Past128
  unheld_from cut sum d after old mid q entry is fits taken room stands triple fails = inr (record {
    fits = subst InterpolantFits is fits;
    new = mid;
    taken = subst (λ (t : Term). IsTaken old t mid) is taken;
    room = room;
    q = q;
    stands = subst (λ (t : Term). StandsAt mid t q) is stands;
    entry = entry;
    triple = λ w got. triple w (part_at cuts.setting.now cuts.letters.items cut w d got);
    fails = fails;
  })

  pub ends_from : (cut : ℕ) (sum : Term) (after : Interpolant) (old : List Predicate) (end : InterpEnd) → sum ≡ sum_at (letters_in cuts) cut → EndsTaking old sum cut end →
      EndsMeeting cuts.setting.now (letters_in cuts) cut after old end
  ends_from cut sum after old (Arity at count) is h = subst (λ (t : Term). EndsTaking old t cut (Arity at count)) is h
  ends_from cut sum after old (Predicates at) is h = subst (λ (t : Term). EndsTaking old t cut (Predicates at)) is h
  ends_from cut sum after old Past128 is h = inl (subst (λ (t : Term). ¬ InterpolantFits t) is h)
  ends_from cut sum after old (Memory end) is h = tt

  -- all of them are
  module _ (known : List Predicate) (before : List Entry) where
    abbrev Reached : ℕ → Found → Option Interpolant → Type 0
    Reached cut found q = AreMet cuts.setting.now (letters_in cuts) known before cuts.high cut found q

    pub first_met : (found : Found) (after : Interpolant) → found.table ≡ known → found.entries ≡ before → length known ≤ MOST → after ≡ false_interpolant →
        AreMet cuts.setting.now (letters_in cuts) known before cuts.high cuts.high found (Some after)
    first_met found after e f room g = subst (λ (q : Interpolant). Reached cuts.high found (Some q)) (sym g)
        (met_none cuts.setting.now (letters_in cuts) joined_in known before cuts.high found e f room a.bounds.ends)

    module _ (cut : ℕ) (above : cuts.low < cut) (within : cut ≤ cuts.high) where
      back_one : cut - 1 + 1 ≡ cut
      back_one = omega (arith, above)

      pub next_below : cut - 1 < length cuts.letters.items
      next_below = omega (arith, above, within, a.within)

      pub next_some : ¬ IsFalseSum (sum_at (letters_in cuts) (cut - 1))
      next_some = a.bounds.least (cut - 1) (omega (arith, above, within))

      pub next_met : (old new : Found) (after : Interpolant) (q : Option Interpolant) → AreMet cuts.setting.now (letters_in cuts) known before cuts.high cut old (Some after) →
          IsMet cuts.setting.now (letters_in cuts) (cut - 1) after old new q → AreMet cuts.setting.now (letters_in cuts) known before cuts.high (cut - 1) new q
      next_met old new after q m s =
          met_more cuts.setting.now (letters_in cuts) joined_in known before cuts.high (cut - 1) old new after q (omega (arith, above, within))
          (subst (λ (n : ℕ). cut - 1 < n) (sym long_in) next_below)
          (subst (λ (n : ℕ). Reached n old (Some after)) (sym back_one) m) s

      pub none_low : (new : Found) → AreMet cuts.setting.now (letters_in cuts) known before cuts.high (cut - 1) new None →
          AreMet cuts.setting.now (letters_in cuts) known before cuts.high cuts.low new None
      none_low new m = elim (cases_lt cuts.low (cut - 1)) [
        | inl past ↦ absurd (a.bounds.greatest (cut - 1) past (omega (arith, above, within)) m.stands)
        | inr low ↦ subst (λ (n : ℕ). Reached n new None) (let e : cut - 1 ≡ cuts.low = omega (arith, low, above) in e) m
      ]

      pub next_ends : (old : Found) (after : Interpolant) (end : InterpEnd) → AreMet cuts.setting.now (letters_in cuts) known before cuts.high cut old (Some after) →
          EndsMeeting cuts.setting.now (letters_in cuts) (cut - 1) after old.table end → EndsMeetings cuts.setting.now (letters_in cuts) known cuts.low cuts.high end
      next_ends old after end m h =
          ends_more cuts.setting.now (letters_in cuts) joined_in known before cuts.high cuts.low (cut - 1) old after (omega (arith, above)) (omega (arith, above, within))
          (subst (λ (n : ℕ). Reached n old (Some after)) (sym back_one) m) end h
