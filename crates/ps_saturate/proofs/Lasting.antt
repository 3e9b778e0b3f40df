-- What answers are worth: laws of answers and of saturated entries.
use Rattle.std.proofs.Common.{◌≡◌, ◌<◌, ◌≤◌, ℕ, Bool, true, false, List, [], ◌∷◌, ◌++◌, map, length, take, refl, sym, ap, ap₂, ◌∙◌, subst, inl, inr, ◌⊎◌, ◌↔◌, Contains, All, IsTrue, arith}
use Rattle.std.specs.Cmp.{IsTotalOrder}
use Rattle.std.proofs.lemmas.Cmp.{lists_total, nat_cmp_total, on_total, then_total}
use Rattle.std.proofs.lemmas.List.{get_or_append_left, get_or-take, length-append, length-take-le}
use Rattle.std.proofs.lemmas.List.Elements.{All-contains, All-head, All-tail, All-weaker}
use Rattle.ps_atom.specs.Atoms.{at_threads, atom_cmp, renamed}
use Rattle.ps_atom.specs.Numbers.{false_predicate}
use Rattle.ps_atom.specs.Range.{IsInRange}
use Rattle.ps_atom.specs.declared.atom.Atom.{Atom}
use Rattle.ps_atom.specs.declared.predicate.Predicate.{Predicate}
use Rattle.ps_command.specs.declared.setting.Setting.{Setting}
use Rattle.ps_elim.specs.Elimination.{IsElimination}
use Rattle.ps_elim.specs.declared.answer.Elim.TheVariants.{Refuted}
use Rattle.ps_farkas.specs.Refutes.{AllSumsFit, Refutes}
use Rattle.ps_list.proofs.Mapped.{from_mapped, map_same, same_map}
use Rattle.ps_saturate.proofs.Ascents.{all_from, same_or_shorter}
use Rattle.ps_saturate.proofs.Asking.{asked_before, not_asked_before}
use Rattle.ps_saturate.proofs.Finding.{atom_total, sorted_from_ascend}
use Rattle.ps_saturate.proofs.Showing.{refuted_once, triple_rows_are}
use Rattle.ps_triple.proofs.Alike.{same_but_multipliers}
use Rattle.ps_saturate.specs.Answered.{IsAnswerTo, IsAskedTriple, set_cmp, set_of}
use Rattle.ps_saturate.specs.Asked.{Asks, IsAskedAt, IsAskedAtom, asked_post}
use Rattle.ps_saturate.specs.Patterns.{IsSubject, post_of, post_threads}
use Rattle.ps_saturate.specs.Refuted.{IsLeastRefuted, IsRefutedSet}
use Rattle.ps_saturate.specs.Saturated.{AreThere, GivesInside, IsAnswered, IsSaturated, KeepsFalse, NamesFirst}
use Rattle.ps_saturate.specs.inner.Trials.{is_new}
use Rattle.ps_saturate.specs.declared.pattern.Pattern.{Pattern}
use Rattle.ps_saturate.specs.declared.question.Question.{Question}
use Rattle.ps_term.specs.Negation.{NegationFits}
use Rattle.ps_term.specs.Substitution.{SubstitutionFits}
use Rattle.ps_term.specs.declared.row.Row.{Row}
use Rattle.ps_triple.specs.Ascending.{ascend}
use Rattle.ps_triple.specs.Entries.{AreAlike, GivesAtom, IsRenamed}
use Rattle.ps_triple.specs.Faults.{EntryHolds}
use Rattle.ps_triple.specs.Places.{row_by}
use Rattle.ps_triple.specs.Rows.{atom_row, form_in, negated, predicate_of, row_after, triple_rows}
use Rattle.ps_triple.specs.Tests.{IsAtomOf, IsThere}
use Rattle.ps_triple.specs.declared.entry.Entry.{Entry}
use Rattle.ps_triple.specs.declared.entry.Entry.TheVariants.{Triple as OfTriple, Initial as OfInitial}
use Rattle.ps_triple.specs.declared.triple.Triple.{Triple}

-- ---- before any predicate is known

pub at_first : (setting : Setting) (predicates : List Predicate) (entries : List Entry) (width post command : ℕ) (pattern : Pattern) → IsAnswered setting predicates 0 entries width post command pattern
at_first setting predicates entries width post command pattern set asked small refuted = (let some : 0 < 0 = asked.some in absurd (omega arith))

-- ---- answers one after another

-- the triple itself, with no thread renamed
as_it_is : (t : Triple) (before : List Atom) (after : Atom) → t.pre ≡ before → t.post ≡ after → IsRenamed t 0 before after
as_it_is t before after e f = record {
  new = λ n. n;
  apart = λ s u a b same. same;
  runs = refl;
  pre = sym e ∙ sym (map_same (renamed (λ n. n)) t.pre (λ q h. itself q));
  post = sym f ∙ sym (itself t.post);
}
  where
    itself : (q : Atom) → renamed (λ n. n) q ≡ q
    itself q = ap (λ (ts : List ℕ). let p : Atom = record { predicate = q.predicate; threads = ts } in p) (map_same (λ (n : ℕ). n) q.threads (λ n h. refl))

-- an entry like one of the triple of a set has atoms of the set
gives_set : (entries : List Entry) (command : ℕ) (post : Atom) (set : List Atom) (t : Triple) (other : Entry) → t.pre ≡ set → t.command ≡ command → t.post ≡ post
    → Contains entries other → AreAlike (OfTriple t) other → GivesAtom entries 0 command set post
gives_set entries command post set t (OfTriple u) pre runs after listed alike = record {
  triple = u;
  listed = listed;
  same = sym alike.1 ∙ runs;
  by = as_it_is u set post (sym alike.0 ∙ pre) (sym alike.2 ∙ after);
}
gives_set entries command post set t (OfInitial i) pre runs after listed alike = absurd alike

given_set : (setting : Setting) (predicates : List Predicate) (question : Question) (width : ℕ) (entries : List Entry) (set : List Atom) (entry other : Entry) → set_of entry ≡ set
    → IsAskedTriple setting predicates question width entry → Contains entries other → AreAlike entry other → GivesAtom entries 0 question.command set (asked_post predicates question)
given_set setting predicates question width entries set (OfTriple t) other e asked listed alike =
    gives_set entries question.command (asked_post predicates question) set t other e asked.2.runs asked.2.after listed alike
given_set setting predicates question width entries set (OfInitial i) other e asked listed alike = absurd asked

pub answers_follow : (setting : Setting) (predicates : List Predicate) (question : Question) (width : ℕ) (answer entries : List Entry) → IsAnswerTo setting predicates question width answer → AreThere answer entries
    → IsAnswered setting predicates question.old entries width question.post question.command question.pattern
    → IsAnswered setting predicates question.now entries width question.post question.command question.pattern
answers_follow setting predicates question width answer entries is listed before set asked small refuted = by (is_new question.old set) refl
  where
    post : Atom
    post = asked_post predicates question

    asks : (part : List Atom) → IsAskedAt predicates question.now (asked_post predicates question) part → length part ≤ width → is_new question.old part ≡ true → Asks predicates question width part
    asks part now few new = record { now = now; new = not_asked_before predicates question.old (asked_post predicates question) part new; small = few }

    -- a least set inside
    inside : (part : List Atom) → All (Contains set) part → IsLeastRefuted setting predicates question.command (asked_post predicates question) part → IsAskedAt predicates question.now (asked_post predicates question) part
        → length part ≤ width → (b : Bool) → is_new question.old part ≡ b → GivesInside entries question.command (asked_post predicates question) set
    inside part within least part_asked few true e =
        let w = from_mapped set_of answer part (is.every part (asks part part_asked few e) least) in
        let there = listed w.0 w.1 in
        (part, given_set setting predicates question width entries part w.0 there.0 w.2 (All-contains (IsAskedTriple setting predicates question width) answer w.0 is.asked w.1) there.1 there.2, within)
    inside part within least part_asked few false e =
        let w = before part (asked_before predicates question.old question.now (asked_post predicates question) part part_asked e) few least.refuted in
        (w.0, w.1, All-weaker (Contains part) (Contains set) (λ q k. All-contains (Contains set) part q within k) w.0 w.2)

    part_of : (part : List Atom) → All (Contains set) part → IsLeastRefuted setting predicates question.command (asked_post predicates question) part → GivesInside entries question.command (asked_post predicates question) set
    part_of part within least =
        let up : IsTrue (ascend part) = subst (λ (qs : List Atom). IsTrue (ascend qs)) least.refuted.1.before least.refuted.0.ascends in
        let part_asked : IsAskedAt predicates question.now (asked_post predicates question) part = record {
          some = asked.some;
          ascends = up;
          atoms = all_from (IsAskedAtom predicates question.now (asked_post predicates question)) part (λ q k. All-contains (IsAskedAtom predicates question.now (asked_post predicates question)) set q asked.atoms (All-contains (Contains set) part q within k));
        } in
        inside part within least part_asked (few_of part (same_or_shorter atom_cmp atom_total set part (sorted_from_ascend set asked.ascends) (sorted_from_ascend part up) (λ q k. All-contains (Contains set) part q within k))) (is_new question.old part) refl
      where
        few_of : (part : List Atom) → (part ≡ set) ⊎ (length part < length set) → length part ≤ width
        few_of part (inl same) = (let e : length part ≡ length set = ap length same in omega arith)
        few_of part (inr less) = omega arith

    by : (b : Bool) → is_new question.old set ≡ b → GivesInside entries question.command (asked_post predicates question) set
    by true e = (let w = is.inside set (asks set asked small e) refuted in part_of w.0 w.1 w.2)
    by false e = before set (asked_before predicates question.old question.now (asked_post predicates question) set asked e) small refuted

-- ---- more entries

gives_more : (some all : List Entry) (command : ℕ) (post : Atom) (set : List Atom) → ((entry : Entry) → Contains some entry → Contains all entry) → GivesInside some command post set → GivesInside all command post set
gives_more some all command post set more h = (h.0, record { triple = h.1.triple; listed = more (OfTriple h.1.triple) h.1.listed; same = h.1.same; by = h.1.by }, h.2)

pub answered_more : (setting : Setting) (predicates : List Predicate) (some all : List Entry) (known width post command : ℕ) (pattern : Pattern) → ((entry : Entry) → Contains some entry → Contains all entry)
    → IsAnswered setting predicates known some width post command pattern → IsAnswered setting predicates known all width post command pattern
answered_more setting predicates some all known width post command pattern more h set asked small refuted =
    gives_more some all command (post_of predicates post pattern) set more (h set asked small refuted)

pub saturated_more : (setting : Setting) (predicates : List Predicate) (some all : List Entry) (width : ℕ) → ((entry : Entry) → Contains some entry → Contains all entry) → All (NamesFirst (length predicates)) all
    → IsSaturated setting predicates some width → IsSaturated setting predicates all width
saturated_more setting predicates some all width more named h = record {
  named = named;
  false_stays = λ command within. (let w = h.false_stays command within in (w.0, more (OfTriple w.0) w.1, w.2, w.3, w.4));
  answered = λ post command pattern subject. answered_more setting predicates some all (length predicates) width post command pattern more (h.answered post command pattern subject);
}

-- ---- other lists with the same first predicates

pub record Agree (one other : List Predicate) (count : ℕ) : Type 0 where
  pub here_first : count ≤ length one
  pub there_first : count ≤ length other
  pub same : (n : ℕ) → n < count → predicate_of one n ≡ predicate_of other n

agree_back : (one other : List Predicate) (count : ℕ) → Agree one other count → Agree other one count
agree_back one other count h = record { here_first = h.there_first; there_first = h.here_first; same = λ n less. sym (h.same n less) }

there_too : (setting : Setting) (one other : List Predicate) (count n : ℕ) → Agree one other count → n < count → IsThere setting one n → IsThere setting other n
there_too setting one other count n agree less h = (
  (let within : count ≤ length other = agree.there_first in omega arith),
  subst (λ (p : Predicate). IsInRange setting.globals setting.locals p) (agree.same n less) h.1,
)

atom_too : (setting : Setting) (one other : List Predicate) (count : ℕ) (q : Atom) → Agree one other count → q.predicate < count → IsAtomOf setting one q → IsAtomOf setting other q
atom_too setting one other count q agree less h = (there_too setting one other count q.predicate agree less h.0, h.1 ∙ ap (λ (p : Predicate). p.arity) (agree.same q.predicate less))

row_too : (one other : List Predicate) (count : ℕ) (q : Atom) → Agree one other count → q.predicate < count → atom_row one q ≡ atom_row other q
row_too one other count q agree less = ap (λ (p : Predicate). row_by (at_threads q.threads) p.row) (agree.same q.predicate less)

rows_too : (setting : Setting) (one other : List Predicate) (count : ℕ) (t : Triple) → Agree one other count → ((q : Atom) → Contains t.pre q → q.predicate < count) → t.post.predicate < count
    → triple_rows setting one t ≡ triple_rows setting other t
rows_too setting one other count t agree pre post =
    ap₂ (λ (rs : List Row) (r : Row). rs ++ ((form_in setting t.command).rows ++ row_after (form_in setting t.command) (negated r) ∷ []))
    (same_map (atom_row one) (atom_row other) t.pre (λ q h. row_too one other count q agree (pre q h))) (row_too one other count t.post agree post)

holds_too : (setting : Setting) (one other : List Predicate) (count : ℕ) (t : Triple) → Agree one other count → ((q : Atom) → Contains t.pre q → q.predicate < count) → t.post.predicate < count
    → EntryHolds setting one (OfTriple t) → EntryHolds setting other (OfTriple t)
holds_too setting one other count t agree pre post h = record {
  names = (h.names.0, all_from (IsAtomOf setting other) t.pre (λ q k. atom_too setting one other count q agree (pre q k) (All-contains (IsAtomOf setting one) t.pre q h.names.1 k)), atom_too setting one other count t.post agree post h.names.2);
  distinct = h.distinct;
  tied = h.tied;
  fits = (
    (
      subst (λ (r : Row). NegationFits r) (row_too one other count t.post agree post) h.fits.0.0,
      subst (λ (r : Row). SubstitutionFits (form_in setting t.command).after (negated r).term) (row_too one other count t.post agree post) h.fits.0.1,
    ),
    subst (λ (rs : List Row). AllSumsFit rs t.lambda) (rows_too setting one other count t agree pre post) h.fits.1,
  );
  refutes = subst (λ (rs : List Row). Refutes rs t.lambda) (rows_too setting one other count t agree pre post) h.refutes;
}

refuted_too : (setting : Setting) (one other : List Predicate) (count command : ℕ) (post : Atom) (set : List Atom) → Agree one other count → ((q : Atom) → Contains set q → q.predicate < count) → post.predicate < count
    → IsRefutedSet setting one command post set → IsRefutedSet setting other command post set
refuted_too setting one other count command post set agree within post_within h =
    let t = h.0 in
    let pre : (q : Atom) → Contains t.pre q → q.predicate < count = λ q k. within q (subst (λ (qs : List Atom). Contains qs q) h.1.before k) in
    let after : t.post.predicate < count = subst (λ (q : Atom). q.predicate < count) (sym h.1.after) post_within in (
      t,
      record {
        before = h.1.before;
        runs = h.1.runs;
        after = h.1.after;
        eliminated = subst (λ (rs : List Row). IsElimination rs (Refuted t.lambda)) (rows_too setting one other count t agree pre after) h.1.eliminated;
        holds = holds_too setting one other count t agree pre after h.1.holds;
      },
    )

asked_too : (one other : List Predicate) (count known : ℕ) (post : Atom) (set : List Atom) → Agree one other count → known ≤ count → IsAskedAt one known post set → IsAskedAt other known post set
asked_too one other count known post set agree few h = record {
  some = h.some;
  ascends = h.ascends;
  atoms = all_from (IsAskedAtom other known post) set (λ q k. (
      let a = All-contains (IsAskedAtom one known post) set q h.atoms k in
      let less : q.predicate < known = a.known_is in
      record { known_is = a.known_is; not_false = a.not_false; slots = a.slots ∙ ap (λ (p : Predicate). p.arity) (agree.same q.predicate (omega arith)); once = a.once; tied = a.tied }));
}

post_too : (one other : List Predicate) (count post : ℕ) (pattern : Pattern) → Agree one other count → post < count → post_of one post pattern ≡ post_of other post pattern
post_too one other count post pattern agree less =
    ap (λ (n : ℕ). let q : Atom = record { predicate = post; threads = post_threads pattern n } in q) (ap (λ (p : Predicate). p.arity) (agree.same post less))

answered_too : (setting : Setting) (one other : List Predicate) (count known : ℕ) (entries : List Entry) (width post command : ℕ) (pattern : Pattern) → Agree one other count → known ≤ count → post < count
    → IsAnswered setting one known entries width post command pattern → IsAnswered setting other known entries width post command pattern
answered_too setting one other count known entries width post command pattern agree few post_within h set asked small refuted =
    let back = agree_back one other count agree in
    let e : post_of one post pattern ≡ post_of other post pattern = post_too one other count post pattern agree post_within in
    let within : (q : Atom) → Contains set q → q.predicate < count = λ q k. (let less : q.predicate < known = (All-contains (IsAskedAtom other known (post_of other post pattern)) set q asked.atoms k).known_is in omega arith) in
    let asked_one : IsAskedAt one known (post_of one post pattern) set = subst (λ (q : Atom). IsAskedAt one known q set) (sym e) (asked_too other one count known (post_of other post pattern) set back few asked) in
    let refuted_one : IsRefutedSet setting one command (post_of one post pattern) set = subst (λ (q : Atom). IsRefutedSet setting one command q set) (sym e) (refuted_too setting other one count command (post_of other post pattern) set back within post_within refuted) in
    subst (λ (q : Atom). GivesInside entries command q set) e (h set asked_one small refuted_one)

appended : (predicates more : List Predicate) → Agree predicates (predicates ++ more) (length predicates)
appended predicates more = record {
  here_first = omega arith;
  there_first = (let e = length-append predicates more in omega arith);
  same = λ n less. sym (get_or_append_left predicates more false_predicate n less);
}

pub predicates_later : (setting : Setting) (predicates more : List Predicate) (entries : List Entry) (known width post command : ℕ) (pattern : Pattern) → known ≤ length predicates → post < length predicates
    → IsAnswered setting predicates known entries width post command pattern ↔ IsAnswered setting (predicates ++ more) known entries width post command pattern
predicates_later setting predicates more entries known width post command pattern few within = (
  answered_too setting predicates (predicates ++ more) (length predicates) known entries width post command pattern (appended predicates more) few within,
  answered_too setting (predicates ++ more) predicates (length predicates) known entries width post command pattern (agree_back predicates (predicates ++ more) (length predicates) (appended predicates more)) few within,
)

cut : (predicates : List Predicate) (known : ℕ) → known ≤ length predicates → Agree predicates (take known predicates) known
cut predicates known few = record {
  here_first = few;
  there_first = (let e : length (take known predicates) ≡ known = length-take-le known predicates few in omega arith);
  same = λ n less. sym (get_or-take known predicates n false_predicate less);
}

pub saturated_by_all : (setting : Setting) (predicates : List Predicate) (entries : List Entry) (known width : ℕ) → known ≤ length predicates → All (NamesFirst known) entries
    → ((command : ℕ) → command < length setting.commands → KeepsFalse entries command)
    → ((post command : ℕ) (pattern : Pattern) → IsSubject setting (take known predicates) post command pattern → IsAnswered setting predicates known entries width post command pattern)
    → IsSaturated setting (take known predicates) entries width
saturated_by_all setting predicates entries known width few named stays h =
    let e : length (take known predicates) ≡ known = length-take-le known predicates few in
    record {
      named = subst (λ (n : ℕ). All (NamesFirst n) entries) (sym e) named;
      false_stays = stays;
      answered = λ post command pattern subject. subst (λ (n : ℕ). IsAnswered setting (take known predicates) n entries width post command pattern) (sym e)
          (answered_too setting predicates (take known predicates) known known entries width post command pattern (cut predicates known few) (omega arith) (let within : post < length (take known predicates) = subject.post_is in omega (arith, within, e)) (h post command pattern subject));
    }

-- ---- one answer

set_total : IsTotalOrder set_cmp
set_total = then_total (on_total (λ (a : List Atom). length a) nat_cmp_total) (lists_total atom_total)

same_entry : (setting : Setting) (predicates : List Predicate) (question : Question) (width : ℕ) (one other : Entry) → IsAskedTriple setting predicates question width one → IsAskedTriple setting predicates question width other
    → set_of one ≡ set_of other → one ≡ other
same_entry setting predicates question width (OfTriple t) (OfTriple u) a b e =
    let post : Atom = asked_post predicates question in
    let rows : triple_rows setting predicates t ≡ triple_rows setting predicates u =
    triple_rows_are setting predicates t u.pre question.command post e a.2.runs a.2.after ∙ sym (triple_rows_are setting predicates u u.pre question.command post refl b.2.runs b.2.after) in
    same_but_multipliers (OfTriple t) (OfTriple u) (e, a.2.runs ∙ sym b.2.runs, a.2.after ∙ sym b.2.after)
    (refuted_once (triple_rows setting predicates u) t.lambda u.lambda (subst (λ (rs : List Row). IsElimination rs (Refuted t.lambda)) rows a.2.eliminated) b.2.eliminated)
same_entry setting predicates question width (OfTriple t) (OfInitial j) a b e = absurd b
same_entry setting predicates question width (OfInitial i) other a b e = absurd a

same_entries : (setting : Setting) (predicates : List Predicate) (question : Question) (width : ℕ) (one other : List Entry) → All (IsAskedTriple setting predicates question width) one → All (IsAskedTriple setting predicates question width) other
    → map set_of one ≡ map set_of other → one ≡ other
same_entries setting predicates question width [] [] a b e = refl
same_entries setting predicates question width [] (d ∷ ds) a b e = absurd (let f : ⊥ = cc in f)
same_entries setting predicates question width (d ∷ ds) [] a b e = absurd (let f : ⊥ = cc in f)
same_entries setting predicates question width (d ∷ ds) (f ∷ fs) a b e =
    let first : set_of d ≡ set_of f = cc in
    let rest : map set_of ds ≡ map set_of fs = cc in
    let P : Entry → Type 0 = IsAskedTriple setting predicates question width in
    ap₂ (λ (x : Entry) (xs : List Entry). x ∷ xs) (same_entry setting predicates question width d f (All-head P d ds a) (All-head P f fs b) first)
    (same_entries setting predicates question width ds fs (All-tail P d ds a) (All-tail P f fs b) rest)

-- the sets of one answer are sets of another
sets_among : (setting : Setting) (predicates : List Predicate) (question : Question) (width : ℕ) (one other : List Entry) → IsAnswerTo setting predicates question width one → IsAnswerTo setting predicates question width other
    → (set : List Atom) → Contains (map set_of one) set → Contains (map set_of other) set
sets_among setting predicates question width one other a b set h =
    let w = from_mapped set_of one set h in
    subst (λ (qs : List Atom). Contains (map set_of other) qs) w.2 (of w.0 (All-contains (IsAskedTriple setting predicates question width) one w.0 a.asked w.1))
  where
    of : (entry : Entry) → IsAskedTriple setting predicates question width entry → Contains (map set_of other) (set_of entry)
    of (OfTriple t) is = b.every t.pre is.0 is.1
    of (OfInitial i) is = absurd is

pub answers_same : (setting : Setting) (predicates : List Predicate) (question : Question) (width : ℕ) (one other : List Entry) → IsAnswerTo setting predicates question width one → IsAnswerTo setting predicates question width other → one ≡ other
answers_same setting predicates question width one other a b =
    same_entries setting predicates question width one other a.asked b.asked (elim (same_or_shorter set_cmp set_total (map set_of other) (map set_of one) b.ordered a.ordered (sets_among setting predicates question width one other a b)) [
      | inl same ↦ same
      | inr less ↦ elim (same_or_shorter set_cmp set_total (map set_of one) (map set_of other) a.ordered b.ordered (sets_among setting predicates question width other one b a)) [
        | inl same ↦ sym same
        | inr more ↦ absurd (omega arith)
      ]
    ])
