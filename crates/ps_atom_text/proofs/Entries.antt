-- The laws of predicates and entries as lines.
use Rattle.std.proofs.Common.{◌≡◌, ℕ, ◌^◌, ◌<◌, Bool, true, false, List, [], ◌∷◌, ◌++◌, map, Option, Some, None, refl, sym, ap, ap₂, subst, ◌∙◌, append_assoc}
use Rattle.std.specs.Prelude.{codes, decimal, if◌then◌else◌}
use Rattle.std.proofs.lemmas.Bool.{cond-true, cond-false}
use Rattle.ps_atom.specs.declared.atom.Atom.{Atom}
use Rattle.ps_atom.specs.declared.predicate.Predicate.{Predicate}
use Rattle.ps_atom_text.specs.declared.before.Before.{Before}
use Rattle.ps_atom_text.specs.declared.limits.TheConstants.{ANY_THREAD}
use Rattle.ps_atom_text.specs.Reading.{atom_in_field, entry_at, initial_at, lambda_at, predicate_at, triple_at}
use Rattle.ps_atom_text.specs.Spelling.{atom_text, entry_line, lambda_fields, predicate_line, AtomHasSpelling, EntryHasSpelling, InitialHasSpelling, LambdaHasSpelling, PredicateHasSpelling, TripleHasSpelling}
use Rattle.ps_atom_text.proofs.Befores.{any_atom, before_exact}
use Rattle.ps_atom_text.proofs.Fields.{fields_clean, fields_last, fields_then, last_clean}
use Rattle.ps_lines.specs.Reading.{Position, begins_at, begins_from, leaf_at, list_at, natural, natural32}
use Rattle.ps_lines.specs.Tokens.{LinePart, Field, Newline, parts_of_line}
use Rattle.ps_lines.proofs.Bytes.{IsClean, IsClean-append, IsPlain, plain_word}
use Rattle.ps_lines.proofs.Decimals.{natural32_is_leaf, natural_is_leaf}
use Rattle.ps_lines.proofs.Exact.{Always, Ended, Exact, Finds, Gets, end_exact, ended-append, found_bind, found_end, gets_bind, gets_end, leaf_exact, line_exact, word_exact}
use Rattle.ps_lines.proofs.Forms.{Chain, IsMember, Stops, list_exact, member_tokens}
use Rattle.ps_term.specs.declared.term.Term.{Term}
use Rattle.ps_term_text.proofs.Exact.{term_exact, term_tokens}
use Rattle.ps_triple.proofs.Alike.{same_but_multipliers}
use Rattle.ps_triple.specs.declared.entry.Entry.{Entry}
use Rattle.ps_triple.specs.declared.entry.Entry.TheVariants.{Triple as OfTriple, Initial as OfInitial}
use Rattle.ps_triple.specs.declared.initial.Initial.{Initial}
use Rattle.ps_triple.specs.declared.triple.Triple.{Triple}

number_exact : Exact (leaf_at natural32) (λ n. Field (decimal n) ∷ []) (λ n. n < 2 ^ 32) Always
number_exact = leaf_exact natural32 decimal (λ n. n < 2 ^ 32) natural32_is_leaf

-- ---- predicates

pred_plain : IsPlain (codes "pred")
pred_plain = plain_word (codes "pred") refl

abbrev pub predicate_tokens : Predicate → List LinePart
predicate_tokens p = parts_of_line (predicate_line p)

abbrev predicate : ℕ → Term → Predicate
predicate n t = record { arity = n; row = record { term = t } }

predicate_found : (at : Position) → Finds (predicate_at at) (λ y. (at.tokens ≡ predicate_tokens y.0 ++ y.1.tokens) × PredicateHasSpelling y.0)
unfolding predicate_at
predicate_found at =
    found_bind _ _ _ _ ((line_exact (codes "pred") pred_plain).found at) (λ w p.
    found_bind _ _ _ _ (number_exact.found w.1) (λ n q.
    found_bind _ _ _ _ (term_exact.found n.1) (λ t r.
    found_bind _ _ _ _ (end_exact.found t.1) (λ e s.
    found_end _ _ (
      p.0 ∙ ap (λ (ts : List LinePart). Field (codes "pred") ∷ ts) (q.0 ∙ ap (λ (ts : List LinePart). Field (decimal n.0) ∷ ts) (r.0 ∙ ap (λ (ts : List LinePart). term_tokens t.0 ++ ts) s.0 ∙ sym (append_assoc (term_tokens t.0) (Newline ∷ []) e.1.tokens))),
      record { arity = q.1; term = r.1 },
    )))))

predicate_again : (at : Position) (p : Predicate) (rest : List LinePart) → PredicateHasSpelling p → at.tokens ≡ predicate_tokens p ++ rest → Unit {0} → Gets (predicate_at at) (λ y. (y.0 ≡ p) × (y.1.tokens ≡ rest))
unfolding predicate_at
predicate_again at p rest fit e h =
    let after : List LinePart = term_tokens p.row.term ++ Newline ∷ rest in
    let split : at.tokens ≡ Field (codes "pred") ∷ (Field (decimal p.arity) ∷ after) = e ∙ ap (λ (ts : List LinePart). Field (codes "pred") ∷ (Field (decimal p.arity) ∷ ts)) (append_assoc (term_tokens p.row.term) (Newline ∷ []) rest) in
    gets_bind _ _ _ _ ((line_exact (codes "pred") pred_plain).again at tt (Field (decimal p.arity) ∷ after) tt split (ended-append (Field (decimal p.arity) ∷ term_tokens p.row.term) rest)) (λ w q.
    gets_bind _ _ _ _ (number_exact.again w.1 p.arity after fit.arity q.1 tt) (λ n r.
    gets_bind _ _ _ _ (term_exact.again n.1 p.row.term (Newline ∷ rest) fit.term r.1 tt) (λ t s.
    gets_bind _ _ _ _ (end_exact.again t.1 tt rest tt s.1 tt) (λ e' u.
    gets_end _ _ (ap₂ predicate r.0 s.0, u.1)))))

pub predicate_exact : Exact predicate_at predicate_tokens PredicateHasSpelling Always
predicate_exact = record {
  found = predicate_found;
  again = predicate_again;
  clean = λ p fit. (
    pred_plain,
    IsClean-append (Field (decimal p.arity) ∷ []) (term_tokens p.row.term ++ Newline ∷ []) (number_exact.clean p.arity fit.arity)
        (IsClean-append (term_tokens p.row.term) (Newline ∷ []) (term_exact.clean p.row.term fit.term) tt),
  );
}

-- ---- multipliers up to the end of the line

by_plain : IsPlain (codes "by")
by_plain = plain_word (codes "by") refl

abbrev FitsNext : Option ℕ → ℕ → Type 0
FitsNext _ n = n < 2 ^ 128

abbrev next : Option ℕ → ℕ → Option ℕ
next _ n = Some n

multiplier_member : IsMember (λ _. true) (λ (_ : Option ℕ). natural) decimal FitsNext
multiplier_member = record {
  found = λ state f t. natural_is_leaf.found f;
  again = λ state n fit. natural_is_leaf.again n fit;
  goes_on = λ state n fit. refl;
  clean = λ state n fit. natural_is_leaf.clean n fit;
}

of_chain : (state : Option ℕ) (ns : List ℕ) → Chain next FitsNext state ns → LambdaHasSpelling ns
of_chain state [] h = tt
of_chain state (n ∷ ns) h = (h.0, of_chain (Some n) ns h.1)

to_chain : (state : Option ℕ) (ns : List ℕ) → LambdaHasSpelling ns → Chain next FitsNext state ns
to_chain state [] h = tt
to_chain state (n ∷ ns) h = (h.0, to_chain (Some n) ns h.1)

multipliers_exact : Exact (list_at (λ _. true) (λ (_ : Option ℕ). natural) next None) (member_tokens decimal) (Chain next FitsNext None) (Stops (λ _. true))
multipliers_exact = list_exact (λ _. true) (λ (_ : Option ℕ). natural) next decimal FitsNext multiplier_member None

-- `by`, the multipliers, and the end of the line
abbrev pub lambda_tokens : List ℕ → List LinePart
lambda_tokens ns = map Field (lambda_fields ns) ++ Newline ∷ []

lambda_split : (ns : List ℕ) (rest : List LinePart) → lambda_tokens ns ++ rest ≡ Field (codes "by") ∷ (member_tokens decimal ns ++ Newline ∷ rest)
lambda_split ns rest = ap (λ (ts : List LinePart). Field (codes "by") ∷ ts) (append_assoc (map Field (map decimal ns)) (Newline ∷ []) rest ∙ fields_last decimal ns (Newline ∷ rest))

lambda_found : (at : Position) → Finds (lambda_at at) (λ y. (at.tokens ≡ lambda_tokens y.0 ++ y.1.tokens) × LambdaHasSpelling y.0)
unfolding lambda_at
lambda_found at =
    found_bind _ _ _ _ ((word_exact (codes "by") by_plain).found at) (λ w p.
    found_bind _ _ _ _ (multipliers_exact.found w.1) (λ ns q.
    found_bind _ _ _ _ (end_exact.found ns.1) (λ e r.
    found_end _ _ (
      p.0 ∙ ap (λ (ts : List LinePart). Field (codes "by") ∷ ts) (q.0 ∙ ap (λ (ts : List LinePart). member_tokens decimal ns.0 ++ ts) r.0) ∙ sym (lambda_split ns.0 e.1.tokens),
      of_chain None ns.0 q.1,
    ))))

lambda_again : (at : Position) (ns : List ℕ) (rest : List LinePart) → LambdaHasSpelling ns → at.tokens ≡ lambda_tokens ns ++ rest → Unit {0} → Gets (lambda_at at) (λ y. (y.0 ≡ ns) × (y.1.tokens ≡ rest))
unfolding lambda_at
lambda_again at ns rest fit e h =
    gets_bind _ _ _ _ ((word_exact (codes "by") by_plain).again at tt (member_tokens decimal ns ++ Newline ∷ rest) tt (e ∙ lambda_split ns rest) tt) (λ w p.
    gets_bind _ _ _ _ (multipliers_exact.again w.1 ns (Newline ∷ rest) (to_chain None ns fit) p.1 tt) (λ ms q.
    gets_bind _ _ _ _ (end_exact.again ms.1 tt rest tt q.1 tt) (λ e' r.
    gets_end _ _ (q.0, r.1))))

pub lambda_exact : Exact lambda_at lambda_tokens LambdaHasSpelling Always
lambda_exact = record {
  found = lambda_found;
  again = lambda_again;
  clean = λ ns fit. (by_plain, IsClean-append (map Field (map decimal ns)) (Newline ∷ []) (last_clean decimal ns (multipliers_exact.clean ns (to_chain None ns fit))) tt);
}

lambda_ended : (ns : List ℕ) (rest : List LinePart) → Ended (lambda_tokens ns ++ rest)
lambda_ended ns rest = subst Ended (sym (append_assoc (map Field (lambda_fields ns)) (Newline ∷ []) rest)) (ended-append (map Field (lambda_fields ns)) rest)

-- ---- lines of entries

abbrev pub entry_tokens : Entry → List LinePart
entry_tokens e = parts_of_line (entry_line e)

init_plain : IsPlain (codes "init")
init_plain = plain_word (codes "init") refl

triple_plain : IsPlain (codes "triple")
triple_plain = plain_word (codes "triple") refl

post_plain : IsPlain (codes "post")
post_plain = plain_word (codes "post") refl

pre_plain : IsPlain (codes "pre")
pre_plain = plain_word (codes "pre") refl

post_exact : Exact (leaf_at (atom_in_field ANY_THREAD)) (λ q. Field (atom_text q) ∷ []) (AtomHasSpelling ANY_THREAD) Always
post_exact = leaf_exact (atom_in_field ANY_THREAD) atom_text (AtomHasSpelling ANY_THREAD) any_atom

initial_found : (at : Position) → Finds (initial_at at) (λ y. (at.tokens ≡ entry_tokens y.0 ++ y.1.tokens) × EntryHasSpelling y.0)
unfolding initial_at
initial_found at =
    found_bind _ _ _ _ ((line_exact (codes "init") init_plain).found at) (λ w p.
    found_bind _ _ _ _ (number_exact.found w.1) (λ n q.
    found_bind _ _ _ _ (lambda_found n.1) (λ ns r.
    found_end _ _ (
      p.0 ∙ ap (λ (ts : List LinePart). Field (codes "init") ∷ ts) (q.0 ∙ ap (λ (ts : List LinePart). Field (decimal n.0) ∷ ts) r.0),
      record { predicate = q.1; lambda = r.1 },
    ))))

initial_again : (at : Position) (i : Initial) (rest : List LinePart) → InitialHasSpelling i → at.tokens ≡ entry_tokens (OfInitial i) ++ rest → Gets (initial_at at) (λ y. (y.0 ≡ OfInitial i) × (y.1.tokens ≡ rest))
unfolding initial_at
initial_again at i rest fit e =
    let after : List LinePart = lambda_tokens i.lambda ++ rest in
    gets_bind _ _ _ _ ((line_exact (codes "init") init_plain).again at tt (Field (decimal i.predicate) ∷ after) tt e (lambda_ended i.lambda rest)) (λ w p.
    gets_bind _ _ _ _ (number_exact.again w.1 i.predicate after fit.predicate p.1 tt) (λ n q.
    gets_bind _ _ _ _ (lambda_again n.1 i.lambda rest fit.lambda q.1 tt) (λ ns r.
    gets_end _ _ (ap₂ (λ (m : ℕ) (ms : List ℕ). let j : Initial = record { predicate = m; lambda = ms } in OfInitial j) q.0 r.0, r.1))))

abbrev triple : ℕ → Atom → Before → List ℕ → Triple
triple command post before lambda = record { pre = before.atoms; command = command; post = post; lambda = lambda; ascends = before.ascends }

-- what follows the atoms before
abbrev triple_rest : Triple → List LinePart → List LinePart
triple_rest t rest = member_tokens atom_text t.pre ++ (lambda_tokens t.lambda ++ rest)

triple_split : (t : Triple) (rest : List LinePart) → entry_tokens (OfTriple t) ++ rest ≡ Field (codes "triple") ∷ (Field (decimal t.command) ∷ (Field (codes "post") ∷ (Field (atom_text t.post) ∷ (Field (codes "pre") ∷ triple_rest t rest))))
triple_split t rest =
    ap (λ (ts : List LinePart). Field (codes "triple") ∷ (Field (decimal t.command) ∷ (Field (codes "post") ∷ (Field (atom_text t.post) ∷ (Field (codes "pre") ∷ ts)))))
    (append_assoc (map Field (map atom_text t.pre ++ lambda_fields t.lambda)) (Newline ∷ []) rest
    ∙ fields_then atom_text t.pre (lambda_fields t.lambda) (Newline ∷ rest)
    ∙ ap (λ (ts : List LinePart). member_tokens atom_text t.pre ++ ts) (sym (append_assoc (map Field (lambda_fields t.lambda)) (Newline ∷ []) rest)))

triple_found : (at : Position) → Finds (triple_at at) (λ y. (at.tokens ≡ entry_tokens y.0 ++ y.1.tokens) × EntryHasSpelling y.0)
unfolding triple_at
triple_found at =
    found_bind _ _ _ _ ((line_exact (codes "triple") triple_plain).found at) (λ w p.
    found_bind _ _ _ _ (number_exact.found w.1) (λ n q.
    found_bind _ _ _ _ ((word_exact (codes "post") post_plain).found n.1) (λ o r.
    found_bind _ _ _ _ (post_exact.found o.1) (λ a s.
    found_bind _ _ _ _ ((word_exact (codes "pre") pre_plain).found a.1) (λ b t.
    found_bind _ _ _ _ (before_exact.found b.1) (λ c u.
    found_bind _ _ _ _ (lambda_found c.1) (λ ns v.
    found_end _ _ (
      p.0 ∙ ap (λ (ts : List LinePart). Field (codes "triple") ∷ ts) (q.0 ∙ ap (λ (ts : List LinePart). Field (decimal n.0) ∷ ts) (r.0 ∙ ap (λ (ts : List LinePart). Field (codes "post") ∷ ts)
          (s.0 ∙ ap (λ (ts : List LinePart). Field (atom_text a.0) ∷ ts) (t.0 ∙ ap (λ (ts : List LinePart). Field (codes "pre") ∷ ts) (u.0 ∙ ap (λ (ts : List LinePart). member_tokens atom_text c.0.atoms ++ ts) v.0)))))
          ∙ sym (triple_split (triple n.0 a.0 c.0 ns.0) ns.1.tokens),
      record { command = q.1; post = s.1; few = u.1.few; pre = u.1.atoms; lambda = v.1 },
    ))))))))

triple_ended : (t : Triple) (rest : List LinePart) → Ended (triple_rest t rest)
triple_ended t rest = ended_after (member_tokens atom_text t.pre) (lambda_tokens t.lambda ++ rest) (lambda_ended t.lambda rest)
  where
    ended_after : (xs ts : List LinePart) → Ended ts → Ended (xs ++ ts)
    ended_after [] ts h = h
    ended_after (Field f ∷ xs) ts h = ended_after xs ts h
    ended_after (Newline ∷ xs) ts h = refl

triple_again : (at : Position) (t : Triple) (rest : List LinePart) → TripleHasSpelling t → at.tokens ≡ entry_tokens (OfTriple t) ++ rest → Gets (triple_at at) (λ y. (y.0 ≡ OfTriple t) × (y.1.tokens ≡ rest))
unfolding triple_at
triple_again at t rest fit e =
    let after : List LinePart = triple_rest t rest in
    let before : Before = record { atoms = t.pre; ascends = t.ascends } in
    gets_bind _ _ _ _ ((line_exact (codes "triple") triple_plain).again at tt (Field (decimal t.command) ∷ (Field (codes "post") ∷ (Field (atom_text t.post) ∷ (Field (codes "pre") ∷ after)))) tt (e ∙ triple_split t rest) (triple_ended t rest)) (λ w p.
    gets_bind _ _ _ _ (number_exact.again w.1 t.command (Field (codes "post") ∷ (Field (atom_text t.post) ∷ (Field (codes "pre") ∷ after))) fit.command p.1 tt) (λ n q.
    gets_bind _ _ _ _ ((word_exact (codes "post") post_plain).again n.1 tt (Field (atom_text t.post) ∷ (Field (codes "pre") ∷ after)) tt q.1 tt) (λ o r.
    gets_bind _ _ _ _ (post_exact.again o.1 t.post (Field (codes "pre") ∷ after) fit.post r.1 tt) (λ a s.
    gets_bind _ _ _ _ ((word_exact (codes "pre") pre_plain).again a.1 tt after tt s.1 tt) (λ b u.
    gets_bind _ _ _ _ (before_exact.again b.1 before (lambda_tokens t.lambda ++ rest) (record { few = fit.few; atoms = fit.pre }) u.1 refl) (λ c v.
    gets_bind _ _ _ _ (lambda_again c.1 t.lambda rest fit.lambda v.1 tt) (λ ns x.
    gets_end _ _ (same_but_multipliers (OfTriple (triple n.0 a.0 c.0 ns.0)) (OfTriple t) (ap (λ (d : Before). d.atoms) v.0, q.0, s.0) x.0, x.1))))))))

entry_found : (at : Position) → Finds (entry_at at) (λ y. (at.tokens ≡ entry_tokens y.0 ++ y.1.tokens) × EntryHasSpelling y.0)
unfolding entry_at
entry_found at = by_test (begins_at (codes "init") at)
  where
    by_test : (t : Bool) → Finds (if t then initial_at at else triple_at at) (λ y. (at.tokens ≡ entry_tokens y.0 ++ y.1.tokens) × EntryHasSpelling y.0)
    by_test true = initial_found at
    by_test false = triple_found at

entry_again : (at : Position) (x : Entry) (rest : List LinePart) → EntryHasSpelling x → at.tokens ≡ entry_tokens x ++ rest → Unit {0} → Gets (entry_at at) (λ y. (y.0 ≡ x) × (y.1.tokens ≡ rest))
unfolding entry_at
entry_again at (OfInitial i) rest fit e h =
    let begins : begins_at (codes "init") at ≡ true = ap (begins_from (codes "init")) e ∙ lambda_ended i.lambda rest in
    let one = initial_again at i rest fit e in
    record { value = one.value; ok = cond-true _ _ _ begins ∙ one.ok; is = one.is }
entry_again at (OfTriple t) rest fit e h =
    let begins : begins_at (codes "init") at ≡ false = ap (begins_from (codes "init")) e in
    let one = triple_again at t rest fit e in
    record { value = one.value; ok = cond-false _ _ _ begins ∙ one.ok; is = one.is }

entry_clean : (x : Entry) → EntryHasSpelling x → IsClean (entry_tokens x)
entry_clean (OfInitial i) fit = (init_plain, IsClean-append (Field (decimal i.predicate) ∷ []) (lambda_tokens i.lambda) (number_exact.clean i.predicate fit.predicate) (lambda_exact.clean i.lambda fit.lambda))
entry_clean (OfTriple t) fit =
    let before : Before = record { atoms = t.pre; ascends = t.ascends } in
    let multipliers : IsClean (map Field (lambda_fields t.lambda)) = (by_plain, last_clean decimal t.lambda (multipliers_exact.clean t.lambda (to_chain None t.lambda fit.lambda))) in
    let rest : IsClean (map Field (map atom_text t.pre ++ lambda_fields t.lambda) ++ Newline ∷ []) =
    IsClean-append (map Field (map atom_text t.pre ++ lambda_fields t.lambda)) (Newline ∷ []) (fields_clean atom_text t.pre (lambda_fields t.lambda) (before_exact.clean before (record { few = fit.few; atoms = fit.pre })) multipliers) tt in
    (triple_plain, (natural32_is_leaf.clean t.command fit.command, (post_plain, (any_atom.clean t.post fit.post, (pre_plain, rest)))))

-- what is read as an entry is spelled so, and an entry with a spelling is read from it
pub entry_exact : Exact entry_at entry_tokens EntryHasSpelling Always
entry_exact = record { found = entry_found; again = entry_again; clean = entry_clean }
