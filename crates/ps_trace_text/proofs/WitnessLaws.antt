-- The two laws of witnesses: what is read is spelled so, and what is spelled so is read.
use Rattle.std.proofs.Common.{◌≡◌, Bool, true, false, ◌==◌, ℕ, zero, suc, ◌+◌, ℤ, ◌^◌, ◌<◌, ◌≤◌, List, [], ◌∷◌, ◌++◌, map, length, refl, sym, ap, ap₂, subst, ◌∙◌, arith, append_assoc, FitsSigned, if◌then◌else◌, eq-eqb}
use Rattle.std.specs.Prelude.{Option, Some, None, Result, Ok, Err, IfOk, decimal, codes}
use Rattle.std.specs.Fmt.{signed_decimal}
use Rattle.std.specs.Int.{w128}
use Rattle.std.specs.List.{flat_map, AllByRecursion}
use Rattle.std.proofs.lemmas.Bool.{eqb-true}
use Rattle.std.proofs.lemmas.List.{append-nil}
use Rattle.ps_lines.specs.declared.form_fault.FormFault.{FormFault}
use Rattle.ps_lines.specs.declared.form_name.FormName.{FormName}
use Rattle.ps_lines.specs.declared.form_name.FormName.TheVariants as name
use Rattle.ps_lines.specs.declared.until.Until.TheVariants.{LineEnd}
use Rattle.ps_lines.specs.Tokens.{LinePart, Field, Newline, after_blank, line_bytes, text_bytes, parts_of_line, parts_of_text, has_newline}
use Rattle.ps_lines.specs.Reading.{Position, begins_from, end_at, leaf_at, integer, list_at, natural32, while_at}
use Rattle.ps_lines.specs.Until.{goes}
use Rattle.ps_lines.proofs.Bytes.{IsPlain, IsClean, AreClean, IsClean-append, plain_word, spread_mapped, flat_map-map}
use Rattle.ps_lines.proofs.Decimals.{integer_is_leaf, natural32_is_leaf}
use Rattle.ps_lines.proofs.Exact.{Finds, Gets, found_bind, found_end, gets_bind, gets_end, Exact, Always, Ended, IsLeaf, leaf_exact, line_exact, word_exact, end_exact, ended-append}
use Rattle.ps_lines.proofs.Forms.{Chain, cons_is, IsMember, list_exact, member_tokens, only_exact, Stops, header_tokens, header_exact, done_found, done_again, while_exact, IsFormat}
use Rattle.ps_trace.specs.declared.step.Step.{Step}
use Rattle.ps_trace.specs.declared.witness.Witness.{Witness}
use Rattle.ps_trace_text.specs.WitnessReading.{all_locals_at, due_thread, globals_at, if_due, locals_at, next_thread, step_at, values_at, version_at, witness_at}
use Rattle.ps_trace_text.specs.WitnessSpelling.{globals_line, locals_line, locals_lines, step_line, StepFits, ValuesFit, witness_lines, WitnessFits}

-- ---- values up to the end of a line

abbrev values_tokens : List ℤ → List LinePart
values_tokens vs = map Field (map signed_decimal vs) ++ Newline ∷ []

abbrev FitsNext : Option ℤ → ℤ → Type 0
FitsNext _ n = FitsSigned w128 n

value_member : IsMember (goes LineEnd) (λ (_ : Option ℤ). integer) signed_decimal FitsNext
value_member = record {
  found = λ state f t. integer_is_leaf.found f;
  again = λ state x fit. integer_is_leaf.again x fit;
  goes_on = λ state x fit. refl;
  clean = λ state x fit. integer_is_leaf.clean x fit;
}

of_chain : (state : Option ℤ) (vs : List ℤ) → Chain (λ (_ : Option ℤ) (x : ℤ). Some x) FitsNext state vs → ValuesFit vs
of_chain state [] h = tt
of_chain state (v ∷ vs) h = (h.0, of_chain (Some v) vs h.1)

to_chain : (state : Option ℤ) (vs : List ℤ) → ValuesFit vs → Chain (λ (_ : Option ℤ) (x : ℤ). Some x) FitsNext state vs
to_chain state [] h = tt
to_chain state (v ∷ vs) h = (h.0, to_chain (Some v) vs h.1)

mapped : (vs : List ℤ) → member_tokens signed_decimal vs ≡ map Field (map signed_decimal vs)
mapped [] = refl
mapped (v ∷ vs) = ap (λ (ts : List LinePart). Field (signed_decimal v) ∷ ts) (mapped vs)

values_list : Exact (list_at (goes LineEnd) (λ (_ : Option ℤ). integer) (λ (_ : Option ℤ) (x : ℤ). Some x) None) (member_tokens signed_decimal) (Chain (λ (_ : Option ℤ) (x : ℤ). Some x) FitsNext None) (Stops (goes LineEnd))
values_list = list_exact (goes LineEnd) (λ (_ : Option ℤ). integer) (λ (_ : Option ℤ) (x : ℤ). Some x) signed_decimal FitsNext value_member None

values_found : (at : Position) → Finds (values_at at) (λ y. (at.tokens ≡ values_tokens y.0 ++ y.1.tokens) × ValuesFit y.0)
unfolding values_at
values_found at =
    found_bind _ _ _ _ (values_list.found at) (λ vs p.
    found_bind _ _ _ _ (end_exact.found vs.1) (λ e q.
    found_end _ _ (
      p.0 ∙ ap (λ (ts : List LinePart). ts ++ vs.1.tokens) (mapped vs.0) ∙ ap (λ (ts : List LinePart). map Field (map signed_decimal vs.0) ++ ts) q.0
          ∙ sym (append_assoc (map Field (map signed_decimal vs.0)) (Newline ∷ []) e.1.tokens),
      of_chain None vs.0 p.1,
    )))

values_again : (at : Position) (vs : List ℤ) (rest : List LinePart) → ValuesFit vs → at.tokens ≡ values_tokens vs ++ rest → Unit {0} → Gets (values_at at) (λ y. (y.0 ≡ vs) × (y.1.tokens ≡ rest))
unfolding values_at
values_again at vs rest fit e h =
    gets_bind _ _ _ _ (values_list.again at vs (Newline ∷ rest) (to_chain None vs fit)
    (e ∙ append_assoc (map Field (map signed_decimal vs)) (Newline ∷ []) rest ∙ ap (λ (ts : List LinePart). ts ++ Newline ∷ rest) (sym (mapped vs))) tt) (λ ws p.
    gets_bind _ _ _ _ (end_exact.again ws.1 tt rest tt p.1 tt) (λ e' q.
    gets_end _ _ (p.0, q.1)))

values_exact : Exact values_at values_tokens ValuesFit Always
values_exact = record {
  found = values_found;
  again = values_again;
  clean = λ vs fit. IsClean-append (map Field (map signed_decimal vs)) (Newline ∷ []) (subst IsClean (mapped vs) (values_list.clean vs (to_chain None vs fit))) tt;
}

-- what stands after values is ended
values_end : (vs : List ℤ) (rest : List LinePart) → Ended (values_tokens vs ++ rest)
values_end vs rest = subst Ended (sym (append_assoc (map Field (map signed_decimal vs)) (Newline ∷ []) rest)) (ended-append (map Field (map signed_decimal vs)) rest)

-- ---- words and threads

witness_plain : IsPlain (codes "witness")
witness_plain = plain_word (codes "witness") refl

one_plain : IsPlain (codes "1")
one_plain = plain_word (codes "1") refl

globals_plain : IsPlain (codes "globals")
globals_plain = plain_word (codes "globals") refl

locals_plain : IsPlain (codes "locals")
locals_plain = plain_word (codes "locals") refl

step_plain : IsPlain (codes "step")
step_plain = plain_word (codes "step") refl

end_plain : IsPlain (codes "end")
end_plain = plain_word (codes "end") refl

threads_plain : IsPlain (codes "threads")
threads_plain = plain_word (codes "threads") refl

number_exact : Exact (leaf_at natural32) (λ n. Field (decimal n) ∷ []) (λ n. n < 2 ^ 32) Always
number_exact = leaf_exact natural32 decimal (λ n. n < 2 ^ 32) natural32_is_leaf

-- the number that is due
abbrev IsDue : Option ℕ → ℕ → Type 0
IsDue before n = (n ≡ next_thread before) × (n < 2 ^ 32)

due_is_leaf : (before : Option ℕ) → IsLeaf (due_thread before) decimal (IsDue before)
due_is_leaf before = record {
  found = λ f. from f (natural32 f) (natural32_is_leaf.found f);
  again = λ n fit. ap (if_due (next_thread before)) (natural32_is_leaf.again n fit.1) ∙ ap (λ (b : Bool). if b then Ok n else Err name.Number) (eq-eqb n (next_thread before) fit.0);
  clean = λ n fit. natural32_is_leaf.clean n fit.1;
}
  where
    from : (f : List ℕ) (r : Result ℕ FormName) → IfOk r (λ (n : ℕ). (f ≡ decimal n) × (n < 2 ^ 32)) → IfOk (if_due (next_thread before) r) (λ (n : ℕ). (f ≡ decimal n) × IsDue before n)
    from f (Err what) h = tt
    from f (Ok n) h = at (n == next_thread before) refl
      where
        at : (t : Bool) → (n == next_thread before) ≡ t → IfOk {E = FormName} (if t then Ok n else Err name.Number) (λ (m : ℕ). (f ≡ decimal m) × IsDue before m)
        at true t = (h.0, (eqb-true n (next_thread before) t, h.1))
        at false t = tt

found_map : {A : Type 0} (r : Result A FormFault) (Q R : A → Type 0) → Finds r Q → ((x : A) → Q x → R x) → Finds r R
found_map (Ok x) Q R h f = record { is = f x h.is }
found_map (Err e) Q R h f = record { is = tt }

gets_map : {A : Type 0} (r : Result A FormFault) (Q R : A → Type 0) → Gets r Q → ((x : A) → Q x → R x) → Gets r R
gets_map r Q R h f = record { value = h.value; ok = h.ok; is = f h.value h.is }

-- ---- lines

abbrev version_tokens : List LinePart
version_tokens = Field (codes "witness") ∷ (Field (codes "1") ∷ (Newline ∷ []))

version_found : (at : Position) → Finds (version_at at) (λ y. at.tokens ≡ version_tokens ++ y.1.tokens)
unfolding version_at
version_found at =
    found_bind _ _ _ _ ((line_exact (codes "witness") witness_plain).found at) (λ w p.
    found_bind _ _ _ _ ((word_exact (codes "1") one_plain).found w.1) (λ v q.
    found_map (end_at v.1) _ _ (end_exact.found v.1) (λ e r.
    p.0 ∙ ap (λ (ts : List LinePart). Field (codes "witness") ∷ ts) (q.0 ∙ ap (λ (ts : List LinePart). Field (codes "1") ∷ ts) r.0))))

version_again : (at : Position) (rest : List LinePart) → at.tokens ≡ version_tokens ++ rest → Gets (version_at at) (λ y. y.1.tokens ≡ rest)
unfolding version_at
version_again at rest e =
    gets_bind _ _ _ _ ((line_exact (codes "witness") witness_plain).again at tt (Field (codes "1") ∷ Newline ∷ rest) tt e (ended-append (Field (codes "1") ∷ []) rest)) (λ w p.
    gets_bind _ _ _ _ ((word_exact (codes "1") one_plain).again w.1 tt (Newline ∷ rest) tt p.1 tt) (λ v q.
    gets_map (end_at v.1) _ _ (end_exact.again v.1 tt rest tt q.1 tt) (λ e' r. r.1)))

globals_found : (at : Position) → Finds (globals_at at) (λ y. (at.tokens ≡ parts_of_line (globals_line y.0) ++ y.1.tokens) × ValuesFit y.0)
unfolding globals_at
globals_found at =
    found_bind _ _ _ _ ((line_exact (codes "globals") globals_plain).found at) (λ w p.
    found_map (values_at w.1) _ _ (values_found w.1) (λ y q. (p.0 ∙ ap (λ (ts : List LinePart). Field (codes "globals") ∷ ts) q.0, q.1)))

globals_again : (at : Position) (vs : List ℤ) (rest : List LinePart) → ValuesFit vs → at.tokens ≡ parts_of_line (globals_line vs) ++ rest → Unit {0} → Gets (globals_at at) (λ y. (y.0 ≡ vs) × (y.1.tokens ≡ rest))
unfolding globals_at
globals_again at vs rest fit e h =
    gets_bind _ _ _ _ ((line_exact (codes "globals") globals_plain).again at tt (values_tokens vs ++ rest) tt e (values_end vs rest)) (λ w p.
    values_again w.1 vs rest fit p.1 tt)

globals_exact : Exact globals_at (λ vs. parts_of_line (globals_line vs)) ValuesFit Always
globals_exact = record { found = globals_found; again = globals_again; clean = λ vs fit. (globals_plain, values_exact.clean vs fit) }

locals_found : (before : Option ℕ) (at : Position) → Finds (locals_at before at) (λ y. (at.tokens ≡ parts_of_line (locals_line (next_thread before) y.0) ++ y.1.tokens) × ValuesFit y.0)
unfolding locals_at
locals_found before at =
    found_bind _ _ _ _ ((line_exact (codes "locals") locals_plain).found at) (λ w p.
    found_bind _ _ _ _ ((leaf_exact (due_thread before) decimal (IsDue before) (due_is_leaf before)).found w.1) (λ t q.
    found_map (values_at t.1) _ _ (values_found t.1) (λ y r.
    (p.0 ∙ ap (λ (ts : List LinePart). Field (codes "locals") ∷ ts) (q.0 ∙ ap₂ (λ (n : ℕ) (ts : List LinePart). Field (decimal n) ∷ ts) q.1.0 r.0), r.1))))

locals_again : (before : Option ℕ) (at : Position) (vs : List ℤ) (rest : List LinePart) → next_thread before < 2 ^ 32 → ValuesFit vs → at.tokens ≡ parts_of_line (locals_line (next_thread before) vs) ++ rest →
    Gets (locals_at before at) (λ y. (y.0 ≡ vs) × (y.1.tokens ≡ rest))
unfolding locals_at
locals_again before at vs rest small fit e =
    gets_bind _ _ _ _ ((line_exact (codes "locals") locals_plain).again at tt (Field (decimal (next_thread before)) ∷ (values_tokens vs ++ rest)) tt e (values_end vs rest)) (λ w p.
    gets_bind _ _ _ _ ((leaf_exact (due_thread before) decimal (IsDue before) (due_is_leaf before)).again w.1 (next_thread before) (values_tokens vs ++ rest) (refl, small) p.1 tt) (λ t q.
    values_again t.1 vs rest fit q.1 tt))

abbrev lines_tokens : ℕ → List (List ℤ) → List LinePart
lines_tokens k [] = []
lines_tokens k (vs ∷ vss) = parts_of_line (locals_line k vs) ++ lines_tokens (suc k) vss

plus_one : (n : ℕ) → n + 1 ≡ suc n
plus_one n = omega arith

all_locals_found : (before : Option ℕ) (n : ℕ) (at : Position) →
    Finds (all_locals_at before n at) (λ y. (at.tokens ≡ lines_tokens (next_thread before) y.0 ++ y.1.tokens) × ((length y.0 ≡ n) × AllByRecursion ValuesFit y.0))
unfolding all_locals_at
all_locals_found before zero at = record { is = (refl, (refl, tt)) }
all_locals_found before (suc n) at =
    found_bind _ _ _ _ (locals_found before at) (λ x p.
    found_bind _ _ _ _ (all_locals_found (Some (next_thread before)) n x.1) (λ xs q.
    found_end _ _ (
      p.0 ∙ ap (λ (ts : List LinePart). parts_of_line (locals_line (next_thread before) x.0) ++ ts) (q.0 ∙ ap (λ (k : ℕ). lines_tokens k xs.0 ++ xs.1.tokens) (plus_one (next_thread before)))
          ∙ sym (append_assoc (parts_of_line (locals_line (next_thread before) x.0)) (lines_tokens (suc (next_thread before)) xs.0) xs.1.tokens),
      (ap suc q.1.0, (p.1, q.1.1)),
    )))

all_locals_again : (before : Option ℕ) (vss : List (List ℤ)) (at : Position) (rest : List LinePart) → next_thread before + length vss ≤ 4096 → AllByRecursion ValuesFit vss → at.tokens ≡ lines_tokens (next_thread before) vss ++ rest →
    Gets (all_locals_at before (length vss) at) (λ y. (y.0 ≡ vss) × (y.1.tokens ≡ rest))
unfolding all_locals_at
all_locals_again before [] at rest few fit e = record { value = ([], at); ok = refl; is = (refl, e) }
all_locals_again before (vs ∷ vss) at rest few fit e =
    let small : next_thread before < 2 ^ 32 = omega (arith, few) in
    let fewer : next_thread (Some (next_thread before)) + length vss ≤ 4096 = omega (arith, few) in
    gets_bind _ _ _ _ (locals_again before at vs (lines_tokens (suc (next_thread before)) vss ++ rest) small fit.0
    (e ∙ append_assoc (parts_of_line (locals_line (next_thread before) vs)) (lines_tokens (suc (next_thread before)) vss) rest)) (λ y p.
    gets_bind _ _ _ _ (all_locals_again (Some (next_thread before)) vss y.1 rest fewer fit.1 (p.1 ∙ ap (λ (k : ℕ). lines_tokens k vss ++ rest) (sym (plus_one (next_thread before))))) (λ ys q.
    gets_end _ _ (cons_is y.0 vs ys.0 vss p.0 q.0, q.1)))

lines_clean : (k : ℕ) (vss : List (List ℤ)) → k + length vss ≤ 4096 → AllByRecursion ValuesFit vss → IsClean (lines_tokens k vss)
lines_clean k [] few fit = tt
lines_clean k (vs ∷ vss) few fit =
    IsClean-append (parts_of_line (locals_line k vs)) (lines_tokens (suc k) vss)
    (locals_plain, IsClean-append (Field (decimal k) ∷ []) (values_tokens vs) (number_exact.clean k (omega (arith, few))) (values_exact.clean vs fit.0))
    (lines_clean (suc k) vss (omega (arith, few)) fit.1)

lines_are : (k : ℕ) (vss : List (List ℤ)) (more : List (List ℕ × List (List ℕ))) → parts_of_text (locals_lines k vss ++ more) ≡ lines_tokens k vss ++ parts_of_text more
lines_are k [] more = refl
lines_are k (vs ∷ vss) more =
    ap (λ (ts : List LinePart). parts_of_line (locals_line k vs) ++ ts) (lines_are (suc k) vss more)
    ∙ sym (append_assoc (parts_of_line (locals_line k vs)) (lines_tokens (suc k) vss) (parts_of_text more))

-- ---- steps

abbrev step_tokens : Step → List LinePart
step_tokens s = parts_of_line (step_line s)

step_found : (at : Position) → Finds (step_at at) (λ y. (at.tokens ≡ step_tokens y.0 ++ y.1.tokens) × StepFits y.0)
unfolding step_at
step_found at =
    found_bind _ _ _ _ ((line_exact (codes "step") step_plain).found at) (λ w p.
    found_bind _ _ _ _ (number_exact.found w.1) (λ t q.
    found_bind _ _ _ _ (values_found t.1) (λ vs r.
    found_end _ _ (p.0 ∙ ap (λ (ts : List LinePart). Field (codes "step") ∷ ts) (q.0 ∙ ap (λ (ts : List LinePart). Field (decimal t.0) ∷ ts) r.0), record { thread = q.1; choices = r.1 }))))

step_again : (at : Position) (s : Step) (rest : List LinePart) → StepFits s → at.tokens ≡ step_tokens s ++ rest → Unit {0} → Gets (step_at at) (λ y. (y.0 ≡ s) × (y.1.tokens ≡ rest))
unfolding step_at
step_again at s rest fit e h =
    gets_bind _ _ _ _ ((line_exact (codes "step") step_plain).again at tt (Field (decimal s.thread) ∷ (values_tokens s.choices ++ rest)) tt e (values_end s.choices rest)) (λ w p.
    gets_bind _ _ _ _ (number_exact.again w.1 s.thread (values_tokens s.choices ++ rest) fit.thread p.1 tt) (λ t q.
    gets_bind _ _ _ _ (values_again t.1 s.choices rest fit.choices q.1 tt) (λ vs r.
    gets_end _ _ (ap₂ (λ (a : ℕ) (b : List ℤ). let m : Step = record { thread = a; choices = b } in m) q.0 r.0, r.1))))

step_exact : Exact step_at step_tokens StepFits Always
step_exact = record {
  found = step_found;
  again = step_again;
  clean = λ s fit. (step_plain, IsClean-append (Field (decimal s.thread) ∷ []) (values_tokens s.choices) (number_exact.clean s.thread fit.thread) (values_exact.clean s.choices fit.choices));
}

steps_begin : (s : Step) (rest : List LinePart) → StepFits s → begins_from (codes "step") (step_tokens s ++ rest) ≡ true
steps_begin s rest fit = values_end s.choices rest

steps_exact : Exact (while_at (codes "step") step_at 1048576) (flat_map step_tokens) (λ ss. (length ss ≤ 1048576) × AllByRecursion StepFits ss) (λ rest. begins_from (codes "step") rest ≡ false)
steps_exact = while_exact (codes "step") step_at step_tokens StepFits step_exact steps_begin 1048576

-- ---- the whole text

abbrev end_tokens : List LinePart
end_tokens = Field (codes "end") ∷ (Newline ∷ [])

abbrev rest_tokens : List (List ℤ) → List Step → List LinePart
rest_tokens vss ss = lines_tokens 0 vss ++ (flat_map step_tokens ss ++ end_tokens)

abbrev all_tokens : ℕ → List ℤ → List (List ℤ) → List Step → List LinePart
all_tokens n vs vss ss = version_tokens ++ (header_tokens (codes "threads") n ++ (parts_of_line (globals_line vs) ++ rest_tokens vss ss))

witness_tokens : (w : Witness) → parts_of_text (witness_lines w) ≡ all_tokens (length w.locals) w.globals w.locals w.steps
witness_tokens w =
    ap (λ (ts : List LinePart). version_tokens ++ (header_tokens (codes "threads") (length w.locals) ++ (parts_of_line (globals_line w.globals) ++ ts)))
    (lines_are 0 w.locals (map step_line w.steps ++ ((codes "end", []) ∷ []))
    ∙ ap (λ (ts : List LinePart). lines_tokens 0 w.locals ++ ts) (spread_mapped parts_of_line step_line w.steps ((codes "end", []) ∷ [])))

witness_found : (at : Position) → Finds (witness_at at) (λ w. (at.tokens ≡ parts_of_text (witness_lines w)) × WitnessFits w)
unfolding witness_at
witness_found at =
    found_bind _ _ _ _ (version_found at) (λ v o.
    found_bind _ _ _ _ ((header_exact (codes "threads") 4096 threads_plain (omega arith)).found v.1) (λ n p.
    found_bind _ _ _ _ (globals_found n.1) (λ gs q.
    found_bind _ _ _ _ (all_locals_found None n.0 gs.1) (λ lss r.
    found_bind _ _ _ _ (steps_exact.found lss.1) (λ ss s.
    found_bind _ _ _ _ ((only_exact (codes "end") end_plain).found ss.1) (λ e t.
    found_bind _ _ _ _ (done_found e.1) (λ d u.
    let w : Witness = record { globals = gs.0; locals = lss.0; steps = ss.0 } in
    let last : lss.1.tokens ≡ flat_map step_tokens ss.0 ++ end_tokens = s.0 ∙ ap (λ (ts : List LinePart). flat_map step_tokens ss.0 ++ ts) (t.0 ∙ ap (λ (ts : List LinePart). end_tokens ++ ts) u) in
    let all : at.tokens ≡ all_tokens n.0 gs.0 lss.0 ss.0 =
    o ∙ ap (λ (ts : List LinePart). version_tokens ++ ts) (p.0 ∙ ap (λ (ts : List LinePart). header_tokens (codes "threads") n.0 ++ ts)
    (q.0 ∙ ap (λ (ts : List LinePart). parts_of_line (globals_line gs.0) ++ ts) (r.0 ∙ ap (λ (ts : List LinePart). lines_tokens 0 lss.0 ++ ts) last))) in
    found_end _ _ (
      all ∙ ap (λ k. all_tokens k gs.0 lss.0 ss.0) (sym r.1.0) ∙ sym (witness_tokens w),
      record { few_threads = omega (arith, r.1.0, p.1); few_steps = s.1.0; globals = q.1; locals = r.1.1; steps = s.1.1 },
    ))))))))

witness_again : (at : Position) (w : Witness) → WitnessFits w → at.tokens ≡ parts_of_text (witness_lines w) → Gets (witness_at at) (λ x. x ≡ w)
unfolding witness_at
witness_again at w fit e =
    let make : List ℤ → List (List ℤ) → List Step → Witness = λ gs lss ss. record { globals = gs; locals = lss; steps = ss } in
    gets_bind _ _ _ _ (version_again at (header_tokens (codes "threads") (length w.locals) ++ (parts_of_line (globals_line w.globals) ++ rest_tokens w.locals w.steps)) (e ∙ witness_tokens w)) (λ v o.
    gets_bind _ _ _ _ ((header_exact (codes "threads") 4096 threads_plain (omega arith)).again v.1 (length w.locals) (parts_of_line (globals_line w.globals) ++ rest_tokens w.locals w.steps) fit.few_threads o tt) (λ n p.
    gets_bind _ _ _ _ (globals_again n.1 w.globals (rest_tokens w.locals w.steps) fit.globals p.1 tt) (λ gs q.
    gets_bind _ _ _ _ (subst (λ (m : ℕ). Gets (all_locals_at None m gs.1) (λ y. (y.0 ≡ w.locals) × (y.1.tokens ≡ flat_map step_tokens w.steps ++ end_tokens))) (sym p.0)
    (all_locals_again None w.locals gs.1 (flat_map step_tokens w.steps ++ end_tokens) (omega (arith, fit.few_threads)) fit.locals q.1)) (λ lss r.
    gets_bind _ _ _ _ (steps_exact.again lss.1 w.steps end_tokens (fit.few_steps, fit.steps) r.1 refl) (λ ss s.
    gets_bind _ _ _ _ ((only_exact (codes "end") end_plain).again ss.1 tt [] tt s.1 tt) (λ e' t.
    gets_bind _ _ (λ _. Unit {0}) _ (record { value = tt; ok = done_again e'.1 t.1; is = tt }) (λ d u.
    gets_end _ _ (ap (λ (x : List ℤ). make x lss.0 ss.0) q.0 ∙ ap (λ (x : List (List ℤ)). make w.globals x ss.0) r.0 ∙ ap (make w.globals w.locals) s.0))))))))

witness_clean : (w : Witness) → WitnessFits w → AreClean (witness_lines w)
witness_clean w fit =
    let rest : IsClean (rest_tokens w.locals w.steps) =
    IsClean-append (lines_tokens 0 w.locals) (flat_map step_tokens w.steps ++ end_tokens) (lines_clean 0 w.locals (omega (arith, fit.few_threads)) fit.locals)
    (IsClean-append (flat_map step_tokens w.steps) end_tokens (steps_exact.clean w.steps (fit.few_steps, fit.steps)) (end_plain, tt)) in
    let head : IsClean (header_tokens (codes "threads") (length w.locals) ++ (parts_of_line (globals_line w.globals) ++ rest_tokens w.locals w.steps)) =
    IsClean-append (header_tokens (codes "threads") (length w.locals)) (parts_of_line (globals_line w.globals) ++ rest_tokens w.locals w.steps)
    ((header_exact (codes "threads") 4096 threads_plain (omega arith)).clean (length w.locals) fit.few_threads)
    (IsClean-append (parts_of_line (globals_line w.globals)) (rest_tokens w.locals w.steps) (globals_exact.clean w.globals fit.globals) rest) in
    subst IsClean (sym (witness_tokens w)) (witness_plain, (one_plain, head))

pub witness_is_format : IsFormat witness_at witness_lines WitnessFits
witness_is_format = record { found = witness_found; again = witness_again; clean = witness_clean }
