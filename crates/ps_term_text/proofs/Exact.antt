-- The laws of variables, pairs and terms as fields.
use Rattle.std.proofs.Common.{◌≡◌, ◌≢◌, ℕ, ◌≤◌, Bool, true, false, ◌&&◌, List, [], ◌∷◌, ◌++◌, map, Option, Some, None, Result, Ok, Err, refl, sym, ap, subst, ◌∙◌, arith, append_assoc, eqb}
use Rattle.std.specs.Prelude.{ℤ, pos, IfOk, FitsSigned, decimal, option_map, if◌then◌else◌}
use Rattle.std.specs.Fmt.{signed_decimal}
use Rattle.std.specs.Int.{w128}
use Rattle.std.specs.List.{AllByRecursion, flat_map}
use Rattle.std.specs.Ordering.{int_eq}
use Rattle.std.proofs.lemmas.Bool.{and_parts, and_from, cond-true, cond-false, eqb-true, leb-true, le-leb, false_from_ne_true}
use Rattle.std.proofs.lemmas.Bool.Decides.{Decides-int_eq}
use Rattle.std.proofs.lemmas.Option.{none-some, same_Some, cond_some, option_and_then_some}
use Rattle.ps_term.specs.declared.var.Var.{Var}
use Rattle.ps_term.specs.declared.var.Var.TheVariants.{Global, Local, Havoc}
use Rattle.ps_term.specs.declared.term.Term.{Term}
use Rattle.ps_term.specs.Pairs.{IsCanonical, IsBelow}
use Rattle.ps_lines.specs.declared.form_name.FormName.{FormName}
use Rattle.ps_lines.specs.declared.form_name.FormName.TheVariants as name
use Rattle.ps_lines.specs.declared.form_fault.FormFault.{FormFault}
use Rattle.ps_lines.specs.declared.form_end.FormEnd.{FormEnd}
use Rattle.ps_lines.specs.declared.form_end.FormEnd.TheVariants.{Fault, Memory}
use Rattle.ps_lines.proofs.Loop.{read_of, read_is}
use Rattle.ps_lines.specs.Tokens.{LinePart, Field, after_blank}
use Rattle.std.proofs.lemmas.List.{append-nil}
use Rattle.ps_lines.specs.Decimal.{counts_as_decimal, u32_of, i128_of}
use Rattle.ps_lines.specs.Parts.{cut_at}
use Rattle.ps_lines.specs.Reading.{Position, Gives, Tells, leaf_at, list_at, integer}
use Rattle.ps_lines.proofs.Bytes.{IsPlain, IsClean}
use Rattle.ps_lines.proofs.Cutting.{cut_found, cut_again, decimal_free, signed_decimal_free, free_has_none, has_middle}
use Rattle.ps_lines.proofs.Digits.{u32_is, u32_from, i128_is, i128_from}
use Rattle.ps_lines.proofs.Decimals.{decimal-of, decimal-is, signed_decimal-of, signed_decimal-is, decimal_plain, signed_decimal_plain, decimal_counts, signed_counts, integer_is_leaf}
use Rattle.ps_lines.proofs.Exact.{Finds, Gets, found_bind, found_end, gets_bind, gets_end, Exact, Always, leaf_exact}
use Rattle.ps_lines.proofs.Forms.{IsMember, Chain, Stops, member_tokens, list_exact}
use Rattle.ps_term_text.specs.declared.limits.TheConstants.{MOST_NUMBER}
use Rattle.ps_term_text.specs.Spelling.{variable_text, VariableHasSpelling, pair_text, PairHasSpelling, term_fields, TermHasSpelling}
use Rattle.ps_term_text.specs.Reading.{looks_local, looks_variable, in_range, number_of, local_of, variable_in_field, pair_of, comes_after, ordered, pair_from, pair_after, has_star, term_at}

-- ---- numbers of variables

number_is : (f : List ℕ) (n : ℕ) → number_of f ≡ Some n → (f ≡ decimal n) × (n ≤ MOST_NUMBER)
number_is f n e =
    option_and_then_some in_range (u32_of f) n e (λ m whole small.
    let p = cond_some _ _ _ small in
    let q = u32_is f m whole in
    subst (λ (k : ℕ). (f ≡ decimal k) × (k ≤ MOST_NUMBER)) p.1 (decimal-of f m (omega (arith, q.0)) q.1, leb-true _ _ p.0))

number_from : (n : ℕ) → n ≤ MOST_NUMBER → number_of (decimal n) ≡ Some n
number_from n le = rw (u32_from (decimal n) n (omega (arith, le)) (decimal-is n (omega (arith, le)))) (cond-true _ _ _ (le-leb _ _ le))

number_counts : (n : ℕ) → n ≤ MOST_NUMBER → counts_as_decimal (decimal n) ≡ true
number_counts n le = decimal_counts (decimal n) n (decimal-is n (omega (arith, le)))

-- ---- variables

option_map_some : {A B : Type 0} (g : A → B) (o : Option A) (y : B) → option_map g o ≡ Some y → (x : A) × (o ≡ Some x) × (g x ≡ y)
option_map_some g None y e = absurd (none-some y e)
option_map_some g (Some x) y e = (x, refl, same_Some (g x) y e)

local_is : (f : List ℕ) (r : Option (List ℕ × List ℕ)) (x : Var) → ((parts : List ℕ × List ℕ) → r ≡ Some parts → f ≡ parts.0 ++ 64 ∷ parts.1) → local_of r ≡ Some x → (108 ∷ f ≡ variable_text x) × VariableHasSpelling x
local_is f None x cut e = absurd (none-some x e)
local_is f (Some parts) x cut e =
    option_and_then_some (λ n. option_map (λ s. Local s n) (number_of parts.1)) (number_of parts.0) x e (λ n first inner.
    let second = option_map_some (λ s. Local s n) (number_of parts.1) x inner in
    let p = number_is parts.0 n first in
    let q = number_is parts.1 second.0 second.1 in
    subst (λ (y : Var). (108 ∷ f ≡ variable_text y) × VariableHasSpelling y) second.2
    (ap (λ (r : List ℕ). 108 ∷ r) (cut parts refl ∙ ap (λ (r : List ℕ). r ++ 64 ∷ parts.1) p.0 ∙ ap (λ (r : List ℕ). decimal n ++ 64 ∷ r) q.0), (p.1, q.1)))

variable_is_at : (b : ℕ) (bs : List ℕ) (x : Var) (t u : Bool) → eqb b 103 ≡ t → eqb b 108 ≡ u → (if t then counts_as_decimal bs else (if u then looks_local (cut_at 64 bs) else false)) ≡ true → (if t then option_map Global (number_of bs) else local_of (cut_at 64 bs)) ≡ Some x → (b ∷ bs ≡ variable_text x) × VariableHasSpelling x
variable_is_at b bs x true u global local looks e =
    let n = option_map_some Global (number_of bs) x e in
    let p = number_is bs n.0 n.1 in
    subst (λ (y : Var). (b ∷ bs ≡ variable_text y) × VariableHasSpelling y) n.2 (ap (λ (c : ℕ). c ∷ bs) (eqb-true _ _ global) ∙ ap (λ (r : List ℕ). 103 ∷ r) p.0, p.1)
variable_is_at b bs x false true global local looks e =
    let p = local_is bs (cut_at 64 bs) x (λ parts h. cut_found 64 bs parts.0 parts.1 h) e in
    (ap (λ (c : ℕ). c ∷ bs) (eqb-true _ _ local) ∙ p.0, p.1)
variable_is_at b bs x false false global local looks e = absurd cc

-- what is read as a variable is spelled so
pub variable_is : (f : List ℕ) (x : Var) → looks_variable f ≡ true → variable_in_field f ≡ Some x → (f ≡ variable_text x) × VariableHasSpelling x
variable_is [] x looks e = absurd cc
variable_is (b ∷ bs) x looks e = variable_is_at b bs x (eqb b 103) (eqb b 108) refl refl looks e

-- a variable's spelling is read as it
pub record IsSpelled (x : Var) (f : List ℕ) : Type 0 where
  pub looks : looks_variable f ≡ true
  pub is : variable_in_field f ≡ Some x
  pub plain : IsPlain f

plain_append : (xs ys : List ℕ) → IsPlain xs → IsPlain ys → IsPlain (xs ++ ys)
plain_append [] ys p q = q
plain_append (x ∷ xs) ys p q = (p.0, plain_append xs ys p.1 q)

local_spelled : (s n : ℕ) → n ≤ MOST_NUMBER → s ≤ MOST_NUMBER → IsSpelled (Local s n) (108 ∷ (decimal n ++ 64 ∷ decimal s))
local_spelled s n ln ls =
    let cut : cut_at 64 (decimal n ++ 64 ∷ decimal s) ≡ Some (decimal n, decimal s) = cut_again 64 (decimal n) (decimal s) (decimal_free 64 n (omega arith) (omega (arith, ln))) in
    record {
      looks = ap looks_local cut ∙ and_from _ _ (number_counts n ln) (number_counts s ls);
      is = ap local_of cut ∙ rw (number_from n ln, number_from s ls) refl;
      plain = (record { no_blank = refl; no_feed = refl }, plain_append (decimal n) (64 ∷ decimal s) (decimal_plain n (omega (arith, ln))) (record { no_blank = refl; no_feed = refl }, decimal_plain s (omega (arith, ls))));
    }

pub variable_spelled : (x : Var) → VariableHasSpelling x → IsSpelled x (variable_text x)
variable_spelled (Global n) fit = record {
  looks = number_counts n fit;
  is = ap (option_map Global) (number_from n fit);
  plain = (record { no_blank = refl; no_feed = refl }, decimal_plain n (omega (arith, fit)));
}
variable_spelled (Local s n) fit = local_spelled s n fit.0 fit.1
variable_spelled (Havoc n) fit = absurd fit

-- ---- pairs

-- a pair that may stand after the one before it
pub record PairAfter (before : Option (Var × ℤ)) (p : Var × ℤ) : Type 0 where
  pub fits : PairHasSpelling p
  pub some : p.1 ≢ pos 0
  pub above : comes_after before p.0 ≡ true

abbrev done : Var × ℤ → Result (Var × ℤ) FormName
done p = Ok p

done_is : (p q : Var × ℤ) → done p ≡ done q → p ≡ q
done_is p q e = cc

-- what is known of a pair that was let through
record Passed (before o : Option (Var × ℤ)) (p : Var × ℤ) : Type 0 where
  pub is : o ≡ Some p
  pub some : p.1 ≢ pos 0
  pub above : comes_after before p.0 ≡ true

passed_by_tests : (before : Option (Var × ℤ)) (q p : Var × ℤ) (t u : Bool) → int_eq q.1 (pos 0) ≡ t → comes_after before q.0 ≡ u → (if t then Err name.Order else (if u then done q else Err name.Order)) ≡ done p → Passed before (Some q) p
passed_by_tests before q p true u zero_test above e = absurd cc
passed_by_tests before q p false false zero_test above e = absurd cc
passed_by_tests before q p false true zero_test above e =
    let same : q ≡ p = done_is q p e in
    subst (λ (r : Var × ℤ). Passed before (Some q) r) same (record {
      is = refl;
      some = λ h. absurd (differ (int_eq q.1 (pos 0)) ((Decides-int_eq q.1 (pos 0)).1 h) zero_test);
      above = above;
    })
  where
    differ : (b : Bool) → b ≡ true → b ≡ false → ⊥
    differ b p q = absurd cc

ordered_is : (before o : Option (Var × ℤ)) (p : Var × ℤ) → ordered before o ≡ done p → Passed before o p
ordered_is before None p e = absurd cc
ordered_is before (Some q) p e = passed_by_tests before q p (int_eq q.1 (pos 0)) (comes_after before q.0) refl refl e

pair_is : (parts : List ℕ × List ℕ) (p : Var × ℤ) → looks_variable parts.1 ≡ true → pair_of parts ≡ Some p → (parts.0 ≡ signed_decimal p.1) × (parts.1 ≡ variable_text p.0) × PairHasSpelling p
pair_is parts p looks e =
    option_and_then_some (λ c. option_map (λ x. (x, c)) (variable_in_field parts.1)) (i128_of parts.0) p e (λ c first inner.
    let x = option_map_some (λ y. (y, c)) (variable_in_field parts.1) p inner in
    let number = i128_is parts.0 c first in
    let v = variable_is parts.1 x.0 looks x.1 in
    subst (λ (q : Var × ℤ). (parts.0 ≡ signed_decimal q.1) × (parts.1 ≡ variable_text q.0) × PairHasSpelling q) x.2 (signed_decimal-of parts.0 c number.0 number.1, v.0, record { coefficient = number.0; variable = v.1 }))

pair_found_parts : (before : Option (Var × ℤ)) (f : List ℕ) (parts : List ℕ × List ℕ) → f ≡ parts.0 ++ 42 ∷ parts.1 → (t : Bool) → (counts_as_decimal parts.0 && looks_variable parts.1) ≡ t → (r : Result (Var × ℤ) FormName) → ordered before (pair_of parts) ≡ r → IfOk (if t then r else Err name.Field) (λ p. (f ≡ pair_text p) × PairAfter before p)
pair_found_parts before f parts cut false looks r e = tt
pair_found_parts before f parts cut true looks (Err what) e = tt
pair_found_parts before f parts cut true looks (Ok p) e =
    let o = ordered_is before (pair_of parts) p e in
    let q = pair_is parts p (and_parts _ _ looks).1 o.is in
    (cut ∙ ap (λ (r : List ℕ). r ++ 42 ∷ parts.1) q.0 ∙ ap (λ (r : List ℕ). signed_decimal p.1 ++ 42 ∷ r) q.1, record { fits = q.2; some = o.some; above = o.above })

pair_found : (before : Option (Var × ℤ)) (f : List ℕ) (r : Option (List ℕ × List ℕ)) → ((parts : List ℕ × List ℕ) → r ≡ Some parts → f ≡ parts.0 ++ 42 ∷ parts.1) → IfOk (pair_from before r) (λ p. (f ≡ pair_text p) × PairAfter before p)
pair_found before f None cut = tt
pair_found before f (Some parts) cut = pair_found_parts before f parts (cut parts refl) (counts_as_decimal parts.0 && looks_variable parts.1) refl (ordered before (pair_of parts)) refl

pair_again : (before : Option (Var × ℤ)) (p : Var × ℤ) → PairAfter before p → pair_after before (pair_text p) ≡ Ok p
pair_again before p after =
    let cut : cut_at 42 (pair_text p) ≡ Some (signed_decimal p.1, variable_text p.0) = cut_again 42 (signed_decimal p.1) (variable_text p.0) (signed_decimal_free 42 p.1 (omega arith) refl after.fits.coefficient) in
    let v = variable_spelled p.0 after.fits.variable in
    let d = signed_decimal-is p.1 after.fits.coefficient in
    let looks : (counts_as_decimal (signed_decimal p.1) && looks_variable (variable_text p.0)) ≡ true = and_from _ _ (signed_counts (signed_decimal p.1) p.1 d) v.looks in
    let is : pair_of (signed_decimal p.1, variable_text p.0) ≡ Some p = rw (i128_from (signed_decimal p.1) p.1 after.fits.coefficient d, v.is) refl in
    let some : int_eq p.1 (pos 0) ≡ false = false_from_ne_true _ (λ t. after.some ((Decides-int_eq p.1 (pos 0)).0 t)) in
    ap (pair_from before) cut ∙ cond-true _ _ _ looks ∙ ap (ordered before) is ∙ cond-false _ _ _ some ∙ cond-true _ _ _ after.above

pair_is_member : IsMember has_star pair_after pair_text PairAfter
pair_is_member = record {
  found = λ before f goes. pair_found before f (cut_at 42 f) (λ parts h. cut_found 42 f parts.0 parts.1 h);
  again = pair_again;
  goes_on = λ before p after. has_middle 42 (signed_decimal p.1) (variable_text p.0);
  clean = λ before p after. plain_append (signed_decimal p.1) (42 ∷ variable_text p.0) (signed_decimal_plain p.1 after.fits.coefficient) (record { no_blank = refl; no_feed = refl }, (variable_spelled p.0 after.fits.variable).plain);
}

abbrev pub last : Option (Var × ℤ) → Var × ℤ → Option (Var × ℤ)
last before p = Some p

pub pairs_exact : Exact (list_at has_star pair_after last None) (member_tokens pair_text) (Chain last PairAfter None) (Stops has_star)
pairs_exact = list_exact has_star pair_after last pair_text PairAfter pair_is_member None

-- ---- terms

-- the first pair comes after the one before it
abbrev pub Above : Option (Var × ℤ) → List (Var × ℤ) → Type 0
Above before [] = Unit {0}
Above before (p ∷ ps) = comes_after before p.0 ≡ true

chain_above : (before : Option (Var × ℤ)) (ps : List (Var × ℤ)) → Chain last PairAfter before ps → Above before ps
chain_above before [] c = tt
chain_above before (p ∷ ps) c = c.0.above

below_from : (p : Var × ℤ) (ps : List (Var × ℤ)) → Above (Some p) ps → IsBelow p.0 ps
below_from p [] h = tt
below_from p (q ∷ ps) h = h

above_from : (p : Var × ℤ) (ps : List (Var × ℤ)) → IsBelow p.0 ps → Above (Some p) ps
above_from p [] h = tt
above_from p (q ∷ ps) h = h

-- pairs that were read one after the other are canonical
pub chain_canonical : (before : Option (Var × ℤ)) (ps : List (Var × ℤ)) → Chain last PairAfter before ps → IsCanonical ps × AllByRecursion PairHasSpelling ps
chain_canonical before [] c = (tt, tt)
chain_canonical before (p ∷ ps) c =
    let rest = chain_canonical (Some p) ps c.1 in
    ((c.0.some, below_from p ps (chain_above (Some p) ps c.1), rest.0), (c.0.fits, rest.1))

canonical_chain : (before : Option (Var × ℤ)) (ps : List (Var × ℤ)) → IsCanonical ps → AllByRecursion PairHasSpelling ps → Above before ps → Chain last PairAfter before ps
canonical_chain before [] n fit above = tt
canonical_chain before (p ∷ ps) n fit above = (record { fits = fit.0; some = n.0; above = above }, canonical_chain (Some p) ps n.2 fit.1 (above_from p ps n.1))

-- what the loop over pairs gave
pub pairs_canonical : (at after : Position) (ps : List (Var × ℤ)) → list_at has_star pair_after last None at ≡ Ok (ps, after) → IsCanonical ps
pairs_canonical at after ps e =
    let h = subst (λ s. IfOk s (λ y. (at.tokens ≡ member_tokens pair_text y.0 ++ y.1.tokens) × Chain last PairAfter None y.0)) e (pairs_exact.found at).is in
    (chain_canonical None ps h.1).0

-- the fields of a term as tokens
abbrev pub term_tokens : Term → List LinePart
term_tokens t = map Field (term_fields t)

pub fields_split : (ps : List (Var × ℤ)) (c : List ℕ) (rest : List LinePart) → map Field (map pair_text ps ++ c ∷ []) ++ rest ≡ member_tokens pair_text ps ++ Field c ∷ rest
fields_split [] c rest = refl
fields_split (p ∷ ps) c rest = ap (λ (ts : List LinePart). Field (pair_text p) ∷ ts) (fields_split ps c rest)

constant_exact : Exact (leaf_at integer) (λ z. Field (signed_decimal z) ∷ []) (FitsSigned w128) Always
constant_exact = leaf_exact integer signed_decimal (FitsSigned w128) integer_is_leaf

constant_stops : (z : ℤ) → FitsSigned w128 z → has_star (signed_decimal z) ≡ false
constant_stops z fits = free_has_none 42 (signed_decimal z) (signed_decimal_free 42 z (omega arith) refl fits)

term_found : (at : Position) → Finds (term_at at) (λ y. (at.tokens ≡ term_tokens y.0 ++ y.1.tokens) × TermHasSpelling y.0)
unfolding term_at
term_found at =
    found_bind _ _ _ _ (pairs_exact.found at) (λ ps p.
    found_bind _ _ _ _ (constant_exact.found ps.1) (λ c q.
    let n = chain_canonical None ps.0 p.1 in
    found_end _ _ (p.0 ∙ ap (λ (ts : List LinePart). member_tokens pair_text ps.0 ++ ts) q.0 ∙ sym (fields_split ps.0 (signed_decimal c.0) c.1.tokens), record { canonical = n.0; pairs = n.1; constant = q.1 })))

abbrev make_term : List (Var × ℤ) → ℤ → Term
make_term ps c = record { pairs = ps; constant = c }

same_term : (ps qs : List (Var × ℤ)) (c d : ℤ) → ps ≡ qs → c ≡ d → make_term ps c ≡ make_term qs d
same_term ps qs c d p q = ap (λ (r : List (Var × ℤ)). make_term r c) p ∙ ap (make_term qs) q

above_none : (ps : List (Var × ℤ)) → Above None ps
above_none [] = tt
above_none (p ∷ ps) = refl

term_again : (at : Position) (t : Term) (rest : List LinePart) → TermHasSpelling t → at.tokens ≡ term_tokens t ++ rest → Unit {0} → Gets (term_at at) (λ y. (y.0 ≡ t) × (y.1.tokens ≡ rest))
unfolding term_at
term_again at t rest fit e h =
    gets_bind _ _ _ _ (pairs_exact.again at t.pairs (Field (signed_decimal t.constant) ∷ rest) (canonical_chain None t.pairs fit.canonical fit.pairs (above_none t.pairs)) (e ∙ fields_split t.pairs (signed_decimal t.constant) rest) (constant_stops t.constant fit.constant)) (λ ps p.
    gets_bind _ _ _ _ (constant_exact.again ps.1 t.constant rest fit.constant p.1 tt) (λ c q.
    gets_end _ _ (same_term ps.0 t.pairs c.0 t.constant p.0 q.0, q.1)))

clean_fields : (ps : List (Var × ℤ)) (c : List ℕ) → IsClean (member_tokens pair_text ps) → IsPlain c → IsClean (map Field (map pair_text ps ++ c ∷ []))
clean_fields [] c p q = (q, tt)
clean_fields (r ∷ ps) c p q = (p.0, clean_fields ps c p.1 q)

-- what is read as a term is spelled so, and a term that fits is read from its spelling
pub term_exact : Exact term_at term_tokens TermHasSpelling Always
term_exact = record {
  found = term_found;
  again = term_again;
  clean = λ t fit. clean_fields t.pairs (signed_decimal t.constant) (pairs_exact.clean t.pairs (canonical_chain None t.pairs fit.canonical fit.pairs (above_none t.pairs))) (signed_decimal_plain t.constant fit.constant);
}

-- the two laws, of what a call answers
pub term_is_found : (at now : Position) (r : Result Term FormEnd) → Gives (λ x. x) r now (term_at at) → IfOk r (λ t. TermHasSpelling t × (at.tokens ≡ term_tokens t ++ now.tokens))
term_is_found at now (Ok t) h =
    let p = subst (λ s. IfOk s (λ y. (at.tokens ≡ term_tokens y.0 ++ y.1.tokens) × TermHasSpelling y.0)) h (term_exact.found at).is in
    (p.1, p.0)
term_is_found at now (Err e) h = tt

pub term_is_read : (at now : Position) (r : Result Term FormEnd) → Gives (λ x. x) r now (term_at at) → (t : Term) (rest : List LinePart) → TermHasSpelling t → at.tokens ≡ term_tokens t ++ rest → Tells (λ x. x) r (Ok t)
term_is_read at now r h t rest fit e =
    let g = term_exact.again at t rest fit e tt in
    told r now g.value t (subst (λ (s : Result (Term × Position) FormFault). Gives (λ x. x) r now s) g.ok h) g.is.0
  where
    differ : (y : Term × Position) (f : FormFault) → read_of y ≡ Err f → ⊥
    differ y f h = absurd cc

    told : (r : Result Term FormEnd) (now : Position) (y : Term × Position) (t : Term) → Gives (λ x. x) r now (Ok y) → y.0 ≡ t → Tells (λ x. x) r (Ok t)
    told (Ok x) now y t h same = ap (λ (u : Term). Ok u) (sym same ∙ ap (λ (p : Term × Position). p.0) (read_is y (x, now) h))
    told (Err (Fault f)) now y t h same = absurd (differ y f h)
    told (Err (Memory m)) now y t h same = tt

-- ---- printing

pub spread_fields : (ps : List (Var × ℤ)) (c : List ℕ) → flat_map after_blank (map pair_text ps ++ c ∷ []) ≡ flat_map (λ p. after_blank (pair_text p)) ps ++ after_blank c
spread_fields [] c = append-nil (after_blank c)
spread_fields (p ∷ ps) c = ap (λ (r : List ℕ). after_blank (pair_text p) ++ r) (spread_fields ps c) ∙ sym (append_assoc (after_blank (pair_text p)) (flat_map (λ q. after_blank (pair_text q)) ps) (after_blank c))

pub printed : (out mid c : List ℕ) (slice ps : List (Var × ℤ)) → mid ≡ out ++ flat_map (λ p. after_blank (pair_text p)) slice → slice ≡ ps → mid ++ after_blank c ≡ out ++ flat_map after_blank (map pair_text ps ++ c ∷ [])
printed out mid c slice ps e same =
    ap (λ (m : List ℕ). m ++ after_blank c) (e ∙ ap (λ (s : List (Var × ℤ)). out ++ flat_map (λ p. after_blank (pair_text p)) s) same)
    ∙ append_assoc out (flat_map (λ p. after_blank (pair_text p)) ps) (after_blank c)
    ∙ ap (λ (r : List ℕ). out ++ r) (sym (spread_fields ps c))
