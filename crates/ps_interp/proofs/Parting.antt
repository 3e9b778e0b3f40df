-- The letters of a trace with the multipliers of their rows, and the sums that they give.
use Rattle.std.proofs.Common.{◌≡◌, refl, sym, ap, ap₂, ◌∙◌, subst, ℕ, zero, suc, ◌+◌, ◌-◌, ◌<◌, ◌≤◌, pos, List, [], ◌∷◌, ◌++◌, append_assoc, length, length-append, map, take, drop, reverse, get_or, All, Result, Ok, Err, arith}
use Rattle.std.specs.Prelude.{IfOk, OnOk, slice_index_or}
use Rattle.std.specs.List.{AllByRecursion}
use mathlib.Core.List.{reverse-cons}
use Rattle.std.proofs.lemmas.List.{append-nil, drop-drop, drop_all, reverse-reverse}
use Rattle.std.proofs.lemmas.List.Elements.{All-from_recursion, All-push, recursion_from_All}
use Rattle.ps_command.specs.declared.setting.Setting.{Setting}
use Rattle.ps_command.specs.declared.symbolic_form.SymbolicForm.{SymbolicForm}
use Rattle.ps_graph.specs.declared.edge.Edge.{Edge}
use Rattle.ps_interp.specs.Cuts.{sum_at}
use Rattle.ps_interp.specs.Sums.{PlusRowsFit, SumFits, Weighed, first_sum, letter_sum, row_count, row_total, rows_by, sum_before, terms_by, weigh, weighed}
use Rattle.ps_interp.specs.declared.weights.WeighedLetter.{WeighedLetter}
use Rattle.ps_interp.specs.inner.Parts.{IsWeighedIn, Part, cut_sums, letters_by, part_in, part_of, sum_in, weighed_before, weighed_by}
use Rattle.ps_soundness.specs.Traces.{command_of_edge, trace_of}
use Rattle.ps_term.specs.Exact.{number_term, substituted}
use Rattle.ps_term.specs.Substitution.{SubstitutionFits}
use Rattle.ps_term.specs.Sums.{TermFits}
use Rattle.ps_term.specs.declared.term.Term.{Term}
use Rattle.ps_term.specs.declared.term.TermEnd.{TermEnd}
use Rattle.ps_term.specs.declared.term.TermEnd.TheVariants.{Past128}
use Rattle.ps_trace.specs.Traces.{pairs_in}
use Rattle.ps_trace.specs.declared.trace.Letter.{Letter}
use Rattle.ps_triple.specs.Rows.{form_in}
use Rattle.ps_interp.proofs.Adding.{cut}

-- ---- letters are told by their parts
pub same_weighed : (setting : Setting) (trace : List (ℕ × ℕ)) (ws : List ℕ) → weighed_by setting (map part_in (weighed setting trace ws)) ≡ weighed setting trace ws
same_weighed setting [] ws = refl
same_weighed setting (l ∷ ls) ws =
    ap (λ (later : List Weighed). weigh setting l (take (row_count setting l) ws) later ∷ later) (same_weighed setting ls (drop (row_count setting l) ws))

pub parts_back : (setting : Setting) (ps : List Part) → map part_in (weighed_by setting ps) ≡ ps
parts_back setting [] = refl
parts_back setting (p ∷ ps) = ap (λ (qs : List Part). p ∷ qs) (parts_back setting ps)

pub by_long : (setting : Setting) (ps : List Part) → length (weighed_by setting ps) ≡ length ps
by_long setting [] = refl
by_long setting (p ∷ ps) = ap suc (by_long setting ps)

-- ---- the multipliers are cut into those of the letters, letter by letter
abbrev pub traced : List Edge → List Letter → List (ℕ × ℕ)
traced edges letters = trace_of edges (pairs_in letters)

pub record Parted (setting : Setting) (edges : List Edge) (letters : List Letter) (ws : List ℕ) (done : List Part) (i at : ℕ) : Type 0 where
  pub parts : done ++ map part_in (weighed setting (traced edges (drop i letters)) (drop at ws)) ≡ map part_in (weighed setting (traced edges letters) ws)
  pub room : at + row_total setting (traced edges (drop i letters)) ≤ length ws

pub parted_first : (setting : Setting) (edges : List Edge) (letters : List Letter) (ws : List ℕ) → row_total setting (traced edges letters) ≤ length ws → Parted setting edges letters ws [] 0 0
parted_first setting edges letters ws h = record { parts = refl; room = omega (arith, h) }

pub parted_room : (setting : Setting) (edges : List Edge) (letters : List Letter) (ws : List ℕ) (done : List Part) (i at : ℕ) (x : Letter) →
    Parted setting edges letters ws done i at → i < length letters → x ≡ get_or letters i x → at + length (form_in setting (command_of_edge edges x.edge)).rows ≤ length ws
parted_room setting edges letters ws done i at x p h e =
    let f : drop i letters ≡ x ∷ drop (i + 1) letters = cut letters i x h e in
    let r : row_total setting (traced edges (drop i letters)) ≡ row_count setting (x.thread, command_of_edge edges x.edge) + row_total setting (traced edges (drop (i + 1) letters)) = ap (λ (ls : List Letter). row_total setting (traced edges ls)) f in
    omega (arith, p.room, r)

pub parted_more : (setting : Setting) (edges : List Edge) (letters : List Letter) (ws : List ℕ) (done : List Part) (i at n : ℕ) (x : Letter) (w : Part) →
    Parted setting edges letters ws done i at → i < length letters → x ≡ get_or letters i x → n ≡ length (form_in setting (command_of_edge edges x.edge)).rows →
    w ≡ record { thread = x.thread; command = command_of_edge edges x.edge; weights = take n (drop at ws) } →
    Parted setting edges letters ws (done ++ w ∷ []) (i + 1) (at + n)
parted_more setting edges letters ws done i at n x w p h e long is = record {
  parts =
      append_assoc done (w ∷ []) (map part_in (weighed setting (traced edges (drop (i + 1) letters)) (drop (at + n) ws)))
      ∙ (ap (λ (q : Part). done ++ q ∷ map part_in (weighed setting (traced edges (drop (i + 1) letters)) (drop (at + n) ws))) (is ∙ ap (λ (m : ℕ). let q : Part = record { thread = x.thread; command = command_of_edge edges x.edge; weights = take m (drop at ws) } in q) long)
      ∙ (ap (λ (vs : List ℕ). done ++ own ∷ map part_in (weighed setting (traced edges (drop (i + 1) letters)) vs)) (ap (λ (m : ℕ). drop (at + m) ws) long ∙ sym (drop-drop count at ws))
      ∙ (sym (ap (λ (ls : List Letter). done ++ map part_in (weighed setting (traced edges ls) (drop at ws))) f) ∙ p.parts)));
  room =
      let r : row_total setting (traced edges (drop i letters)) ≡ row_count setting (x.thread, command_of_edge edges x.edge) + row_total setting (traced edges (drop (i + 1) letters)) = ap (λ (ls : List Letter). row_total setting (traced edges ls)) f in
      omega (arith, p.room, r, long);
}
  where
    f : drop i letters ≡ x ∷ drop (i + 1) letters
    f = cut letters i x h e

    count : ℕ
    count = length (form_in setting (command_of_edge edges x.edge)).rows

    own : Part
    own = record { thread = x.thread; command = command_of_edge edges x.edge; weights = take count (drop at ws) }

pub parted_all : (setting : Setting) (edges : List Edge) (letters : List Letter) (ws : List ℕ) (done : List Part) (i at : ℕ) → Parted setting edges letters ws done i at → length letters ≤ i →
    done ≡ map part_in (weighed setting (traced edges letters) ws)
parted_all setting edges letters ws done i at p h =
    sym (append-nil done) ∙ (sym (ap (λ (ls : List Letter). done ++ map part_in (weighed setting (traced edges ls) (drop at ws))) (drop_all i letters h)) ∙ p.parts)

-- ---- the sums, the last one first
pub sums_at : (letters : List Weighed) (i : ℕ) → sum_in (cut_sums letters) i ≡ sum_at letters i
sums_at [] zero = refl
sums_at [] (suc i) = refl
sums_at (w ∷ ws) zero = refl
sums_at (w ∷ ws) (suc i) = sums_at ws i

pub sums_long : (letters : List Weighed) → length (cut_sums letters) ≡ length letters + 1
sums_long [] = refl
sums_long (w ∷ ws) = let e : length (cut_sums ws) ≡ length ws + 1 = sums_long ws in omega (arith, e)

sums_first : (letters : List Weighed) → (rest : List Term) × (cut_sums letters ≡ first_sum letters ∷ rest)
sums_first [] = ([], refl)
sums_first (w ∷ ws) = (cut_sums ws, refl)

last_of : {X : Type 0} (xs : List X) (x d : X) → slice_index_or (xs ++ x ∷ []) (length (xs ++ x ∷ []) - 1) d ≡ x
last_of [] x d = refl
last_of {X} (y ∷ ys) x d =
    let n : length (y ∷ (ys ++ x ∷ [])) - 1 ≡ suc (length (ys ++ x ∷ []) - 1) = (let e : length (ys ++ x ∷ []) ≡ length ys + 1 = length-append ys (x ∷ []) in omega (arith, e)) in
    ap (λ (k : ℕ). slice_index_or (y ∷ (ys ++ x ∷ [])) k d) n ∙ last_of ys x d

-- the last of the sums that are made is the first of the letters so far
pub made_last : (letters : List Weighed) (sums : List Term) → sums ≡ reverse (cut_sums letters) → sum_in sums (length sums - 1) ≡ first_sum letters
made_last letters sums e = at (sums_first letters)
  where
    at : (rest : List Term) × (cut_sums letters ≡ first_sum letters ∷ rest) → sum_in sums (length sums - 1) ≡ first_sum letters
    at (rest, f) =
        let g : sums ≡ reverse rest ++ first_sum letters ∷ [] = e ∙ (ap reverse f ∙ reverse-cons (first_sum letters) rest) in
        ap (λ (ts : List Term). sum_in ts (length ts - 1)) g ∙ last_of (reverse rest) (first_sum letters) (number_term (pos 0))

pub made_some : (letters : List Weighed) (sums : List Term) → sums ≡ reverse (cut_sums letters) → 0 < length sums
made_some letters sums e = at (sums_first letters)
  where
    at : (rest : List Term) × (cut_sums letters ≡ first_sum letters ∷ rest) → 0 < length sums
    at (rest, f) =
        let g : sums ≡ reverse rest ++ first_sum letters ∷ [] = e ∙ (ap reverse f ∙ reverse-cons (first_sum letters) rest) in
        let n : length sums ≡ length (reverse rest) + 1 = ap length g ∙ length-append (reverse rest) (first_sum letters ∷ []) in
        omega (arith, n)

-- what is made of the letters so far
pub record AreSums (setting : Setting) (letters : List WeighedLetter) (sums : List Term) : Type 0 where
  pub sums_are : sums ≡ reverse (cut_sums (letters_by setting letters))
  pub fit : AllByRecursion (SumFits setting) (letters_by setting letters)

pub sums_none : (setting : Setting) (letters : List WeighedLetter) (left : ℕ) (sums : List Term) → length letters ≤ left → sums ≡ number_term (pos 0) ∷ [] → AreSums setting (drop left letters) sums
sums_none setting letters left sums h e = subst (λ (ls : List WeighedLetter). AreSums setting ls sums) (sym (drop_all left letters h)) (record { sums_are = e; fit = tt })

before_cut : (letters : List WeighedLetter) (left : ℕ) (x : WeighedLetter) → 0 < left → left ≤ length letters → x ≡ get_or letters (left - 1) x → drop (left - 1) letters ≡ x ∷ drop left letters
before_cut letters left x some within e =
    cut letters (left - 1) x (omega (arith, some, within)) e
    ∙ ap (λ (n : ℕ). x ∷ drop n letters) (let s : left - 1 + 1 ≡ left = omega (arith, some) in s)

pub sums_more : (setting : Setting) (letters : List WeighedLetter) (left : ℕ) (x : WeighedLetter) (sums more : List Term) (sum : Term) →
    0 < left → left ≤ length letters → x ≡ get_or letters (left - 1) x → AreSums setting (drop left letters) sums →
    sum ≡ (weighed_before setting (part_of x) (sum_in sums (length sums - 1))).before → SumFits setting (weighed_before setting (part_of x) (sum_in sums (length sums - 1))) →
    more ≡ sums ++ sum ∷ [] → AreSums setting (drop (left - 1) letters) more
sums_more setting letters left x sums more sum some within e a is fits all = subst (λ (ls : List WeighedLetter). AreSums setting ls more) (sym (before_cut letters left x some within e)) (record {
  sums_are =
      all
      ∙ (ap₂ (λ (ts : List Term) (t : Term). ts ++ t ∷ []) a.sums_are (is ∙ ap (λ (t : Term). (weighed_before setting (part_of x) t).before) next))
      ∙ sym (reverse-cons (weighed_before setting (part_of x) (first_sum later)).before (cut_sums later));
  fit = (subst (λ (t : Term). SumFits setting (weighed_before setting (part_of x) t)) next fits, a.fit);
})
  where
    later : List Weighed
    later = letters_by setting (drop left letters)

    next : sum_in sums (length sums - 1) ≡ first_sum later
    next = made_last later sums a.sums_are

rest_fit : (setting : Setting) (n : ℕ) (letters : List WeighedLetter) → AllByRecursion (SumFits setting) (letters_by setting letters) → AllByRecursion (SumFits setting) (letters_by setting (drop n letters))
rest_fit setting zero letters h = h
rest_fit setting (suc n) [] h = tt
rest_fit setting (suc n) (x ∷ xs) h = rest_fit setting n xs h.1

pub sums_past : (setting : Setting) (letters : List WeighedLetter) (left : ℕ) (x : WeighedLetter) (sums : List Term) →
    0 < left → left ≤ length letters → x ≡ get_or letters (left - 1) x → AreSums setting (drop left letters) sums →
    ¬ SumFits setting (weighed_before setting (part_of x) (sum_in sums (length sums - 1))) → ¬ All (SumFits setting) (letters_by setting letters)
sums_past setting letters left x sums some within e a past all =
    past (subst (λ (t : Term). SumFits setting (weighed_before setting (part_of x) t)) (sym (made_last (letters_by setting (drop left letters)) sums a.sums_are))
    (subst (λ (ls : List WeighedLetter). AllByRecursion (SumFits setting) (letters_by setting ls)) (before_cut letters left x some within e)
    (rest_fit setting (left - 1) letters (recursion_from_All (SumFits setting) (letters_by setting letters) all))).0)

pub sums_whole : (setting : Setting) (letters : List WeighedLetter) (sums back : List Term) → AreSums setting letters sums → back ≡ reverse sums → back ≡ cut_sums (letters_by setting letters)
sums_whole setting letters sums back a e = e ∙ (ap reverse a.sums_are ∙ reverse-reverse (cut_sums (letters_by setting letters)))

pub sums_fit : (setting : Setting) (letters : List WeighedLetter) (sums : List Term) → AreSums setting letters sums → All (SumFits setting) (letters_by setting letters)
sums_fit setting letters sums a = All-from_recursion (SumFits setting) (letters_by setting letters) a.fit

-- ---- one sum, from that after it
on_ok_three : (A B C : Type 0) (r : Result Term TermEnd) → OnOk r A → OnOk r B → OnOk r C → OnOk r (A × B × C)
on_ok_three A B C (Ok x) a b c = (a, b, c)
on_ok_three A B C (Err e) a b c = tt

pub next_told : (setting : Setting) (l : Part) (form : SymbolicForm) (next last : Term) (r : Result Term TermEnd) → form ≡ form_in setting l.command → next ≡ last →
    IfOk r (λ (sum : Term). sum ≡ sum_before l.thread form l.weights next) → IfOk r (λ (sum : Term). sum ≡ (weighed_before setting l last).before)
next_told setting l form next last r f n h =
    subst (λ (t : Term). IfOk r (λ (sum : Term). sum ≡ sum_before l.thread (form_in setting l.command) l.weights t)) n
    (subst (λ (g : SymbolicForm). IfOk r (λ (sum : Term). sum ≡ sum_before l.thread g l.weights next)) f h)

-- what is asked of the values of one sum
abbrev pub Fits : Part → SymbolicForm → Term → Type 0
Fits l form next =
    PlusRowsFit (number_term (pos 0)) (rows_by l.thread form) l.weights
    × SubstitutionFits (terms_by l.thread form) next
    × TermFits (letter_sum l.thread form l.weights) (pos 1) (substituted (terms_by l.thread form) next)

pub next_fits : (setting : Setting) (l : Part) (form : SymbolicForm) (next last : Term) (r : Result Term TermEnd) → form ≡ form_in setting l.command → next ≡ last →
    OnOk r (PlusRowsFit (number_term (pos 0)) (rows_by l.thread form) l.weights) → OnOk r (SubstitutionFits (terms_by l.thread form) next) →
    OnOk r (TermFits (letter_sum l.thread form l.weights) (pos 1) (substituted (terms_by l.thread form) next)) → OnOk r (SumFits setting (weighed_before setting l last))
next_fits setting l form next last r f n a b c =
    subst (λ (t : Term). OnOk r (Fits l (form_in setting l.command) t)) n
    (subst (λ (g : SymbolicForm). OnOk r (Fits l g next)) f (on_ok_three (PlusRowsFit (number_term (pos 0)) (rows_by l.thread form) l.weights) (SubstitutionFits (terms_by l.thread form) next)
    (TermFits (letter_sum l.thread form l.weights) (pos 1) (substituted (terms_by l.thread form) next)) r a b c))

pub next_past : (setting : Setting) (l : Part) (form : SymbolicForm) (next last : Term) → form ≡ form_in setting l.command → next ≡ last →
    ¬ Fits l form next → ¬ SumFits setting (weighed_before setting l last)
next_past setting l form next last f n past fits = past (subst (λ (g : SymbolicForm). Fits l g next) (sym f) (subst (λ (t : Term). Fits l (form_in setting l.command) t) (sym n) fits))

-- ---- one letter more
pushed_parts : (list : List WeighedLetter) (w : WeighedLetter) → map part_of (list ++ w ∷ []) ≡ map part_of list ++ part_of w ∷ []
pushed_parts [] w = refl
pushed_parts (l ∷ ls) w = ap (λ (ps : List Part). part_of l ∷ ps) (pushed_parts ls w)

pub letters_more : (setting : Setting) (edges : List Edge) (letters : List Letter) (ws : List ℕ) (list more : List WeighedLetter) (w : WeighedLetter) → more ≡ list ++ w ∷ [] →
    (i at n : ℕ) (x : Letter) → Parted setting edges letters ws (map part_of list) i at → i < length letters → x ≡ get_or letters i x → n ≡ length (form_in setting (command_of_edge edges x.edge)).rows →
    w.thread ≡ x.thread → w.command ≡ command_of_edge edges x.edge → w.weights.now ≡ take n (drop at ws) → Parted setting edges letters ws (map part_of more) (i + 1) (at + n)
letters_more setting edges letters ws list more w all i at n x p below is long t c h =
    subst (λ (ps : List Part). Parted setting edges letters ws ps (i + 1) (at + n)) (sym (ap (map part_of) all ∙ pushed_parts list w))
    (parted_more setting edges letters ws (map part_of list) i at n x (part_of w) p below is long (λ j. record { thread = t j; command = c j; weights = h j }))

pub each_more : (setting : Setting) (list more : List WeighedLetter) (w : WeighedLetter) → more ≡ list ++ w ∷ [] → All (IsWeighedIn setting) list → w.command < length setting.symbols →
    length w.weights.now ≡ length (form_in setting w.command).rows → All (IsWeighedIn setting) more
each_more setting list more w all each there many =
    subst (λ (ls : List WeighedLetter). All (IsWeighedIn setting) ls) (sym all) (All-push (IsWeighedIn setting) list w each (record { there = there; as_many = many }))

-- an end is the same beside sums and beside one sum
pub other_end : {A B : Type 0} (x : TermEnd) → ◌≡◌ {A = Result A TermEnd} (Err x) (Err Past128) → ◌≡◌ {A = Result B TermEnd} (Err x) (Err Past128)
other_end {A} {B} x e =
    let same : x ≡ Past128 = cc in
    let make : TermEnd → Result B TermEnd = λ z. Err z in
    ap make same
