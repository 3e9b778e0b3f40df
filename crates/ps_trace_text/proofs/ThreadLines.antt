-- The lines of threads, as a loop reads them: what was read, with what is still read, is all.
use Rattle.std.proofs.Common.{◌≡◌, ℕ, zero, suc, ◌-◌, ◌+◌, ◌≤◌, ◌<◌, ℤ, List, [], ◌∷◌, ◌++◌, Option, Some, None, Result, Ok, Err, refl, sym, ap, ◌∙◌, arith}
use Rattle.std.proofs.lemmas.List.{append-nil}
use Rattle.ps_lines.proofs.Loop.{with_front, with_front-none, with_front-more}
use Rattle.ps_lines.specs.declared.form_fault.FormFault.{FormFault}
use Rattle.ps_lines.specs.declared.form_end.FormEnd.{FormEnd}
use Rattle.ps_lines.specs.declared.form_end.FormEnd.TheVariants.{Fault, Memory}
use Rattle.ps_lines.specs.Reading.{Position, Read, Gives}
use Rattle.ps_lines.specs.Steps.{and_then, ◌>>=◌}
use Rattle.ps_trace_text.specs.WitnessReading.{all_locals_at, locals_at, next_thread}

-- the thread before the one of this number
abbrev pub last_of : ℕ → Option ℕ
last_of zero = None
last_of (suc n) = Some n

pub record Lines (front : List (List ℤ)) (count i : ℕ) (before : Option ℕ) (at : Position) (total : Result (List (List ℤ) × Position) FormFault) : Type 0 where
  pub same : with_front front (all_locals_at before (count - i) at) ≡ total
  pub due : next_thread before ≡ i

pub lines_none : (n : ℕ) (at : Position) → Lines [] n 0 None at (all_locals_at None n at)
lines_none n at =
    let k : n - 0 ≡ n = omega arith in
    record { same = ap (λ (m : ℕ). with_front [] (all_locals_at None m at)) k ∙ with_front-none (all_locals_at None n at); due = refl }

pub lines_more : (front : List (List ℤ)) (n i : ℕ) (before : Option ℕ) (at after : Position) (x : List ℤ) (total : Result (List (List ℤ) × Position) FormFault) → Lines front n i before at total → i < n →
    Gives (λ (y : List ℤ). y) (Ok x) after (locals_at before at) → Lines (front ++ x ∷ []) n (i + 1) (Some i) after total
unfolding and_then all_locals_at
lines_more front n i before at after x total h lt e =
    let k : n - i ≡ suc (n - (i + 1)) = omega arith in
    let one : with_front front (all_locals_at before (n - i) at) ≡ with_front (front ++ x ∷ []) (all_locals_at (Some (next_thread before)) (n - (i + 1)) after) =
    rw (k, e) (with_front-more front x (all_locals_at (Some (next_thread before)) (n - (i + 1)) after)) in
    record {
      same = ap (λ (t : ℕ). with_front (front ++ x ∷ []) (all_locals_at (Some t) (n - (i + 1)) after)) (sym h.due) ∙ sym one ∙ h.same;
      due = refl;
    }

pub lines_all : (front : List (List ℤ)) (n i : ℕ) (before : Option ℕ) (at : Position) (total : Result (List (List ℤ) × Position) FormFault) → Lines front n i before at total → n ≤ i → total ≡ Ok (front, at)
unfolding and_then all_locals_at
lines_all front n i before at total h le =
    let k : n - i ≡ 0 = omega arith in
    let one : with_front front (all_locals_at before (n - i) at) ≡ Ok (front, at) = rw k (ap (λ (ns : List (List ℤ)). Ok (ns, at)) (append-nil front)) in
    sym h.same ∙ one

pub lines_fail : {X : Type 0} (view : X → List (List ℤ)) (front : List (List ℤ)) (n i : ℕ) (before : Option ℕ) (at now after : Position) (e : FormEnd) (total : Result (List (List ℤ) × Position) FormFault) → Lines front n i before at total → i < n →
    Gives (λ (y : List ℤ). y) (Err e) now (locals_at before at) → Gives view (Err e) after total
unfolding and_then all_locals_at
lines_fail view front n i before at now after (Memory m) total h lt e = tt
lines_fail view front n i before at now after (Fault f) total h lt e =
    let k : n - i ≡ suc (n - (i + 1)) = omega arith in
    let one : with_front front (all_locals_at before (n - i) at) ≡ Err f = rw (k, e) refl in
    sym h.same ∙ one
