-- The letters of a trace with their sums, by number.
use Rattle.std.proofs.Common.{◌≡◌, refl, ap, subst, ℕ, zero, suc, ◌≤◌, ℤ, pos, ◌-◌, List, [], ◌∷◌, length, length-drop, length-take-le, take, drop, arith}
use Rattle.std.specs.Prelude.{slice_get, Some}
use Rattle.std.specs.List.{AllByRecursion}
use Rattle.std.proofs.lemmas.Option.{same_Some}
use Rattle.ps_command.specs.declared.setting.Setting.{Setting}
use Rattle.ps_interp.specs.Cuts.{sum_at}
use Rattle.ps_interp.specs.Sums.{Weighed, first_sum, row_count, row_total, sum_before, weigh, weighed}
use Rattle.ps_term.specs.Exact.{number_term}
use Rattle.ps_term.specs.Pairs.{IsCanonical}
use Rattle.ps_term.specs.declared.term.Term.{Term}
use Rattle.ps_term.specs.declared.var.Var.{Var}
use Rattle.ps_triple.specs.Rows.{form_in}
use Rattle.ps_interp.proofs.Vars.{IsVarOf, before_every, form_every}
use Rattle.ps_interp.proofs.Worth.{sum_before_canonical}

pub record IsLetter (setting : Setting) (trace : List (ℕ × ℕ)) (letters : List Weighed) (i : ℕ) (w : Weighed) : Type 0 where
  pub letter : slice_get trace i ≡ Some (w.thread, w.command)
  pub before : w.before ≡ sum_at letters i
  pub after : w.after ≡ sum_at letters (suc i)
  pub is : w.before ≡ sum_before w.thread (form_in setting w.command) w.weights w.after

pub first_is : (ws : List Weighed) → first_sum ws ≡ sum_at ws 0
first_is [] = refl
first_is (w ∷ ws) = refl

pub letter_at : (setting : Setting) (trace : List (ℕ × ℕ)) (ws : List ℕ) (i : ℕ) (w : Weighed) → slice_get (weighed setting trace ws) i ≡ Some w →
    IsLetter setting trace (weighed setting trace ws) i w
letter_at setting [] ws i w e = cc
letter_at setting (l ∷ ls) ws zero w e =
    subst (λ (x : Weighed). IsLetter setting (l ∷ ls) (weighed setting (l ∷ ls) ws) 0 x)
    (same_Some (weigh setting l (take (row_count setting l) ws) (weighed setting ls (drop (row_count setting l) ws))) w e)
    (record { letter = refl; before = refl; after = first_is (weighed setting ls (drop (row_count setting l) ws)); is = refl })
letter_at setting (l ∷ ls) ws (suc i) w e = shifted (letter_at setting ls (drop (row_count setting l) ws) i w e)
  where
    shifted : IsLetter setting ls (weighed setting ls (drop (row_count setting l) ws)) i w → IsLetter setting (l ∷ ls) (weighed setting (l ∷ ls) ws) (suc i) w
    shifted h = record { letter = h.letter; before = h.before; after = h.after; is = h.is }

pub letter_there : (setting : Setting) (trace : List (ℕ × ℕ)) (ws : List ℕ) → length (weighed setting trace ws) ≡ length trace
letter_there setting [] ws = refl
letter_there setting (l ∷ ls) ws = ap suc (letter_there setting ls (drop (row_count setting l) ws))

-- ---- each sum at a cut
pub each_sum : (P : Term → Type 0) (letters : List Weighed) → P (number_term (pos 0)) → AllByRecursion (λ (w : Weighed). P w.before) letters → (cut : ℕ) → P (sum_at letters cut)
each_sum P [] last h cut = last
each_sum P (w ∷ ws) last h zero = h.0
each_sum P (w ∷ ws) last h (suc cut) = each_sum P ws last h.1 cut

all_canonical : (setting : Setting) (trace : List (ℕ × ℕ)) (ws : List ℕ) → AllByRecursion (λ (w : Weighed). IsCanonical w.before.pairs) (weighed setting trace ws)
all_canonical setting [] ws = tt
all_canonical setting (l ∷ ls) ws = (
  sum_before_canonical l.0 (form_in setting l.1) (take (row_count setting l) ws) (first_sum (weighed setting ls (drop (row_count setting l) ws))),
  all_canonical setting ls (drop (row_count setting l) ws),
)

pub sum_canonical_at : (setting : Setting) (trace : List (ℕ × ℕ)) (ws : List ℕ) (cut : ℕ) → IsCanonical (sum_at (weighed setting trace ws) cut).pairs
sum_canonical_at setting trace ws cut = each_sum (λ (t : Term). IsCanonical t.pairs) (weighed setting trace ws) tt (all_canonical setting trace ws) cut

abbrev pub AreVars : Setting → Term → Type 0
AreVars setting t = AllByRecursion (λ (p : Var × ℤ). IsVarOf setting.globals setting.locals (λ t. Unit {0}) p.0) t.pairs

first_vars : (setting : Setting) (ws : List Weighed) → AllByRecursion (λ (w : Weighed). AreVars setting w.before) ws → AreVars setting (first_sum ws)
first_vars setting [] h = tt
first_vars setting (w ∷ ws) h = h.0

all_vars : (setting : Setting) (trace : List (ℕ × ℕ)) (ws : List ℕ) → AllByRecursion (λ (w : Weighed). AreVars setting w.before) (weighed setting trace ws)
all_vars setting [] ws = tt
all_vars setting (l ∷ ls) ws = more (all_vars setting ls (drop (row_count setting l) ws))
  where
    more : AllByRecursion (λ (w : Weighed). AreVars setting w.before) (weighed setting ls (drop (row_count setting l) ws)) →
        AllByRecursion (λ (w : Weighed). AreVars setting w.before) (weighed setting (l ∷ ls) ws)
    more rest = (
      before_every setting.globals setting.locals (λ t. Unit {0}) l.0 tt (form_in setting l.1) (take (row_count setting l) ws)
          (first_sum (weighed setting ls (drop (row_count setting l) ws))) (form_every setting l.1)
          (first_vars setting (weighed setting ls (drop (row_count setting l) ws)) rest),
      rest,
    )

pub sum_vars_at : (setting : Setting) (trace : List (ℕ × ℕ)) (ws : List ℕ) (cut : ℕ) → AreVars setting (sum_at (weighed setting trace ws) cut)
sum_vars_at setting trace ws cut = each_sum (AreVars setting) (weighed setting trace ws) tt (all_vars setting trace ws) cut

-- ---- each letter has as many multipliers as its command has rows
all_long : (setting : Setting) (trace : List (ℕ × ℕ)) (ws : List ℕ) → row_total setting trace ≤ length ws →
    AllByRecursion (λ (w : Weighed). length w.weights ≡ length (form_in setting w.command).rows) (weighed setting trace ws)
all_long setting [] ws h = tt
all_long setting (l ∷ ls) ws h = (
  length-take-le (row_count setting l) ws (omega (arith, h)),
  all_long setting ls (drop (row_count setting l) ws)
      (let e : length (drop (row_count setting l) ws) ≡ length ws - row_count setting l = length-drop (row_count setting l) ws in omega (arith, h, e)),
)

each_letter : (P : Weighed → Type 0) (ws : List Weighed) (i : ℕ) (w : Weighed) → AllByRecursion P ws → slice_get ws i ≡ Some w → P w
each_letter P [] i w h e = cc
each_letter P (x ∷ ws) zero w h e = subst P (same_Some x w e) h.0
each_letter P (x ∷ ws) (suc i) w h e = each_letter P ws i w h.1 e

pub weights_long : (setting : Setting) (trace : List (ℕ × ℕ)) (ws : List ℕ) (i : ℕ) (w : Weighed) → row_total setting trace ≤ length ws → slice_get (weighed setting trace ws) i ≡ Some w →
    length w.weights ≡ length (form_in setting w.command).rows
weights_long setting trace ws i w h e =
    each_letter (λ (w : Weighed). length w.weights ≡ length (form_in setting w.command).rows) (weighed setting trace ws) i w (all_long setting trace ws h) e
