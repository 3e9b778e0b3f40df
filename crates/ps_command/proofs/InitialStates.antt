-- Initial states, thread by thread.
use Rattle.std.proofs.Common.{◌≡◌, true, false, Bool, ◌&&◌, ◌==◌, refl, sym, ap, ap₂, subst, ◌∙◌, ℕ, zero, suc, ◌<◌, ◌+◌, ℤ, pos, List, [], ◌∷◌, length, get_or, drop, nat_lt, arith}
use Rattle.std.specs.Prelude.{All, IsTrue, IsSome, Option, Some, None, SomeIff, IfSome, slice_index_or}
use Rattle.std.specs.List.{list_all}
use Rattle.std.proofs.lemmas.Bool.{and_parts, false≢true}
use Rattle.std.proofs.lemmas.Bool.Decides.{nat_tests}
use Rattle.std.proofs.lemmas.List.{drop_more}
use Rattle.ps_term.specs.declared.row.Row.{Row}
use Rattle.ps_term.specs.declared.var.Var.{Var}
use Rattle.ps_term.specs.declared.var.Var.TheVariants.{Global, Local, Havoc}
use Rattle.ps_command.specs.Fitting.{IsSized}
use Rattle.ps_command.specs.Initial.{IsInitial}
use Rattle.ps_command.specs.Named.{is_declared, is_declared_row}
use Rattle.ps_command.specs.Run.{holds}
use Rattle.ps_command.specs.RunFits.{EachFits, StartFits, TestsFit}
use Rattle.ps_command.specs.Values.{value_at, values_of}
use Rattle.ps_command.specs.declared.setting.Setting.{Setting}
use Rattle.ps_command.specs.declared.state.State.{State}
use Rattle.ps_command.specs.inner.Starts.{all_start}
use Rattle.ps_command.specs.inner.View.{values_from}

-- ---- rows that are declared with fewer locals
all_weaker : {X : Type 0} (s t : X → Bool) → ((x : X) → s x ≡ true → t x ≡ true) → (xs : List X) → list_all s xs ≡ true → list_all t xs ≡ true
all_weaker s t w [] h = refl
all_weaker s t w (x ∷ xs) h =
    let q : (s x ≡ true) × (list_all s xs ≡ true) = and_parts (s x) (list_all s xs) h in
    ap₂ (λ (a b : Bool). a && b) (w x q.0) (all_weaker s t w xs q.1)

no_locals : (globals locals : ℕ) (x : Var) → is_declared globals 0 x ≡ true → is_declared globals locals x ≡ true
no_locals globals locals (Global n) d = d
no_locals globals locals (Local t n) d =
    let none : nat_lt n 0 ≡ true = (and_parts (t == 0) (nat_lt n 0) d).1 in
    absurd (grind (arith, nat_tests))
no_locals globals locals (Havoc n) d = d

pub rows_with_locals : (globals locals : ℕ) (rows : List Row) → list_all (is_declared_row globals 0) rows ≡ true → list_all (is_declared_row globals locals) rows ≡ true
rows_with_locals globals locals rows d =
    all_weaker (is_declared_row globals 0) (is_declared_row globals locals)
    (λ r e. all_weaker (λ (p : Var × ℤ). is_declared globals 0 p.0) (λ (p : Var × ℤ). is_declared globals locals p.0) (λ p f. no_locals globals locals p.0 f) r.term.pairs e) rows d

pub once_named : (setting : Setting) (s : State) (locals : List ℤ) → IsSized setting s → list_all (is_declared_row (length s.globals) (length locals)) setting.init_once ≡ true
once_named setting s locals sized =
    ap (λ (n : ℕ). list_all (is_declared_row n (length locals)) setting.init_once) sized.globals
    ∙ rows_with_locals setting.globals (length locals) setting.init_once setting.once_declared

pub each_named : (setting : Setting) (s : State) (i : ℕ) (d : List ℤ) → IsSized setting s → i < length s.locals →
    list_all (is_declared_row (length s.globals) (length (get_or s.locals i d))) setting.init_each ≡ true
each_named setting s i d sized w =
    ap₂ (λ (m n : ℕ). list_all (is_declared_row m n) setting.init_each) sized.globals (sized.locals i d w) ∙ setting.each_declared

-- ---- threads one after another
pub record IsStarting (rows : List Row) (globals : List ℤ) (all rest : List (List ℤ)) : Type 0 where
  pub same : all_start rows globals rest ≡ all_start rows globals all
  pub fits : EachFits rows globals rest → EachFits rows globals all
  pub fit : EachFits rows globals all → EachFits rows globals rest

here : (rows : List Row) (globals : List ℤ) (all : List (List ℤ)) (i : ℕ) (d : List ℤ) → i < length all → IsStarting rows globals all (drop i all) →
    IsStarting rows globals all (get_or all i d ∷ drop (i + 1) all)
here rows globals all i d w t = subst (λ (ls : List (List ℤ)). IsStarting rows globals all ls) (drop_more all i d w) t

abbrev Held : List Row → List ℤ → List ℤ → Bool
Held rows globals ls = list_all (holds (value_at (record { globals = globals; locals = ls }))) rows

pub starting_holds : (rows : List Row) (globals : List ℤ) (all : List (List ℤ)) (i : ℕ) (d : List ℤ) → i < length all → IsStarting rows globals all (drop i all) →
    TestsFit (value_at (record { globals = globals; locals = get_or all i d })) rows → Held rows globals (get_or all i d) ≡ true → IsStarting rows globals all (drop (i + 1) all)
starting_holds rows globals all i d w t f h =
    let r : IsStarting rows globals all (get_or all i d ∷ drop (i + 1) all) = here rows globals all i d w t in
    record {
      same = sym (ap (λ (b : Bool). b && all_start rows globals (drop (i + 1) all)) h) ∙ r.same;
      fits = λ g. r.fits (f, λ e. g);
      fit = λ g. (r.fit g).1 h;
    }

pub starting_fails : (rows : List Row) (globals : List ℤ) (all : List (List ℤ)) (i : ℕ) (d : List ℤ) → i < length all → IsStarting rows globals all (drop i all) →
    TestsFit (value_at (record { globals = globals; locals = get_or all i d })) rows → Held rows globals (get_or all i d) ≡ false →
    EachFits rows globals all × (all_start rows globals all ≡ false)
starting_fails rows globals all i d w t f h =
    let r : IsStarting rows globals all (get_or all i d ∷ drop (i + 1) all) = here rows globals all i d w t in
    (r.fits (f, λ e. absurd (false≢true (sym h ∙ e))), sym r.same ∙ ap (λ (b : Bool). b && all_start rows globals (drop (i + 1) all)) h)

pub starting_past : (rows : List Row) (globals : List ℤ) (all : List (List ℤ)) (i : ℕ) (d : List ℤ) → i < length all → IsStarting rows globals all (drop i all) →
    ¬ TestsFit (value_at (record { globals = globals; locals = get_or all i d })) rows → ¬ EachFits rows globals all
starting_past rows globals all i d w t f g = f ((here rows globals all i d w t).fit g).0

pub starting_end : (rows : List Row) (globals : List ℤ) (all rest : List (List ℤ)) → rest ≡ [] → IsStarting rows globals all rest → EachFits rows globals all × (all_start rows globals all ≡ true)
starting_end rows globals all rest e t =
    let r : IsStarting rows globals all [] = subst (λ (ls : List (List ℤ)). IsStarting rows globals all ls) e t in
    (r.fits tt, sym r.same)

-- ---- what the tests say of the state
at_each : (rows : List Row) (globals : List ℤ) (all : List (List ℤ)) → all_start rows globals all ≡ true → (k : ℕ) → k < length all → Held rows globals (slice_index_or all k []) ≡ true
at_each rows globals [] h k w = let no_such : ⊥ = omega (arith, w) in absurd no_such
at_each rows globals (ls ∷ all) h zero w = (and_parts (Held rows globals ls) (all_start rows globals all) h).0
at_each rows globals (ls ∷ all) h (suc k) w = at_each rows globals all (and_parts (Held rows globals ls) (all_start rows globals all) h).1 k (omega (arith, w))

from_each : (rows : List Row) (globals : List ℤ) (all : List (List ℤ)) → ((k : ℕ) → k < length all → Held rows globals (slice_index_or all k []) ≡ true) → all_start rows globals all ≡ true
from_each rows globals [] h = refl
from_each rows globals (ls ∷ all) h = ap₂ (λ (a b : Bool). a && b) (h zero (omega arith)) (from_each rows globals all (λ k w. h (suc k) (omega (arith, w))))

pub starts_exactly : (setting : Setting) (s : State) (b : Bool) → 0 < length s.locals → IsSized setting s → list_all (holds (value_at (values_of 0 s))) setting.init_once ≡ true →
    b ≡ all_start setting.init_each s.globals s.locals → (b ≡ true → IsInitial setting s) × (IsInitial setting s → b ≡ true)
starts_exactly setting s b some sized once e = (
  λ t. record { threads = some; globals = sized.globals; locals = sized.locals; once = once; each = at_each setting.init_each s.globals s.locals (sym e ∙ t) },
  λ h. e ∙ from_each setting.init_each s.globals s.locals h.each,
)

first_is : (lss all : List (List ℤ)) (ls : List ℤ) → all ≡ lss → 0 < length lss → ls ≡ get_or all 0 ls → ls ≡ slice_index_or lss 0 []
first_is [] all ls e w h = let no_such : ⊥ = omega (arith, w) in absurd no_such
first_is (l ∷ lss) all ls e w h = h ∙ ap (λ (xs : List (List ℤ)). get_or xs 0 ls) e

-- the values that the first thread sees
pub first_seen : (s : State) (all : List (List ℤ)) (ls globals seen : List ℤ) → all ≡ s.locals → 0 < length s.locals → ls ≡ get_or all 0 ls → globals ≡ s.globals → seen ≡ ls →
    values_from globals seen ≡ values_of 0 s
first_seen s all ls globals seen e w h g same = ap₂ values_from g (same ∙ first_is s.locals all ls e w h)

pub starts_some : (setting : Setting) (s : State) (o : Option Bool) → 0 < length s.locals → IsSized setting s → list_all (holds (value_at (values_of 0 s))) setting.init_once ≡ true →
    SomeIff o (EachFits setting.init_each s.globals s.locals) (all_start setting.init_each s.globals s.locals) → IfSome o (λ (b : Bool). (b ≡ true → IsInitial setting s) × (IsInitial setting s → b ≡ true))
starts_some setting s None some sized once h = tt
starts_some setting s (Some b) some sized once h = starts_exactly setting s b some sized once h.1

-- ---- with what code has of a thread
module _ (rows : List Row) (globals : List ℤ) (all : List (List ℤ)) (i : ℕ) (ls seen : List ℤ) (w : i < length all) (is : ls ≡ get_or all i ls) (same : seen ≡ ls) (t : IsStarting rows globals all (drop i all)) where
  seen_is : seen ≡ get_or all i ls
  seen_is = same ∙ is

  pub holds_on : TestsFit (value_at (values_from globals seen)) rows → list_all (holds (value_at (values_from globals seen))) rows ≡ true → IsStarting rows globals all (drop (i + 1) all)
  holds_on f h =
      starting_holds rows globals all i ls w t (subst (λ (x : List ℤ). TestsFit (value_at (values_from globals x)) rows) seen_is f)
      (subst (λ (x : List ℤ). list_all (holds (value_at (values_from globals x))) rows ≡ true) seen_is h)

  pub fails_on : TestsFit (value_at (values_from globals seen)) rows → list_all (holds (value_at (values_from globals seen))) rows ≡ false → EachFits rows globals all × (all_start rows globals all ≡ false)
  fails_on f h =
      starting_fails rows globals all i ls w t (subst (λ (x : List ℤ). TestsFit (value_at (values_from globals x)) rows) seen_is f)
      (subst (λ (x : List ℤ). list_all (holds (value_at (values_from globals x))) rows ≡ false) seen_is h)

  pub past_on : ¬ TestsFit (value_at (values_from globals seen)) rows → ¬ EachFits rows globals all
  past_on past = starting_past rows globals all i ls w t (λ f. past (subst (λ (x : List ℤ). TestsFit (value_at (values_from globals x)) rows) (sym seen_is) f))

pub each_same : (rows rows' : List Row) (gs gs' : List ℤ) (all all' : List (List ℤ)) → rows ≡ rows' → gs ≡ gs' → all ≡ all' → EachFits rows gs all → EachFits rows' gs' all'
each_same rows rows' gs gs' all all' e f g h =
    subst (λ (rs : List Row). EachFits rs gs' all') e (subst (λ (ys : List ℤ). EachFits rows ys all') f (subst (λ (ls : List (List ℤ)). EachFits rows gs ls) g h))

pub start_same : (rows rows' : List Row) (gs gs' : List ℤ) (all all' : List (List ℤ)) → rows ≡ rows' → gs ≡ gs' → all ≡ all' → all_start rows gs all ≡ all_start rows' gs' all'
start_same rows rows' gs gs' all all' e f g =
    ap (λ (rs : List Row). all_start rs gs all) e ∙ ap (λ (ys : List ℤ). all_start rows' ys all) f ∙ ap (all_start rows' gs') g
