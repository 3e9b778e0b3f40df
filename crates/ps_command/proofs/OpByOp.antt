-- A run op by op: what is left of the ops, from the values so far, is all.
use Rattle.std.proofs.Common.{◌≡◌, refl, sym, ap, ap₂, ◌∙◌, subst, subst₂, Bool, true, false, ℕ, ◌<◌, ◌+◌, ℤ, pos, List, [], ◌∷◌, length, get_or, if◌then◌else◌}
use Rattle.std.specs.Prelude.{slice_index_or, Some, None, drop}
use Rattle.std.specs.List.{list_all}
use Rattle.std.proofs.lemmas.Bool.{and_parts, false≢true}
use Rattle.std.proofs.lemmas.List.{drop_more}
use Rattle.ps_term.specs.Term.{value}
use Rattle.ps_command.specs.Named.{is_declared_op}
use Rattle.ps_command.specs.Run.{run}
use Rattle.ps_command.specs.RunFits.{RunFits}
use Rattle.ps_command.specs.Values.{Values, value_at}
use Rattle.ps_command.specs.inner.View.{after_op, is_passed, havocs_left, OpRunFits}
use Rattle.ps_command.specs.declared.op.Op.{Op}
use Rattle.ps_command.specs.declared.op.Op.TheVariants.{Assume, Assign, Havoc}
use Rattle.ps_command.proofs.Sizes.{SameSizes, set_sizes}

-- ---- one op

run_op : (op : Op) (ops : List Op) (v : Values) (hs : List ℤ) → run (op ∷ ops) v hs ≡ (if is_passed v op then run ops (after_op v op (slice_index_or hs 0 (pos 0))) (havocs_left op hs) else None)
run_op (Assume r) ops v hs = refl
run_op (Assign x t) ops v hs = refl
run_op (Havoc x) ops v hs = refl

fits_op : (op : Op) (ops : List Op) (v : Values) (hs : List ℤ) → OpRunFits v op → (is_passed v op ≡ true → RunFits ops (after_op v op (slice_index_or hs 0 (pos 0))) (havocs_left op hs)) → RunFits (op ∷ ops) v hs
fits_op (Assume r) ops v hs f g = (f, g)
fits_op (Assign x t) ops v hs f g = (f, g refl)
fits_op (Havoc x) ops v hs f g = g refl

op_fits : (op : Op) (ops : List Op) (v : Values) (hs : List ℤ) → RunFits (op ∷ ops) v hs → OpRunFits v op × (is_passed v op ≡ true → RunFits ops (after_op v op (slice_index_or hs 0 (pos 0))) (havocs_left op hs))
op_fits (Assume r) ops v hs h = (h.0, h.1)
op_fits (Assign x t) ops v hs h = (h.0, λ e. h.1)
op_fits (Havoc x) ops v hs h = (tt, λ e. h)

op_sizes : (op : Op) (v : Values) (z : ℤ) → SameSizes v (after_op v op z)
op_sizes (Assume r) v z = record { globals = refl; locals = refl }
op_sizes (Assign x t) v z = set_sizes v x (value (value_at v) t)
op_sizes (Havoc x) v z = set_sizes v x z

-- ---- all ops
pub record IsRunning (ops : List Op) (v : Values) (hs : List ℤ) (so_far : Values) (left : List ℤ) (rest : List Op) : Type 0 where
  pub same : run rest so_far left ≡ run ops v hs
  pub fits : RunFits rest so_far left → RunFits ops v hs
  pub fit : RunFits ops v hs → RunFits rest so_far left
  pub named : list_all (is_declared_op (length so_far.globals) (length so_far.locals)) rest ≡ true

pub running_start : (ops : List Op) (v : Values) (hs : List ℤ) → list_all (is_declared_op (length v.globals) (length v.locals)) ops ≡ true → IsRunning ops v hs v hs ops
running_start ops v hs d = record { same = refl; fits = λ h. h; fit = λ h. h; named = d }

-- the ops at a place and after it
pub front_op : (all : List Op) (i : ℕ) (op : Op) → i < length all → op ≡ get_or all i op → drop i all ≡ op ∷ drop (i + 1) all
front_op all i op h is = subst (λ (o : Op). drop i all ≡ o ∷ drop (i + 1) all) (sym is) (drop_more all i op h)

pub running_named : (ops : List Op) (v : Values) (hs : List ℤ) (w : Values) (left : List ℤ) (op : Op) (rest all : List Op) → all ≡ op ∷ rest → IsRunning ops v hs w left all →
    is_declared_op (length w.globals) (length w.locals) op ≡ true
running_named ops v hs w left op rest all e r =
    (and_parts (is_declared_op (length w.globals) (length w.locals) op) (list_all (is_declared_op (length w.globals) (length w.locals)) rest)
    (subst (λ (os : List Op). list_all (is_declared_op (length w.globals) (length w.locals)) os ≡ true) e r.named)).0

turn : (ops : List Op) (v : Values) (hs : List ℤ) (w : Values) (left : List ℤ) (op : Op) (rest : List Op) → IsRunning ops v hs w left (op ∷ rest) → OpRunFits w op → is_passed w op ≡ true →
    IsRunning ops v hs (after_op w op (slice_index_or left 0 (pos 0))) (havocs_left op left) rest
turn ops v hs w left op rest r f on = record {
  same = sym (run_op op rest w left ∙ ap (λ (b : Bool). if b then run rest next (havocs_left op left) else None) on) ∙ r.same;
  fits = λ h. r.fits (fits_op op rest w left f (λ e. h));
  fit = λ h. (op_fits op rest w left (r.fit h)).1 on;
  named = ap₂ (λ (g l : ℕ). list_all (is_declared_op g l) rest) sizes.globals sizes.locals ∙ declared.1;
}
  where
    next : Values
    next = after_op w op (slice_index_or left 0 (pos 0))

    sizes : SameSizes w (after_op w op (slice_index_or left 0 (pos 0)))
    sizes = op_sizes op w (slice_index_or left 0 (pos 0))

    declared : (is_declared_op (length w.globals) (length w.locals) op ≡ true) × (list_all (is_declared_op (length w.globals) (length w.locals)) rest ≡ true)
    declared = and_parts (is_declared_op (length w.globals) (length w.locals) op) (list_all (is_declared_op (length w.globals) (length w.locals)) rest) r.named

pub running_step : (ops : List Op) (v : Values) (hs : List ℤ) (w new : Values) (left less : List ℤ) (op : Op) (rest all : List Op) → all ≡ op ∷ rest → IsRunning ops v hs w left all →
    OpRunFits w op → is_passed w op ≡ true → new ≡ after_op w op (slice_index_or left 0 (pos 0)) → less ≡ havocs_left op left → IsRunning ops v hs new less rest
running_step ops v hs w new left less op rest all e r f on is n =
    subst₂ (λ (x : Values) (gs : List ℤ). IsRunning ops v hs x gs rest) (sym is) (sym n)
    (turn ops v hs w left op rest (subst (λ (os : List Op). IsRunning ops v hs w left os) e r) f on)

pub running_fails : (ops : List Op) (v : Values) (hs : List ℤ) (w : Values) (left : List ℤ) (op : Op) (rest all : List Op) → all ≡ op ∷ rest → IsRunning ops v hs w left all →
    OpRunFits w op → is_passed w op ≡ false → (run ops v hs ≡ None) × RunFits ops v hs
running_fails ops v hs w left op rest all e r f off =
    let here : IsRunning ops v hs w left (op ∷ rest) = subst (λ (os : List Op). IsRunning ops v hs w left os) e r in (
      sym here.same ∙ (run_op op rest w left ∙ ap (λ (b : Bool). if b then run rest (after_op w op (slice_index_or left 0 (pos 0))) (havocs_left op left) else None) off),
      here.fits (fits_op op rest w left f (λ on. absurd (false≢true (sym off ∙ on)))),
    )

pub running_past : (ops : List Op) (v : Values) (hs : List ℤ) (w : Values) (left : List ℤ) (op : Op) (rest all : List Op) → all ≡ op ∷ rest → IsRunning ops v hs w left all →
    ¬ OpRunFits w op → ¬ RunFits ops v hs
running_past ops v hs w left op rest all e r past h =
    past (op_fits op rest w left (subst (λ (os : List Op). RunFits os w left) e (r.fit h))).0

pub running_end : (ops : List Op) (v : Values) (hs : List ℤ) (w : Values) (left : List ℤ) (rest : List Op) → rest ≡ [] → IsRunning ops v hs w left rest → (run ops v hs ≡ Some w) × RunFits ops v hs
running_end ops v hs w left rest e r =
    let here : IsRunning ops v hs w left [] = subst (λ (os : List Op). IsRunning ops v hs w left os) e r in
    (sym here.same, here.fits tt)
