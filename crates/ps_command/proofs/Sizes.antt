-- A run keeps the numbers of values.
use Rattle.std.proofs.Common.{◌≡◌, refl, ◌∙◌, subst, Bool, true, false, ℕ, ℤ, pos, ◌<◌, List, [], ◌∷◌, length, length-set, if◌then◌else◌}
use Rattle.std.specs.Prelude.{slice_index_or, Option, Some, None, option_map, drop}
use Rattle.std.proofs.lemmas.Option.{same_Some}
use Rattle.std.proofs.lemmas.List.Elements.{All-set, All-get_or}
use Rattle.ps_term.specs.Term.{value}
use Rattle.ps_term.specs.declared.var.Var.{Var}
use Rattle.ps_term.specs.declared.var.Var.TheVariants.{Global, Local, Havoc}
use Rattle.ps_command.specs.Fitting.{IsSized}
use Rattle.ps_command.specs.Run.{holds, run, run_by}
use Rattle.ps_command.specs.Values.{Values, value_at, with_value, values_of, with_values}
use Rattle.ps_command.specs.declared.op.Op.{Op}
use Rattle.ps_command.specs.declared.op.Op.TheVariants.{Assume, Assign, Havoc as HavocOp}
use Rattle.ps_command.specs.declared.setting.Setting.{Setting}
use Rattle.ps_command.specs.declared.state.State.{State}

pub record SameSizes (v w : Values) : Type 0 where
  pub globals : length w.globals ≡ length v.globals
  pub locals : length w.locals ≡ length v.locals

pub set_sizes : (v : Values) (x : Var) (z : ℤ) → SameSizes v (with_value v x z)
set_sizes v (Global n) z = record { globals = length-set v.globals n z; locals = refl }
set_sizes v (Local t n) z = record { globals = refl; locals = length-set v.locals n z }
set_sizes v (Havoc n) z = record { globals = refl; locals = refl }

pub run_sizes : (ops : List Op) (v : Values) (hs : List ℤ) (w : Values) → run ops v hs ≡ Some w → SameSizes v w
run_sizes [] v hs w e = let same : v ≡ w = same_Some v w e in subst (λ (x : Values). SameSizes v x) same (record { globals = refl; locals = refl })
run_sizes (Assume r ∷ ops) v hs w e = on (holds (value_at v) r) e (λ h. run_sizes ops v hs w h)
  where
    on : (b : Bool) → (if b then run ops v hs else None) ≡ Some w → (run ops v hs ≡ Some w → SameSizes v w) → SameSizes v w
    on true h rest = rest h
    on false h rest = cc
run_sizes (Assign x t ∷ ops) v hs w e =
    let a : SameSizes v (with_value v x (value (value_at v) t)) = set_sizes v x (value (value_at v) t) in
    let b : SameSizes (with_value v x (value (value_at v) t)) w = run_sizes ops (with_value v x (value (value_at v) t)) hs w e in
    record { globals = b.globals ∙ a.globals; locals = b.locals ∙ a.locals }
run_sizes (HavocOp x ∷ ops) v hs w e =
    let a : SameSizes v (with_value v x (slice_index_or hs 0 (pos 0))) = set_sizes v x (slice_index_or hs 0 (pos 0)) in
    let b : SameSizes (with_value v x (slice_index_or hs 0 (pos 0))) w = run_sizes ops (with_value v x (slice_index_or hs 0 (pos 0))) (drop 1 hs) w e in
    record { globals = b.globals ∙ a.globals; locals = b.locals ∙ a.locals }

pub step_sizes : (setting : Setting) (ops : List Op) (s after : State) (k : ℕ) (hs : List ℤ) → IsSized setting s → k < length s.locals →
    run_by k ops s hs ≡ Some after → IsSized setting after
step_sizes setting ops s after k hs sized within e = on (run ops (values_of k s) hs) refl e
  where
    put : (w : Values) → SameSizes (values_of k s) w → with_values k s w ≡ after → IsSized setting after
    put w same is = subst (λ (x : State). IsSized setting x) is (record {
      globals = same.globals ∙ sized.globals;
      locals = All-set (λ (values : List ℤ). length values ≡ setting.locals) s.locals k w.locals
          (same.locals ∙ All-get_or (λ (values : List ℤ). length values ≡ setting.locals) s.locals k [] within sized.locals) sized.locals;
    })

    on : (o : Option Values) → run ops (values_of k s) hs ≡ o → option_map (with_values k s) o ≡ Some after → IsSized setting after
    on None h i = cc
    on (Some w) h i = put w (run_sizes ops (values_of k s) hs w h) (same_Some (with_values k s w) after i)
