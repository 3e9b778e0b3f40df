use Rattle.std.proofs.Common.{◌≡◌, Bool, true, false, refl, sym, ◌∙◌, ap, ℕ, zero, suc, ◌<◌, ℤ, pos, negsuc, List, [], ◌∷◌, length, arith}
use Rattle.std.specs.Prelude.{IsTrue}
use Rattle.std.specs.List.{list_all}
use Rattle.std.proofs.lemmas.List.Elements.{All-from_recursion, recursion_from_All}
use Rattle.ps_command.specs.Initial.{IsInitial}
use Rattle.ps_command.specs.Run.{holds}
use Rattle.ps_command.specs.Values.{values_of, value_at}
use Rattle.ps_command.specs.declared.setting.Setting.{Setting}
use Rattle.ps_command.specs.declared.state.State.{State}
use Rattle.ps_graph.specs.Examples.{state}
use Rattle.ps_graph.specs.Examples.Starts.{IsBounded}
use Rattle.ps_term.specs.declared.row.Row.{Row}
use Rattle.ps_graph.proofs.worked.initial_states.Goals as goal

pub returns-clause-globals : goal.returns-clause-globals
returns-clause-globals c = (refl, refl, refl, refl, refl)

pub returns-clause-locals : goal.returns-clause-locals
returns-clause-locals c = (refl, refl)

pub returns-clause-undeclared : goal.returns-clause-undeclared
returns-clause-undeclared c = (refl, refl)

pub returns-clause-relations : goal.returns-clause-relations
returns-clause-relations c = (refl, refl, refl)

pub returns-clause-declared : goal.returns-clause-declared
returns-clause-declared c = (refl, refl, refl)

pub returns-clause-named : goal.returns-clause-named
returns-clause-named c = (refl, refl)

-- whether rows hold of what a thread of a state sees
abbrev all_hold_of : ℕ → State → List Row → Bool
all_hold_of k s rows = list_all (holds (value_at (values_of k s))) rows

module _ (setting : Setting) (is : IsBounded setting) where
  first : State
  first = state (pos 1) ((pos 0 ∷ []) ∷ (pos 4 ∷ []) ∷ [])

  each_holds : (k : ℕ) → k < 2 → IsTrue (all_hold_of k (state (pos 1) ((pos 0 ∷ []) ∷ (pos 4 ∷ []) ∷ [])) setting.init_each)
  each_holds zero within = ap (all_hold_of zero (state (pos 1) ((pos 0 ∷ []) ∷ (pos 4 ∷ []) ∷ []))) is.each
  each_holds (suc zero) within = ap (all_hold_of (suc zero) (state (pos 1) ((pos 0 ∷ []) ∷ (pos 4 ∷ []) ∷ []))) is.each
  each_holds (suc (suc k)) within = let none : ⊥ = omega (arith, within) in absurd none

  starts : IsInitial setting (state (pos 1) ((pos 0 ∷ []) ∷ (pos 4 ∷ []) ∷ []))
  starts = record {
    threads = omega arith;
    globals = sym is.globals;
    locals = All-from_recursion (λ (values : List ℤ). length values ≡ setting.locals) ((pos 0 ∷ []) ∷ (pos 4 ∷ []) ∷ []) (sym is.locals, (sym is.locals, tt));
    once = ap (all_hold_of 0 (state (pos 1) ((pos 0 ∷ []) ∷ (pos 4 ∷ []) ∷ []))) is.once;
    each = each_holds;
  }

  once_fails : IsInitial setting (state (pos 2) ((pos 0 ∷ []) ∷ [])) → ⊥
  once_fails i = let no_such : false ≡ true = sym (ap (all_hold_of 0 (state (pos 2) ((pos 0 ∷ []) ∷ []))) is.once) ∙ i.once in cc

  each_fails : IsInitial setting (state (pos 1) ((pos 0 ∷ []) ∷ (negsuc 0 ∷ []) ∷ [])) → ⊥
  each_fails i =
      let no_such : false ≡ true = sym (ap (all_hold_of 1 (state (pos 1) ((pos 0 ∷ []) ∷ (negsuc 0 ∷ []) ∷ []))) is.each) ∙ i.each 1 (omega arith) in cc

  none_start : IsInitial setting (state (pos 1) []) → ⊥
  none_start i = let h : 0 < length {A = List ℤ} [] = i.threads in let none : ⊥ = omega (arith, h) in none

  locals_differ : IsInitial setting (state (pos 1) ((pos 0 ∷ pos 0 ∷ []) ∷ [])) → ⊥
  locals_differ i =
      let h : 2 ≡ setting.locals = (recursion_from_All (λ (values : List ℤ). length values ≡ setting.locals) ((pos 0 ∷ pos 0 ∷ []) ∷ []) i.locals).0 in
      let none : ⊥ = omega (arith, h, is.locals) in none

  globals_differ : IsInitial setting (record { globals = pos 1 ∷ pos 0 ∷ []; locals = (pos 0 ∷ []) ∷ [] }) → ⊥
  globals_differ i = let h : 2 ≡ setting.globals = i.globals in let none : ⊥ = omega (arith, h, is.globals) in none

pub returns-clause-setting : goal.returns-clause-setting
returns-clause-setting c = λ setting is. (
  starts setting is,
  once_fails setting is,
  each_fails setting is,
  none_start setting is,
  locals_differ setting is,
  globals_differ setting is,
)
