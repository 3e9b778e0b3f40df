-- A program has one graph: what isn't told by equations of its definition follows, and facts have one proof.
use Rattle.std.proofs.Common.{◌≡◌, ◌∙◌, Bool, List, true, sym}
use Rattle.std.proofs.Math.Bool.{Bool-set}
use Rattle.std.specs.List.{list_all}
use Rattle.std.specs.Prelude.{IsTrue}
use mathlib.Core.HLevel.{is_prop→PathP}
use mathlib.Core.Logic.{∥∥₁_prop}
use mathlib.Core.Path.{PathP, contract'}
use Rattle.ps_command.specs.Commands.{forms_of}
use Rattle.ps_command.specs.Named.{is_declared_command, is_declared_row, names_local}
use Rattle.ps_command.specs.declared.setting.Setting.{Setting}
use Rattle.ps_command.specs.declared.symbolic_form.SymbolicForm.{SymbolicForm}
use Rattle.ps_compile.proofs.Determined.{commands_are_one, edges_are_one}
use Rattle.ps_compile.specs.Compiled.{IsCompiled}
use Rattle.ps_graph.specs.Facts.{IsDeterministic, entries_owned, error_is_final, names_exist, picks_fit, stay_in_bodies}
use Rattle.ps_graph.specs.declared.graph.Graph.{Graph}
use Rattle.ps_tree.specs.declared.program.Program.{Program}

-- a test that computes along a path holds in one way
holds_along : (test : 𝕀 → Bool) → (x : IsTrue (test 0)) (y : IsTrue (test 1)) → PathP (λ i. IsTrue (test i)) x y
holds_along test x y = is_prop→PathP (λ i. IsTrue (test i)) (λ i a b. Bool-set (test i) true a b) x y

-- there is one value that is this one
one_to : {A : Type 0} (b : A) (x y : (a : A) × (a ≡ b)) → x ≡ y
one_to b x y = sym (contract' x.1) ∙ contract' y.1

-- settings are told by their numbers, rows and commands
one_setting : (s t : Setting) → s.globals ≡ t.globals → s.locals ≡ t.locals → s.init_once ≡ t.init_once → s.init_each ≡ t.init_each
    → s.commands ≡ t.commands → s ≡ t
one_setting s t globals locals once each commands =
    let forms = is_prop→PathP (λ i. (symbols : List SymbolicForm) × (symbols ≡ forms_of (commands i))) (λ i. one_to (forms_of (commands i)))
    (s.symbols, s.formed) (t.symbols, t.formed) in
    λ i. record {
      globals = globals i;
      locals = locals i;
      init_once = once i;
      init_each = each i;
      commands = commands i;
      symbols = (forms i).0;
      once_declared = holds_along (λ j. list_all (is_declared_row (globals j) 0) (once j)) s.once_declared t.once_declared i;
      each_declared = holds_along (λ j. list_all (is_declared_row (globals j) (locals j)) (each j)) s.each_declared t.each_declared i;
      each_local = holds_along (λ j. list_all names_local (each j)) s.each_local t.each_local i;
      commands_declared = holds_along (λ j. list_all (is_declared_command (globals j) (locals j)) (commands j)) s.commands_declared t.commands_declared i;
      formed = (forms i).1;
    }

-- and graphs by what their programs tell
same_graph : (g h : Graph) → g.locations ≡ h.locations → g.edges ≡ h.edges → g.entries ≡ h.entries → g.once ≡ h.once → g.owner ≡ h.owner
    → g.setting ≡ h.setting → g ≡ h
same_graph g h locations edges entries once owner setting = λ i. record {
  locations = locations i;
  edges = edges i;
  entries = entries i;
  once = once i;
  owner = owner i;
  setting = setting i;
  numbers = holds_along (λ j. names_exist (locations j) (edges j) (entries j) (once j) (owner j) (setting j).commands) g.numbers h.numbers i;
  entries_own = holds_along (λ j. entries_owned (owner j) (entries j)) g.entries_own h.entries_own i;
  error_final = holds_along (λ j. error_is_final (owner j) (edges j)) g.error_final h.error_final i;
  picks = holds_along (λ j. picks_fit (setting j).commands (edges j)) g.picks h.picks i;
  stays = holds_along (λ j. stay_in_bodies (owner j) (edges j)) g.stays h.stays i;
  deterministic = is_prop→PathP (λ j. ∥ IsDeterministic (setting j).commands (edges j) ∥₁) (λ j. ∥∥₁_prop) g.deterministic h.deterministic i;
}

pub one_graph : (p : Program) (g h : Graph) → IsCompiled p g → IsCompiled p h → g ≡ h
one_graph p g h a b =
    same_graph g h (a.body.counted ∙ sym b.body.counted) (edges_are_one p g h a b) (a.entries ∙ sym b.entries) (a.once ∙ sym b.once)
    (a.owner ∙ sym b.owner)
    (one_setting g.setting h.setting (a.globals ∙ sym b.globals) (a.locals ∙ sym b.locals) (a.init_once ∙ sym b.init_once)
    (a.init_each ∙ sym b.init_each) (commands_are_one p g h a b))
