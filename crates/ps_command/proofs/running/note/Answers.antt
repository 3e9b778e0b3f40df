use Rattle.std.proofs.Common.{◌≡◌, ℤ, List, ◌++◌, [], ◌∷◌, ap, ◌∙◌, subst, FitsSigned, rules}
use Rattle.std.specs.Prelude.{Result, Ok, Err, OnOk, OnErr}
use Rattle.std.specs.Int.{w128}
use Rattle.std.proofs.lemmas.Int.{to_z-of_z}
use Rattle.ps_term.specs.declared.term.Term.{Term}
use Rattle.ps_term.specs.declared.var.Var.{Var}
use Rattle.ps_term.specs.Term.{value}
use Rattle.ps_command.specs.Values.{Values, value_at}
use Rattle.ps_command.specs.declared.op.Op.{Op}
use Rattle.ps_command.specs.declared.op.Op.TheVariants.{Assign, Havoc}
use Rattle.ps_command.specs.inner.View.{after_op, seen, undone}
use Rattle.ps_command.proofs.Undoing.{noted_same, noted_set}
use Rattle.ps_command.proofs.running.note.Goals as goal

on_ok : {T E : Type 0} {P Q : Type 0} (r : Result T E) → (P → Q) → OnOk r P → OnOk r Q
on_ok (Ok x) f h = f h
on_ok (Err e) f h = tt

either : {T E : Type 0} {P : Type 0} (r : Result T E) {A B : Type 0} → (A → P) → (B → P) → OnOk r A → OnErr r B → P
either (Ok x) f g a b = f a
either (Err e) f g a b = g b

noted : (ps new : List (Var × ℤ)) (v : Values) (x : Var) (z : ℤ) → z ≡ value_at v x → new ≡ ps ++ (x, z) ∷ [] → new ≡ ps ++ (x, value_at v x) ∷ []
noted ps new v x z e h = h ∙ ap (λ (y : ℤ). ps ++ (x, y) ∷ []) e

pub returns-in-Assign-clause-noted : goal.returns-in-Assign-clause-noted
returns-in-Assign-clause-noted c =
    let fits : FitsSigned w128 c.value_of.result = search rules in
    let made = simp to_z-of_z at c.append.ensures.appended in
    on_ok c.append.result
    (λ h havoc. ap (λ (op : Op). undone c.append.new.undo.items (after_op (seen c.args.view.now) op havoc)) c.in-Assign.is
    ∙ noted_set c.args.undo.now.items c.append.new.undo.items (seen c.args.view.now) c.in-Assign.variable (value (value_at (seen c.args.view.now)) c.in-Assign.field-1)
    (noted c.args.undo.now.items c.append.new.undo.items (seen c.args.view.now) c.in-Assign.variable c.value_of.result c.value_of.ensures h)) made

pub returns-in-Assign-clause-kept : goal.returns-in-Assign-clause-kept
returns-in-Assign-clause-kept c =
    let fits : FitsSigned w128 c.value_of.result = search rules in
    let made = simp to_z-of_z at c.append.ensures.appended in
    either c.append.result
    (λ h. noted_same c.args.undo.now.items c.append.new.undo.items (seen c.args.view.now) c.in-Assign.variable
    (noted c.args.undo.now.items c.append.new.undo.items (seen c.args.view.now) c.in-Assign.variable c.value_of.result c.value_of.ensures h))
    (λ h. ap (λ (ps : List (Var × ℤ)). undone ps (seen c.args.view.now)) h) made c.append.ensures.kept

pub returns-in-Havoc-clause-noted : goal.returns-in-Havoc-clause-noted
returns-in-Havoc-clause-noted c =
    let fits : FitsSigned w128 c.value_of-in-Havoc.result = search rules in
    let made = simp to_z-of_z at c.append-in-Havoc.ensures.appended in
    on_ok c.append-in-Havoc.result
    (λ h havoc. ap (λ (op : Op). undone c.append-in-Havoc.new.undo.items (after_op (seen c.args.view.now) op havoc)) c.in-Havoc.is
    ∙ noted_set c.args.undo.now.items c.append-in-Havoc.new.undo.items (seen c.args.view.now) c.in-Havoc.variable havoc
    (noted c.args.undo.now.items c.append-in-Havoc.new.undo.items (seen c.args.view.now) c.in-Havoc.variable c.value_of-in-Havoc.result c.value_of-in-Havoc.ensures h)) made

pub returns-in-Havoc-clause-kept : goal.returns-in-Havoc-clause-kept
returns-in-Havoc-clause-kept c =
    let fits : FitsSigned w128 c.value_of-in-Havoc.result = search rules in
    let made = simp to_z-of_z at c.append-in-Havoc.ensures.appended in
    either c.append-in-Havoc.result
    (λ h. noted_same c.args.undo.now.items c.append-in-Havoc.new.undo.items (seen c.args.view.now) c.in-Havoc.variable
    (noted c.args.undo.now.items c.append-in-Havoc.new.undo.items (seen c.args.view.now) c.in-Havoc.variable c.value_of-in-Havoc.result c.value_of-in-Havoc.ensures h))
    (λ h. ap (λ (ps : List (Var × ℤ)). undone ps (seen c.args.view.now)) h) made c.append-in-Havoc.ensures.kept
