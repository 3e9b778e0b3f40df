use Rattle.std.proofs.Common.{◌≡◌, ◌+◌, ◌-◌, ◌≤◌, refl, sym, ap, ◌∙◌, ℕ, take, drop, length, length-drop, length-take-le, get_or, arith}
use Rattle.ps_command.specs.declared.symbolic_form.SymbolicForm.{SymbolicForm}
use Rattle.ps_interp.proofs.Parting.{each_more, letters_more, parted_room}
use Rattle.ps_soundness.specs.Traces.{command_of_edge}
use Rattle.ps_trace.specs.declared.trace.Letter.{Letter}
use Rattle.ps_triple.specs.Rows.{form_in}
use Rattle.ps_triple.proofs.Membership.{any_default}
use Rattle.ps_interp.specs.inner.Parts.{part_of}
use Rattle.std.proofs.Common.{map}
use Rattle.std.specs.Prelude.{Option, unwrap_or}
use Rattle.ps_interp.proofs.weights.weighed_letters.Goals as goal

pub loop-letter-preserved : goal.loop-letter-preserved
loop-letter-preserved c =
    let d : Letter = record { thread = 0; edge = 0 } in
    let x : Letter = get_or c.args.letters.now c.loop-letter.letter-index d in
    let is : x ≡ get_or c.args.letters.now c.loop-letter.letter-index x = any_default c.args.letters.now c.loop-letter.letter-index d x c.loop-letter-test.true in
    let command : c.command_of-command.result ≡ command_of_edge c.args.graph.now.edges x.edge = sym (ap (λ (o : Option ℕ). unwrap_or o 0) c.command_of-command.ensures.command) in
    let own : length c.as_slice.result.now ≡ length (form_in c.args.graph.now.setting c.command_of-command.result).rows =
    ap length c.as_slice.ensures ∙ ap (λ (f : SymbolicForm). length f.rows) c.form_of.ensures.form in
    let n : length c.as_slice.result.now ≡ length (form_in c.args.graph.now.setting (command_of_edge c.args.graph.now.edges x.edge)).rows =
    own ∙ ap (λ (k : ℕ). length (form_in c.args.graph.now.setting k).rows) command in
    let room : c.loop-letter.at + length (form_in c.args.graph.now.setting (command_of_edge c.args.graph.now.edges x.edge)).rows ≤ length c.args.weights.now =
    parted_room c.args.graph.now.setting c.args.graph.now.edges c.args.letters.now c.args.weights.now (map part_of c.loop-letter.list.items) c.loop-letter.letter-index c.loop-letter.at x
    c.loop-letter.invariant.parted c.loop-letter-test.true is in
    let m : c.loop-letter.at + length c.as_slice.result.now - c.loop-letter.at ≡ length c.as_slice.result.now = omega arith in
    record {
      parted = letters_more c.args.graph.now.setting c.args.graph.now.edges c.args.letters.now c.args.weights.now c.loop-letter.list.items c.push.new.self.items _ c.in_ok-push.ensures.items
          c.loop-letter.letter-index c.loop-letter.at (length c.as_slice.result.now) x c.loop-letter.invariant.parted c.loop-letter-test.true is n
          refl command (ap (λ (k : ℕ). take k (drop c.loop-letter.at c.args.weights.now)) m);
      each = each_more c.args.graph.now.setting c.loop-letter.list.items c.push.new.self.items _ c.in_ok-push.ensures.items c.loop-letter.invariant.each c.command_of-command.ensures.there
          (ap (λ (k : ℕ). length (take k (drop c.loop-letter.at c.args.weights.now))) m
          ∙ (length-take-le (length c.as_slice.result.now) (drop c.loop-letter.at c.args.weights.now)
          (let e : length (drop c.loop-letter.at c.args.weights.now) ≡ length c.args.weights.now - c.loop-letter.at = length-drop c.loop-letter.at c.args.weights.now in omega (arith, e, n, room))
          ∙ own));
    }
