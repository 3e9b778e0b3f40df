use Rattle.std.proofs.Common.{◌-◌, ℕ, [], ◌∷◌, get_or, refl, sym, ap, arith}
use Rattle.std.specs.Prelude.{Option, unwrap_or}
use Rattle.ps_member.specs.declared.cut.Cut.{Cut}
use Rattle.ps_member.proofs.Going.{letters_more, letters_none}
use Rattle.ps_member.proofs.Walking.{walk_longer, walk_none}
use Rattle.ps_triple.specs.Entries.{false_atom}
use Rattle.ps_member.proofs.back.walk_back.Goals as goal

pub loop-left-init : goal.loop-left-init
loop-left-init g c = record {
  within = omega arith;
  letters = letters_none c.args.graph.now.edges c.in_ok-cuts.cuts.items c.args.letters.now c.in_ok-cuts.ensures.items;
  walk = walk_none (g.B.Shown.entries c.args.basis.now) c.in_ok-cuts.cuts.items c.in_ok-atoms.atoms.items c.in_ok-cuts.ensures.items c.in_ok-atoms.ensures;
}

pub loop-left-preserved : goal.loop-left-preserved
loop-left-preserved g c =
    let cut : Cut = record { thread = (get_or c.args.letters.now (c.loop-left.left - 1) (record { thread = 0; edge = 0 })).thread; command = c.command_of-command.result; after = c.loop-left.atoms } in
    record {
      within = omega arith;
      letters = letters_more c.args.graph.now.edges c.loop-left.cuts.items c.push.new.self.items cut c.args.letters.now c.loop-left.left (record { thread = 0; edge = 0 })
          c.loop-left-test.true c.loop-left.invariant.within refl (sym (ap (λ (o : Option ℕ). unwrap_or o 0) c.command_of-command.ensures.command)) c.in_ok-push.ensures.items c.loop-left.invariant.letters;
      walk = walk_longer (g.B.Shown.entries c.args.basis.now) (false_atom ∷ []) c.loop-left.cuts.items c.push.new.self.items cut c.as_slice.result.now c.in_ok-before.before.items
          c.in_ok-push.ensures.items c.as_slice.ensures.value c.loop-left.invariant.walk c.in_ok-before.ensures.all c.in_ok-before.ensures.ascend;
    }
