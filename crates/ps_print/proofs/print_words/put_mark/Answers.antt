use Rattle.std.proofs.Common.{ℕ, List, ◌++◌, ◌∷◌, [], ◌∙◌, ap}
use Rattle.ps_print.proofs.Putting.{mark_put}
use Rattle.ps_print.proofs.print_words.put_mark.Goals as goal

pub returns : goal.returns
returns c =
    mark_put c.args.kind c.args.out.now.items c.extend_from_slice.new.self.items c.push.new.self.items
    (c.in_ok-extend_from_slice.ensures.items ∙ ap (λ (z : List ℕ). c.args.out.now.items ++ z) c.spelling.ensures)
    (c.in_ok-push.ensures.items ∙ ap (λ (z : ℕ). c.extend_from_slice.new.self.items ++ z ∷ []) c.byte_after.ensures)
