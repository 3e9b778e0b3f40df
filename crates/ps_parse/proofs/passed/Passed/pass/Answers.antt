use Rattle.std.proofs.Common.{sym, subst}
use Rattle.ps_parse.specs.Inner.Passed.{Tally, Tells}
use Rattle.ps_parse.specs.Inner.Seen.{seen_word}
use Rattle.ps_parse.proofs.Passing.{tells_more}
use Rattle.ps_parse.proofs.passed.Passed.pass.Goals as goal

pub returns : goal.returns
returns c = λ back h s. tells_more _ back (seen_word c.args.word) c.ones.result c.ones-2.result c.row_weight.result _ _ (subst (λ (t : Tally). Tells t back) (sym c.self.view_is) h) s c.ones.ensures.is c.ones-2.ensures.is c.row_weight.ensures.is (rw c.is_declared-wanted.ensures at c.in_ok-add_name.ensures) (rw c.is_kind_of-atomic.ensures at c.in_ok-pass_levels.ensures)
