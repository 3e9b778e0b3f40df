use Rattle.std.proofs.Common.{length}
use Rattle.ps_parts.proofs.laws.a_cut_input_has_a_mark.Goals as goal

pub returns : goal.returns
returns c = λ input before after cut none. none (length before) cut.first.mark
