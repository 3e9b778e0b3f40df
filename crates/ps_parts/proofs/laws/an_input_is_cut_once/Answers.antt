use Rattle.ps_parts.proofs.Marks.{one_cut}
use Rattle.ps_parts.proofs.laws.an_input_is_cut_once.Goals as goal

pub returns : goal.returns
returns c = λ input before after front rest. one_cut input before after front rest
