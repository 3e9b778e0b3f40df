use Rattle.std.proofs.Common.{subst, List}
use Rattle.ps_token.proofs.OneCut.{one_list}
use Rattle.ps_token.specs.declared.token.Token.{Token}
use Rattle.ps_parse.proofs.OneAnswer.{one_program}
use Rattle.ps_grammar.specs.Programs.{IsProgramText}
use Rattle.ps_grammar.specs.Words.{words_of}
use Rattle.ps_parse.proofs.laws.one_program_of_bytes.Goals as goal

pub returns : goal.returns
returns c = λ bytes program other a b.
    one_program (words_of bytes a.tokens) program other a.is
    (subst (λ (tokens : List Token). IsProgramText (words_of bytes tokens) other) (one_list bytes b.tokens a.tokens b.cut a.cut) b.is)
