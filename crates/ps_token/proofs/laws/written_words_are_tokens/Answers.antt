use Rattle.ps_token.proofs.WrittenWords.{words_are_tokens}
use Rattle.ps_token.proofs.laws.written_words_are_tokens.Goals as goal

pub returns : goal.returns
returns c = words_are_tokens c.args.bytes.now
