use Rattle.ps_words.proofs.Plain.{plain_asks}
use Rattle.ps_words.proofs.laws.plain_words_ask_for_what_they_say.Goals as goal

pub returns : goal.returns
returns c = plain_asks
