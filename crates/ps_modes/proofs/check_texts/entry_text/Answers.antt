-- The longer texts.
use Rattle.ps_modes.proofs.check_texts.entry_text.Goals as goal

pub returns-in-Past128 : goal.returns-in-Past128
returns-in-Past128 c = rw c.in-Past128.is c.format-in-Past128.ensures.ok

pub returns-in-Sum : goal.returns-in-Sum
returns-in-Sum c = rw c.in-Sum.is c.format-in-Sum.ensures.ok
