-- What contracts see of the reader's own types.
use Rattle.ps_parse.specs.declared.word.Word as code
use Rattle.ps_grammar.specs.Words.{Word}

-- a word with its bytes
abbrev pub seen_word : code.Word → Word
seen_word w = record { kind = w.kind; text = w.text.now; place = w.place }
