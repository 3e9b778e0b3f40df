-- Words of worked examples.
use Rattle.std.specs.Prelude.{List, ◌∷◌, codes}
use Rattle.clap.specs.Walk.{Text}

-- the program's name and the mode `refute` before these words
abbrev pub after_refute : List Text → List Text
after_refute words = codes "proofspace" ∷ (codes "refute" ∷ words)
