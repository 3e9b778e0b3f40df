-- Words that `clap` refuses, or whose MODE names nothing.
use Rattle.std.proofs.Common.{◌≡◌, ◌∙◌, List, [], ◌∷◌, Some, false, true, sym, codes}
use Rattle.std.specs.Str.{bytes_eq}
use Rattle.std.proofs.lemmas.Slice.Eq.{bytes_eq-Decides}
use Rattle.clap.specs.Faults.{fault_of}
use Rattle.clap.specs.Simple.{matches_of}
use Rattle.clap.specs.Walk.{Text, first_of}
use Rattle.clap.specs.declared.error.kind.ErrorKind.{ErrorKind}
use Rattle.ps_words.specs.Asked.{AskForNothing}
use Rattle.ps_words.specs.Command.{command}
use Rattle.ps_words.specs.Modes.{mode_name}
use Rattle.ps_words.specs.declared.mode.Mode.{Mode}

pub faulty_words : (words : List Text) (kind : ErrorKind) → fault_of command words ≡ kind ∷ [] → AskForNothing words
faulty_words words kind fault asked asks = let none = asks.taken in absurd (cc)

some_is : (x y : Text) → Some x ≡ Some y → x ≡ y
some_is x y e = cc

pub nameless_words : (words : List Text) (name : Text) → first_of (codes "MODE") (matches_of command words) ≡ Some name
    → ((mode : Mode) → bytes_eq (mode_name mode) name ≡ false) → AskForNothing words
nameless_words words name named other asked asks =
    let mode = asks.matched.mode in
    let same : mode_name asked.mode ≡ name = some_is (mode_name asked.mode) name (sym mode ∙ named) in
    let alike : bytes_eq (mode_name asked.mode) name ≡ true = (bytes_eq-Decides (mode_name asked.mode) name).1 same in
    let unlike = other asked.mode in absurd (cc)
