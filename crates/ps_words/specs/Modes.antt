-- The names of the modes that are built.
use Rattle.std.specs.Prelude.{ℕ, List}
use Rattle.ps_words.specs.declared.mode.Mode.{Mode}
use Rattle.ps_words.specs.declared.mode.Mode.TheVariants.{Refute, Replay, Check, Member}
use Rattle.ps_words.specs.declared.mode.TheConstants.{REFUTE, REPLAY, CHECK, MEMBER}

-- the word that names a mode
abbrev pub mode_name : Mode → List ℕ
mode_name Refute = REFUTE.now
mode_name Replay = REPLAY.now
mode_name Check = CHECK.now
mode_name Member = MEMBER.now
