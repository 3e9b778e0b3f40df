-- Which answer words are given, of what was read and the first word with a cause of a refusal.
use Rattle.std.specs.Prelude.{ℕ, ◌+◌, Bool, true, false, not, ◌&&◌, ◌||◌, ◌==◌, List, nat_lt, Option, Some, None, Result, Ok, Err, if◌then◌else◌}
use Rattle.ps_token.specs.declared.place.Place.{Place}
use Rattle.ps_tree.specs.declared.program.Program.{Program}
use Rattle.ps_grammar.specs.Programs.{IsProgramText}
use Rattle.ps_grammar.specs.Words.{Word}
use Rattle.ps_parse.specs.Causes.{AreRefused}
use Rattle.ps_parse.specs.declared.read_refusal.ReadRefusal.{ReadRefusal}
use Rattle.ps_parse.specs.declared.read_refusal.ReadRefusal.TheVariants as refusal
use Rattle.ps_parse.specs.declared.spot.Spot.{Spot}

-- the words are this program, or refused by this; of want of memory nothing is said
abbrev pub AreAnswered : List Word → Place → Result Program ReadRefusal → Type 0
AreAnswered words end (Ok program) = IsProgramText words program
AreAnswered words end (Err (refusal.Memory e)) = Unit {0}
AreAnswered words end (Err refused) = AreRefused words end refused

-- the place stands before the other
abbrev pub is_before : Place → Place → Bool
is_before p q = nat_lt p.line q.line || (p.line == q.line && nat_lt p.column q.column)

-- a second name of a product
abbrev pub is_second : ReadRefusal → Bool
is_second (refusal.NotLinear p) = true
is_second refused = false

-- A fault of the grammar goes before the cause: it stands before it, or at its word, where that is no second name of a
-- product.
abbrev pub goes_first : Place → Spot → Bool
goes_first fault spot = is_before fault spot.place || (not (is_before spot.place fault) && not (is_second spot.refusal))

abbrev pub first_refusal : Place → Spot → ReadRefusal
first_refusal fault spot = if goes_first fault spot then refusal.Grammar fault else spot.refusal

-- The answer: what was read where no word has a cause, and else the cause, unless a fault of the grammar goes before it.
abbrev pub decided : Option Spot → Result Program ReadRefusal → Result Program ReadRefusal
decided None read = read
decided (Some spot) (Ok program) = Err spot.refusal
decided (Some spot) (Err (refusal.Memory e)) = Err (refusal.Memory e)
decided (Some spot) (Err (refusal.Grammar fault)) = Err (first_refusal fault spot)
decided (Some spot) (Err refused) = Err spot.refusal

-- how many of so many words are parsed: those up to and with the one that has the first cause
abbrev pub parsed : Option Spot → ℕ → ℕ
parsed None all = all
parsed (Some spot) all = spot.before + 1
