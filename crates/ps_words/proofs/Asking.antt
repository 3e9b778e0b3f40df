-- What `clap` answered settles what the words ask for.
use Rattle.std.proofs.Common.{◌≡◌, ◌∙◌, List, [], ◌∷◌, true, sym, ap, subst, inl, inr}
use Rattle.clap.specs.Faults.{fault_of, is_simple_and_free}
use Rattle.clap.specs.Kinds.{HasKind, IsAmong, Kinds}
use Rattle.clap.specs.Matches.{found_of}
use Rattle.clap.specs.Simple.{App, HasMatchesOf, app_of, is_simple, matches_of}
use Rattle.clap.specs.Values.{kind_of}
use Rattle.clap.specs.Walk.{Row, Text, rows_of}
use Rattle.clap.specs.declared.builder.command.Command.{Command}
use Rattle.clap.specs.declared.error.Error.{Error}
use Rattle.clap.specs.declared.error.kind.ErrorKind.{ErrorKind}
use Rattle.clap.specs.declared.error.kind.ErrorKind.TheVariants.{OutOfMemory}
use Rattle.clap.specs.declared.parser.matches.ArgMatches.{ArgMatches}
use Rattle.ps_words.specs.Asked.{AskFor, AskForNothing, IsMatched}
use Rattle.ps_words.specs.Command.{command}
use Rattle.ps_words.specs.declared.words.Words.{Words}
use Rattle.ps_words.specs.inner.Commands.{IsMade}

-- `clap`'s clauses say all of the command
pub is_read : (made : Command) → IsMade made command → is_simple_and_free (app_of made) ≡ true
is_read made is = ap is_simple_and_free is.app

rows_are : (words : List Text) (made : Command) (m : ArgMatches) → IsMade made command → HasMatchesOf (app_of made) words m
    → rows_of (found_of m) ≡ matches_of command words
rows_are words made m is has = (has (ap is_simple is.app)).0 ∙ ap (λ (a : App). matches_of a words) is.app

pub words_asked : (words : List Text) (made : Command) (m : ArgMatches) (asked : Words) → IsMade made command
    → fault_of (app_of made) words ≡ [] → HasMatchesOf (app_of made) words m → IsMatched (rows_of (found_of m)) asked → AskFor words asked
words_asked words made m asked is none has matched = record {
  taken = ap (λ (a : App). fault_of a words) (sym is.app) ∙ none;
  matched = subst (λ (rows : List Row). IsMatched rows asked) (rows_are words made m is has) matched;
}

-- MODE is the name of no mode
pub no_mode : (words : List Text) (made : Command) (m : ArgMatches) → IsMade made command → HasMatchesOf (app_of made) words m
    → ((asked : Words) → IsMatched (rows_of (found_of m)) asked → ⊥) → AskForNothing words
no_mode words made m is has none asked asks =
    none asked (subst (λ (rows : List Row). IsMatched rows asked) (sym (rows_are words made m is has)) asks.matched)

among_none : (kind : ErrorKind) (kinds : Kinds) → kinds ≡ [] → IsAmong kind kinds → ⊥
among_none kind [] none among = among
among_none kind (k ∷ ks) none among = absurd (cc)

-- `clap` refused the words
pub not_taken : (words : List Text) (made : Command) (error : Error) → IsMade made command → HasKind (fault_of (app_of made) words) error
    → (kind_of error ≡ OutOfMemory → ⊥) → AskForNothing words
not_taken words made error is (inl memory) other asked asks = absurd (other memory)
not_taken words made error is (inr among) other asked asks =
    among_none (kind_of error) (fault_of (app_of made) words) (ap (λ (a : App). fault_of a words) is.app ∙ asks.taken) among
