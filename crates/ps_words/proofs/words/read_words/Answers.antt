-- What `clap` answered, and the name of a mode, settle what the words ask for.
use Rattle.std.proofs.Common.{◌≡◌, Err, Option, Some, None, Result, IfOk, MatchOption, map}
use Rattle.std.specs.Option.{ok_or}
use Rattle.std.specs.Prelude.{IsErrOf, string_bytes}
use Rattle.ps_words.proofs.Asking.{is_read, no_mode, not_taken, words_asked}
use Rattle.ps_words.proofs.Numbers.{numbers_read}
use Rattle.ps_words.specs.Command.{command}
use Rattle.ps_words.specs.declared.words.Words.{Words}
use Rattle.ps_words.specs.declared.words_end.WordsEnd.{WordsEnd}
use Rattle.ps_words.specs.declared.words_end.WordsEnd.TheVariants.{Refused}
use Rattle.ps_words.proofs.words.read_words.Goals as goal

ok_so : (o : Option Words) (r : Result Words WordsEnd) (N : Type 0) (P Q : Words → Type 0) → r ≡ ok_or o Refused
    → MatchOption o N P → ((asked : Words) → P asked → Q asked) → IfOk r Q
ok_so None r N P Q is n each = rw is tt
ok_so (Some asked) r N P Q is p each = rw is (each asked p)

err_so : (o : Option Words) (r : Result Words WordsEnd) (N : Type 0) (P : Words → Type 0) → r ≡ ok_or o Refused
    → MatchOption o N P → IsErrOf r Refused → N
err_so None r N P is n err = n
err_so (Some asked) r N P is p err = let bad : ok_or (Some asked) Refused ≡ Err Refused = rw is at err in absurd (cc)

pub words_matched-requires : goal.words_matched-requires
words_matched-requires c =
    numbers_read c.in-Ok.command command c.in-Ok-try_get_matches_from.matches c.in-Ok.ensures c.in-Ok-try_get_matches_from.ensures.parsed

pub returns-in-Ok-try_get_matches_from-clause-asked : goal.returns-in-Ok-try_get_matches_from-clause-asked
returns-in-Ok-try_get_matches_from-clause-asked c =
    ok_so c.words_matched.result c.ok_or.result _ _ _ c.ok_or.ensures.value c.words_matched.ensures.matched
    (λ asked matched. words_asked (map string_bytes c.args.words.now) c.in-Ok.command c.in-Ok-try_get_matches_from.matches asked c.in-Ok.ensures
    (c.in-Ok-try_get_matches_from.ensures.kinds (is_read c.in-Ok.command c.in-Ok.ensures)) c.in-Ok-try_get_matches_from.ensures.matches matched)

pub returns-in-Ok-try_get_matches_from-clause-refused : goal.returns-in-Ok-try_get_matches_from-clause-refused
returns-in-Ok-try_get_matches_from-clause-refused c = λ refused.
    no_mode (map string_bytes c.args.words.now) c.in-Ok.command c.in-Ok-try_get_matches_from.matches c.in-Ok.ensures
    c.in-Ok-try_get_matches_from.ensures.matches
    (err_so c.words_matched.result c.ok_or.result _ _ c.ok_or.ensures.value c.words_matched.ensures.matched refused)

pub returns-in-Err-try_get_matches_from-clause-refused : goal.returns-in-Err-try_get_matches_from-clause-refused
returns-in-Err-try_get_matches_from-clause-refused c = λ refused.
    let same : c.end_of.result ≡ Refused = cc in
    not_taken (map string_bytes c.args.words.now) c.in-Ok.command c.in-Err-try_get_matches_from.error c.in-Ok.ensures
    (c.in-Err-try_get_matches_from.ensures.kinds (is_read c.in-Ok.command c.in-Ok.ensures)) (c.end_of.ensures.refused same)
