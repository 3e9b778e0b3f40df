use Rattle.std.proofs.Common.{◌∙◌, ap}
use Rattle.std.specs.Option.{unwrap_or}
use Rattle.std.specs.Str.Parse.{ExplainsUnsignedError, HasUnsignedDigitsIfOk, ParsesUnsigned}
use Rattle.clap.specs.Matches.{found_of, one_text}
use Rattle.ps_words.proofs.Numbers.{number_answered}
use Rattle.ps_words.proofs.words.number_matched.Goals as goal

pub returns : goal.returns
returns c =
    number_answered _ (λ bs r. ParsesUnsigned 32 10 bs r × ExplainsUnsignedError 10 bs r × HasUnsignedDigitsIfOk bs r)
    c.args.option c.args.matches.now c.get_one-matched.result c.unwrap_or.result (λ u x g. g.0) c.requires
    (λ none. c.get_one-matched.ensures.none (ap (one_text (found_of c.args.matches.now)) c.name.ensures ∙ none))
    (λ t some. c.get_one-matched.ensures.value t (ap (one_text (found_of c.args.matches.now)) c.name.ensures ∙ some))
    (c.unwrap_or.ensures ∙ ap (unwrap_or c.get_one-matched.result) c.default.ensures)
