-- What the mode's own call promises, the program promises where the words ask for the mode.
use Rattle.std.proofs.Common.{◌≡◌, ◌∙◌, ℕ, List, ap, map, subst, sym}
use Rattle.std.specs.Prelude.{string_bytes}
use Rattle.ps_modes.specs.Modes.{owed_by}
use Rattle.ps_modes.specs.Promise.{Answers}
use Rattle.ps_words.proofs.Once.{for_asked, one_asked}
use Rattle.ps_words.specs.Asked.{AskFor}
use Rattle.ps_words.specs.declared.mode.Mode.{Mode}
use Rattle.ps_words.specs.declared.mode.Mode.TheVariants.{Refute, Replay, Check, Member}
use Rattle.ps_words.specs.declared.words.Words.{Words}
use Rattle.ps_modes.proofs.program.run.Goals as goal

-- the mode that was found is the one that the words ask for
asked_for : (words : List (List ℕ)) (found asked : Words) (m n : Mode) → AskFor words found → AskFor words asked → found.mode ≡ m → asked.mode ≡ n → m ≡ n
asked_for words found asked m n finds asks is mode = sym is ∙ ap (λ (w : Words). w.mode) (one_asked words found asked finds asks) ∙ mode

pub returns-in-Refute-clause-answers : goal.returns-in-Refute-clause-answers
returns-in-Refute-clause-answers g c =
    let Promised = λ (mode : Mode). Answers (owed_by mode) (g.S.Source.left c.args.source.now) (g.K.Sink.written c.args.sink.now)
    (g.K.Sink.written c.refute_run.new.sink) c.refute_run.result in
    for_asked (map string_bytes c.args.words.now) c.in-Ok.asked Promised c.in-Ok.ensures.asked (subst Promised (sym c.in-Refute.is) c.refute_run.ensures.answers)

pub returns-in-Replay-clause-answers : goal.returns-in-Replay-clause-answers
returns-in-Replay-clause-answers g c =
    let Promised = λ (mode : Mode). Answers (owed_by mode) (g.S.Source.left c.args.source.now) (g.K.Sink.written c.args.sink.now)
    (g.K.Sink.written c.replay_run.new.sink) c.replay_run.result in
    for_asked (map string_bytes c.args.words.now) c.in-Ok.asked Promised c.in-Ok.ensures.asked (subst Promised (sym c.in-Replay.is) c.replay_run.ensures.answers)

pub returns-in-Check-clause-answers : goal.returns-in-Check-clause-answers
returns-in-Check-clause-answers g c =
    let Promised = λ (mode : Mode). Answers (owed_by mode) (g.S.Source.left c.args.source.now) (g.K.Sink.written c.args.sink.now)
    (g.K.Sink.written c.check_run.new.sink) c.check_run.result in
    for_asked (map string_bytes c.args.words.now) c.in-Ok.asked Promised c.in-Ok.ensures.asked (subst Promised (sym c.in-Check.is) c.check_run.ensures.answers)

pub returns-in-Member-clause-answers : goal.returns-in-Member-clause-answers
returns-in-Member-clause-answers g c =
    let Promised = λ (mode : Mode). Answers (owed_by mode) (g.S.Source.left c.args.source.now) (g.K.Sink.written c.args.sink.now)
    (g.K.Sink.written c.member_run.new.sink) c.member_run.result in
    for_asked (map string_bytes c.args.words.now) c.in-Ok.asked Promised c.in-Ok.ensures.asked (subst Promised (sym c.in-Member.is) c.member_run.ensures.answers)

pub returns-in-Refute-clause-safe : goal.returns-in-Refute-clause-safe
returns-in-Refute-clause-safe g c = λ asked asks mode zero.
    let same : Refute ≡ Check = asked_for (map string_bytes c.args.words.now) c.in-Ok.asked asked Refute Check c.in-Ok.ensures.asked asks c.in-Refute.is mode in
    absurd (cc)

pub returns-in-Replay-clause-safe : goal.returns-in-Replay-clause-safe
returns-in-Replay-clause-safe g c = λ asked asks mode zero.
    let same : Replay ≡ Check = asked_for (map string_bytes c.args.words.now) c.in-Ok.asked asked Replay Check c.in-Ok.ensures.asked asks c.in-Replay.is mode in
    absurd (cc)

pub returns-in-Check-clause-safe : goal.returns-in-Check-clause-safe
returns-in-Check-clause-safe g c = λ asked asks mode zero. c.check_run.ensures.safe zero

pub returns-in-Member-clause-safe : goal.returns-in-Member-clause-safe
returns-in-Member-clause-safe g c = λ asked asks mode zero.
    let same : Member ≡ Check = asked_for (map string_bytes c.args.words.now) c.in-Ok.asked asked Member Check c.in-Ok.ensures.asked asks c.in-Member.is mode in
    absurd (cc)

pub returns-in-Refute-clause-infeasible : goal.returns-in-Refute-clause-infeasible
returns-in-Refute-clause-infeasible g c = λ asked asks mode zero.
    let same : Refute ≡ Member = asked_for (map string_bytes c.args.words.now) c.in-Ok.asked asked Refute Member c.in-Ok.ensures.asked asks c.in-Refute.is mode in
    absurd (cc)

pub returns-in-Replay-clause-infeasible : goal.returns-in-Replay-clause-infeasible
returns-in-Replay-clause-infeasible g c = λ asked asks mode zero.
    let same : Replay ≡ Member = asked_for (map string_bytes c.args.words.now) c.in-Ok.asked asked Replay Member c.in-Ok.ensures.asked asks c.in-Replay.is mode in
    absurd (cc)

pub returns-in-Check-clause-infeasible : goal.returns-in-Check-clause-infeasible
returns-in-Check-clause-infeasible g c = λ asked asks mode zero.
    let same : Check ≡ Member = asked_for (map string_bytes c.args.words.now) c.in-Ok.asked asked Check Member c.in-Ok.ensures.asked asks c.in-Check.is mode in
    absurd (cc)

pub returns-in-Member-clause-infeasible : goal.returns-in-Member-clause-infeasible
returns-in-Member-clause-infeasible g c = λ asked asks mode zero. c.member_run.ensures.infeasible zero
