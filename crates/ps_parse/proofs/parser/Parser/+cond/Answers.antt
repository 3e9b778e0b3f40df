use Rattle.std.proofs.Common.{sym, ◌∙◌}
use Rattle.std.proofs.lemmas.Result.{err_from_is_err_and}
use Rattle.ps_token.specs.declared.token_kind.TokenKind.TheVariants as kind
use Rattle.ps_parse.specs.Inner.Reading.{with_front, words_while, next_is, after_word}
use Rattle.ps_parse.specs.Inner.Seen.{seen_word}
use Rattle.ps_grammar.specs.Declarations.{names_of}
use Rattle.ps_parse.specs.Inner.Conds.{conj_with, unary_at}
use Rattle.ps_parse.proofs.Repeated.{repeats_fails, word_refuses, then_refuses}
use Rattle.ps_parse.proofs.parser.Parser.+cond.Goals as goal

pub further_unaries-returns-in_err-word : goal.further_unaries-returns-in_err-word
further_unaries-returns-in_err-word t c =
    let p = err_from_is_err_and c.from_residual.result c.from_residual.ensures.1 in
    let read = unary_at (names_of c.args.self.now.declared.now) c.args.most in
    rw (p.1, p.2) (repeats_fails (next_is kind.And) (after_word kind.And read) c.loop.members.items c.args.most c.loop.counter c.loop.cursor c.in_err-word.field-0.0 (with_front c.args.members.items (words_while (next_is kind.And) (after_word kind.And read) c.args.most c.args.cursor.now)) c.loop.invariant c.loop-test.true (sym c.next_is.ensures ∙ c.if-not-next_is.false) (word_refuses kind.And read c.loop.cursor c.in_err-word.field-0.0 c.in_err-word.ensures.gives))

pub further_unaries-returns-in_err-unary : goal.further_unaries-returns-in_err-unary
further_unaries-returns-in_err-unary t c =
    let p = err_from_is_err_and c.from_residual-in_err-unary.result c.from_residual-in_err-unary.ensures.1 in
    let read = unary_at (names_of c.args.self.now.declared.now) c.args.most in
    rw (p.1, p.2) (repeats_fails (next_is kind.And) (after_word kind.And read) c.loop.members.items c.args.most c.loop.counter c.loop.cursor c.in_err-unary.field-0.0 (with_front c.args.members.items (words_while (next_is kind.And) (after_word kind.And read) c.args.most c.args.cursor.now)) c.loop.invariant c.loop-test.true (sym c.next_is.ensures ∙ c.if-not-next_is.false) (then_refuses kind.And read c.loop.cursor c.word.new.self (seen_word c.in_ok-word.field-0) c.in_err-unary.field-0.0 c.in_ok-word.ensures.gives c.in_err-unary.ensures))

pub further_conjs-returns-in_err-word : goal.further_conjs-returns-in_err-word
further_conjs-returns-in_err-word t c =
    let p = err_from_is_err_and c.from_residual.result c.from_residual.ensures.1 in
    let read = conj_with (unary_at (names_of c.args.self.now.declared.now) c.args.most) c.args.most in
    rw (p.1, p.2) (repeats_fails (next_is kind.Or) (after_word kind.Or read) c.loop.members.items c.args.most c.loop.counter c.loop.cursor c.in_err-word.field-0.0 (with_front c.args.members.items (words_while (next_is kind.Or) (after_word kind.Or read) c.args.most c.args.cursor.now)) c.loop.invariant c.loop-test.true (sym c.next_is.ensures ∙ c.if-not-next_is.false) (word_refuses kind.Or read c.loop.cursor c.in_err-word.field-0.0 c.in_err-word.ensures.gives))

pub further_conjs-returns-in_err-conj : goal.further_conjs-returns-in_err-conj
further_conjs-returns-in_err-conj t c =
    let p = err_from_is_err_and c.from_residual-in_err-conj.result c.from_residual-in_err-conj.ensures.1 in
    let read = conj_with (unary_at (names_of c.args.self.now.declared.now) c.args.most) c.args.most in
    rw (p.1, p.2) (repeats_fails (next_is kind.Or) (after_word kind.Or read) c.loop.members.items c.args.most c.loop.counter c.loop.cursor c.in_err-conj.field-0.0 (with_front c.args.members.items (words_while (next_is kind.Or) (after_word kind.Or read) c.args.most c.args.cursor.now)) c.loop.invariant c.loop-test.true (sym c.next_is.ensures ∙ c.if-not-next_is.false) (then_refuses kind.Or read c.loop.cursor c.word.new.self (seen_word c.in_ok-word.field-0) c.in_err-conj.field-0.0 c.in_ok-word.ensures.gives c.in_err-conj.ensures))
