use Rattle.std.proofs.Common.{sym, ◌∙◌}
use Rattle.std.proofs.lemmas.Result.{err_from_is_err_and}
use Rattle.ps_token.specs.declared.token_kind.TokenKind.TheVariants as kind
use Rattle.ps_parse.specs.Inner.Reading.{after_word, next_is, words_while, with_front}
use Rattle.ps_parse.specs.Inner.Seen.{seen_word}
use Rattle.ps_grammar.specs.Declarations.{names_of}
use Rattle.ps_parse.specs.Inner.Sums.{init_sign_of, relation_at}
use Rattle.ps_parse.proofs.Repeated.{repeats_fails, then_refuses, word_refuses}
use Rattle.ps_parse.proofs.parser.Parser.further_relations.Goals as goal

pub returns-in_err-word : goal.returns-in_err-word
returns-in_err-word c =
    let p = err_from_is_err_and c.from_residual.result c.from_residual.ensures.1 in
    let read = relation_at init_sign_of (names_of c.args.self.now.declared.now) c.args.most in
    rw (p.1, p.2) (repeats_fails (next_is kind.And) (after_word kind.And read) c.loop.relations.items c.args.most c.loop.counter c.loop.cursor c.in_err-word.field-0.0 (with_front c.args.relations.items (words_while (next_is kind.And) (after_word kind.And read) c.args.most c.args.cursor.now)) c.loop.invariant c.loop-test.true (sym c.next_is.ensures ∙ c.if-not-next_is.false) (word_refuses kind.And read c.loop.cursor c.in_err-word.field-0.0 c.in_err-word.ensures.gives))

pub returns-in_err-relation : goal.returns-in_err-relation
returns-in_err-relation c =
    let p = err_from_is_err_and c.from_residual-in_err-relation.result c.from_residual-in_err-relation.ensures.1 in
    let read = relation_at init_sign_of (names_of c.args.self.now.declared.now) c.args.most in
    rw (p.1, p.2) (repeats_fails (next_is kind.And) (after_word kind.And read) c.loop.relations.items c.args.most c.loop.counter c.loop.cursor c.in_err-relation.field-0.0 (with_front c.args.relations.items (words_while (next_is kind.And) (after_word kind.And read) c.args.most c.args.cursor.now)) c.loop.invariant c.loop-test.true (sym c.next_is.ensures ∙ c.if-not-next_is.false) (then_refuses kind.And read c.loop.cursor c.word.new.self (seen_word c.in_ok-word.field-0) c.in_err-relation.field-0.0 c.in_ok-word.ensures.gives c.in_err-relation.ensures))
