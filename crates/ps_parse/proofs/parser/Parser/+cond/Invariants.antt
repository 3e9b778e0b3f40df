use Rattle.std.proofs.Common.{◌+◌, ◌-◌, ◌*◌}
use Rattle.ps_token.specs.declared.token_kind.TokenKind.TheVariants as kind
use Rattle.ps_parse.specs.Inner.Reading.{with_front, words_while, next_is, after_word}
use Rattle.ps_grammar.specs.Declarations.{names_of}
use Rattle.ps_parse.specs.Inner.Conds.{conj_with, unary_at}
use Rattle.ps_parse.proofs.Repeated.{Repeats}
use Rattle.ps_parse.proofs.parser.Parser.+cond.Given as goal

abbrev pub decreases-unary : goal.decreases-unary
decreases-unary l = l.most * 8

abbrev pub decreases-further_unaries : goal.decreases-further_unaries
decreases-further_unaries l = l.most * 8 + 1

abbrev pub decreases-conj : goal.decreases-conj
decreases-conj l = l.most * 8 + 2

abbrev pub decreases-further_conjs : goal.decreases-further_conjs
decreases-further_conjs l = l.most * 8 + 3

abbrev pub decreases-cond : goal.decreases-cond
decreases-cond l = l.most * 8 + 4

abbrev pub decreases-next_unary : goal.decreases-next_unary
decreases-next_unary l = l.left * 8 + 5

abbrev pub invariant-further_unaries-loop : goal.invariant-further_unaries-loop
invariant-further_unaries-loop l = Repeats (next_is kind.And) (after_word kind.And (unary_at (names_of l.self.declared.now) l.most)) l.members.items (l.most - l.counter) l.cursor (with_front l.fn.members.items (words_while (next_is kind.And) (after_word kind.And (unary_at (names_of l.self.declared.now) l.most)) l.most l.fn.cursor))

abbrev pub invariant-further_conjs-loop : goal.invariant-further_conjs-loop
invariant-further_conjs-loop l = Repeats (next_is kind.Or) (after_word kind.Or (conj_with (unary_at (names_of l.self.declared.now) l.most) l.most)) l.members.items (l.most - l.counter) l.cursor (with_front l.fn.members.items (words_while (next_is kind.Or) (after_word kind.Or (conj_with (unary_at (names_of l.self.declared.now) l.most) l.most)) l.most l.fn.cursor))
