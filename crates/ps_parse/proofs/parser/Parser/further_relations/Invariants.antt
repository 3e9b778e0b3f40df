use Rattle.std.proofs.Common.{◌-◌}
use Rattle.ps_token.specs.declared.token_kind.TokenKind.TheVariants as kind
use Rattle.ps_parse.specs.Inner.Reading.{after_word, next_is, words_while, with_front}
use Rattle.ps_grammar.specs.Declarations.{names_of}
use Rattle.ps_parse.specs.Inner.Sums.{init_sign_of, relation_at}
use Rattle.ps_parse.proofs.Repeated.{Repeats}
use Rattle.ps_parse.proofs.parser.Parser.further_relations.Given as goal

abbrev pub invariant-loop : goal.invariant-loop
invariant-loop l = Repeats (next_is kind.And) (after_word kind.And (relation_at init_sign_of (names_of l.self.declared.now) l.most)) l.relations.items (l.most - l.counter) l.cursor (with_front l.fn.relations.items (words_while (next_is kind.And) (after_word kind.And (relation_at init_sign_of (names_of l.self.declared.now) l.most)) l.most l.fn.cursor))
