use Rattle.std.proofs.lemmas.Result.{err_from_is_err_and}
use Rattle.ps_grammar.specs.Declarations.{names_of}
use Rattle.ps_parse.specs.Inner.Seen.{seen_word}
use Rattle.ps_parse.proofs.Declarations.{relations_unended}
use Rattle.ps_parse.proofs.parser.Parser.relations.Goals as goal

pub returns-in_err-word-2 : goal.returns-in_err-word-2
returns-in_err-word-2 c =
    let p = err_from_is_err_and c.from_residual-in_err-word-2.result c.from_residual-in_err-word-2.ensures.1 in
    rw (p.1, p.2) (relations_unended (names_of c.args.self.now.declared.now) c.args.most c.args.cursor.now c.word.new.self c.relation.new.cursor c.further_relations.new.cursor (seen_word c.in_ok-word.field-0) c.in_ok-first.first c.push.new.self.items c.in_ok-relations.relations.items c.in_err-word-2.field-0.0 c.in_ok-word.ensures.gives c.in_ok-first.ensures c.in_ok-relations.ensures c.in_err-word-2.ensures.gives)
