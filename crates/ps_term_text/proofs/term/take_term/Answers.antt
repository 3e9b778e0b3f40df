use Rattle.ps_term_text.proofs.Exact.{term_is_found, term_is_read}
use Rattle.ps_term_text.proofs.term.take_term.Goals as goal

pub returns-clause-found : goal.returns-clause-found
returns-clause-found c = term_is_found c.args.reader.now c.fields_of_term.new.reader c.fields_of_term.result c.fields_of_term.ensures

pub returns-clause-only : goal.returns-clause-only
returns-clause-only c = term_is_read c.args.reader.now c.fields_of_term.new.reader c.fields_of_term.result c.fields_of_term.ensures
