use Rattle.std.proofs.Common.{arith, Ok}
use Rattle.ps_parse.proofs.TextLaws.{cut_found, cut_only, cut_not_bad, cut_token, cut_grammar, cut_in_text, cut_first, uncut_exact, uncut_bad, uncut_token, uncut_grammar, uncut_in_text, uncut_first}
use Rattle.ps_parse.proofs.WordsWithin.{tokens_within, tokens_few}
use Rattle.ps_parse.proofs.reading.read_program.Goals as goal

pub program_of-requires-clause-cut : goal.program_of-requires-clause-cut
program_of-requires-clause-cut c = rw c.deref.ensures.value c.in-Ok.ensures.tokens

pub program_of-requires-clause-within : goal.program_of-requires-clause-within
program_of-requires-clause-within c = rw c.deref.ensures.value (tokens_within c.args.bytes.now c.in-Ok.list.items c.in-Ok.ensures.tokens c.in-Ok.ensures.inside)

pub program_of-requires-clause-few : goal.program_of-requires-clause-few
program_of-requires-clause-few c = rw c.deref.ensures.value (omega (arith, c.requires, tokens_few c.args.bytes.now c.in-Ok.list.items c.in-Ok.ensures.tokens c.in-Ok.ensures.inside))

pub returns-in-Ok-clause-found : goal.returns-in-Ok-clause-found
returns-in-Ok-clause-found c = cut_found c.args.bytes.now c.in-Ok.list.items c.program_of.result c.in-Ok.ensures.tokens (rw c.deref.ensures.value at c.program_of.ensures)

pub returns-in-Ok-clause-only : goal.returns-in-Ok-clause-only
returns-in-Ok-clause-only c = λ program is. cut_only c.args.bytes.now c.in-Ok.list.items c.program_of.result program c.in-Ok.ensures.tokens (rw c.deref.ensures.value at c.program_of.ensures) is

pub returns-in-Ok-clause-bad : goal.returns-in-Ok-clause-bad
returns-in-Ok-clause-bad c = λ place bad. absurd (cut_not_bad c.args.bytes.now c.in-Ok.list.items place c.in-Ok.ensures.tokens bad)

pub returns-in-Err-clause-only : goal.returns-in-Err-clause-only
returns-in-Err-clause-only c = λ program is. rw c.uncut.ensures (uncut_exact c.args.bytes.now c.in-Err.end (is.tokens) (Ok program) c.in-Err.ensures.bad is.cut)

pub returns-in-Err-clause-bad : goal.returns-in-Err-clause-bad
returns-in-Err-clause-bad c = λ place bad. rw c.uncut.ensures (uncut_bad c.args.bytes.now c.in-Err.end place c.in-Err.ensures.bad bad)

pub returns-in-Ok-clause-token : goal.returns-in-Ok-clause-token
returns-in-Ok-clause-token c = cut_token c.args.bytes.now c.in-Ok.list.items c.program_of.result (rw c.deref.ensures.value at c.program_of.ensures)

pub returns-in-Err-clause-token : goal.returns-in-Err-clause-token
returns-in-Err-clause-token c = rw c.uncut.ensures (uncut_token c.args.bytes.now c.in-Err.end c.in-Err.ensures.bad)

pub returns-in-Ok-clause-grammar : goal.returns-in-Ok-clause-grammar
returns-in-Ok-clause-grammar c = cut_grammar c.args.bytes.now c.in-Ok.list.items c.program_of.result c.in-Ok.ensures.tokens (rw c.deref.ensures.value at c.program_of.ensures)

pub returns-in-Err-clause-grammar : goal.returns-in-Err-clause-grammar
returns-in-Err-clause-grammar c = rw c.uncut.ensures (uncut_grammar c.args.bytes.now c.in-Err.end)

pub returns-in-Ok-clause-in_text : goal.returns-in-Ok-clause-in_text
returns-in-Ok-clause-in_text c = cut_in_text c.args.bytes.now c.in-Ok.list.items c.program_of.result c.in-Ok.ensures.tokens (rw c.deref.ensures.value at c.program_of.ensures)

pub returns-in-Err-clause-in_text : goal.returns-in-Err-clause-in_text
returns-in-Err-clause-in_text c = rw c.uncut.ensures (uncut_in_text c.args.bytes.now c.in-Err.end)

pub returns-in-Ok-clause-first : goal.returns-in-Ok-clause-first
returns-in-Ok-clause-first c = cut_first c.args.bytes.now c.in-Ok.list.items c.program_of.result c.in-Ok.ensures.tokens (rw c.deref.ensures.value at c.program_of.ensures)

pub returns-in-Err-clause-first : goal.returns-in-Err-clause-first
returns-in-Err-clause-first c = rw c.uncut.ensures (uncut_first c.args.bytes.now c.in-Err.end)
