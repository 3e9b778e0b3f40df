use Rattle.std.proofs.Common.{length, sym, subst}
use Rattle.std.specs.List.{AllByRecursion}
use Rattle.ps_compile.proofs.starts.start_rows.Goals as goal
use Rattle.ps_compile.specs.Conditions.{IsCompilableRelation}
use Rattle.ps_term.specs.declared.term.TermEnd.TheVariants.{Past128}
use Rattle.ps_compile.proofs.Small.{same_error}

pub returns-in-Err-clause-past : goal.returns-in-Err-clause-past
returns-in-Err-clause-past c = λ past h.
    c.in-Err.ensures.past (same_error c.in-Err.end Past128 past) (length c.args.program.now.globals) (length c.args.program.now.locals)
    (subst (AllByRecursion (IsCompilableRelation (length c.args.program.now.globals) (length c.args.program.now.locals))) (sym c.as_slice-2.ensures) h.inits)
