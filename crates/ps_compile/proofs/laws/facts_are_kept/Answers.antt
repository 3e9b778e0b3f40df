use Rattle.ps_compile.proofs.Facts.{choices_agree, facts_kept}
use Rattle.ps_compile.proofs.laws.facts_are_kept.Goals as goal

pub returns-clause-kept : goal.returns-clause-kept
returns-clause-kept c = λ body locations commands edges h. facts_kept body locations commands edges h

pub returns-clause-deterministic : goal.returns-clause-deterministic
returns-clause-deterministic c = λ body locations commands edges h. choices_agree body locations commands edges h
