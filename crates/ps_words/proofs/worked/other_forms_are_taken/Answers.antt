use Rattle.std.proofs.Common.{refl}
use Rattle.clap.proofs.OnLiterals.{clap_on_literals}
use Rattle.ps_words.proofs.worked.other_forms_are_taken.Goals as goal

pub returns-clause-joined : goal.returns-clause-joined
unfolding clap_on_literals
returns-clause-joined c = record {
  taken = refl;
  matched = record { mode = refl; explorers = refl; provers = refl; nodes = refl; traces = refl; width = refl; size = refl };
}

pub returns-clause-before : goal.returns-clause-before
unfolding clap_on_literals
returns-clause-before c = record {
  taken = refl;
  matched = record { mode = refl; explorers = refl; provers = refl; nodes = refl; traces = refl; width = refl; size = refl };
}
