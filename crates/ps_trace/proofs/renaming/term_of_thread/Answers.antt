use Rattle.std.proofs.Common.{◌≡◌, true, ℤ, List, sym, subst}
use Rattle.std.specs.List.{list_all}
use Rattle.ps_term.specs.Pairs.{IsCanonical}
use Rattle.ps_term.specs.declared.var.Var.{Var}
use Rattle.ps_trace.proofs.Owning.{thread_canonical}
use Rattle.ps_trace.specs.Own.{is_own}
use Rattle.ps_trace.proofs.renaming.term_of_thread.Goals as goal

pub from_list-requires : goal.from_list-requires
from_list-requires c =
    subst IsCanonical (sym c.in_ok-pairs.ensures)
    (thread_canonical c.args.thread c.args.first c.args.havocs c.as_slice.result.now
    (subst (λ (ps : List (Var × ℤ)). list_all (λ (p : Var × ℤ). is_own c.args.havocs p.0) ps ≡ true) (sym c.as_slice.ensures.list) c.requires.own)
    c.as_slice.ensures.canonical)
