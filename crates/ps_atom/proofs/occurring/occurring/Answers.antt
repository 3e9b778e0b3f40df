use Rattle.std.proofs.Common.{◌≡◌, ℕ, ℤ, List, None, sym, subst}
use Rattle.std.proofs.lemmas.Result.{IfOk-weaker}
use Rattle.std.specs.List.Sorted.{IsStrictlyIncreasing}
use Rattle.ps_term.specs.declared.var.Var.{Var}
use Rattle.ps_term.specs.Pairs.{IsCanonical}
use Rattle.ps_atom.specs.inner.Slots.{threads_after}
use Rattle.ps_atom.specs.Threads.{AreOccurring}
use Rattle.ps_atom.proofs.MetThreads.{increasing_from_rising, met_rising, met_occurring}
use Rattle.ps_atom.proofs.occurring.occurring.Goals as goal

increasing : (pairs : List (Var × ℤ)) (ts : List ℕ) → IsCanonical pairs → ts ≡ threads_after None pairs → IsStrictlyIncreasing ts
increasing pairs ts c e =
    subst (λ (us : List ℕ). IsStrictlyIncreasing us) (sym e) (increasing_from_rising (threads_after None pairs) (met_rising pairs c))

occur : (pairs : List (Var × ℤ)) (ts : List ℕ) → IsCanonical pairs → ts ≡ threads_after None pairs → AreOccurring pairs ts
occur pairs ts c e =
    subst (λ (us : List ℕ). AreOccurring pairs us) (sym e) (λ t. met_occurring pairs c t)

pub returns-clause-ascending : goal.returns-clause-ascending
returns-clause-ascending c =
    IfOk-weaker c.threads_met.result (λ threads. threads.items ≡ threads_after None c.args.pairs.now) (λ threads. IsStrictlyIncreasing threads.items) (λ threads is. increasing c.args.pairs.now threads.items c.requires is) c.threads_met.ensures

pub returns-clause-occurring : goal.returns-clause-occurring
returns-clause-occurring c =
    IfOk-weaker c.threads_met.result (λ threads. threads.items ≡ threads_after None c.args.pairs.now) (λ threads. AreOccurring c.args.pairs.now threads.items) (λ threads is. occur c.args.pairs.now threads.items c.requires is) c.threads_met.ensures
