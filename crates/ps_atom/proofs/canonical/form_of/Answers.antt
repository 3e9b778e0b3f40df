use Rattle.std.proofs.Common.{ℕ, ℤ, List, vec_len, min, ◌-◌, ◌^◌, ap, ◌∙◌, sym, subst, arith}
use Rattle.ps_term.specs.declared.var.Var.{Var}
use Rattle.ps_atom.specs.Threads.{AreOccurring}
use Rattle.ps_atom.proofs.canonical.form_of.Goals as goal

pub form_with-requires-clause-occurring : goal.form_with-requires-clause-occurring
form_with-requires-clause-occurring c =
    let pairs = c.args.tight.now.term.pairs in
    subst (λ (us : List ℕ). AreOccurring pairs us) (sym c.as_slice-2.ensures.value) (subst (λ (qs : List (Var × ℤ)). AreOccurring qs c.in-Ok.threads.items) c.as_slice.ensures.list c.in-Ok.ensures.occurring)

pub returns-then-len-clause-end : goal.returns-then-len-clause-end
returns-then-len-clause-end c =
    let threads = c.in-Ok.threads in
    (vec_len threads, omega (arith, c.if-len.true, c.len.ensures), (threads.items, c.in-Ok.ensures.ascending, subst (λ (qs : List (Var × ℤ)). AreOccurring qs threads.items) c.as_slice.ensures.list c.in-Ok.ensures.occurring, omega (arith, threads.ok.0)), c.in_32_bits.ensures ∙ ap (λ (n : ℕ). min n (2 ^ 32 - 1)) c.len-then-len.ensures)
