-- A put fails where its call is listed, or where what it would take doesn't fit.
use Rattle.std.proofs.Common.{arith, inl, inr, refl}
use Rattle.ps_io.proofs.memory_sink.MemorySinkSink.put.Goals as goal
use Rattle.ps_io.proofs.memory_sink.MemorySinkSink.put.Goals.{then-fails-via-then-fails, then-fails-via-else-fails+then-self-len}

pub returns-then-fails-clause-fails : goal.returns-then-fails-clause-fails
returns-then-fails-clause-fails c = (
  (λ _. elim c.then-fails.branch [
    | then-fails-via-then-fails w ↦ inl (rw (← c.self.view_is, ← c.as_slice.ensures.value) (w.if-fails.ensures.0 refl))
    | then-fails-via-else-fails+then-self-len w ↦ inr (rw (← c.self.view_is) (omega (arith, w.len.ensures, w.if-self-len.true, c.min-count.ensures)))
  ]),
  λ _. refl,
)
