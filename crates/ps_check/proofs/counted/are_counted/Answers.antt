use Rattle.std.proofs.Common.{List, sym, subst, Contains}
use Rattle.ps_triple.specs.declared.entry.Entry.{Entry}
use Rattle.ps_check.proofs.counted.are_counted.Goals as goal

pub returns : goal.returns
returns c = (
  (λ h. record {
    edges = rw (← c.as_slice.ensures) (c.is_counted.ensures.0 c.if-not-is_counted.false);
    configs = rw (← c.as_slice-2.ensures) (c.is_counted-2.ensures.0 c.if-not-is_counted-2.false);
    short = λ entry i. c.are_short.ensures.0 h entry (subst (λ (es : List Entry). Contains es entry) (sym c.as_slice-3.ensures) i);
  }),
  (λ counted. c.are_short.ensures.1 (λ entry i. counted.short entry (subst (λ (es : List Entry). Contains es entry) c.as_slice-3.ensures i))),
)
