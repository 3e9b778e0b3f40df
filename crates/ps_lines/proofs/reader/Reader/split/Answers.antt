use Rattle.std.proofs.Common.{sym, ◌∙◌}
use Rattle.ps_lines.proofs.Ahead.{ahead_last_at, ahead_more_at}
use Rattle.ps_lines.proofs.reader.Reader.split.Goals as goal

pub returns-then-is_empty-2 : goal.returns-then-is_empty-2
returns-then-is_empty-2 c =
    rw (← c.self.view_is) (ahead_last_at c.self.inside.line c.self.inside.field c.field_len-len.result c.self.inside.ended c.self.inside.rest.now c.split_at.result.0.now c.split_at.result.1.now c.if-self.false (sym c.is_empty.ensures ∙ c.if-is_empty.false) c.field_len-len.ensures.value c.split_at.ensures.front c.split_at.ensures.back (sym c.is_empty-2.ensures ∙ c.if-is_empty-2.true))

pub returns : goal.returns
returns c =
    rw (← c.self.view_is) (ahead_more_at c.self.inside.line c.self.inside.field c.field_len-len.result c.self.inside.ended c.self.inside.rest.now c.split_at.result.0.now c.split_at.result.1.now c.split_at-2.result.1.now c.if-self.false (sym c.is_empty.ensures ∙ c.if-is_empty.false) c.field_len-len.ensures.value c.split_at.ensures.front c.split_at.ensures.back (sym c.is_empty-2.ensures ∙ c.if-is_empty-2.false) c.split_at-2.ensures.back)
