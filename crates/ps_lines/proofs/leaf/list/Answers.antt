use Rattle.std.proofs.Common.{Some, None}
use Rattle.std.proofs.lemmas.Result.{err_from_is_err_and}
use Rattle.ps_lines.specs.Until.{goes}
use Rattle.ps_lines.specs.Reading.{list_at}
use Rattle.ps_lines.proofs.Loop.{many_more, many_all, many_fails, many_smaller}
use Rattle.ps_lines.proofs.leaf.list.Goals as goal

pub reading-smaller : goal.reading-smaller
reading-smaller g c = many_smaller (goes c.args.until.now) (g.L.Leaf.reading c.reading.before) c.reading.reader c.member.new.reader c.in-Some.x (rw c.in-Some.is at c.in_ok-x.ensures)

pub reading-preserved : goal.reading-preserved
reading-preserved g c =
    rw c.in_ok-push-in-Some.ensures.items (many_more (goes c.args.until.now) g.L.Leaf.reading (λ _ x. Some x) c.reading.list.items c.reading.before c.reading.reader c.member.new.reader c.in-Some.x (list_at (goes c.args.until.now) g.L.Leaf.reading (λ _ x. Some x) None c.args.reader.now) c.reading.invariant (rw c.in-Some.is at c.in_ok-x.ensures))

pub returns-in-None : goal.returns-in-None
returns-in-None g c =
    many_all (goes c.args.until.now) g.L.Leaf.reading (λ _ x. Some x) c.reading.list.items c.reading.before c.reading.reader c.member.new.reader (list_at (goes c.args.until.now) g.L.Leaf.reading (λ _ x. Some x) None c.args.reader.now) c.reading.invariant (rw c.in-None.is at c.in_ok-x.ensures)

pub returns-in_err-x : goal.returns-in_err-x
returns-in_err-x g c =
    let p = err_from_is_err_and c.from_residual-in_err-x.result c.from_residual-in_err-x.ensures.1 in
    rw (p.1, p.2) (many_fails (goes c.args.until.now) g.L.Leaf.reading (λ _ x. Some x) c.reading.list.items c.reading.before c.reading.reader c.in_err-x.field-0.0 (list_at (goes c.args.until.now) g.L.Leaf.reading (λ _ x. Some x) None c.args.reader.now) c.reading.invariant c.in_err-x.ensures)
