use Rattle.ps_lines.proofs.LineList.{going_more, going_all}
use Rattle.ps_lines.proofs.splitting.lines.Goals as goal

pub going-preserved : goal.going-preserved
going-preserved c = rw c.in_ok-push-in-Some.ensures.items (going_more c.args.bytes.now c.args.first c.going.start c.going.number c.going.lines.items c.in-Some.fields c.in-Some.after c.going.invariant (rw (c.in-Some.is, c.in-Some.fields-is, c.in-Some.after-is) at c.in_ok-fields.ensures))

pub returns-in-None : goal.returns-in-None
returns-in-None c = record {
  fields = going_all c.args.bytes.now c.args.first c.going.start c.going.number c.going.lines.items c.going.invariant (rw c.in-None.is at c.in_ok-fields.ensures);
  within = c.going.invariant.within;
}
