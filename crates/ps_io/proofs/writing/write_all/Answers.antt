-- A put appends some first bytes of the rest.
use Rattle.std.proofs.Common.{arith, ◌∙◌}
use Rattle.ps_io.proofs.Pieces.{put_more, length-rest}
use Rattle.ps_io.proofs.writing.write_all.Goals as goal

pub writing-preserved : goal.writing-preserved
writing-preserved g c = record {
  within = omega (arith, c.in_ok-done.ensures.bound, length-rest c.args.bytes.now c.writing.done);
  put = put_more _ _ _ c.args.bytes.now c.writing.done _ c.writing.invariant.put c.in_ok-done.ensures.bytes;
  stayed = c.in_ok-done.ensures.cause.stayed ∙ c.writing.invariant.stayed;
}
