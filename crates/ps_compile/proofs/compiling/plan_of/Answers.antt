use Rattle.std.proofs.Common.{length}
use Rattle.ps_compile.proofs.Parts.{whole_body}
use Rattle.ps_compile.proofs.compiling.plan_of.Goals as goal

pub lay_block-requires : goal.lay_block-requires
lay_block-requires c = whole_body (length c.args.program.now.globals) (length c.args.program.now.locals) c.args.program.now.body c.as_slice-body.result.now c.as_slice-body.ensures c.requires.body
