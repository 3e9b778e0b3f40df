use Rattle.std.proofs.Common.{◌<◌, length, arith, rules}
use Rattle.ps_trace.proofs.Columns.{length_is, thread_is}
use Rattle.ps_trace.proofs.steps.Steps.thread.Goals as goal

pub index-requires : goal.index-requires
index-requires c =
    let held : c.args.n < length c.self.inside.threads.items =
    omega (arith, c.requires, length_is c.self.inside.threads.items c.self.inside.ends.items c.self.inside.choices.items c.args.self.now c.self.invariant c.self.view_is) in
    search (rules, held)

pub returns : goal.returns
returns c =
    thread_is c.self.inside.threads.items c.self.inside.ends.items c.self.inside.choices.items c.args.self.now c.self.invariant c.self.view_is c.args.n c.index.result.now c.requires c.index.ensures
