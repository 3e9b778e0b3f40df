use Rattle.std.proofs.Common.{◌≡◌, length, sym, ◌∙◌, rules}
use Rattle.ps_trace.proofs.Columns.{length_is}
use Rattle.ps_trace.proofs.steps.Steps.len.Goals as goal

pub returns : goal.returns
returns c =
    let held : c.len.result ≡ length c.self.inside.threads.items = search rules in
    held ∙ sym (length_is c.self.inside.threads.items c.self.inside.ends.items c.self.inside.choices.items c.args.self.now c.self.invariant c.self.view_is)
