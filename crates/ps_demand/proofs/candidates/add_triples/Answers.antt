use Rattle.std.proofs.Common.{◌<◌, ◌++◌, ◌∙◌, ap, length, arith}
use Rattle.std.specs.List.{filter}
use Rattle.std.proofs.lemmas.List.{map_push}
use Rattle.ps_demand.specs.Candidates.{entries_of, is_for}
use Rattle.ps_demand.proofs.Scanning.{next_within, scan_more, scan_end}
use Rattle.ps_demand.proofs.candidates.add_triples.Goals as goal

-- the entries up to this one are passed, and this one is found
pub loop-n-preserved : goal.loop-n-preserved
loop-n-preserved g c = record {
  all = scan_more c.args.post c.args.command (g.B.Shown.entries c.args.basis.now) c.entry.result.now c.loop-n.from c.in-Some.n (entries_of c.loop-n.known.items) (entries_of c.push.new.self.items)
      (entries_of c.args.known.now.items ++ filter (is_for c.args.command c.args.post) (g.B.Shown.entries c.args.basis.now))
      c.in-Some.ensures c.entry.ensures (ap entries_of c.in_ok-push.ensures.items ∙ map_push (λ e. e.now) c.loop-n.known.items c.entry.result) c.loop-n.invariant.all;
  within = (let inside : c.in-Some.n < length (g.B.Shown.entries c.args.basis.now) = next_within (g.B.Shown.entries c.args.basis.now) c.args.post c.args.command c.loop-n.from c.in-Some.n c.in-Some.ensures in omega (arith, inside));
}

pub returns : goal.returns
returns g c = scan_end c.args.post c.args.command (g.B.Shown.entries c.args.basis.now) c.loop-n.from (entries_of c.loop-n.known.items)
    (entries_of c.args.known.now.items ++ filter (is_for c.args.command c.args.post) (g.B.Shown.entries c.args.basis.now)) c.loop-n.invariant.within c.in_default.ensures c.loop-n.invariant.all
