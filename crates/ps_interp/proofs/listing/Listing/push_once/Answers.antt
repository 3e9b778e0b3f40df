use Rattle.std.proofs.Common.{List, map, subst}
use Rattle.ps_interp.specs.inner.Keys.{entry_of, key_of}
use Rattle.ps_interp.specs.inner.Meetings.{IsListed}
use Rattle.ps_triple.specs.declared.entry.Entry.{Entry}
use Rattle.ps_interp.proofs.Looking.{listed_by}
use Rattle.ps_interp.proofs.listing.Listing.push_once.Goals as goal

pub returns : goal.returns
returns c =
    subst (λ (es : List Entry). IsListed es c.args.entry (map entry_of c.insert.new.self.keys)) c.self.view_is
    (listed_by c.self.inside.keys.keys c.insert.new.self.keys (key_of c.args.entry) c.in_ok-insert.ensures.keys)
