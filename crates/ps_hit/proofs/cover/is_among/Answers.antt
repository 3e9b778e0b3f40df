use Rattle.std.proofs.Common.{◌≡◌, true, Contains, rules}
use Rattle.std.specs.Prelude.{◌↔◌}
use Rattle.std.specs.Result.{is_ok}
use Rattle.ps_hit.proofs.Rooted.{found_or_not}
use Rattle.ps_hit.proofs.cover.is_among.Goals as goal

pub returns : goal.returns
returns c =
    let found : (is_ok c.binary_search.result ≡ true) ↔ Contains c.args.numbers.now c.args.number = found_or_not c.args.numbers.now c.args.number c.binary_search.result c.requires c.binary_search.ensures.position in
    search (rules, found)
