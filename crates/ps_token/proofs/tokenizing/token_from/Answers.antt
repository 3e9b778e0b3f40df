use Rattle.std.proofs.Common.{◌≡◌, ◌+◌, ◌≤◌, length, drop, Some, arith, sym, ◌∙◌, ap}
use Rattle.ps_token.specs.inner.Scanning.{token_at}
use Rattle.ps_token.proofs.Cuts.{from_ahead}
use Rattle.ps_token.proofs.tokenizing.token_from.Goals as goal

pub overflow_add-result : goal.overflow_add-result
overflow_add-result c =
    let found : token_at (drop c.args.start c.args.bytes.now) ≡ Some (c.in-Some.kind, c.in-Some.len) = ap token_at (sym c.split_at.ensures.back) ∙ sym c.in-Some.ensures in
    let ahead = from_ahead c.args.bytes.now c.args.start c.in-Some.kind c.in-Some.len c.requires found in
    let within : c.args.start + c.in-Some.len ≤ length c.args.bytes.now = ahead.0 in
    omega arith

pub returns-in-Some : goal.returns-in-Some
returns-in-Some c =
    let found : token_at (drop c.args.start c.args.bytes.now) ≡ Some (c.in-Some.kind, c.in-Some.len) = ap token_at (sym c.split_at.ensures.back) ∙ sym c.in-Some.ensures in
    (from_ahead c.args.bytes.now c.args.start c.in-Some.kind c.in-Some.len c.requires found).1
