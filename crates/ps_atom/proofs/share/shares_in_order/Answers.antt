use Rattle.std.proofs.Common.{ℕ, List, map, subst}
use Rattle.std.specs.List.Sorted.{IsPermutation}
use Rattle.std.proofs.lemmas.List.Sorted.{All-permutation, IsPermutation-map}
use Rattle.ps_atom.specs.inner.Shares.{IsShare}
use Rattle.ps_atom.specs.declared.share.Share.{Share}
use Rattle.ps_atom.proofs.share.shares_in_order.Goals as goal

pub returns : goal.returns
returns c =
    let before = c.in_ok-shares.shares.items in
    let after = c.sort.new.self.items in
    record {
      each = All-permutation (IsShare c.args.pairs.now) before after c.sort.ensures.permutation c.in_ok-shares.ensures.each;
      same = subst (λ (ts : List ℕ). IsPermutation ts (map (λ (share : Share). share.thread) after)) c.in_ok-shares.ensures.threads (IsPermutation-map (λ (share : Share). share.thread) before after c.sort.ensures.permutation);
      sorted = c.in_ok-sort.ensures.sorted;
    }
