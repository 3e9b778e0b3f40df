use Rattle.std.proofs.Common.{◌≡◌, ℤ, List, length, sym, ap, ◌∙◌, subst, arith, rules}
use Rattle.ps_term.specs.declared.var.Var.{Var}
use Rattle.ps_term.specs.Pairs.{IsCanonical}
use Rattle.ps_atom.specs.inner.Slots.{put_in_slots}
use Rattle.ps_atom.specs.declared.share.Share.{Share}
use Rattle.ps_atom.proofs.Forming.{few_shares, share_pairs, share_threads, shares_canonical, shares_form}
use Rattle.ps_atom.proofs.canonical.form_with.Goals as goal

pub placed-requires : goal.placed-requires
placed-requires c =
    let few = few_shares c.as_slice-pairs.result.now c.args.threads.now c.in_ok-shares.shares.items c.in_ok-shares.ensures c.requires.few in
    omega (arith, few, ap length c.as_slice.ensures.value)

pub overflow_cast-result : goal.overflow_cast-result
overflow_cast-result c =
    let few = few_shares c.as_slice-pairs.result.now c.args.threads.now c.in_ok-shares.shares.items c.in_ok-shares.ensures c.requires.few in
    omega (arith, few, c.len.ensures, c.in_ok-shares.shares.ok.0)

pub from_list-requires : goal.from_list-requires
from_list-requires c =
    let ps = c.as_slice-pairs.result.now in
    let shares = c.in_ok-shares.shares.items in
    subst (λ (qs : List (Var × ℤ)). IsCanonical qs) (sym (c.in_ok-list.ensures ∙ ap (λ (s : List Share). put_in_slots (share_pairs s) ps) c.as_slice.ensures.value)) (shares_canonical ps c.args.threads.now shares c.as_slice-pairs.ensures.canonical c.in_ok-shares.ensures)

pub returns : goal.returns
returns c =
    let ps = c.as_slice-pairs.result.now in
    let shares = c.in_ok-shares.shares.items in
    let arity_is : c.len.result ≡ length shares = omega (arith, c.len.ensures, c.in_ok-shares.shares.ok.0) in
    shares_form c.args.tight.now ps c.args.threads.now shares c.len.result c.from_list.result _ c.in_ok-threads.threads c.as_slice-pairs.ensures.list c.as_slice-pairs.ensures.canonical c.requires.ascending c.requires.occurring c.in_ok-shares.ensures c.requires.few arity_is (c.from_list.ensures ∙ (c.in_ok-list.ensures ∙ ap (λ (s : List Share). put_in_slots (share_pairs s) ps) c.as_slice.ensures.value)) (search rules) (c.in_ok-threads.ensures ∙ ap (λ (s : List Share). share_threads s) c.as_slice-2.ensures.value)
