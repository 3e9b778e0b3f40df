use Rattle.std.proofs.Common.{refl, ap, ◌∙◌, List, ℕ}
use Rattle.ps_interp.specs.Entries.{numbered_threads, with_numbers}
use Rattle.ps_interp.specs.inner.Meetings.{interpolant_in, interpolant_of}
use Rattle.ps_interp.specs.inner.Triples.{atoms_by}
use Rattle.ps_interp.proofs.Threefold.{triple_made}
use Rattle.ps_interp.proofs.tripling.triple_of.Goals as goal

pub returns : goal.returns
returns c = λ w same.
    triple_made c.args.letter.now w (interpolant_in c.args.before.now) (interpolant_of c.args.after.now) c.in_ok-names.names.items _ same
    (c.in_ok-names.ensures ∙ ap (numbered_threads c.args.letter.now.thread) c.as_slice.ensures)
    (c.from_list.ensures ∙ (c.in_ok-pre.ensures ∙ ap (λ (ns : List ℕ). atoms_by ns (interpolant_in c.args.before.now)) c.as_slice-2.ensures.value))
    refl (c.in_ok-post.ensures ∙ ap (λ (ns : List ℕ). with_numbers ns c.args.after.now.atom) c.as_slice-3.ensures.value)
    (c.from_list-2.ensures ∙ c.in_ok-lambda.ensures)
