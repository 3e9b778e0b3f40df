use Rattle.std.proofs.Common.{List, refl, subst}
use Rattle.std.proofs.lemmas.Bool.{both_ways}
use Rattle.ps_triple.specs.declared.entry.Entry.{Entry}
use Rattle.ps_step.specs.Steps.{IsAccepting}
use Rattle.ps_check.proofs.Before.{read_slice}
use Rattle.ps_check.proofs.Viewing.{closed_more, covered_views, first_views}
use Rattle.ps_check.proofs.Firsts.{first_accepting, first_step}
use Rattle.ps_check.proofs.covering.closing_fault.Goals as goal

pub returns-then-accepting : goal.returns-then-accepting
returns-then-accepting c =
    first_accepting c.args.graph.now c.args.proof.now c.args.number c.index-as_slice-number.result c.requires.start c.requires.before
    (read_slice c.args.proof.now.configs c.as_slice.result.now c.args.number c.index-as_slice-number.result c.as_slice.ensures c.requires.exists c.index-as_slice-number.is)
    (subst (λ (es : List Entry). IsAccepting c.args.graph.now es c.index-as_slice-number.result) c.requires.front (c.accepting.ensures.0 c.if-accepting.true))

pub returns-in-None : goal.returns-in-None
returns-in-None c =
    closed_more c.args.graph.now c.args.proof.now c.args.number c.index-as_slice-number.result c.requires.before
    (read_slice c.args.proof.now.configs c.as_slice.result.now c.args.number c.index-as_slice-number.result c.as_slice.ensures c.requires.exists c.index-as_slice-number.is)
    (record {
      never = λ h. both_ways c.accepting.result c.if-accepting.false (c.accepting.ensures.1 (rw c.requires.front h));
      next = covered_views c.args.graph.now c.args.proof.now c.args.front.now c.args.configs.now c.index-as_slice-number.result c.index-as_slice-number.result c.requires.front c.requires.configs refl (rw c.in-None.is at c.in_ok-first_uncovered.ensures);
    })

pub returns-in-Some : goal.returns-in-Some
returns-in-Some c =
    first_step c.args.graph.now c.args.proof.now c.args.number c.index-as_slice-number.result c.in-Some.step c.requires.start c.requires.before
    (read_slice c.args.proof.now.configs c.as_slice.result.now c.args.number c.index-as_slice-number.result c.as_slice.ensures c.requires.exists c.index-as_slice-number.is)
    (λ h. both_ways c.accepting.result c.if-accepting.false (c.accepting.ensures.1 (rw c.requires.front h)))
    (first_views c.args.graph.now c.args.proof.now c.args.front.now c.args.configs.now c.index-as_slice-number.result c.index-as_slice-number.result c.in-Some.step c.requires.front c.requires.configs refl (rw c.in-Some.is at c.in_ok-first_uncovered.ensures))
