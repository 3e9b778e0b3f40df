use Rattle.std.proofs.Common.{◌≡◌, ◌++◌, map, ◌∙◌, ap, sym, subst, ℕ, List, false, Some}
use Rattle.std.specs.Prelude.{IfSome}
use Rattle.std.specs.List.{filter}
use Rattle.ps_demand.specs.Candidates.{entries_of, is_for, pairs_of}
use Rattle.ps_demand.proofs.PartedDemands.{candidates_more, known_for, last_is}
use Rattle.ps_triple.specs.declared.entry.Entry.{Entry}
use Rattle.ps_demand.proofs.candidates.candidates_of.Goals as goal
use Rattle.ps_demand.proofs.candidates.candidates_of.Goals.{then-ne+in_ok-add_triples, else-ne}

-- what is known is of the atom's predicate: it was looked up now or before
pub loop-atom-preserved : goal.loop-atom-preserved
loop-atom-preserved g c =
    let post = c.atom-item.result.predicate in
    let all : ℕ → List Entry = λ p. filter (is_for c.args.command p) (g.B.Shown.entries c.args.basis.now) in
    let before : c.ne.result ≡ false → c.loop-atom.predicate ≡ Some post = λ same. last_is c.loop-atom.predicate post (sym same ∙ c.ne.ensures) in
    let known : (entries_of c.if-ne.known.items ≡ all post) × (c.if-ne.predicate ≡ Some post) =
    elim c.if-ne.branch [
      | then-ne+in_ok-add_triples w ↦ (ap (λ v. entries_of v.items) w.known-is ∙ (w.in_ok-add_triples.ensures ∙ ap (λ es. entries_of es ++ all post) w.clear.ensures.items), w.predicate-is)
      | else-ne w ↦ (ap (λ v. entries_of v.items) w.known-is ∙ known_for (λ p. entries_of c.loop-atom.known.items ≡ all p) c.loop-atom.predicate post (before w.if-ne.false) c.loop-atom.invariant.known, w.predicate-is ∙ before w.if-ne.false)
    ] in
    record {
      found = candidates_more (g.B.Shown.entries c.args.basis.now) c.args.atoms.now c.args.command c.loop-atom.atom-index c.atom-item.result (entries_of c.if-ne.known.items) (pairs_of c.loop-atom.found.items) (pairs_of c.add_candidates.new.found.items)
          c.loop-atom-test.true c.atom-item.is known.0 c.loop-atom.invariant.found
          (c.in_ok-add_candidates.ensures ∙ ap (λ es. pairs_of c.loop-atom.found.items ++ map (λ e. (c.atom-item.result, e)) (entries_of es)) c.as_slice.ensures.value);
      known = subst (λ o. IfSome o (λ p. entries_of c.if-ne.known.items ≡ all p)) (sym known.1) known.0;
    }
