use Rattle.std.proofs.Common.{◌≡◌, ◌≤◌, All, Bool, List, [], length, sym, ap, ◌∙◌, subst}
use Rattle.std.proofs.lemmas.List.{length-map}
use Rattle.std.proofs.lemmas.Result.{IfOk-weaker}
use Rattle.ps_elim.specs.inner.Marking.{marked, staying}
use Rattle.ps_elim.specs.Supports.{kept}
use Rattle.ps_elim.specs.inner.Weighing.{IsWeighted, vectors_of}
use Rattle.ps_elim.specs.declared.weighted.Weighted.{Weighted}
use Rattle.ps_elim.proofs.Kept.{All-marked, kept-marked, length-marked, length-staying_after, vectors_of-marked}
use Rattle.ps_elim.proofs.filter.kept.Goals as goal

pub marked-requires : goal.marked-requires
marked-requires g c =
    let ws = c.args.made.items in
    let is : c.as_slice-2.result.now ≡ staying (vectors_of ws) = c.as_slice-2.ensures.value ∙ (c.in_ok-marks.ensures ∙ ap (λ (us : List Weighted). staying (vectors_of us)) c.as_slice.ensures.value) in
    ap (λ (ms : List Bool). length ms) is ∙ (length-staying_after [] (vectors_of ws) ∙ length-map ws (λ w. w.vector))

pub returns-clause-weighted : goal.returns-clause-weighted
returns-clause-weighted g c =
    let ws = c.args.made.items in
    let ms = c.as_slice-2.result.now in
    IfOk-weaker c.marked.result (λ some. some.items ≡ marked ms ws) (λ list. All (IsWeighted g.rows) list.items) (λ some e. subst (λ (us : List Weighted). All (IsWeighted g.rows) us) (sym e) (All-marked (IsWeighted g.rows) ms ws c.requires.0)) c.marked.ensures

pub returns-clause-vectors : goal.returns-clause-vectors
returns-clause-vectors g c =
    let ws = c.args.made.items in
    let ms = c.as_slice-2.result.now in
    let is : ms ≡ staying (vectors_of ws) = c.as_slice-2.ensures.value ∙ (c.in_ok-marks.ensures ∙ ap (λ (us : List Weighted). staying (vectors_of us)) c.as_slice.ensures.value) in
    IfOk-weaker c.marked.result (λ some. some.items ≡ marked ms ws) (λ list. vectors_of list.items ≡ kept (vectors_of ws)) (λ some e. ap (λ (us : List Weighted). vectors_of us) e ∙ (vectors_of-marked ms ws ∙ (ap (λ (ns : List Bool). marked ns (vectors_of ws)) is ∙ sym (kept-marked (vectors_of ws))))) c.marked.ensures

pub returns-clause-few : goal.returns-clause-few
returns-clause-few g c =
    let ws = c.args.made.items in
    let ms = c.as_slice-2.result.now in
    IfOk-weaker c.marked.result (λ some. some.items ≡ marked ms ws) (λ list. length list.items ≤ length ws) (λ some e. subst (λ (us : List Weighted). length us ≤ length ws) (sym e) (length-marked ms ws)) c.marked.ensures
