use Rattle.std.proofs.Common.{◌≡◌, ◌<◌, ◌≤◌, ◌+◌, ◌-◌, ℕ, arith, ap, length, refl, subst, sym, take, ◌∙◌, Some}
use Rattle.std.specs.Prelude.{slice_get}
use Rattle.std.proofs.lemmas.Option.{slice_get_read}
use Rattle.std.proofs.lemmas.Result.{IfOk-weaker}
use Rattle.ps_check.specs.declared.located.Located.{Located}
use Rattle.ps_check.specs.inner.Index.{AreStartsAfter, AreStartsOf}
use Rattle.ps_check.proofs.Indexing.{starts_at, starts_next}
use Rattle.ps_check.proofs.starts.own_starts.Goals as goal

pub starts_after-requires-2 : goal.starts_after-requires-2
starts_after-requires-2 c =
    let before : ℕ = c.args.place - 1 in
    let later : before + 1 ≡ c.args.place = omega (arith, c.if-place-eq0.false) in
    let under : before < length c.args.located.now = omega (arith, later, c.requires.inside) in
    let b : Located = c.index-located-before.result in
    let at_before : slice_get c.args.located.now before ≡ Some b = slice_get_read c.args.located.now (length c.args.located.now) before b refl under c.index-located-before.is in
    let read : c.as_slice.result.now ≡ b.locations.items = c.as_slice.ensures.value ∙ ap (λ (m : Located). m.locations.items) (sym c.index-located-before.is) in
    let of_b : AreStartsOf c.args.located.now before c.as_slice-starts_before.result.now =
    starts_at c.args.located.now c.args.starts.now c.args.place before c.index-starts-before.result c.as_slice-starts_before.result.now c.requires.before (omega (arith, later)) c.index-starts-before.is c.as_slice-starts_before.ensures.value in
    let many : length c.as_slice-starts_before.result.now ≡ length b.locations.items = of_b.many b at_before in
    let few : c.shared-shared.result ≤ length c.as_slice.result.now = c.shared-shared.ensures.one in
    let same : length c.as_slice.result.now ≡ length b.locations.items = ap length read in
    omega (arith, many, few, same)

pub returns : goal.returns
returns c =
    let before : ℕ = c.args.place - 1 in
    let later : before + 1 ≡ c.args.place = omega (arith, c.if-place-eq0.false) in
    let under : before < length c.args.located.now = omega (arith, later, c.requires.inside) in
    let b : Located = c.index-located-before.result in
    let l : Located = c.index-located-place.result in
    let at_before : slice_get c.args.located.now before ≡ Some b = slice_get_read c.args.located.now (length c.args.located.now) before b refl under c.index-located-before.is in
    let at_place : slice_get c.args.located.now c.args.place ≡ Some l = slice_get_read c.args.located.now (length c.args.located.now) c.args.place l refl c.requires.inside c.index-located-place.is in
    let read : c.as_slice.result.now ≡ b.locations.items = c.as_slice.ensures.value ∙ ap (λ (m : Located). m.locations.items) (sym c.index-located-before.is) in
    let viewed : c.as_slice-locations.result.now ≡ l.locations.items = c.as_slice-locations.ensures.value ∙ ap (λ (m : Located). m.locations.items) (sym c.index-located-place.is) in
    let of_b : AreStartsOf c.args.located.now before c.as_slice-starts_before.result.now =
    starts_at c.args.located.now c.args.starts.now c.args.place before c.index-starts-before.result c.as_slice-starts_before.result.now c.requires.before (omega (arith, later)) c.index-starts-before.is c.as_slice-starts_before.ensures.value in
    let alike : take c.shared-shared.result b.locations.items ≡ take c.shared-shared.result l.locations.items =
    ap (take c.shared-shared.result) (sym read) ∙ c.shared-shared.ensures.same ∙ ap (take c.shared-shared.result) viewed in
    IfOk-weaker c.starts_after-2.result _ _
    (λ own a. starts_next c.args.located.now before c.args.place c.shared-shared.result b l c.as_slice-starts_before.result.now own.items (sym later) at_before at_place of_b alike
    (subst (λ (n : ℕ). AreStartsAfter c.as_slice-starts_before.result.now c.shared-shared.result c.args.place n own.items) (ap length viewed) a))
    c.starts_after-2.ensures
