use Rattle.std.proofs.Common.{◌≡◌, ◌<◌, ◌≤◌, ◌-◌, ◌++◌, ◌∷◌, [], ℕ, List, arith, ap, get_or, length, refl, subst, sym, ◌∙◌, Some}
use Rattle.std.specs.Prelude.{slice_get}
use Rattle.std.proofs.lemmas.Option.{same_Some, slice_get-get_or, slice_get_read}
use Rattle.ps_check.specs.declared.located.Located.{Located}
use Rattle.ps_check.specs.inner.Index.{AreStartsOf, IsBeyond}
use Rattle.ps_check.proofs.Indexing.{found_all, found_more, found_passed, starts_at}
use Rattle.ps_cover.specs.Within.{IsWithinList}
use Rattle.ps_check.proofs.candidates.candidates_in.Goals as goal

pub loop-end-preserved-in-None : goal.loop-end-preserved-in-None
loop-end-preserved-in-None c =
    let place : ℕ = c.loop-end.end - 1 in
    let some : 0 < c.loop-end.end = c.loop-end-test.true in
    let all : c.loop-end.end ≤ length c.args.located.now = c.loop-end.invariant.inside in
    let inside : place < length c.args.located.now = omega (arith, some, all) in
    let l : Located = c.index-located-place-in-None.result in
    let at_first : slice_get c.args.located.now place ≡ Some c.index-located-place.result =
    slice_get_read c.args.located.now (length c.args.located.now) place c.index-located-place.result refl inside c.index-located-place.is in
    let at_place : slice_get c.args.located.now place ≡ Some l = slice_get_read c.args.located.now (length c.args.located.now) place l refl inside c.index-located-place-in-None.is in
    let read : c.as_slice.result.now ≡ l.locations.items =
    c.as_slice.ensures.value ∙ ap (λ (m : Located). m.locations.items) (sym c.index-located-place.is ∙ same_Some c.index-located-place.result l (sym at_first ∙ at_place)) in
    found_more c.args.located.now c.args.others.now c.loop-end.end place l c.loop-end.numbers.items c.push.new.self.items c.loop-end.invariant (omega (arith, some)) inside at_place
    (subst (λ (ns : List ℕ). IsWithinList ns c.args.others.now) read c.in-None.ensures)
    (c.in_ok-push-in-None.ensures.items ∙ ap (λ (m : Located). c.loop-end.numbers.items ++ m.number ∷ []) (sym c.index-located-place-in-None.is))

pub bounds-as_slice-beyond : goal.bounds-as_slice-beyond
bounds-as_slice-beyond c =
    let place : ℕ = c.loop-end.end - 1 in
    let some : 0 < c.loop-end.end = c.loop-end-test.true in
    let all : c.loop-end.end ≤ length c.args.located.now = c.loop-end.invariant.inside in
    let inside : place < length c.args.located.now = omega (arith, some, all) in
    let l : Located = c.index-located-place.result in
    let at_place : slice_get c.args.located.now place ≡ Some l = slice_get_read c.args.located.now (length c.args.located.now) place l refl inside c.index-located-place.is in
    let read : c.as_slice.result.now ≡ l.locations.items = c.as_slice.ensures.value ∙ ap (λ (m : Located). m.locations.items) (sym c.index-located-place.is) in
    let own : AreStartsOf c.args.located.now place c.as_slice-in-Some.result.now =
    starts_at c.args.located.now c.args.starts.now (length c.args.located.now) place c.index-starts-place.result c.as_slice-in-Some.result.now c.requires inside c.index-starts-place.is c.as_slice-in-Some.ensures.value in
    let out : IsBeyond l.locations.items c.args.others.now c.in-Some.beyond = subst (λ (ns : List ℕ). IsBeyond ns c.args.others.now c.in-Some.beyond) read c.in-Some.ensures in
    let few : c.in-Some.beyond < length l.locations.items = out.inside in
    let many : length c.as_slice-in-Some.result.now ≡ length l.locations.items = own.many l at_place in
    omega (arith, few, many)

pub loop-end-smaller : goal.loop-end-smaller
loop-end-smaller c =
    let place : ℕ = c.loop-end.end - 1 in
    let some : 0 < c.loop-end.end = c.loop-end-test.true in
    let all : c.loop-end.end ≤ length c.args.located.now = c.loop-end.invariant.inside in
    let inside : place < length c.args.located.now = omega (arith, some, all) in
    let l : Located = c.index-located-place.result in
    let at_place : slice_get c.args.located.now place ≡ Some l = slice_get_read c.args.located.now (length c.args.located.now) place l refl inside c.index-located-place.is in
    let read : c.as_slice.result.now ≡ l.locations.items = c.as_slice.ensures.value ∙ ap (λ (m : Located). m.locations.items) (sym c.index-located-place.is) in
    let own : AreStartsOf c.args.located.now place c.as_slice-in-Some.result.now =
    starts_at c.args.located.now c.args.starts.now (length c.args.located.now) place c.index-starts-place.result c.as_slice-in-Some.result.now c.requires inside c.index-starts-place.is c.as_slice-in-Some.ensures.value in
    let out : IsBeyond l.locations.items c.args.others.now c.in-Some.beyond = subst (λ (ns : List ℕ). IsBeyond ns c.args.others.now c.in-Some.beyond) read c.in-Some.ensures in
    let few : c.in-Some.beyond < length l.locations.items = out.inside in
    let many : length c.as_slice-in-Some.result.now ≡ length l.locations.items = own.many l at_place in
    let within : c.in-Some.beyond < length c.as_slice-in-Some.result.now = omega (arith, few, many) in
    let start : ℕ = get_or c.as_slice-in-Some.result.now c.in-Some.beyond 0 in
    let le : start ≤ place = (own.each c.in-Some.beyond start (slice_get-get_or c.as_slice-in-Some.result.now c.in-Some.beyond 0 within)).0 in
    omega (arith, le, some)

pub loop-end-preserved : goal.loop-end-preserved
loop-end-preserved c =
    let place : ℕ = c.loop-end.end - 1 in
    let some : 0 < c.loop-end.end = c.loop-end-test.true in
    let all : c.loop-end.end ≤ length c.args.located.now = c.loop-end.invariant.inside in
    let inside : place < length c.args.located.now = omega (arith, some, all) in
    let l : Located = c.index-located-place.result in
    let at_place : slice_get c.args.located.now place ≡ Some l = slice_get_read c.args.located.now (length c.args.located.now) place l refl inside c.index-located-place.is in
    let read : c.as_slice.result.now ≡ l.locations.items = c.as_slice.ensures.value ∙ ap (λ (m : Located). m.locations.items) (sym c.index-located-place.is) in
    let own : AreStartsOf c.args.located.now place c.as_slice-in-Some.result.now =
    starts_at c.args.located.now c.args.starts.now (length c.args.located.now) place c.index-starts-place.result c.as_slice-in-Some.result.now c.requires inside c.index-starts-place.is c.as_slice-in-Some.ensures.value in
    let out : IsBeyond l.locations.items c.args.others.now c.in-Some.beyond = subst (λ (ns : List ℕ). IsBeyond ns c.args.others.now c.in-Some.beyond) read c.in-Some.ensures in
    let few : c.in-Some.beyond < length l.locations.items = out.inside in
    let many : length c.as_slice-in-Some.result.now ≡ length l.locations.items = own.many l at_place in
    let within : c.in-Some.beyond < length c.as_slice-in-Some.result.now = omega (arith, few, many) in
    found_passed c.args.located.now c.args.others.now c.loop-end.end place c.in-Some.beyond (get_or c.as_slice-in-Some.result.now c.in-Some.beyond 0) l c.as_slice-in-Some.result.now c.loop-end.numbers.items
    c.loop-end.invariant (omega (arith, some)) inside at_place out own (slice_get-get_or c.as_slice-in-Some.result.now c.in-Some.beyond 0 within)

pub returns : goal.returns
returns c = found_all c.args.located.now c.args.others.now c.loop-end.end c.loop-end.numbers.items (let none : c.loop-end.end ≤ 0 = c.loop-end-test.false in omega (arith, none)) c.loop-end.invariant
