use Rattle.std.proofs.Common.{◌≡◌, ◌+◌, ◌^◌, ◌<◌, ◌≤◌, ◌≤ℤ◌, pos, All, ℕ, List, [], ◌∷◌, drop, get_or, length, sym, ap, ◌∙◌, subst, subst₂, arith}
use Rattle.std.proofs.lemmas.List.{append-nil, drop_all, drop_more, length-map, length_push}
use Rattle.std.proofs.lemmas.List.Elements.{All-weaker}
use Rattle.ps_elim.specs.Elimination.{AreStagesOf, Ends, IsLeastRefutation}
use Rattle.ps_elim.specs.Stages.{AreStages, first_set, variables}
use Rattle.ps_elim.specs.inner.Weighing.{IsNextSet, IsWeighted, vectors_of}
use Rattle.ps_elim.specs.inner.Choosing.{IsLeastAmong}
use Rattle.ps_elim.specs.declared.next.Next.{Next}
use Rattle.ps_elim.specs.declared.next.Next.TheVariants.{Set, Past128}
use Rattle.ps_elim.specs.declared.stage.Stage.{Stage}
use Rattle.ps_elim.specs.declared.weighted.Weighted.{Weighted}
use Rattle.ps_elim.proofs.Choosing.{least_refutation_is, no_refutation_is}
use Rattle.ps_elim.proofs.Eliminating.{Eliminating, Eliminating-past, Eliminating-start, Eliminating-step}
use Rattle.ps_elim.proofs.Units.{length-units}
use Rattle.ps_elim.proofs.Vanishing.{last_refutes}
use Rattle.ps_farkas.specs.Refutes.{Refutes}
use Rattle.ps_farkas.proofs.Soundness.{Refutes-no_values}
use Rattle.ps_term.specs.declared.row.Row.{Row}
use Rattle.ps_term.specs.declared.var.Var.{Var}
use Rattle.ps_term.specs.declared.var.Var.TheVariants.{Global}
use Rattle.ps_elim.proofs.elimination.eliminate.Goals as goal

-- the variable of this turn, and those that are left after it
turn : (rows : List Row) (set : List Weighted) (stages : List Stage) (xs : List Var) (i : ℕ) → xs ≡ variables rows → i < length xs → Eliminating rows set stages (drop i (variables rows)) → Eliminating rows set stages (get_or xs i (Global 0) ∷ drop (i + 1) (variables rows))
turn rows set stages xs i e l h =
    subst (λ (ys : List Var). Eliminating rows set stages (get_or xs i (Global 0) ∷ drop (i + 1) ys)) e (subst (λ (ys : List Var). Eliminating rows set stages ys) (drop_more xs i (Global 0) l) (subst (λ (ys : List Var). Eliminating rows set stages (drop i ys)) (sym e) h))

end : (rows : List Row) (set : List Weighted) (stages : List Stage) (xs : List Var) (i : ℕ) → xs ≡ variables rows → length xs ≤ i → Eliminating rows set stages (drop i (variables rows)) → Eliminating rows set stages []
end rows set stages xs i e l h =
    subst (λ (ys : List Var). Eliminating rows set stages ys) (drop_all i xs l) (subst (λ (ys : List Var). Eliminating rows set stages (drop i ys)) (sym e) h)

-- all vectors have an entry for each row
as_long : (rows : List Row) (ws us : List Weighted) → us ≡ ws → All (IsWeighted rows) ws → (n : ℕ) × All (λ w. length w.vector ≡ n) us
as_long rows ws us e h = (length rows, subst (λ (vs : List Weighted). All (λ w. length w.vector ≡ length rows) vs) (sym e) (All-weaker (IsWeighted rows) (λ w. length w.vector ≡ length rows) (λ w is. is.long) ws h))

pub least_refutation-requires : goal.least_refutation-requires
least_refutation-requires c =
    as_long c.args.rows.now c.loop-number.set.items c.as_slice-2.result.now c.as_slice-2.ensures.value c.loop-number.invariant.state.weighted

pub loop-number-init : goal.loop-number-init
loop-number-init c =
    let rows = c.args.rows.now in
    let set = c.in_ok-set.set.items in
    let vectors = c.in_ok-set.ensures.vectors in
    let long : length set ≡ length rows = sym (length-map set (λ w. w.vector)) ∙ (ap (λ (vs : List (List ℕ)). length vs) vectors ∙ length-units (length rows)) in
    let few : length set < 2 ^ 32 = omega (arith, long, c.requires.few_rows) in
    record {
      state = subst (λ (ss : List Stage). Eliminating rows set ss (variables rows)) (sym c.in_ok-stages.ensures.items) (Eliminating-start rows set c.in_ok-set.ensures.weighted vectors few);
      counted = sym (ap (λ (ss : List Stage). length ss) c.in_ok-stages.ensures.items);
    }

pub returns-in-Past128-clause-answer : goal.returns-in-Past128-clause-answer
returns-in-Past128-clause-answer c =
    let rows = c.args.rows.now in
    let set = c.loop-number.set.items in
    let stages = c.loop-number.stages.items in
    let xs = c.deref-variable-items.result.now in
    let i = c.loop-number.number in
    let x = get_or xs i (Global 0) in
    let all : xs ≡ variables rows = c.deref-variable-items.ensures.value ∙ c.in_ok-variables.ensures in
    let here = turn rows set stages xs i all c.loop-number-test.true c.loop-number.invariant.state in
    let next : IsNextSet rows x (vectors_of set) Past128 = subst₂ (λ (ws : List Weighted) (n : Next). IsNextSet rows x (vectors_of ws) n) c.as_slice.ensures.value c.in-Past128.is c.in_ok-next.ensures in
    Eliminating-past rows set stages x (drop (i + 1) (variables rows)) i here next c.loop-number.invariant.counted

pub loop-number-preserved : goal.loop-number-preserved
loop-number-preserved c =
    let rows = c.args.rows.now in
    let set = c.loop-number.set.items in
    let stages = c.loop-number.stages.items in
    let xs = c.deref-variable-items.result.now in
    let i = c.loop-number.number in
    let x = get_or xs i (Global 0) in
    let rest = drop (i + 1) (variables rows) in
    let made = c.in-Set.next.items in
    let stage = c.in_ok-stage-in-Set.stage in
    let all : xs ≡ variables rows = c.deref-variable-items.ensures.value ∙ c.in_ok-variables.ensures in
    let here = turn rows set stages xs i all c.loop-number-test.true c.loop-number.invariant.state in
    let next : IsNextSet rows x (vectors_of set) (Set c.in-Set.next) = subst₂ (λ (ws : List Weighted) (n : Next). IsNextSet rows x (vectors_of ws) n) c.as_slice.ensures.value c.in-Set.is c.in_ok-next.ensures in
    let is = c.in_ok-stage-in-Set.ensures in
    let pushed = c.in_ok-push-in-Set.ensures.items in
    record {
      state = subst (λ (ss : List Stage). Eliminating rows made ss rest) (sym pushed) (Eliminating-step rows set made stages x rest stage here next.0 next.1 next.2 next.3 is.variable is.vectors is.rows);
      counted = omega (arith, c.loop-number.invariant.counted, ap (λ (ss : List Stage). length ss) pushed, length_push stages stage);
    }

pub returns-in-Some-clause-answer : goal.returns-in-Some-clause-answer
returns-in-Some-clause-answer c =
    let rows = c.args.rows.now in
    let set = c.loop-number.set.items in
    let all : c.deref-variable-items.result.now ≡ variables rows = c.deref-variable-items.ensures.value ∙ c.in_ok-variables.ensures in
    let last = end rows set c.loop-number.stages.items c.deref-variable-items.result.now c.loop-number.number all c.loop-number-test.false c.loop-number.invariant.state in
    let best = c.in-Some.least.now in
    let least : IsLeastAmong set best = subst (λ (ws : List Weighted). IsLeastAmong ws best) c.as_slice-2.ensures.value c.in-Some.ensures.least in
    (last.ends tt, subst (λ (v : List ℕ). IsLeastRefutation rows v) (sym (c.from_list.ensures ∙ c.in_ok-to_list-in-Some.ensures)) (least_refutation_is rows set best last.weighted last.last least))

refuted : (rows : List Row) (v : List ℕ) → Ends rows × IsLeastRefutation rows v → Refutes rows v
refuted rows v h = last_refutes rows v h.1.is_last h.1.positive

pub returns-in-Some-clause-refuted : goal.returns-in-Some-clause-refuted
returns-in-Some-clause-refuted c = refuted c.args.rows.now c.from_list.result (returns-in-Some-clause-answer c)

pub returns-in-Some-clause-sound : goal.returns-in-Some-clause-sound
returns-in-Some-clause-sound c =
    Refutes-no_values c.args.rows.now c.from_list.result (refuted c.args.rows.now c.from_list.result (returns-in-Some-clause-answer c))

pub returns-clause-answer : goal.returns-clause-answer
returns-clause-answer c =
    let rows = c.args.rows.now in
    let set = c.loop-number.set.items in
    let stages = c.loop-number.stages.items in
    let all : c.deref-variable-items.result.now ≡ variables rows = c.deref-variable-items.ensures.value ∙ c.in_ok-variables.ensures in
    let last = end rows set stages c.deref-variable-items.result.now c.loop-number.number all c.loop-number-test.false c.loop-number.invariant.state in
    let is : AreStagesOf rows stages = record {
      ends = last.ends tt;
      made = subst (λ (ss : List Stage). AreStages rows (first_set rows) (variables rows) ss) (append-nil stages) (last.made [] tt);
      unrefuted = no_refutation_is rows set last.weighted last.last (subst (λ (ws : List Weighted). All (λ w. w.row.term.constant ≤ℤ pos 0) ws) c.as_slice-2.ensures.value c.in-None.ensures.none);
    } in
    subst (λ (ss : List Stage). AreStagesOf rows ss) (sym c.from_list-in-None.ensures) is
