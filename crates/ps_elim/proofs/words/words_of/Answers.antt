use Rattle.std.proofs.Common.{◌≡◌, ◌≢◌, ◌∙◌, ◌++◌, ◌<◌, ◌≤◌, [], List, ℕ, ℤ, pos, ap, drop, length, get_or, replicate, rules, subst, take, arith}
use Rattle.std.specs.Int.{div_ceil}
use Rattle.std.proofs.lemmas.List.{drop_all, get_or_default, length-replicate}
use Rattle.ps_elim.specs.inner.Entries.{AreEntries, IsPlace}
use Rattle.ps_elim.specs.inner.Words.{IsMarked}
use Rattle.ps_elim.proofs.Bits.{written_back}
use Rattle.ps_elim.proofs.Placing.{AreMarks, AreMarks-end, AreMarks-start, AreMarks-step, stands}
use Rattle.ps_term.specs.Pairs.{IsCanonical, coefficient}
use Rattle.ps_term.specs.declared.term.Term.{Term}
use Rattle.ps_term.specs.declared.var.Var.{Var}
use Rattle.ps_term.specs.declared.var.Var.TheVariants.{Global}
use Rattle.ps_elim.proofs.words.words_of.Goals as goal

-- a pair that isn't 0 is an entry of the vector
is_place : (ps : List (Var × ℤ)) (t : Term) (n i : ℕ) (d : Var × ℤ) → ((x : Var) → coefficient x t.pairs ≢ pos 0 → IsPlace x n) → ps ≡ t.pairs → IsCanonical ps → i < length ps → IsPlace (get_or ps i d).0 n
is_place ps t n i d within e c l =
    within (get_or ps i d).0 (subst (λ (qs : List (Var × ℤ)). coefficient (get_or ps i d).0 qs ≢ pos 0) e (stands ps i d l c))

pub mark-requires : goal.mark-requires
mark-requires c =
    let d : Var × ℤ = (Global 0, pos 0) in
    let place = c.place_of.ensures c.args.places (is_place c.as_slice-pair-items.result.now c.args.entries.now c.args.places c.loop-pair.pair-index d c.requires.within c.as_slice-pair-items.ensures.list c.as_slice-pair-items.ensures.canonical c.loop-pair-test.true) in
    omega (arith, place.1, c.loop-pair.invariant.enough, ap (λ (us : List ℕ). length us) c.deref_mut.ensures.value)

pub loop-pair-init : goal.loop-pair-init
loop-pair-init c =
    let n = div_ceil c.args.places 64 in
    let zeros : c.in_ok-words.words.items ≡ replicate n 0 = search rules in
    rw zeros (record { enough = length-replicate {A = ℕ} n 0; marks = AreMarks-start c.args.entries.now n })

pub loop-pair-preserved : goal.loop-pair-preserved
loop-pair-preserved c =
    let t = c.args.entries.now in
    let ps = c.as_slice-pair-items.result.now in
    let i = c.loop-pair.pair-index in
    let d : Var × ℤ = (Global 0, pos 0) in
    let place = c.place_of.ensures c.args.places (is_place ps t c.args.places i d c.requires.within c.as_slice-pair-items.ensures.list c.as_slice-pair-items.ensures.canonical c.loop-pair-test.true) in
    let old = c.loop-pair.words.items in
    let new = c.mark.new.words in
    let n = c.loop-pair.words.len in
    let value = c.deref_mut.ensures.value in
    let long : length new ≡ length old = c.mark.ensures.long ∙ ap (λ (us : List ℕ). length us) value in
    let whole : n ≡ length old = omega (arith, c.deref_mut.ensures.len, ap (λ (us : List ℕ). length us) value) in
    let back : take n (new ++ drop (length new) old) ≡ new = written_back new old n long whole in
    let marked : IsMarked old new c.place_of.result = subst (λ (us : List ℕ). IsMarked us new c.place_of.result) value c.mark.ensures.marked in
    let list : ps ≡ t.pairs = c.as_slice-pair-items.ensures.list in
    let canonical : IsCanonical t.pairs = subst (λ (qs : List (Var × ℤ)). IsCanonical qs) list c.as_slice-pair-items.ensures.canonical in
    let within : i < length t.pairs = subst (λ (qs : List (Var × ℤ)). i < length qs) list c.loop-pair-test.true in
    let is : get_or ps i d ≡ get_or t.pairs i (get_or ps i d) = ap (λ (qs : List (Var × ℤ)). get_or qs i d) list ∙ get_or_default t.pairs i d (get_or ps i d) within in
    rw back (record {
      enough = long ∙ c.loop-pair.invariant.enough;
      marks = AreMarks-step t old new i c.place_of.result (get_or ps i d) canonical within is place.0 marked c.loop-pair.invariant.marks;
    })

pub returns : goal.returns
returns c =
    let t = c.args.entries.now in
    let i = c.loop-pair.pair-index in
    let none : drop i t.pairs ≡ [] = drop_all i t.pairs (subst (λ (qs : List (Var × ℤ)). length qs ≤ i) c.as_slice-pair-items.ensures.list c.loop-pair-test.false) in
    let entries : AreEntries t c.args.places = record { few = c.requires.few; constant = c.requires.constant; positive = c.requires.positive; within = c.requires.within } in
    AreMarks-end t c.args.places c.loop-pair.words.items entries c.loop-pair.invariant.enough (subst (λ (qs : List (Var × ℤ)). AreMarks t c.loop-pair.words.items qs) none c.loop-pair.invariant.marks)
