use Rattle.std.proofs.Common.{◌≡◌, ◌↔◌, Bool, true, List, ℕ, length, sym, ap, ap₂, ◌∙◌, subst₂}
use Rattle.ps_elim.specs.Places.{is_part}
use Rattle.ps_elim.specs.inner.Words.{IsPartOf}
use Rattle.ps_elim.proofs.Bits.{part_by_words, same_words}
use Rattle.ps_elim.proofs.support.Support.inside.Goals as goal

pub is_inside-requires : goal.is_inside-requires
is_inside-requires c =
    let us = c.self.inside.words.items in
    let vs = c.other.inside.words.items in
    let same : length us ≡ length vs = same_words us vs c.self.inside.places c.other.inside.places c.self.invariant c.other.invariant (ap (λ (ps : List Bool). length ps) c.self.view_is ∙ (c.requires ∙ sym (ap (λ (ps : List Bool). length ps) c.other.view_is))) in
    ap (λ (ws : List ℕ). length ws) c.as_slice.ensures.value ∙ (same ∙ sym (ap (λ (ws : List ℕ). length ws) c.as_slice-2.ensures.value))

pub returns : goal.returns
returns c =
    let us = c.self.inside.words.items in
    let vs = c.other.inside.words.items in
    let t = c.is_inside.result in
    let says : (t ≡ true) ↔ IsPartOf us vs = subst₂ (λ (ps qs : List ℕ). (t ≡ true) ↔ IsPartOf ps qs) c.as_slice.ensures.value c.as_slice-2.ensures.value c.is_inside.ensures in
    part_by_words us vs c.self.inside.places c.other.inside.places t c.self.invariant c.other.invariant says ∙ ap₂ (λ (ps qs : List Bool). is_part ps qs) c.self.view_is c.other.view_is
