use Rattle.std.proofs.Common.{ℕ, ℤ, [], List, sym, ap, ap₂, ◌∙◌, refl, subst}
use Rattle.ps_elim.specs.Supports.{is_less}
use Rattle.ps_elim.specs.inner.Entries.{AreEntries, entries_of}
use Rattle.ps_elim.specs.inner.Lexicographic.{comes_before}
use Rattle.ps_elim.proofs.Differing.{before_is}
use Rattle.ps_elim.proofs.Entries.{same_places}
use Rattle.ps_term.specs.Pairs.{IsCanonical}
use Rattle.ps_term.specs.declared.var.Var.{Var}
use Rattle.ps_elim.proofs.vector.Vector.is_less.Goals as goal

pub returns : goal.returns
returns c =
    let s = c.self.inside.entries in
    let t = c.other.inside.entries in
    let n = c.self.inside.places in
    let same = same_places s t n c.other.inside.places c.args.self.now c.args.other.now c.self.view_is c.other.view_is c.requires in
    let beside = subst (λ (k : ℕ). AreEntries t k) same c.other.invariant in
    let left : IsCanonical s.pairs = subst (λ (ps : List (Var × ℤ)). IsCanonical ps) c.as_slice.ensures.list c.as_slice.ensures.canonical in
    let right : IsCanonical t.pairs = subst (λ (ps : List (Var × ℤ)). IsCanonical ps) c.as_slice-2.ensures.list c.as_slice-2.ensures.canonical in
    c.comes_before.ensures
    ∙ (ap₂ (λ (ps qs : List (Var × ℤ)). comes_before ps qs) c.as_slice.ensures.list c.as_slice-2.ensures.list
    ∙ (before_is s t n c.self.invariant beside left right [] s.pairs t.pairs refl refl
    ∙ ap₂ (λ (u v : List ℕ). is_less u v) c.self.view_is (ap (λ (k : ℕ). entries_of t k) (sym same) ∙ c.other.view_is)))
