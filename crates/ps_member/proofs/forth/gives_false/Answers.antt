use Rattle.std.proofs.Common.{◌≡◌, ◌<◌, ◌↔◌, List, length, map, not, sym, ◌∙◌, subst, IsTrue}
use Rattle.std.specs.List.{filter}
use Rattle.ps_atom.specs.declared.atom.Atom.{Atom}
use Rattle.ps_basis.specs.Demands.{IsGiven}
use Rattle.ps_member.proofs.Knowing.{forth_end, forth_more, forth_start, nonempty_test}
use Rattle.ps_member.specs.inner.Known.{is_met}
use Rattle.ps_member.specs.inner.Walks.{letter_of}
use Rattle.ps_triple.specs.Entries.{false_atom}
use Rattle.ps_member.proofs.forth.gives_false.Goals as goal

pub loop-cut-init : goal.loop-cut-init
loop-cut-init g c = forth_start (g.B.Shown.entries c.args.basis.now) c.args.walk.cuts.items c.args.walk.first.items c.in_ok-known.known.items c.requires.walk c.in_ok-known.ensures

pub loop-cut-preserved : goal.loop-cut-preserved
loop-cut-preserved g c =
    forth_more (g.B.Shown.entries c.args.basis.now) c.args.walk.cuts.items c.loop-cut.cuts.items c.pop.new.self.items c.in-Some.cut c.loop-cut.known.items c.in_ok-known-2.known.items
    c.requires.tied c.loop-cut.invariant c.in-Some.ensures.items
    (subst (λ (qs : List Atom). c.in_ok-known-2.known.items ≡ filter (is_met (g.B.Shown.entries c.args.basis.now) c.in-Some.cut.thread c.in-Some.cut.command qs) c.in-Some.cut.after.items)
    c.as_slice.ensures.value c.in_ok-known-2.ensures)

pub returns : goal.returns
returns g c =
    let none : length c.loop-cut.cuts.items ≡ 0 = sym c.loop-cut.cuts.ok.0 ∙ c.in_default.ensures.cases.0 in
    let given : (0 < length c.loop-cut.known.items) ↔ IsGiven (g.B.Shown.entries c.args.basis.now) (map letter_of c.args.walk.cuts.items) false_atom =
    forth_end (g.B.Shown.entries c.args.basis.now) c.args.walk.cuts.items c.loop-cut.cuts.items c.loop-cut.known.items none c.loop-cut.invariant in
    let some : IsTrue (not c.is_empty.result) ↔ (0 < length c.loop-cut.known.items) =
    nonempty_test c.loop-cut.known.len (length c.loop-cut.known.items) c.is_empty.result c.loop-cut.known.ok.0 c.is_empty.ensures in
    ((λ h. given.0 (some.0 h)), (λ h. some.1 (given.1 h)))
