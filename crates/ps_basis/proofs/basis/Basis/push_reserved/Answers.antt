use Rattle.std.proofs.Common.{◌≡◌, ◌<◌, List, length, subst, sym, ap, ◌∙◌, arith, rules}
use Rattle.std.proofs.lemmas.List.{length_push}
use Rattle.ps_triple.specs.declared.entry.Entry.{Entry}
use Rattle.ps_basis.specs.Basis.{Growing}
use Rattle.ps_basis.specs.inner.Index.{IsIndex}
use Rattle.ps_basis.proofs.Indexing.{more_index}
use Rattle.ps_basis.proofs.basis.Basis.push_reserved.Goals as goal

pub invariant_of-self : goal.invariant_of-self
invariant_of-self c =
    let some : 0 < c.self.inside.room = subst (λ n. 0 < n) (sym (ap (λ (g : Growing). g.room) c.self.view_is)) c.requires in
    let number : c.len-number.result ≡ length c.self.inside.list.items = search rules in
    record {
      few = let long = ap length c.push_reserved.ensures.items ∙ length_push c.self.inside.list.items c.args.entry in
          omega (arith, long, number, c.if-number-ge-MOST_ENTRIES.false);
      index = subst (λ (entries : List Entry). IsIndex entries c.insert_reserved.new.self.places.items) (sym c.push_reserved.ensures.items)
          (more_index c.self.inside.list.items c.self.inside.index.places.items c.insert_reserved.new.self.places.items c.args.entry _
          c.insert_reserved.ensures.places c.insert_reserved.ensures.sorted c.of.ensures number c.self.invariant.index);
      list_room = omega (arith, c.push_reserved.ensures.len, c.push_reserved.ensures.capacity, c.self.invariant.list_room, some);
      index_room = omega (arith, c.insert_reserved.ensures.len, c.insert_reserved.ensures.capacity, c.self.invariant.index_room, some);
    }
