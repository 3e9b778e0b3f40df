use Rattle.std.proofs.Common.{◌≡◌, ◌++◌, ◌∷◌, [], ℕ, List, length, sym, ap, ◌∙◌, subst, arith}
use Rattle.ps_atom.specs.inner.Index.{IsIndex, IsNoted, key_of}
use Rattle.ps_atom.specs.declared.predicate.Predicate.{Predicate}
use Rattle.ps_atom.proofs.Indexing.{index-push, table-push}
use Rattle.ps_atom.proofs.predicates.Predicates.push.Goals as goal

pub invariant_of-self-in-Ok : goal.invariant_of-self-in-Ok
invariant_of-self-in-Ok c =
    let list = c.self.inside.list.items in
    let pushed : c.push_reserved.new.self.items ≡ list ++ c.args.predicate ∷ [] = c.push_reserved.ensures.items ∙ (ap (λ (xs : List Predicate). xs ++ c.in-Ok.predicate ∷ []) c.reserve.ensures.items ∙ ap (λ (p : Predicate). list ++ p ∷ []) c.in-Ok.ensures.same) in
    let long : c.len-number.result ≡ length list = omega (arith, c.len-number.ensures, c.self.inside.list.ok.0) in
    record {
      table = table-push list c.push_reserved.new.self.items c.args.predicate c.self.invariant.table (omega (arith, c.if-number.false, long)) pushed;
      indexed = subst (λ (xs : List Predicate). IsIndex xs c.note.new.index) (sym pushed) (index-push list c.args.predicate c.self.inside.index c.note.new.index c.self.invariant.indexed (subst (λ (n : ℕ). IsNoted c.self.inside.index (key_of c.args.predicate) n c.note.new.index) long c.in-Ok.ensures.noted));
    }

pub returns-in-Ok-clause-table : goal.returns-in-Ok-clause-table
returns-in-Ok-clause-table c =
    let list = c.self.inside.list.items in
    let long : c.len-number.result ≡ length list = omega (arith, c.len-number.ensures, c.self.inside.list.ok.0) in
    table-push list c.push_reserved.new.self.items c.args.predicate c.self.invariant.table (omega (arith, c.if-number.false, long)) (c.push_reserved.ensures.items ∙ (ap (λ (xs : List Predicate). xs ++ c.in-Ok.predicate ∷ []) c.reserve.ensures.items ∙ ap (λ (p : Predicate). list ++ p ∷ []) c.in-Ok.ensures.same))
