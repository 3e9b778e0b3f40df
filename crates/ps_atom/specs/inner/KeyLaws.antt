-- The laws of the comparison and of the hash of keys.
use Rattle.std.specs.Prelude.{◌≡◌, true, ◌&&◌, nat_eq}
use Rattle.std.specs.Bool.{Decides}
use Rattle.std.specs.Cmp.{IsEquivalence, IsPartialEquivalence, partial_equiv_from_equiv}
use Rattle.std.proofs.Common.{refl, sym, ap}
use Rattle.std.proofs.lemmas.Bool.Decides.{Decides-and, Decides-eqb, Decides-int_eq, Decides-like, same_from_decides}
use Rattle.std.proofs.lemmas.Slice.Eq.{slice_eq-Decides}
use Rattle.std.specs.Cmp.Lexicographic.{pointwise}
use Rattle.std.specs.Ordering.{int_eq}
use Rattle.ps_term.specs.Hashed.{pair_decides, pair_eq}
use Rattle.ps_atom.specs.declared.key.Key.{Key}
use Rattle.ps_atom.specs.inner.Keys.{key_eq, key_fed}

pub key_decides : (a b : Key) → Decides (key_eq a b) (a ≡ b)
key_decides a b =
    Decides-like (key_eq a b) (λ e. λ i. record { predicate = record { arity = e.0.0 i; row = record { term = record { pairs = e.1 i; constant = e.0.1 i } } } }) (λ e. ((ap (λ (k : Key). k.predicate.arity) e, ap (λ (k : Key). k.predicate.row.term.constant) e), ap (λ (k : Key). k.predicate.row.term.pairs) e)) (Decides-and (nat_eq a.predicate.arity b.predicate.arity && int_eq a.predicate.row.term.constant b.predicate.row.term.constant) (pointwise pair_eq a.predicate.row.term.pairs b.predicate.row.term.pairs) (Decides-and (nat_eq a.predicate.arity b.predicate.arity) (int_eq a.predicate.row.term.constant b.predicate.row.term.constant) (Decides-eqb a.predicate.arity b.predicate.arity) (Decides-int_eq a.predicate.row.term.constant b.predicate.row.term.constant)) (slice_eq-Decides pair_decides a.predicate.row.term.pairs b.predicate.row.term.pairs (pointwise pair_eq a.predicate.row.term.pairs b.predicate.row.term.pairs) refl))

pub key_equiv : IsEquivalence key_eq
key_equiv = record {
  refl = λ x. (key_decides x x).1 refl;
  symm = λ x y. same_from_decides (key_eq x y) (key_eq y x) (key_decides x y) (Decides-like (key_eq y x) (λ e. sym e) (λ e. sym e) (key_decides y x));
  congr = λ x y z e. ap (λ (w : Key). key_eq w z) ((key_decides x y).0 e);
}

pub key_laws : IsPartialEquivalence key_eq
key_laws = partial_equiv_from_equiv key_equiv

pub key_alike : (x y : Key) → key_eq x y ≡ true → key_fed x ≡ key_fed y
key_alike x y e = ap key_fed ((key_decides x y).0 e)
