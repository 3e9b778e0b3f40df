-- The laws of the comparison and of the hash of entries.
use Rattle.std.specs.Prelude.{◌≡◌, true, ◌&&◌, nat_eq}
use Rattle.std.specs.Bool.{Decides}
use Rattle.std.specs.Cmp.{IsEquivalence, IsPartialEquivalence, partial_equiv_from_equiv}
use Rattle.std.specs.Cmp.Lexicographic.{pointwise}
use Rattle.std.proofs.Common.{refl, sym, ap}
use Rattle.std.proofs.lemmas.Bool.Decides.{Decides-and, Decides-eqb, Decides-like, same_from_decides}
use Rattle.std.proofs.lemmas.Slice.Eq.{slice_eq-Decides}
use Rattle.ps_atom.specs.declared.atom.Atom.{Atom}
use Rattle.ps_interp.specs.declared.entry_key.EntryKey.{EntryKey}
use Rattle.ps_interp.specs.inner.Keys.{atom_eq, entry_eq, entry_of, initial_eq, key_eq, key_fed, key_of, triple_eq}
use Rattle.ps_triple.proofs.Alike.{same_but_multipliers}
use Rattle.ps_triple.specs.declared.entry.Entry.{Entry}
use Rattle.ps_triple.specs.declared.entry.Entry.TheVariants.{Triple as OfTriple, Initial as OfInitial}
use Rattle.ps_triple.specs.declared.initial.Initial.{Initial}
use Rattle.ps_triple.specs.declared.triple.Triple.{Triple}

pub atom_decides : (a b : Atom) → Decides (atom_eq a b) (a ≡ b)
atom_decides a b =
    Decides-like (atom_eq a b) (λ e. λ i. record { predicate = e.0 i; threads = e.1 i }) (λ e. (ap (λ (c : Atom). c.predicate) e, ap (λ (c : Atom). c.threads) e))
    (Decides-and (nat_eq a.predicate b.predicate) (pointwise nat_eq a.threads b.threads) (Decides-eqb a.predicate b.predicate)
    (slice_eq-Decides Decides-eqb a.threads b.threads (pointwise nat_eq a.threads b.threads) refl))

-- the triple of an entry, or else this one
abbrev triple_in : Triple → Entry → Triple
triple_in other (OfTriple t) = t
triple_in other (OfInitial i) = other

pub triple_decides : (s t : Triple) → Decides (triple_eq s t) (OfTriple s ≡ OfTriple t)
triple_decides s t =
    Decides-like (triple_eq s t) (λ e. same_but_multipliers (OfTriple s) (OfTriple t) (e.0.1, e.0.0.0, e.0.0.1) e.1)
    (λ e. (((ap (λ (q : Entry). (triple_in s q).command) e, ap (λ (q : Entry). (triple_in s q).post) e), ap (λ (q : Entry). (triple_in s q).pre) e), ap (λ (q : Entry). (triple_in s q).lambda) e))
    (Decides-and ((nat_eq s.command t.command && atom_eq s.post t.post) && pointwise atom_eq s.pre t.pre) (pointwise nat_eq s.lambda t.lambda)
    (Decides-and (nat_eq s.command t.command && atom_eq s.post t.post) (pointwise atom_eq s.pre t.pre)
    (Decides-and (nat_eq s.command t.command) (atom_eq s.post t.post) (Decides-eqb s.command t.command) (atom_decides s.post t.post))
    (slice_eq-Decides atom_decides s.pre t.pre (pointwise atom_eq s.pre t.pre) refl))
    (slice_eq-Decides Decides-eqb s.lambda t.lambda (pointwise nat_eq s.lambda t.lambda) refl))

initial_decides : (i j : Initial) → Decides (initial_eq i j) (i ≡ j)
initial_decides i j =
    Decides-like (initial_eq i j) (λ e. λ k. record { predicate = e.0 k; lambda = e.1 k }) (λ e. (ap (λ (q : Initial). q.predicate) e, ap (λ (q : Initial). q.lambda) e))
    (Decides-and (nat_eq i.predicate j.predicate) (pointwise nat_eq i.lambda j.lambda) (Decides-eqb i.predicate j.predicate)
    (slice_eq-Decides Decides-eqb i.lambda j.lambda (pointwise nat_eq i.lambda j.lambda) refl))

-- the initial entry of an entry, or else this one
abbrev initial_in : Initial → Entry → Initial
initial_in other (OfTriple t) = other
initial_in other (OfInitial i) = i

pub entry_decides : (a b : Entry) → Decides (entry_eq a b) (a ≡ b)
entry_decides (OfTriple s) (OfTriple t) = triple_decides s t
entry_decides (OfInitial i) (OfInitial j) = Decides-like (initial_eq i j) (λ e. ap OfInitial e) (λ e. ap (initial_in i) e) (initial_decides i j)
entry_decides (OfTriple _) (OfInitial _) = ((λ e. cc), (λ e. cc))
entry_decides (OfInitial _) (OfTriple _) = ((λ e. cc), (λ e. cc))

pub key_decides : (a b : EntryKey) → Decides (key_eq a b) (a ≡ b)
key_decides a b = Decides-like (key_eq a b) (λ e. ap key_of e) (λ e. ap entry_of e) (entry_decides a.entry b.entry)

pub key_equiv : IsEquivalence key_eq
key_equiv = record {
  refl = λ x. (key_decides x x).1 refl;
  symm = λ x y. same_from_decides (key_eq x y) (key_eq y x) (key_decides x y) (Decides-like (key_eq y x) (λ e. sym e) (λ e. sym e) (key_decides y x));
  congr = λ x y z e. ap (λ (w : EntryKey). key_eq w z) ((key_decides x y).0 e);
}

pub key_laws : IsPartialEquivalence key_eq
key_laws = partial_equiv_from_equiv key_equiv

pub key_alike : (x y : EntryKey) → key_eq x y ≡ true → key_fed x ≡ key_fed y
key_alike x y e = ap key_fed ((key_decides x y).0 e)
