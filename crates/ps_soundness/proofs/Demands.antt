-- What a demand of a step says of threads, and a demand renamed.
use Rattle.std.proofs.Common.{◌≡◌, refl, sym, ap, ◌∙◌, subst, ℕ, List, ◌∷◌, map, Some, inl, inr, ◌⊎◌, Contains}
use Rattle.std.specs.List.{filter_map, flat_map}
use Rattle.ps_atom.specs.Atoms.{renamed, IsInjectiveOn}
use Rattle.ps_atom.specs.declared.atom.Atom.{Atom}
use Rattle.ps_list.proofs.Mapped.{from_flat_mapped, from_mapped}
use Rattle.ps_config.proofs.Occurring.{of_renamed, renamed_twice}
use Rattle.ps_list.proofs.Members.{here, there}
use Rattle.ps_demand.proofs.Demanding.{pre_threads}
use Rattle.ps_demand.proofs.Picked.{twice_all}
use Rattle.ps_step.proofs.Pulled.{given_threads}
use Rattle.ps_demand.specs.Demands.{AreTied}
use Rattle.ps_triple.specs.Entries.{GivesAtom, threads_in}
use Rattle.ps_triple.specs.declared.entry.Entry.{Entry}
use Rattle.ps_triple.specs.declared.entry.Entry.TheVariants.{Triple as OfTriple, Initial as OfInitial}

-- the threads of a renamed triple are the mover and those of its post
image_in : (entries : List Entry) (tied : AreTied entries) (thread command : ℕ) (before : List Atom) (after : Atom) (g : GivesAtom entries thread command before after)
    (s : ℕ) → Contains (threads_in g.triple) s → Contains (thread ∷ after.threads) (g.by.new s)
image_in entries tied thread command before after g s h = elim (given_threads entries thread command before after g (tied (OfTriple g.triple) g.listed) s h) [
  | inl is ↦ subst (λ (x : ℕ). Contains (thread ∷ after.threads) x) is (here thread after.threads)
  | inr later ↦ there thread after.threads (g.by.new s) later
]

-- each thread of an atom before is the mover or one of the atom after
pub before_threads : (entries : List Entry) → AreTied entries → (thread command : ℕ) (before : List Atom) (after : Atom) → GivesAtom entries thread command before after →
    (p : Atom) → Contains before p → (s : ℕ) → Contains p.threads s → Contains (thread ∷ after.threads) s
before_threads entries tied thread command before after g p i s j =
    let w = from_mapped (renamed g.by.new) g.triple.pre p (subst (λ (qs : List Atom). Contains qs p) g.by.pre i) in
    let v = of_renamed g.by.new w.0 s (subst (λ (r : Atom). Contains r.threads s) (sym w.2) j) in
    subst (λ (x : ℕ). Contains (thread ∷ after.threads) x) v.2 (image_in entries tied thread command before after g v.0 (pre_threads g.triple w.0 v.0 w.1 v.1))

-- what a triple gives it gives of renamed threads
pub gives_renamed : (entries : List Entry) → AreTied entries → (thread command : ℕ) (before : List Atom) (after : Atom) → GivesAtom entries thread command before after →
    (f : ℕ → ℕ) (k : ℕ) → f thread ≡ k → IsInjectiveOn f (thread ∷ after.threads) → GivesAtom entries k command (map (renamed f) before) (renamed f after)
gives_renamed entries tied thread command before after g f k goes apart = record {
  triple = g.triple;
  listed = g.listed;
  same = g.same;
  by = record {
    new = λ s. f (g.by.new s);
    apart = λ s u i j same. g.by.apart s u i j (apart (g.by.new s) (g.by.new u) (image_in entries tied thread command before after g s i) (image_in entries tied thread command before after g u j) same);
    runs = ap f g.by.runs ∙ goes;
    pre = ap (map (renamed f)) g.by.pre ∙ twice_all f g.by.new g.triple.pre;
    post = ap (renamed f) g.by.post ∙ renamed_twice g.by.new f g.triple.post;
  };
}
