-- Covering goes on, and more atoms are covered by fewer.
use Rattle.std.proofs.Common.{◌≡◌, ◌≢◌, ◌∙◌, ℕ, sym, subst, refl, Contains, inl, inr}
use Rattle.ps_atom.specs.Atoms.{renamed}
use Rattle.ps_atom.specs.declared.atom.Atom.{Atom}
use Rattle.ps_config.specs.Configurations.{Configuration, IsAt, threads_at, Embeds, Covers}
use Rattle.ps_list.proofs.Mapped.{mapped}
use Rattle.ps_config.proofs.Occurring.{located_occurs, named_occurs, occurs_cases, renamed_twice, renamed_stays}

-- a thread that occurs goes to one that occurs
pub image_occurs : (a b : Configuration) (f : ℕ → ℕ) → Embeds a b f → (t : ℕ) → Contains (threads_at a) t → Contains (threads_at b) (f t)
image_occurs a b f e t h = elim (occurs_cases a t h) [
  | inl at ↦ located_occurs b (f t) at.0 (e.located t at.0 at.1)
  | inr named ↦ named_occurs b (renamed f named.0) (f t) (e.atoms named.0 named.1) (mapped f named.0.threads t named.2)
]

pub embeds_twice : (a b c : Configuration) (f g : ℕ → ℕ) → Embeds a b f → Embeds b c g → Embeds a c (λ t. g (f t))
embeds_twice a b c f g e h = record {
  apart = λ s t hs ht same. e.apart s t hs ht (h.apart (f s) (f t) (image_occurs a b f e s hs) (image_occurs a b f e t ht) same);
  located = λ t l at. h.located (f t) l (e.located t l at);
  atoms = λ q has. subst (λ (x : Atom). Contains c.atoms x) (renamed_twice f g q) (h.atoms (renamed f q) (e.atoms q has));
}

pub covers_twice : (a b c : Configuration) → Covers a b → Covers b c → Covers a c
covers_twice a b c f g = ((λ t. g.0 (f.0 t)), embeds_twice a b c f.0 g.0 f.1 g.1)

-- what has the locations and the atoms is covered, each thread by itself
pub covers_more : (a b : Configuration) → ((t l : ℕ) → IsAt a t l → IsAt b t l) → ((q : Atom) → Contains a.atoms q → Contains b.atoms q) → Covers a b
covers_more a b at has = (
  (λ t. t),
  record {
    apart = λ s t hs ht same. same;
    located = at;
    atoms = λ q h. subst (λ (x : Atom). Contains b.atoms x) (sym (renamed_stays (λ t. t) q (λ t k. refl))) (has q h);
  },
)

-- two threads at one location go to two there
pub two_need_two : (c : Configuration) (s t u l : ℕ) → s ≢ t → IsAt c s l → IsAt c t l → (large : Configuration) → ((v : ℕ) → IsAt large v l → v ≡ u) → ¬ Covers c large
two_need_two c s t u l other hs ht large only cover =
    other (cover.1.apart s t (located_occurs c s l hs) (located_occurs c t l ht) (only (cover.0 s) (cover.1.located s l hs) ∙ sym (only (cover.0 t) (cover.1.located t l ht))))
