-- What fits so far, one thread more, and what fits at the end.
use Rattle.std.proofs.Common.{◌≡◌, ◌≢◌, ℕ, List, [], ◌∷◌, ◌++◌, length, map, refl, sym, ap, ◌∙◌, subst, inl, inr, Contains, arith}
use Rattle.std.proofs.lemmas.List.{length-append, length-map}
use Rattle.std.proofs.lemmas.List.Elements.{Contains-push_cases}
use Rattle.ps_atom.specs.Atoms.{renamed}
use Rattle.ps_atom.specs.declared.atom.Atom.{Atom}
use Rattle.ps_config.specs.Configurations.{Configuration, IsAt, threads_at, Embeds}
use Rattle.ps_config.specs.Sent.{sent}
use Rattle.ps_list.proofs.Numbers.{is_in}
use Rattle.ps_config.proofs.Occurring.{located_occurs, named_occurs, renamed_same}
use Rattle.ps_config.proofs.Sent.{sent_first, sent_front, sent_back, sent_in, sent_image}
use Rattle.ps_config.specs.Forms.{AreThreads}
use Rattle.ps_cover.specs.Coverings.{IsCovering}
use Rattle.ps_cover.specs.inner.Rests.{Fits}

-- one more thread goes to an image: it is new, and right for its location and for the atoms that have it and no thread beyond it
pub record FitsNext (small large : Configuration) (threads to : List ℕ) (thread image : ℕ) : Type 0 where
  pub unused : ¬ Contains to image
  pub located : (l : ℕ) → IsAt small thread l → IsAt large image l
  pub atoms : (q : Atom) → Contains small.atoms q → Contains q.threads thread → ((t : ℕ) → Contains q.threads t → Contains (threads ++ thread ∷ []) t)
      → Contains large.atoms (renamed (sent (threads ++ thread ∷ []) (to ++ image ∷ [])) q)

-- ---- one thread more

pub last_sent : (ss us : List ℕ) (t u : ℕ) → length us ≡ length ss → (¬ Contains ss t) → sent (ss ++ t ∷ []) (us ++ u ∷ []) t ≡ u
last_sent ss us t u long new = sent_back ss us (t ∷ []) (u ∷ []) t long new ∙ sent_first t u t [] [] refl

pub fits_from_next : (small large : Configuration) (ss us : List ℕ) (t u : ℕ) → (¬ Contains ss t) → Fits small large ss us → FitsNext small large ss us t u → Fits small large (ss ++ t ∷ []) (us ++ u ∷ [])
fits_from_next small large ss us t u new f n =
    let long : length us ≡ length ss = f.long in
    let last : sent (ss ++ t ∷ []) (us ++ u ∷ []) t ≡ u = last_sent ss us t u long new in
    let stays : (s : ℕ) → Contains ss s → sent (ss ++ t ∷ []) (us ++ u ∷ []) s ≡ sent ss us s = λ s h. sent_front ss us (t ∷ []) (u ∷ []) s long h in
    let other : (s : ℕ) → Contains ss s → sent ss us s ≢ u = λ s h e. n.unused (subst (λ (x : ℕ). Contains us x) e (sent_in ss us s long h)) in
    record {
      long = rw (length-append, length-append) (omega (arith, long));
      apart = λ s r hs hr e. elim (Contains-push_cases ss t s hs) [
        | inl s_in ↦ elim (Contains-push_cases ss t r hr) [
          | inl r_in ↦ f.apart s r s_in r_in (sym (stays s s_in) ∙ (e ∙ stays r r_in))
          | inr r_is ↦ absurd (other s s_in (sym (stays s s_in) ∙ (e ∙ (ap (sent (ss ++ t ∷ []) (us ++ u ∷ [])) (sym r_is) ∙ last))))
        ]
        | inr s_is ↦ elim (Contains-push_cases ss t r hr) [
          | inl r_in ↦ absurd (other r r_in (sym (stays r r_in) ∙ (sym e ∙ (ap (sent (ss ++ t ∷ []) (us ++ u ∷ [])) (sym s_is) ∙ last))))
          | inr r_is ↦ sym s_is ∙ r_is
        ]
      ];
      located = λ s l h at. elim (Contains-push_cases ss t s h) [
        | inl s_in ↦ subst (λ (x : ℕ). IsAt large x l) (sym (stays s s_in)) (f.located s l s_in at)
        | inr s_is ↦ subst (λ (x : ℕ). IsAt large x l) (sym last ∙ ap (sent (ss ++ t ∷ []) (us ++ u ∷ [])) s_is) (n.located l (subst (λ (x : ℕ). IsAt small x l) (sym s_is) at))
      ];
      atoms = λ q has all. elim (is_in q.threads t) [
        | inl named ↦ n.atoms q has named all
        | inr unnamed ↦
            let old : (s : ℕ) → Contains q.threads s → Contains ss s = λ s h. elim (Contains-push_cases ss t s (all s h)) [
              | inl s_in ↦ s_in
              | inr s_is ↦ absurd (unnamed (subst (λ (x : ℕ). Contains q.threads x) (sym s_is) h))
            ] in
            subst (λ (x : Atom). Contains large.atoms x) (sym (renamed_same (sent (ss ++ t ∷ []) (us ++ u ∷ [])) (sent ss us) q (λ s h. stays s (old s h)))) (f.atoms q has old)
      ];
    }

-- ---- the end

pub covering_from_fits : (small large : Configuration) (threads to : List ℕ) → AreThreads small threads → Fits small large threads to → IsCovering small large threads to
covering_from_fits small large threads to are f = record {
  long = f.long;
  embeds = record {
    apart = λ s t hs ht e. f.apart s t ((are.occurring s).1 hs) ((are.occurring t).1 ht) e;
    located = λ t l h. f.located t l ((are.occurring t).1 (located_occurs small t l h)) h;
    atoms = λ q h. f.atoms q h (λ t k. (are.occurring t).1 (named_occurs small q t h k));
  };
}

pub fits_from_covering : (small large : Configuration) (threads to : List ℕ) → AreThreads small threads → IsCovering small large threads to → Fits small large threads to
fits_from_covering small large threads to are c = record {
  long = c.long;
  apart = λ s t hs ht e. c.embeds.apart s t ((are.occurring s).0 hs) ((are.occurring t).0 ht) e;
  located = λ t l h at. c.embeds.located t l at;
  atoms = λ q h all. c.embeds.atoms q h;
}

-- an injection has its list of images
pub images_of : (small large : Configuration) (threads : List ℕ) → AreThreads small threads → (new : ℕ → ℕ) → Embeds small large new → IsCovering small large threads (map new threads)
images_of small large threads are new e =
    let same : (t : ℕ) → Contains (threads_at small) t → new t ≡ sent threads (map new threads) t = λ t h. sym (sent_image new threads t ((are.occurring t).1 h)) in
    record {
      long = length-map threads new;
      embeds = record {
        apart = λ s t hs ht eq. e.apart s t hs ht (same s hs ∙ (eq ∙ sym (same t ht)));
        located = λ t l h. subst (λ (x : ℕ). IsAt large x l) (same t (located_occurs small t l h)) (e.located t l h);
        atoms = λ q h. subst (λ (x : Atom). Contains large.atoms x) (renamed_same new (sent threads (map new threads)) q (λ t k. same t (named_occurs small q t h k))) (e.atoms q h);
      };
    }
