-- Where each thread has a location there are as many threads as locations.
use Rattle.std.proofs.Common.{◌≡◌, ◌==◌, ℕ, true, List, length, map, subst, inl, inr, Contains}
use Rattle.std.specs.List.Sorted.{IsStrictlyIncreasing}
use Rattle.std.proofs.lemmas.Bool.{eqb-true}
use Rattle.std.proofs.lemmas.List.Elements.{Contains-append_left, Contains-append_cases}
use Rattle.std.proofs.lemmas.List.{length-map}
use Rattle.ps_atom.specs.Atoms.{threads_of}
use Rattle.ps_atom.specs.declared.atom.Atom.{Atom}
use Rattle.ps_config.specs.Configurations.{Configuration}
use Rattle.ps_config.specs.Forms.{HasThreadCount}
use Rattle.ps_config.specs.inner.Located.{are_all_located, are_located, is_located}
use Rattle.ps_config.proofs.Tested.{all_from, any_from}
use Rattle.ps_list.proofs.Mapped.{mapped, from_flat_mapped}

located_from : (at : List (ℕ × ℕ)) (t : ℕ) → is_located at t ≡ true → Contains (map (λ (p : ℕ × ℕ). p.0) at) t
located_from at t h =
    let w = any_from (λ (p : ℕ × ℕ). p.0 == t) at h in
    subst (λ (s : ℕ). Contains (map (λ (p : ℕ × ℕ). p.0) at) s) (eqb-true w.0.0 t w.2) (mapped (λ (p : ℕ × ℕ). p.0) at w.0 w.1)

-- the threads of the locations are all that occur
pub located_all : (at : List (ℕ × ℕ)) (atoms : List Atom) → IsStrictlyIncreasing (map (λ (p : ℕ × ℕ). p.0) at) → are_all_located at atoms ≡ true
    → HasThreadCount (record { at = at; atoms = atoms }) (length at)
located_all at atoms up all =
    let c : Configuration = record { at = at; atoms = atoms } in
    let placed : List ℕ = map (λ (p : ℕ × ℕ). p.0) at in (
      placed,
      record {
        ascend = up;
        occurring = λ t. (
          (λ h. Contains-append_left placed (threads_of atoms) t h),
          (λ h. elim (Contains-append_cases placed (threads_of atoms) t h) [
            | inl first ↦ first
            | inr later ↦
                let w = from_flat_mapped (λ (q : Atom). q.threads) atoms t later in
                located_from at t (all_from (λ (s : ℕ). is_located at s) w.0.threads (all_from (λ (q : Atom). are_located at q.threads) atoms all w.0 w.1) t w.2)
          ]),
        );
      },
      length-map at (λ (p : ℕ × ℕ). p.0),
    )
