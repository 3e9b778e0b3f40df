-- The first fault, by kinds of faults.
use Rattle.std.proofs.Common.{◌≡◌, ◌<◌, ℕ, zero, suc, List, [], ◌∷◌, refl, sym, subst, ◌∙◌, inl, inr, ◌⊎◌, Contains, Option, Some, None, arith}
use Rattle.std.specs.Prelude.{slice_get}
use Rattle.std.proofs.lemmas.List.Elements.{All-nil}
use Rattle.std.proofs.lemmas.Option.{same_Some}
use Rattle.ps_atom.specs.Numbers.{false_predicate}
use Rattle.ps_atom.specs.Range.{IsDeclared, IsInRange}
use Rattle.ps_atom.specs.declared.predicate.Predicate.{Predicate as APredicate}
use Rattle.ps_check.specs.Faults.{HasFault, HasNumbers, HasThreadsApart, HasUncovered, IsFirstFault, fault_order, step_order, table_of}
use Rattle.ps_check.specs.declared.fault.CheckFault.{CheckFault}
use Rattle.ps_check.specs.declared.fault.CheckFault.TheVariants.{Predicate, Entry, ConfigNumber, ConfigThread, Accepting, Uncovered}
use Rattle.ps_check.specs.declared.judgement.Judgement.TheVariants.{Accepted, Refused}
use Rattle.ps_check.specs.declared.steps.Step.{Step}
use Rattle.ps_check.specs.inner.Stages.{AreAllCovered, AreClosedBefore, AreInRange, AreNamed, DoHold, IsClosedAt, IsFirstUncovered, IsStartCovered}
use Rattle.ps_check.proofs.Below.{Below, below_is, is_below, last_below, not_below, rest_below}
use Rattle.ps_check.proofs.Before.{AreBefore, at_place_in}
use Rattle.ps_config.specs.Configurations.{Configuration}
use Rattle.ps_config.specs.Forms.{start_configuration}
use Rattle.ps_file.specs.declared.proof.Proof.{Proof}
use Rattle.ps_graph.specs.declared.graph.Graph.{Graph}
use Rattle.ps_step.specs.Closed.{IsAccepted, IsNamed}
use Rattle.ps_step.specs.Steps.{IsAccepting}
use Rattle.ps_triple.specs.Faults.{EntryHolds, IsFirstEntryFault}
use Rattle.ps_triple.specs.declared.entry.Entry.{Entry as AnEntry}
use Rattle.ps_triple.specs.declared.entry_end.EntryFault.{EntryFault}
use Rattle.ps_triple.proofs.Worth.{no_fault}

pub false_in_range : (globals locals : ℕ) → IsInRange globals locals false_predicate
false_in_range globals locals = (omega arith, All-nil (λ pair. IsDeclared globals locals 0 pair.0))

module _ (graph : Graph) (proof : Proof) where
  abbrev pub InRange : APredicate → Type 0
  InRange p = IsInRange graph.setting.globals graph.setting.locals p

  abbrev pub Holds : AnEntry → Type 0
  Holds entry = EntryHolds graph.setting (table_of proof) entry

  -- ---- what each part excludes

  pub no_predicate : (n : ℕ) → AreBefore InRange proof.predicates n → (m : ℕ) → m < suc n → ¬ HasFault graph proof (Predicate m)
  no_predicate n before zero less (p, is, out) = out (subst InRange (same_Some false_predicate p is) (false_in_range graph.setting.globals graph.setting.locals))
  no_predicate n before (suc m) less (p, is, out) = out (before m p (omega (arith, less)) is)

  pub no_entry : (n : ℕ) → AreBefore Holds proof.entries n → (m : ℕ) (fault : EntryFault) → m < n → ¬ HasFault graph proof (Entry m fault)
  no_entry n before m fault less (entry, is, first) = no_fault graph.setting (table_of proof) entry fault (before m entry less is) first

  pub no_number : (n : ℕ) → AreBefore (IsNamed graph (table_of proof)) proof.configs n → (m : ℕ) → m < n → ¬ HasFault graph proof (ConfigNumber m)
  no_number n before m less (c, is, not_named) = (let named = before m c less is in not_named (named.locations, named.atoms))

  pub no_thread : (n : ℕ) → AreBefore (IsNamed graph (table_of proof)) proof.configs n → (m : ℕ) → m < n → ¬ HasFault graph proof (ConfigThread m)
  no_thread n before m less (c, is, not_apart) = not_apart (before m c less is).apart

  covered_not : (from : Configuration) → AreAllCovered graph proof.entries proof.configs from → (edge : ℕ) (mover : Option ℕ) → ¬ HasUncovered graph proof.entries proof.configs from edge mover
  covered_not from all edge mover u = u.uncovered (all edge u.thread u.to u.stands)

  pub no_start : AreAllCovered graph proof.entries proof.configs start_configuration → (edge : ℕ) (mover : Option ℕ) → ¬ HasFault graph proof (Uncovered None edge mover)
  no_start all edge mover (from, is, u) =
      covered_not start_configuration all edge mover (subst (λ (c : Configuration). HasUncovered graph proof.entries proof.configs c edge mover) is u)

  pub no_accepting : (n : ℕ) → AreClosedBefore graph proof n → (m : ℕ) → m < n → ¬ HasFault graph proof (Accepting m)
  no_accepting n before m less (c, is, accepts) = (before m c less is).never accepts

  pub no_step : (n : ℕ) → AreClosedBefore graph proof n → (m edge : ℕ) (mover : Option ℕ) → m < n → ¬ HasFault graph proof (Uncovered (Some m) edge mover)
  no_step n before m edge mover less (from, is, u) = covered_not from (before m from less is).next edge mover u

  -- ---- a fault before which each kind has none

  kinds : (fault : CheckFault)
      → ((m : ℕ) → Below (0 ∷ m ∷ []) (fault_order fault) → ¬ HasFault graph proof (Predicate m))
      → ((m : ℕ) (e : EntryFault) → Below (1 ∷ m ∷ []) (fault_order fault) → ¬ HasFault graph proof (Entry m e))
      → ((m : ℕ) → Below (2 ∷ m ∷ 0 ∷ []) (fault_order fault) → ¬ HasFault graph proof (ConfigNumber m))
      → ((m : ℕ) → Below (2 ∷ m ∷ 1 ∷ []) (fault_order fault) → ¬ HasFault graph proof (ConfigThread m))
      → ((edge : ℕ) (mover : Option ℕ) → Below (3 ∷ step_order edge mover) (fault_order fault) → ¬ HasFault graph proof (Uncovered None edge mover))
      → ((m : ℕ) → Below (4 ∷ m ∷ 0 ∷ []) (fault_order fault) → ¬ HasFault graph proof (Accepting m))
      → ((m edge : ℕ) (mover : Option ℕ) → Below (4 ∷ m ∷ 1 ∷ step_order edge mover) (fault_order fault) → ¬ HasFault graph proof (Uncovered (Some m) edge mover))
      → (other : CheckFault) → Below (fault_order other) (fault_order fault) → ¬ HasFault graph proof other
  kinds fault p e n t s a u (Predicate m) b = p m b
  kinds fault p e n t s a u (Entry m f) b = e m f b
  kinds fault p e n t s a u (ConfigNumber m) b = n m b
  kinds fault p e n t s a u (ConfigThread m) b = t m b
  kinds fault p e n t s a u (Uncovered None edge mover) b = s edge mover b
  kinds fault p e n t s a u (Accepting m) b = a m b
  kinds fault p e n t s a u (Uncovered (Some m) edge mover) b = u m edge mover b

  first_of : (fault : CheckFault) → HasFault graph proof fault → ((other : CheckFault) → Below (fault_order other) (fault_order fault) → ¬ HasFault graph proof other) → IsFirstFault graph proof fault
  first_of fault has none = (has, λ other b. none other (below_is (fault_order other) (fault_order fault) b))

  -- ---- each fault as the first

  pub first_predicate : (n number : ℕ) (p : APredicate) → number ≡ suc n → AreBefore InRange proof.predicates n → slice_get proof.predicates n ≡ Some p → ¬ InRange p → IsFirstFault graph proof (Predicate number)
  first_predicate n number p is_next before is out = subst (λ (k : ℕ). IsFirstFault graph proof (Predicate k)) (sym is_next)
      (first_of (Predicate (suc n)) (p, is, out) (kinds (Predicate (suc n))
      (λ m b. no_predicate n before m (last_below m (suc n) (rest_below 0 (m ∷ []) (suc n ∷ []) b)))
      (λ m e b. absurd (not_below 1 0 (m ∷ []) (suc n ∷ []) (omega arith) b))
      (λ m b. absurd (not_below 2 0 (m ∷ 0 ∷ []) (suc n ∷ []) (omega arith) b))
      (λ m b. absurd (not_below 2 0 (m ∷ 1 ∷ []) (suc n ∷ []) (omega arith) b))
      (λ edge mover b. absurd (not_below 3 0 (step_order edge mover) (suc n ∷ []) (omega arith) b))
      (λ m b. absurd (not_below 4 0 (m ∷ 0 ∷ []) (suc n ∷ []) (omega arith) b))
      (λ m edge mover b. absurd (not_below 4 0 (m ∷ 1 ∷ step_order edge mover) (suc n ∷ []) (omega arith) b))))

  -- every predicate is in range
  any_predicate : AreInRange graph proof → (m : ℕ) → ¬ HasFault graph proof (Predicate m)
  any_predicate all m = no_predicate m (λ k p less is. all p (at_place_in proof.predicates k p is)) m (omega arith)

  pub first_entry : (n : ℕ) (entry : AnEntry) (fault : EntryFault) → AreInRange graph proof → AreBefore Holds proof.entries n → slice_get proof.entries n ≡ Some entry
      → IsFirstEntryFault graph.setting (table_of proof) entry fault → IsFirstFault graph proof (Entry n fault)
  first_entry n entry fault in_range before is first = first_of (Entry n fault) (entry, is, first) (kinds (Entry n fault)
      (λ m b. any_predicate in_range m)
      (λ m e b. no_entry n before m e (last_below m n (rest_below 1 (m ∷ []) (n ∷ []) b)))
      (λ m b. absurd (not_below 2 1 (m ∷ 0 ∷ []) (n ∷ []) (omega arith) b))
      (λ m b. absurd (not_below 2 1 (m ∷ 1 ∷ []) (n ∷ []) (omega arith) b))
      (λ edge mover b. absurd (not_below 3 1 (step_order edge mover) (n ∷ []) (omega arith) b))
      (λ m b. absurd (not_below 4 1 (m ∷ 0 ∷ []) (n ∷ []) (omega arith) b))
      (λ m edge mover b. absurd (not_below 4 1 (m ∷ 1 ∷ step_order edge mover) (n ∷ []) (omega arith) b)))

  any_entry : DoHold graph proof → (m : ℕ) (e : EntryFault) → ¬ HasFault graph proof (Entry m e)
  any_entry held m e = no_entry (suc m) (λ k entry less is. held.hold entry (at_place_in proof.entries k entry is)) m e (omega arith)

  -- the number before it is less, or the same where the last is below
  pair_below : (m n a b : ℕ) → Below (m ∷ a ∷ []) (n ∷ b ∷ []) → (m < n) ⊎ ((m ≡ n) × (a < b))
  pair_below m n a b (inl h) = inl h
  pair_below m n a b (inr h) = inr (h.0, last_below a b h.1)

  pub first_number : (n : ℕ) (c : Configuration) → DoHold graph proof → AreBefore (IsNamed graph (table_of proof)) proof.configs n → slice_get proof.configs n ≡ Some c
      → ¬ HasNumbers graph (table_of proof) c → IsFirstFault graph proof (ConfigNumber n)
  first_number n c held before is not_named = first_of (ConfigNumber n) (c, is, not_named) (kinds (ConfigNumber n)
      (λ m b. any_predicate held.in_range m)
      (λ m e b. any_entry held m e)
      (λ m b. no_number n before m (elim (pair_below m n 0 0 (rest_below 2 (m ∷ 0 ∷ []) (n ∷ 0 ∷ []) b)) [ inl less ↦ less | inr same ↦ absurd (let f : ⊥ = omega (arith, same.1) in f) ]))
      (λ m b. no_thread n before m (elim (pair_below m n 1 0 (rest_below 2 (m ∷ 1 ∷ []) (n ∷ 0 ∷ []) b)) [ inl less ↦ less | inr same ↦ absurd (let f : ⊥ = omega (arith, same.1) in f) ]))
      (λ edge mover b. absurd (not_below 3 2 (step_order edge mover) (n ∷ 0 ∷ []) (omega arith) b))
      (λ m b. absurd (not_below 4 2 (m ∷ 0 ∷ []) (n ∷ 0 ∷ []) (omega arith) b))
      (λ m edge mover b. absurd (not_below 4 2 (m ∷ 1 ∷ step_order edge mover) (n ∷ 0 ∷ []) (omega arith) b)))

  pub first_thread : (n : ℕ) (c : Configuration) → DoHold graph proof → AreBefore (IsNamed graph (table_of proof)) proof.configs n → slice_get proof.configs n ≡ Some c
      → HasNumbers graph (table_of proof) c → ¬ HasThreadsApart c → IsFirstFault graph proof (ConfigThread n)
  first_thread n c held before is named not_apart = first_of (ConfigThread n) (c, is, not_apart) (kinds (ConfigThread n)
      (λ m b. any_predicate held.in_range m)
      (λ m e b. any_entry held m e)
      (λ m b. elim (pair_below m n 0 1 (rest_below 2 (m ∷ 0 ∷ []) (n ∷ 1 ∷ []) b)) [
        | inl less ↦ no_number n before m less
        | inr same ↦ (λ f. f.2 (subst (HasNumbers graph (table_of proof)) (same_Some c f.0 (sym is ∙ subst (λ (k : ℕ). slice_get proof.configs k ≡ Some f.0) same.0 f.1)) named))
      ])
      (λ m b. no_thread n before m (elim (pair_below m n 1 1 (rest_below 2 (m ∷ 1 ∷ []) (n ∷ 1 ∷ []) b)) [ inl less ↦ less | inr same ↦ absurd (let f : ⊥ = omega (arith, same.1) in f) ]))
      (λ edge mover b. absurd (not_below 3 2 (step_order edge mover) (n ∷ 1 ∷ []) (omega arith) b))
      (λ m b. absurd (not_below 4 2 (m ∷ 0 ∷ []) (n ∷ 1 ∷ []) (omega arith) b))
      (λ m edge mover b. absurd (not_below 4 2 (m ∷ 1 ∷ step_order edge mover) (n ∷ 1 ∷ []) (omega arith) b)))

  any_number : AreNamed graph proof → (m : ℕ) → ¬ HasFault graph proof (ConfigNumber m)
  any_number all m = no_number (suc m) (λ k c less is. all.named c (at_place_in proof.configs k c is)) m (omega arith)

  any_thread : AreNamed graph proof → (m : ℕ) → ¬ HasFault graph proof (ConfigThread m)
  any_thread all m = no_thread (suc m) (λ k c less is. all.named c (at_place_in proof.configs k c is)) m (omega arith)

  pub first_start : (step : Step) → AreNamed graph proof → IsFirstUncovered graph proof.entries proof.configs start_configuration step
      → IsFirstFault graph proof (Uncovered None step.edge step.thread)
  first_start step named first = first_of (Uncovered None step.edge step.thread) (start_configuration, refl, first.has) (kinds (Uncovered None step.edge step.thread)
      (λ m b. any_predicate named.held.in_range m)
      (λ m e b. any_entry named.held m e)
      (λ m b. any_number named m)
      (λ m b. any_thread named m)
      (λ edge mover b f. first.before edge mover (is_below (step_order edge mover) (step_order step.edge step.thread) (rest_below 3 (step_order edge mover) (step_order step.edge step.thread) b))
      (subst (λ (c : Configuration). HasUncovered graph proof.entries proof.configs c edge mover) f.1 f.2))
      (λ m b. absurd (not_below 4 3 (m ∷ 0 ∷ []) (step_order step.edge step.thread) (omega arith) b))
      (λ m edge mover b. absurd (not_below 4 3 (m ∷ 1 ∷ step_order edge mover) (step_order step.edge step.thread) (omega arith) b)))

  pub first_accepting : (n : ℕ) (c : Configuration) → IsStartCovered graph proof → AreClosedBefore graph proof n → slice_get proof.configs n ≡ Some c
      → IsAccepting graph proof.entries c → IsFirstFault graph proof (Accepting n)
  first_accepting n c start before is accepts = first_of (Accepting n) (c, is, accepts) (kinds (Accepting n)
      (λ m b. any_predicate start.named.held.in_range m)
      (λ m e b. any_entry start.named.held m e)
      (λ m b. any_number start.named m)
      (λ m b. any_thread start.named m)
      (λ edge mover b. no_start start.first edge mover)
      (λ m b. no_accepting n before m (elim (pair_below m n 0 0 (rest_below 4 (m ∷ 0 ∷ []) (n ∷ 0 ∷ []) b)) [ inl less ↦ less | inr same ↦ absurd (let f : ⊥ = omega (arith, same.1) in f) ]))
      (λ m edge mover b. no_step n before m edge mover (head_below m n (step_order edge mover) (rest_below 4 (m ∷ 1 ∷ step_order edge mover) (n ∷ 0 ∷ []) b))))
    where
      head_below : (m n : ℕ) (xs : List ℕ) → Below (m ∷ 1 ∷ xs) (n ∷ 0 ∷ []) → m < n
      head_below m n xs (inl h) = h
      head_below m n xs (inr h) = absurd (not_below 1 0 xs [] (omega arith) h.1)

  pub first_step : (n : ℕ) (c : Configuration) (step : Step) → IsStartCovered graph proof → AreClosedBefore graph proof n → slice_get proof.configs n ≡ Some c
      → ¬ IsAccepting graph proof.entries c → IsFirstUncovered graph proof.entries proof.configs c step → IsFirstFault graph proof (Uncovered (Some n) step.edge step.thread)
  first_step n c step start before is never first = first_of (Uncovered (Some n) step.edge step.thread) (c, is, first.has) (kinds (Uncovered (Some n) step.edge step.thread)
      (λ m b. any_predicate start.named.held.in_range m)
      (λ m e b. any_entry start.named.held m e)
      (λ m b. any_number start.named m)
      (λ m b. any_thread start.named m)
      (λ edge mover b. no_start start.first edge mover)
      (λ m b. accepting_at m (rest_below 4 (m ∷ 0 ∷ []) (n ∷ 1 ∷ step_order step.edge step.thread) b))
      (λ m edge mover b. step_at m edge mover (rest_below 4 (m ∷ 1 ∷ step_order edge mover) (n ∷ 1 ∷ step_order step.edge step.thread) b)))
    where
      same_one : (m : ℕ) (d : Configuration) → m ≡ n → slice_get proof.configs m ≡ Some d → c ≡ d
      same_one m d same at = same_Some c d (sym is ∙ subst (λ (k : ℕ). slice_get proof.configs k ≡ Some d) same at)

      accepting_at : (m : ℕ) → Below (m ∷ 0 ∷ []) (n ∷ 1 ∷ step_order step.edge step.thread) → ¬ HasFault graph proof (Accepting m)
      accepting_at m (inl less) f = no_accepting n before m less f
      accepting_at m (inr same) f = never (subst (IsAccepting graph proof.entries) (sym (same_one m f.0 same.0 f.1)) f.2)

      step_at : (m edge : ℕ) (mover : Option ℕ) → Below (m ∷ 1 ∷ step_order edge mover) (n ∷ 1 ∷ step_order step.edge step.thread) → ¬ HasFault graph proof (Uncovered (Some m) edge mover)
      step_at m edge mover (inl less) f = no_step n before m edge mover less f
      step_at m edge mover (inr same) f =
          first.before edge mover (is_below (step_order edge mover) (step_order step.edge step.thread) (rest_below 1 (step_order edge mover) (step_order step.edge step.thread) same.1))
          (subst (λ (d : Configuration). HasUncovered graph proof.entries proof.configs d edge mover) (sym (same_one m f.0 same.0 f.1)) f.2)

  -- ---- no fault, and no other answer

  pub accepted_of : IsStartCovered graph proof → ((c : Configuration) → Contains proof.configs c → IsClosedAt graph proof.entries proof.configs c)
      → IsAccepted graph proof.predicates proof.entries proof.configs
  accepted_of start all = record {
    in_range = start.named.held.in_range;
    hold = start.named.held.hold;
    named = start.named.named;
    closed = record {
      first = λ number thread to s. start.first number thread to s;
      next = λ from h number thread to s. (all from h).next number thread to s;
      never = λ c h. (all c h).never;
    };
  }

  pub no_fault_of : IsAccepted graph proof.predicates proof.entries proof.configs → (fault : CheckFault) → ¬ HasFault graph proof fault
  no_fault_of a (Predicate m) f = any_predicate a.in_range m f
  no_fault_of a (Entry m e) f = any_entry (record { in_range = a.in_range; hold = a.hold }) m e f
  no_fault_of a (ConfigNumber m) f = any_number (record { held = record { in_range = a.in_range; hold = a.hold }; named = a.named }) m f
  no_fault_of a (ConfigThread m) f = any_thread (record { held = record { in_range = a.in_range; hold = a.hold }; named = a.named }) m f
  no_fault_of a (Accepting m) (c, is, accepts) = a.closed.never c (at_place_in proof.configs m c is) accepts
  no_fault_of a (Uncovered None edge mover) f = no_start (λ number thread to s. a.closed.first number thread to s) edge mover f
  no_fault_of a (Uncovered (Some m) edge mover) (from, is, u) = u.uncovered (a.closed.next from (at_place_in proof.configs m from is) edge u.thread u.to u.stands)

  pub not_accepted : (fault : CheckFault) → IsFirstFault graph proof fault
      → (Refused fault ≡ Accepted → IsAccepted graph proof.predicates proof.entries proof.configs) × (IsAccepted graph proof.predicates proof.entries proof.configs → Refused fault ≡ Accepted)
  not_accepted fault first = (
    (λ e. absurd (let f : ⊥ = cc in f)),
    (λ a. absurd (no_fault_of a fault first.0)),
  )
