-- A proof has one first fault.
use Rattle.std.proofs.Common.{◌≡◌, List, ℕ, Some, None, refl, sym, ap, ◌∙◌, subst, arith}
use Rattle.std.specs.Prelude.{slice_get, slice_index}
use Rattle.std.specs.Cmp.Lexicographic.{slice_cmp}
use Rattle.std.specs.FinMap.{nat_cmp-IsAntisymmetric, slice_cmp-IsAntisymmetric}
use Rattle.std.specs.Ordering.{nat_cmp, ordering_reverse}
use Rattle.std.specs.declared.cmp.Ordering.{Ordering}
use Rattle.std.specs.declared.cmp.Ordering.TheVariants.{Less, Equal, Greater}
use Rattle.std.proofs.lemmas.Cmp.{nat_list_cmp_total}
use Rattle.std.proofs.lemmas.Option.{same_Some}
use Rattle.ps_check.specs.Faults.{HasFault, IsFirstFault, fault_order, table_of}
use Rattle.ps_check.specs.declared.fault.CheckFault.{CheckFault}
use Rattle.ps_check.specs.declared.fault.CheckFault.TheVariants.{Predicate, Entry, ConfigNumber, ConfigThread, Accepting, Uncovered}
use Rattle.ps_file.specs.declared.proof.Proof.{Proof}
use Rattle.ps_graph.specs.declared.graph.Graph.{Graph}
use Rattle.ps_triple.proofs.Worth.{one_fault}
use Rattle.ps_triple.specs.Faults.{IsFirstEntryFault}
use Rattle.ps_triple.specs.declared.entry.Entry.{Entry as AnEntry}

-- faults that stand at one place in the order are one
told : (g : Graph) (p : Proof) (a b : CheckFault) → HasFault g p a → HasFault g p b → fault_order a ≡ fault_order b → a ≡ b
told g p (Predicate n) (Predicate m) x y e = let same : n ≡ m = cc in ap Predicate same
told g p (Entry n f) (Entry m k) x y e =
    let same : n ≡ m = cc in
    let entry : x.0 ≡ y.0 = same_Some x.0 y.0 (sym x.1 ∙ ap (slice_get p.entries) same ∙ y.1) in
    let fault : f ≡ k = one_fault g.setting (table_of p) y.0 f k (subst (λ (w : AnEntry). IsFirstEntryFault g.setting (table_of p) w f) entry x.2) y.2 in
    λ i. Entry (same i) (fault i)
told g p (ConfigNumber n) (ConfigNumber m) x y e = let same : n ≡ m = cc in ap ConfigNumber same
told g p (ConfigThread n) (ConfigThread m) x y e = let same : n ≡ m = cc in ap ConfigThread same
told g p (Accepting n) (Accepting m) x y e = let same : n ≡ m = cc in ap Accepting same
told g p (Uncovered None s (Some t)) (Uncovered None r (Some u)) x y e = let edge : s ≡ r = cc in let thread : t ≡ u = cc in λ i. Uncovered None (edge i) (Some (thread i))
told g p (Uncovered None s None) (Uncovered None r None) x y e = let edge : s ≡ r = cc in λ i. Uncovered None (edge i) None
told g p (Uncovered (Some n) s (Some t)) (Uncovered (Some m) r (Some u)) x y e =
    let same : n ≡ m = cc in let edge : s ≡ r = cc in let thread : t ≡ u = cc in λ i. Uncovered (Some (same i)) (edge i) (Some (thread i))
told g p (Uncovered (Some n) s None) (Uncovered (Some m) r None) x y e =
    let same : n ≡ m = cc in let edge : s ≡ r = cc in λ i. Uncovered (Some (same i)) (edge i) None
told g p (Predicate n) (Uncovered None r u) x y e = absurd (omega (arith, ap (λ (l : List ℕ). slice_index l 0) e, ap (λ (l : List ℕ). slice_index l 2) e, ap (λ (l : List ℕ). slice_index l 4) e))
told g p (Uncovered None r u) (Predicate n) x y e = absurd (omega (arith, ap (λ (l : List ℕ). slice_index l 0) e, ap (λ (l : List ℕ). slice_index l 2) e, ap (λ (l : List ℕ). slice_index l 4) e))
told g p (Predicate n) (Uncovered (Some m) r u) x y e = absurd (omega (arith, ap (λ (l : List ℕ). slice_index l 0) e, ap (λ (l : List ℕ). slice_index l 2) e, ap (λ (l : List ℕ). slice_index l 4) e))
told g p (Uncovered (Some m) r u) (Predicate n) x y e = absurd (omega (arith, ap (λ (l : List ℕ). slice_index l 0) e, ap (λ (l : List ℕ). slice_index l 2) e, ap (λ (l : List ℕ). slice_index l 4) e))
told g p (Entry n f) (Uncovered None r u) x y e = absurd (omega (arith, ap (λ (l : List ℕ). slice_index l 0) e, ap (λ (l : List ℕ). slice_index l 2) e, ap (λ (l : List ℕ). slice_index l 4) e))
told g p (Uncovered None r u) (Entry n f) x y e = absurd (omega (arith, ap (λ (l : List ℕ). slice_index l 0) e, ap (λ (l : List ℕ). slice_index l 2) e, ap (λ (l : List ℕ). slice_index l 4) e))
told g p (Entry n f) (Uncovered (Some m) r u) x y e = absurd (omega (arith, ap (λ (l : List ℕ). slice_index l 0) e, ap (λ (l : List ℕ). slice_index l 2) e, ap (λ (l : List ℕ). slice_index l 4) e))
told g p (Uncovered (Some m) r u) (Entry n f) x y e = absurd (omega (arith, ap (λ (l : List ℕ). slice_index l 0) e, ap (λ (l : List ℕ). slice_index l 2) e, ap (λ (l : List ℕ). slice_index l 4) e))
told g p (ConfigNumber n) (Uncovered None r u) x y e = absurd (omega (arith, ap (λ (l : List ℕ). slice_index l 0) e, ap (λ (l : List ℕ). slice_index l 2) e, ap (λ (l : List ℕ). slice_index l 4) e))
told g p (Uncovered None r u) (ConfigNumber n) x y e = absurd (omega (arith, ap (λ (l : List ℕ). slice_index l 0) e, ap (λ (l : List ℕ). slice_index l 2) e, ap (λ (l : List ℕ). slice_index l 4) e))
told g p (ConfigNumber n) (Uncovered (Some m) r u) x y e = absurd (omega (arith, ap (λ (l : List ℕ). slice_index l 0) e, ap (λ (l : List ℕ). slice_index l 2) e, ap (λ (l : List ℕ). slice_index l 4) e))
told g p (Uncovered (Some m) r u) (ConfigNumber n) x y e = absurd (omega (arith, ap (λ (l : List ℕ). slice_index l 0) e, ap (λ (l : List ℕ). slice_index l 2) e, ap (λ (l : List ℕ). slice_index l 4) e))
told g p (ConfigThread n) (Uncovered None r u) x y e = absurd (omega (arith, ap (λ (l : List ℕ). slice_index l 0) e, ap (λ (l : List ℕ). slice_index l 2) e, ap (λ (l : List ℕ). slice_index l 4) e))
told g p (Uncovered None r u) (ConfigThread n) x y e = absurd (omega (arith, ap (λ (l : List ℕ). slice_index l 0) e, ap (λ (l : List ℕ). slice_index l 2) e, ap (λ (l : List ℕ). slice_index l 4) e))
told g p (ConfigThread n) (Uncovered (Some m) r u) x y e = absurd (omega (arith, ap (λ (l : List ℕ). slice_index l 0) e, ap (λ (l : List ℕ). slice_index l 2) e, ap (λ (l : List ℕ). slice_index l 4) e))
told g p (Uncovered (Some m) r u) (ConfigThread n) x y e = absurd (omega (arith, ap (λ (l : List ℕ). slice_index l 0) e, ap (λ (l : List ℕ). slice_index l 2) e, ap (λ (l : List ℕ). slice_index l 4) e))
told g p (Accepting n) (Uncovered None r u) x y e = absurd (omega (arith, ap (λ (l : List ℕ). slice_index l 0) e, ap (λ (l : List ℕ). slice_index l 2) e, ap (λ (l : List ℕ). slice_index l 4) e))
told g p (Uncovered None r u) (Accepting n) x y e = absurd (omega (arith, ap (λ (l : List ℕ). slice_index l 0) e, ap (λ (l : List ℕ). slice_index l 2) e, ap (λ (l : List ℕ). slice_index l 4) e))
told g p (Accepting n) (Uncovered (Some m) r u) x y e = absurd (omega (arith, ap (λ (l : List ℕ). slice_index l 0) e, ap (λ (l : List ℕ). slice_index l 2) e, ap (λ (l : List ℕ). slice_index l 4) e))
told g p (Uncovered (Some m) r u) (Accepting n) x y e = absurd (omega (arith, ap (λ (l : List ℕ). slice_index l 0) e, ap (λ (l : List ℕ). slice_index l 2) e, ap (λ (l : List ℕ). slice_index l 4) e))
told g p (Uncovered None s t) (Uncovered (Some m) r u) x y e = absurd (omega (arith, ap (λ (l : List ℕ). slice_index l 0) e, ap (λ (l : List ℕ). slice_index l 2) e, ap (λ (l : List ℕ). slice_index l 4) e))
told g p (Uncovered (Some m) r u) (Uncovered None s t) x y e = absurd (omega (arith, ap (λ (l : List ℕ). slice_index l 0) e, ap (λ (l : List ℕ). slice_index l 2) e, ap (λ (l : List ℕ). slice_index l 4) e))
told g p (Uncovered None s (Some t)) (Uncovered None r None) x y e = absurd (omega (arith, ap (λ (l : List ℕ). slice_index l 0) e, ap (λ (l : List ℕ). slice_index l 2) e, ap (λ (l : List ℕ). slice_index l 4) e))
told g p (Uncovered None s None) (Uncovered None r (Some u)) x y e = absurd (omega (arith, ap (λ (l : List ℕ). slice_index l 0) e, ap (λ (l : List ℕ). slice_index l 2) e, ap (λ (l : List ℕ). slice_index l 4) e))
told g p (Uncovered (Some n) s (Some t)) (Uncovered (Some m) r None) x y e = absurd (omega (arith, ap (λ (l : List ℕ). slice_index l 0) e, ap (λ (l : List ℕ). slice_index l 2) e, ap (λ (l : List ℕ). slice_index l 4) e))
told g p (Uncovered (Some n) s None) (Uncovered (Some m) r (Some u)) x y e = absurd (omega (arith, ap (λ (l : List ℕ). slice_index l 0) e, ap (λ (l : List ℕ). slice_index l 2) e, ap (λ (l : List ℕ). slice_index l 4) e))
told g p _ _ x y e = absurd (omega (arith, ap (λ (l : List ℕ). slice_index l 0) e, ap (λ (l : List ℕ). slice_index l 2) e, ap (λ (l : List ℕ). slice_index l 4) e))

-- neither of two first faults comes before the other
pub one_first : (g : Graph) (p : Proof) (a b : CheckFault) → IsFirstFault g p a → IsFirstFault g p b → a ≡ b
one_first g p a b x y = go (slice_cmp nat_cmp (fault_order a) (fault_order b)) refl
  where
    go : (o : Ordering) → slice_cmp nat_cmp (fault_order a) (fault_order b) ≡ o → a ≡ b
    go Less less = absurd (y.1 a less x.0)
    go Equal same = told g p a b x.0 y.0 (slice_cmp-IsAntisymmetric nat_cmp-IsAntisymmetric (fault_order a) (fault_order b) same)
    go Greater more =
        let less = nat_list_cmp_total.antisymm (fault_order b) (fault_order a) ∙ ap ordering_reverse more in
        absurd (x.1 b less y.0)
