-- The form of a row that sorted shares give.
use Rattle.std.proofs.Common.{◌≡◌, ◌≤◌, ℕ, ℤ, List, [], ◌∷◌, length, map, refl, sym, ap, ◌∙◌, subst, suc, arith}
use Rattle.std.specs.List.{AllByRecursion}
use Rattle.std.specs.List.Sorted.{IsStrictlyIncreasing}
use Rattle.std.proofs.lemmas.List.Elements.{recursion_from_All}
use Rattle.std.proofs.lemmas.List.Sorted.{Contains-permutation, IsPermutation-sym, length_permutation}
use Rattle.ps_term.specs.declared.row.Row.{Row}
use Rattle.ps_term.specs.declared.var.Var.{Var}
use Rattle.ps_term.specs.Pairs.{IsCanonical}
use Rattle.ps_atom.specs.Canonical.{IsInSlots, HasSlots}
use Rattle.ps_atom.specs.inner.Shares.{AreShares, IsShare}
use Rattle.ps_atom.specs.inner.Slots.{put_in_slots}
use Rattle.ps_atom.specs.Threads.{AreOccurring, AreSlots, local_pairs}
use Rattle.ps_atom.specs.declared.share.Share.{Share}
use Rattle.ps_atom.proofs.Chains.{rising_from_increasing}
use Rattle.ps_atom.proofs.Counts.{once_from_rising, once_permuted}
use Rattle.ps_atom.proofs.Orders.{shares_are, shares_ordered}
use Rattle.ps_atom.proofs.Parts.{placed_canonical}
use Rattle.ps_atom.proofs.Slotting.{among, placed_slots, slots_once}

-- the threads of the shares
abbrev pub share_threads : List Share → List ℕ
share_threads shares = map (λ (s : Share). s.thread) shares

abbrev pub share_pairs : List Share → List (List (ℕ × ℤ))
share_pairs shares = map (λ (s : Share). s.pairs.items) shares

threads_long : (shares : List Share) → length (share_threads shares) ≡ length shares
threads_long [] = refl
threads_long (s ∷ shares) = ap suc (threads_long shares)

pub few_shares : (ps : List (Var × ℤ)) (ts : List ℕ) (shares : List Share) → AreShares ps ts shares → length ts ≤ 4 → length shares ≤ 4
few_shares ps ts shares a h =
    omega (arith, length_permutation ts (share_threads shares) a.same, threads_long shares)

pub shares_slots : (ps : List (Var × ℤ)) (ts : List ℕ) (shares : List Share) → IsStrictlyIncreasing ts → AreOccurring ps ts → AreShares ps ts shares → AreSlots ps (share_threads shares)
shares_slots ps ts shares rising occurring a = record {
  occurring = λ t. ((λ m. (occurring t).0 (Contains-permutation (share_threads shares) ts t (IsPermutation-sym ts (share_threads shares) a.same) m)), (λ o. Contains-permutation ts (share_threads shares) t a.same ((occurring t).1 o)));
  ordered = shares_ordered ps shares (recursion_from_All (IsShare ps) shares a.each) a.sorted (once_permuted ts (share_threads shares) a.same (once_from_rising ts (rising_from_increasing ts rising)));
}

placed_same : (ps : List (Var × ℤ)) (shares : List Share) → AllByRecursion (IsShare ps) shares → put_in_slots (share_pairs shares) ps ≡ put_in_slots (map (λ t. local_pairs t ps) (share_threads shares)) ps
placed_same ps shares each = ap (λ (owns : List (List (ℕ × ℤ))). put_in_slots owns ps) (shares_are ps shares each)

pub shares_canonical : (ps : List (Var × ℤ)) (ts : List ℕ) (shares : List Share) → IsCanonical ps → AreShares ps ts shares → IsCanonical (put_in_slots (share_pairs shares) ps)
shares_canonical ps ts shares c a =
    subst (λ (qs : List (Var × ℤ)). IsCanonical qs) (sym (placed_same ps shares (recursion_from_All (IsShare ps) shares a.each))) (placed_canonical (share_threads shares) ps c)

pub shares_placed : (ps : List (Var × ℤ)) (ts : List ℕ) (shares : List Share) → IsCanonical ps → IsStrictlyIncreasing ts → AreOccurring ps ts → AreShares ps ts shares → HasSlots ps (share_threads shares) (put_in_slots (share_pairs shares) ps)
shares_placed ps ts shares c rising occurring a =
    let slots : AreSlots ps (share_threads shares) = shares_slots ps ts shares rising occurring a in
    subst (λ (qs : List (Var × ℤ)). HasSlots ps (share_threads shares) qs) (sym (placed_same ps shares (recursion_from_All (IsShare ps) shares a.each))) (placed_slots (share_threads shares) ps (slots_once ps (share_threads shares) slots) (among (share_threads shares) ps c (λ t o. (slots.occurring t).1 o)))

pub shares_form : (row : Row) (ps : List (Var × ℤ)) (ts : List ℕ) (shares : List Share) (arity : ℕ) (list : List (Var × ℤ)) (constant : ℤ) (threads : List ℕ) → ps ≡ row.term.pairs → IsCanonical ps → IsStrictlyIncreasing ts → AreOccurring row.term.pairs ts → AreShares ps ts shares → length ts ≤ 4 → arity ≡ length shares → list ≡ put_in_slots (share_pairs shares) ps → constant ≡ row.term.constant → threads ≡ share_threads shares → IsInSlots row (record { arity = arity; row = record { term = record { pairs = list; constant = constant } } }) threads × (length threads ≤ 4)
shares_form row ps ts shares arity list constant threads pairs_are c rising occur a few arity_is list_is constant_is threads_are =
    let occurring : AreOccurring ps ts = subst (λ (qs : List (Var × ℤ)). AreOccurring qs ts) (sym pairs_are) occur in (
      record {
        in_order = subst (λ (us : List ℕ). AreSlots row.term.pairs us) (sym threads_are) (subst (λ (qs : List (Var × ℤ)). AreSlots qs (share_threads shares)) pairs_are (shares_slots ps ts shares rising occurring a));
        arity = arity_is ∙ sym (ap (λ (us : List ℕ). length us) threads_are ∙ threads_long shares);
        coefficients = subst (λ (us : List ℕ). HasSlots row.term.pairs us list) (sym threads_are) (subst (λ (qs : List (Var × ℤ)). HasSlots qs (share_threads shares) list) pairs_are (subst (λ (qs : List (Var × ℤ)). HasSlots ps (share_threads shares) qs) (sym list_is) (shares_placed ps ts shares c rising occurring a)));
        constant = constant_is;
        canonical = subst (λ (qs : List (Var × ℤ)). IsCanonical qs) (sym list_is) (shares_canonical ps ts shares c a);
      },
      omega (arith, few_shares ps ts shares a few, ap (λ (us : List ℕ). length us) threads_are, threads_long shares),
    )
