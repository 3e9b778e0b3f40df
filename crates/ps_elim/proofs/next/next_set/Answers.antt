use Rattle.std.proofs.Common.{◌≡◌, ◌+◌, ◌*◌, ◌^◌, ◌<◌, ◌≤◌, ◌++◌, ℕ, List, All, Bor, Err, length, take, sym, ap, ap₂, ◌∙◌, subst, subst₂, arith}
use Rattle.std.proofs.lemmas.List.{length-append, length-map}
use Rattle.std.proofs.Math.Seq.{take-append_seam}
use Rattle.ps_elim.specs.Combining.{all_combined, width}
use Rattle.ps_elim.specs.Supports.{kept}
use Rattle.ps_elim.specs.inner.Antichains.{IsAntichain}
use Rattle.ps_elim.specs.inner.Weighing.{AllPairsFit, ArePairable, IsWeighted, coefficient_in, is_of, pointed_to, vectors_of}
use Rattle.ps_elim.specs.declared.limits.TheConstants.{MOST_VECTORS}
use Rattle.ps_elim.specs.declared.sign.Sign.TheVariants.{Zero, Positive, Negative}
use Rattle.ps_elim.specs.declared.weighted.Weighted.{Weighted}
use Rattle.ps_elim.proofs.Antichains.{filtered_apart}
use Rattle.ps_elim.proofs.Splitting.{all_fits, fits_all, is_split, made_is, made_length, pairable_weighted, product_small, split_length, split_pairable, split_width}
use Rattle.ps_elim.proofs.next.next_set.Goals as goal

-- the vectors that are copied come first, and are apart
as_many : (refs : List (Bor Weighted)) → length (vectors_of (pointed_to refs)) ≡ length refs
as_many refs = length-map (pointed_to refs) (λ w. w.vector) ∙ length-map refs (λ r. r.now)

known_first : (refs : List (Bor Weighted)) (vs others : List (List ℕ)) → IsAntichain (vectors_of (pointed_to refs)) → vs ≡ vectors_of (pointed_to refs) ++ others → IsAntichain (take (length refs) vs)
known_first refs vs others h e =
    let same : take (length refs) vs ≡ vectors_of (pointed_to refs) = ap₂ (λ (n : ℕ) (us : List (List ℕ)). take n us) (sym (as_many refs)) e ∙ take-append_seam (vectors_of (pointed_to refs)) others in
    subst IsAntichain (sym same) h

known_few : (refs : List (Bor Weighted)) (ws : List Weighted) (others : List (List ℕ)) → vectors_of ws ≡ vectors_of (pointed_to refs) ++ others → length refs ≤ length ws
known_few refs ws others e =
    let long : length ws ≡ length (vectors_of (pointed_to refs)) + length others = sym (length-map ws (λ w. w.vector)) ∙ (ap (λ (us : List (List ℕ)). length us) e ∙ length-append (vectors_of (pointed_to refs)) others) in
    omega (arith, long, as_many refs)

pub overflow_mul-width : goal.overflow_mul-width
overflow_mul-width g c =
    let x = c.args.variable in
    let ws = c.args.set.now in
    let first : c.len-2.result < 2 ^ 32 = omega (arith, c.len-2.ensures, c.in_ok-positives.positives.ok.0, split_length Positive x ws c.in_ok-positives.positives.items c.in_ok-positives.ensures, c.requires.1.0) in
    let second : c.len-3.result < 2 ^ 32 = omega (arith, c.len-3.ensures, c.in_ok-negatives.negatives.ok.0, split_length Negative x ws c.in_ok-negatives.negatives.items c.in_ok-negatives.ensures, c.requires.1.0) in
    omega (arith, product_small c.len-2.result c.len-3.result first second)

pub overflow_add-width : goal.overflow_add-width
overflow_add-width g c =
    let x = c.args.variable in
    let ws = c.args.set.now in
    let none : c.len.result < 2 ^ 32 = omega (arith, c.len.ensures, c.in_ok-zeros.zeros.ok.0, split_length Zero x ws c.in_ok-zeros.zeros.items c.in_ok-zeros.ensures, c.requires.1.0) in
    let first : c.len-2.result < 2 ^ 32 = omega (arith, c.len-2.ensures, c.in_ok-positives.positives.ok.0, split_length Positive x ws c.in_ok-positives.positives.items c.in_ok-positives.ensures, c.requires.1.0) in
    let second : c.len-3.result < 2 ^ 32 = omega (arith, c.len-3.ensures, c.in_ok-negatives.negatives.ok.0, split_length Negative x ws c.in_ok-negatives.negatives.items c.in_ok-negatives.ensures, c.requires.1.0) in
    omega (arith, none, product_small c.len-2.result c.len-3.result first second)

pub returns-then-width-gt-MOST_VECTORS : goal.returns-then-width-gt-MOST_VECTORS
returns-then-width-gt-MOST_VECTORS g c =
    let x = c.args.variable in
    let ws = c.args.set.now in
    let ns = c.in_ok-zeros.zeros.items in
    let ps = c.in_ok-positives.positives.items in
    let qs = c.in_ok-negatives.negatives.items in
    let split = is_split g.rows x ws ns ps qs c.requires.0 c.in_ok-zeros.ensures c.in_ok-positives.ensures c.in_ok-negatives.ensures in
    let none : c.len.result ≡ length ns = omega (arith, c.len.ensures, c.in_ok-zeros.zeros.ok.0) in
    let first : c.len-2.result ≡ length ps = omega (arith, c.len-2.ensures, c.in_ok-positives.positives.ok.0) in
    let second : c.len-3.result ≡ length qs = omega (arith, c.len-3.ensures, c.in_ok-negatives.negatives.ok.0) in
    let is : c.len.result + (c.len-2.result * c.len-3.result) ≡ width g.rows x (vectors_of ws) = ap₂ (λ (k m : ℕ). k + m) none (ap₂ (λ (k m : ℕ). k * m) first second) ∙ split_width g.rows x ws ns ps qs split in
    (subst (λ (k : ℕ). MOST_VECTORS < k) is c.if-width-gt-MOST_VECTORS.true, is)

pub with_pairs-requires : goal.with_pairs-requires
with_pairs-requires g c =
    let x = c.args.variable in
    let ws = c.args.set.now in
    let ps = c.in_ok-positives.positives.items in
    let qs = c.in_ok-negatives.negatives.items in
    (subst (λ (rs : List (Bor Weighted)). ArePairable g.rows Positive x (pointed_to rs)) (sym c.as_slice-2.ensures.value) (split_pairable g.rows Positive x ws ps c.requires.0 c.in_ok-positives.ensures), (subst (λ (rs : List (Bor Weighted)). ArePairable g.rows Negative x (pointed_to rs)) (sym c.as_slice-3.ensures.value) (split_pairable g.rows Negative x ws qs c.requires.0 c.in_ok-negatives.ensures), subst (λ (us : List Weighted). All (IsWeighted g.rows) us) (sym (c.in_ok-made.ensures ∙ ap (λ (rs : List (Bor Weighted)). pointed_to rs) c.as_slice.ensures.value)) (pairable_weighted g.rows Zero x (pointed_to c.in_ok-zeros.zeros.items) (split_pairable g.rows Zero x ws c.in_ok-zeros.zeros.items c.requires.0 c.in_ok-zeros.ensures))))

pub kept-requires : goal.kept-requires
kept-requires g c =
    let x = c.args.variable in
    let ws = c.args.set.now in
    let ns = c.in_ok-zeros.zeros.items in
    let others = all_combined g.rows x (vectors_of (pointed_to c.as_slice-2.result.now)) (vectors_of (pointed_to c.as_slice-3.result.now)) in
    let none : c.len-in-Ok.result ≡ length ns = omega (arith, c.len-in-Ok.ensures, c.in_ok-zeros.zeros.ok.0) in
    let copied = c.in_ok-made.ensures ∙ ap (λ (rs : List (Bor Weighted)). pointed_to rs) c.as_slice.ensures.value in
    let first : vectors_of c.in-Ok.made.items ≡ vectors_of (pointed_to ns) ++ others = c.in-Ok.ensures.vectors ∙ ap (λ (us : List Weighted). vectors_of us ++ others) copied in
    let known = known_first ns (vectors_of c.in-Ok.made.items) others (subst (λ (us : List Weighted). IsAntichain (vectors_of us)) (sym c.in_ok-zeros.ensures) (filtered_apart (λ w. is_of Zero (coefficient_in x w)) ws c.requires.1.1)) first in
    let few : length ns ≤ length c.in-Ok.made.items = known_few ns c.in-Ok.made.items others first in
    (c.in-Ok.ensures.weighted, (subst (λ (n : ℕ). n ≤ length c.in-Ok.made.items) (sym none) few, subst (λ (n : ℕ). IsAntichain (take n (vectors_of c.in-Ok.made.items))) (sym none) known))

pub returns-in-Ok : goal.returns-in-Ok
returns-in-Ok g c =
    let x = c.args.variable in
    let ws = c.args.set.now in
    let ns = c.in_ok-zeros.zeros.items in
    let ps = c.in_ok-positives.positives.items in
    let qs = c.in_ok-negatives.negatives.items in
    let split = is_split g.rows x ws ns ps qs c.requires.0 c.in_ok-zeros.ensures c.in_ok-positives.ensures c.in_ok-negatives.ensures in
    let none : c.len.result ≡ length ns = omega (arith, c.len.ensures, c.in_ok-zeros.zeros.ok.0) in
    let first : c.len-2.result ≡ length ps = omega (arith, c.len-2.ensures, c.in_ok-positives.positives.ok.0) in
    let second : c.len-3.result ≡ length qs = omega (arith, c.len-3.ensures, c.in_ok-negatives.negatives.ok.0) in
    let is : c.len.result + (c.len-2.result * c.len-3.result) ≡ width g.rows x (vectors_of ws) = ap₂ (λ (k m : ℕ). k + m) none (ap₂ (λ (k m : ℕ). k * m) first second) ∙ split_width g.rows x ws ns ps qs split in
    let narrow : width g.rows x (vectors_of ws) ≤ MOST_VECTORS = subst (λ (k : ℕ). k ≤ MOST_VECTORS) is c.if-width-gt-MOST_VECTORS.false in
    let pairs = subst₂ (λ (rs ss : List (Bor Weighted)). AllPairsFit g.rows x (vectors_of (pointed_to rs)) (vectors_of (pointed_to ss))) c.as_slice-2.ensures.value c.as_slice-3.ensures.value c.in-Ok.ensures.fits in
    let copied = c.in_ok-made.ensures ∙ ap (λ (rs : List (Bor Weighted)). pointed_to rs) c.as_slice.ensures.value in
    let all = subst₂ (λ (rs ss : List (Bor Weighted)). vectors_of c.in-Ok.made.items ≡ vectors_of c.in_ok-made.made.items ++ all_combined g.rows x (vectors_of (pointed_to rs)) (vectors_of (pointed_to ss))) c.as_slice-2.ensures.value c.as_slice-3.ensures.value c.in-Ok.ensures.vectors in
    let made = made_is g.rows x ws ns ps qs c.in_ok-made.made.items c.in-Ok.made.items split copied all in
    let long : length c.in-Ok.made.items ≡ width g.rows x (vectors_of ws) = sym (length-map c.in-Ok.made.items (λ w. w.vector)) ∙ made_length g.rows x (vectors_of ws) (vectors_of c.in-Ok.made.items) made in
    (record { few = narrow; fits = fits_all g.rows x ws ns ps qs split pairs }, c.in_ok-kept-in-Ok.ensures.weighted, c.in_ok-kept-in-Ok.ensures.vectors ∙ ap kept made, omega (arith, c.in_ok-kept-in-Ok.ensures.few, long, narrow))

pub returns-in-Err-Past128 : goal.returns-in-Err-Past128
returns-in-Err-Past128 g c =
    let x = c.args.variable in
    let ws = c.args.set.now in
    let ns = c.in_ok-zeros.zeros.items in
    let ps = c.in_ok-positives.positives.items in
    let qs = c.in_ok-negatives.negatives.items in
    let split = is_split g.rows x ws ns ps qs c.requires.0 c.in_ok-zeros.ensures c.in_ok-positives.ensures c.in_ok-negatives.ensures in
    let none : c.len.result ≡ length ns = omega (arith, c.len.ensures, c.in_ok-zeros.zeros.ok.0) in
    let first : c.len-2.result ≡ length ps = omega (arith, c.len-2.ensures, c.in_ok-positives.positives.ok.0) in
    let second : c.len-3.result ≡ length qs = omega (arith, c.len-3.ensures, c.in_ok-negatives.negatives.ok.0) in
    let is : c.len.result + (c.len-2.result * c.len-3.result) ≡ width g.rows x (vectors_of ws) = ap₂ (λ (k m : ℕ). k + m) none (ap₂ (λ (k m : ℕ). k * m) first second) ∙ split_width g.rows x ws ns ps qs split in
    (subst (λ (k : ℕ). k ≤ MOST_VECTORS) is c.if-width-gt-MOST_VECTORS.false, λ fits. c.in-Err-Past128.ensures.past (ap (λ e. Err e) c.in-Err-Past128.field-0-is) (subst₂ (λ (rs ss : List (Bor Weighted)). AllPairsFit g.rows x (vectors_of (pointed_to rs)) (vectors_of (pointed_to ss))) (sym c.as_slice-2.ensures.value) (sym c.as_slice-3.ensures.value) (all_fits g.rows x ws ns ps qs split fits)))
