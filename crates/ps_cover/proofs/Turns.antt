-- The threads one after another, each to the least image with a way to go on.
use Rattle.std.proofs.Common.{◌≡◌, ◌<◌, ◌≤◌, ◌+◌, ◌-◌, ◌==◌, ℕ, Bool, true, false, List, [], ◌∷◌, ◌++◌, length, drop, get_or, sym, ap, ◌∙◌, subst, Some, arith}
use Rattle.std.proofs.lemmas.Bool.{both_ways}
use Rattle.std.proofs.lemmas.List.{append_assoc, append-nil, length-append, length_push, length-drop}
use Rattle.ps_list.proofs.Members.{here}
use Rattle.ps_config.specs.Configurations.{Configuration}
use Rattle.ps_config.specs.Forms.{AreThreads}
use Rattle.ps_cover.specs.declared.partial.Partial.{Partial}
use Rattle.ps_cover.specs.inner.Rests.{Fits, IsRestAnswer, one_more, AllOccur}
use Rattle.ps_cover.specs.inner.Tests.{can_go}
use Rattle.ps_cover.proofs.Firsts.{first_at, first_done}
use Rattle.ps_cover.proofs.Fitting.{fits_from_next}
use Rattle.ps_cover.proofs.Testing.{fitting_from}
use Rattle.ps_cover.proofs.Trying.{IsTried, NoneBelow}
use Rattle.ps_cover.proofs.Ways.{no_rest, left_of}

-- the next of the threads that are left, and the images so far
pub record IsTurn (small large : Configuration) (p : Partial) (left : List ℕ) : Type 0 where
  pub are : AreThreads small (p.threads ++ left)
  pub fits : Fits small large p.threads p.to
  pub some : 0 < length left

none_left : (0 < 0) → ⊥
none_left h = omega (arith, h)

pub left_occur : (small : Configuration) (p : Partial) (left : List ℕ) → AreThreads small (p.threads ++ left) → AllOccur small left
left_occur small p left are s h = ((left_of small p.threads left are).wait s h).0

pub before_occur : (small : Configuration) (p : Partial) (left : List ℕ) → AreThreads small (p.threads ++ left) → AllOccur small p.threads
before_occur small p left are = (left_of small p.threads left are).occur

pub turn_tried : (small large : Configuration) (p : Partial) (left : List ℕ) → IsTurn small large p left → IsTried small p (get_or left 0 0)
turn_tried small large p [] turn = absurd (none_left turn.some)
turn_tried small large p (t ∷ ts) turn =
    let all = left_of small p.threads (t ∷ ts) turn.are in
    let one = all.wait t (here t ts) in
    record { long = turn.fits.long; before = all.occur; waits = record { occurs = one.0; new = one.1 } }

are_moved : (small : Configuration) (ss : List ℕ) (t : ℕ) (ts : List ℕ) → AreThreads small (ss ++ t ∷ ts) → AreThreads small ((ss ++ t ∷ []) ++ ts)
are_moved small ss t ts are = subst (λ (xs : List ℕ). AreThreads small xs) (sym (append_assoc ss (t ∷ []) ts)) are

longer : (ss us : List ℕ) (t v : ℕ) → length us ≡ length ss → length (us ++ v ∷ []) ≡ length (ss ++ t ∷ [])
longer ss us t v long = rw (length-append, length-append) (omega (arith, long))

pub turn_found : (small large : Configuration) (p : Partial) (left : List ℕ) → IsTurn small large p left → (image : ℕ) (all : List ℕ) → NoneBelow small large p (get_or left 0 0) image → IsRestAnswer small large (one_more p left image) (drop 1 left) (Some all) → IsRestAnswer small large p left (Some all)
turn_found small large p [] turn image all none answer = absurd (none_left turn.some)
turn_found small large p (t ∷ ts) turn image all none (rest, is, first) = (
  image ∷ rest,
  is ∙ append_assoc p.to (image ∷ []) rest,
  first_at small large p.threads p.to ts rest t image turn.fits.long first
      (λ v h. no_rest small large (p.threads ++ t ∷ []) (p.to ++ v ∷ []) ts (are_moved small p.threads t ts turn.are) (longer p.threads p.to t v turn.fits.long) (none v h)),
)

pub turn_fits : (small large : Configuration) (p : Partial) (left : List ℕ) → IsTurn small large p left → (image : ℕ) → can_go small.at small.atoms large.at large.atoms p.threads p.to (get_or left 0 0) image ≡ true
    → Fits small large (one_more p left image).threads (one_more p left image).to
turn_fits small large p left turn image goes =
    let t : ℕ = get_or left 0 0 in
    fits_from_next small large p.threads p.to t image (turn_tried small large p left turn).waits.new turn.fits (fitting_from small large p.threads p.to t image turn.fits.long goes)

pub turn_threads : (small large : Configuration) (p : Partial) (left : List ℕ) → IsTurn small large p left → (image : ℕ) → AreThreads small ((one_more p left image).threads ++ drop 1 left)
turn_threads small large p [] turn image = absurd (none_left turn.some)
turn_threads small large p (t ∷ ts) turn image = are_moved small p.threads t ts turn.are

-- all threads have images
pub answer_done : (small large : Configuration) (p : Partial) (left : List ℕ) → Fits small large p.threads p.to → length left ≡ 0 → IsRestAnswer small large p left (Some p.to)
answer_done small large p [] fits e = ([], sym (append-nil p.to), first_done small large p.threads p.to fits)
answer_done small large p (t ∷ ts) fits e = absurd (omega (arith, e))

-- ---- how many threads are left

pub some_left : (left : List ℕ) (r : Bool) → r ≡ (length left == 0) → r ≡ false → 0 < length left
some_left [] r e lacks = absurd (both_ways r lacks e)
some_left (t ∷ ts) r e lacks = omega arith

pub few_left : (threads left more rest : List ℕ) (t most : ℕ) → length threads + length left ≤ most → 0 < length left → more ≡ threads ++ t ∷ [] → rest ≡ drop 1 left → length more + length rest ≤ most
few_left threads left more rest t most few some e f =
    let longer : length (threads ++ t ∷ []) ≡ length threads + 1 = length_push threads t in
    let less : length (drop 1 left) ≡ length left - 1 = length-drop 1 left in
    let a : length more ≡ length (threads ++ t ∷ []) = ap length e in
    let b : length rest ≡ length (drop 1 left) = ap length f in
    omega (arith, few, some, longer, less, a, b)
