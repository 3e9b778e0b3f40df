-- Lemmas on bytes that go in pieces.
use Rattle.std.proofs.Common.{◌≡◌, ℕ, ◌+◌, ◌-◌, ◌≤◌, List, ◌++◌, length, take, drop, Option, ap, ◌∙◌, length-drop, length-append, length-take-le, take-append-drop, drop-drop, sym, arith}
use Rattle.std.proofs.lemmas.List.{take_rest}
use Rattle.std.proofs.Math.Seq.{take-add, take-append_seam}
use Rattle.std.proofs.KnownBytes.{Appends-trans, Consumes-trans}
use Rattle.std.specs.Io.KnownBytes.{Appends, Consumes}

-- how long the rest of a text is
pub length-rest : (text : List ℕ) (done : ℕ) → length (take (length text - done) (drop done text)) ≡ length text - done
length-rest text done = ap length (take_rest text done) ∙ length-drop done text

-- the first bytes were put, then some first ones of the rest
pub put_more : (a b c : Option (List ℕ)) (text : List ℕ) (done n : ℕ) → Appends a b (take done text)
    → Appends b c (take n (take (length text - done) (drop done text))) → Appends a c (take (done + n) text)
put_more a b c text done n before more =
    rw (take-add done n text) (Appends-trans a b c _ _ before (rw take_rest at more))

-- so many bytes were given, and then a piece: all of them and the piece
pub given_more : (a b c : Option (List ℕ)) (bytes piece new : List ℕ) → new ≡ bytes ++ piece → Consumes a b bytes
    → Consumes b c piece → Consumes a c new
given_more a b c bytes piece new e p q = rw e (Consumes-trans a b c bytes piece p q)

-- how many bytes there are with a piece more
pub length-more : (bytes piece : List ℕ) (n : ℕ) → n ≤ length piece → length (bytes ++ take n piece) ≡ length bytes + n
length-more bytes piece n h = length-append bytes (take n piece) ∙ ap (λ m. length bytes + m) (length-take-le n piece h)

-- a piece that is a copy of the first bytes left, in a buffer, and the bytes left after it
pub given_first : (bytes piece rest : List ℕ) (given n : ℕ) → n ≤ length bytes - given
    → piece ≡ take n (take (length bytes - given) (drop given bytes))
    → drop given bytes ≡ take n (piece ++ rest) ++ drop (given + n) bytes
given_first bytes piece rest given n h e =
    let same : piece ≡ take n (drop given bytes) = e ∙ ap (take n) (take_rest bytes given) in
    let long : n ≡ length piece = omega (arith, ap length same, length-take-le n (drop given bytes) (omega (arith, length-drop given bytes))) in
    let front : take n (piece ++ rest) ≡ piece = ap (λ m. take m (piece ++ rest)) long ∙ take-append_seam piece rest in
    rw (front, same, ← drop-drop n given bytes) (sym (take-append-drop n (drop given bytes)))
