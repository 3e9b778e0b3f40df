-- Pieces put one after the other.
use Rattle.std.proofs.Common.{◌≡◌, ℕ, suc, ◌+◌, ◌<◌, ◌≤◌, List, [], ◌∷◌, ◌++◌, length, drop, get_or, sym, ◌∙◌, ap, append_assoc, append-nil, add-one}
use Rattle.std.proofs.Math.Seq.{drop-cons}
use Rattle.std.proofs.Math.ListN.{drop_of_length-le}
use Rattle.std.proofs.lemmas.Grind.{flat_map-append}
use Rattle.ps_print.specs.Printed.{byte_after, piece_text, printed, Puts}
use Rattle.ps_grammar.specs.Spelling.{Piece, NamePiece, NumberPiece, Mark}
use Rattle.ps_token.specs.Lexing.{spelling}
use Rattle.ps_token.specs.declared.token_kind.TokenKind.{TokenKind}

pub printed-append : (ps qs : List Piece) → printed (ps ++ qs) ≡ printed ps ++ printed qs
printed-append ps qs = flat_map-append (λ (p : Piece). piece_text p ++ byte_after p ∷ []) ps qs

-- no pieces
pub nothing : (a : List ℕ) → Puts a a []
nothing a = record { is = sym (append-nil a) }

pub chain : {a b c : List ℕ} {ps qs : List Piece} → Puts a b ps → Puts b c qs → Puts a c (ps ++ qs)
chain {a = a} {b = b} {c = c} {ps = ps} {qs = qs} h k = record {
  is = k.is ∙ ap (λ (z : List ℕ). z ++ printed qs) h.is ∙ append_assoc a (printed ps) (printed qs) ∙ ap (λ (z : List ℕ). a ++ z) (sym (printed-append ps qs));
}

-- the same pieces in other words
pub respell : {a b : List ℕ} {ps qs : List Piece} → qs ≡ ps → Puts a b ps → Puts a b qs
respell {a = a} e h = record { is = h.is ∙ ap (λ (z : List Piece). a ++ printed z) (sym e) }

-- a reserved name or a sign with what comes after it
pub mark_put : (k : TokenKind) (a b c : List ℕ) → b ≡ a ++ spelling k → c ≡ b ++ byte_after (Mark k) ∷ [] → Puts a c (Mark k ∷ [])
mark_put k a b c h e = record {
  is =
      e ∙ ap (λ (z : List ℕ). z ++ byte_after (Mark k) ∷ []) h ∙ append_assoc a (spelling k) (byte_after (Mark k) ∷ [])
      ∙ ap (λ (z : List ℕ). a ++ z) (sym (append-nil (spelling k ++ byte_after (Mark k) ∷ [])));
}

-- a name and a number with the blank after it
pub name_put : (a b c x : List ℕ) → b ≡ a ++ x → c ≡ b ++ 32 ∷ [] → Puts a c (NamePiece x ∷ [])
name_put a b c x h k = record { is = k ∙ ap (λ (z : List ℕ). z ++ 32 ∷ []) h ∙ append_assoc a x (32 ∷ []) ∙ ap (λ (z : List ℕ). a ++ z) (sym (append-nil (x ++ 32 ∷ []))) }

pub number_put : (a b c x : List ℕ) → b ≡ a ++ x → c ≡ b ++ 32 ∷ [] → Puts a c (NumberPiece x ∷ [])
number_put a b c x h k = record { is = k ∙ ap (λ (z : List ℕ). z ++ 32 ∷ []) h ∙ append_assoc a x (32 ∷ []) ∙ ap (λ (z : List ℕ). a ++ z) (sym (append-nil (x ++ 32 ∷ []))) }

-- What was put, with what is put for the rest, is all.
pub record PutsRest {A : Type 0} (pieces : List A → List Piece) (out : List ℕ) (rest : List A) (all : List ℕ) : Type 0 where
  pub is : out ++ printed (pieces rest) ≡ all

pub rest_step : {A : Type 0} (g h : List A → List Piece) (f : A → List Piece) (cons : (x : A) (xs : List A) → g (x ∷ xs) ≡ f x ++ h xs) (xs : List A) (i : ℕ) (x : A) {out new all : List ℕ} → i < length xs → x ≡ get_or xs i x → Puts out new (f x) → PutsRest g out (drop i xs) all → PutsRest h new (drop (i + 1) xs) all
rest_step g h f cons xs i x {out = out} inside at put so_far = record {
  is =
      let here : drop i xs ≡ x ∷ drop (i + 1) xs = rw add-one (drop-cons xs i x inside ∙ ap (λ (z : _). z ∷ drop (suc i) xs) (sym at)) in
      ap (λ (z : List ℕ). z ++ printed (h (drop (i + 1) xs))) put.is
      ∙ append_assoc out (printed (f x)) (printed (h (drop (i + 1) xs)))
      ∙ ap (λ (z : List ℕ). out ++ z) (sym (printed-append (f x) (h (drop (i + 1) xs))) ∙ ap printed (sym (cons x (drop (i + 1) xs)) ∙ ap g (sym here)))
      ∙ so_far.is;
}

-- the pieces of the rest are put by then
pub rest_put : {A : Type 0} (g : List A → List Piece) (xs : List A) (i : ℕ) {out new start : List ℕ} {ps : List Piece} → length xs ≤ i → PutsRest g out (drop i xs) (start ++ printed ps) → Puts out new (g []) → Puts start new ps
rest_put g xs i {out = out} past so_far last = record {
  is = last.is ∙ ap (λ (z : List _). out ++ printed (g z)) (sym (drop_of_length-le xs past)) ∙ so_far.is;
}

-- the start of a loop, after some pieces
pub rest_start : {A : Type 0} (g : List A → List Piece) (xs : List A) {start out : List ℕ} {ps qs : List Piece} → qs ≡ ps ++ g xs → Puts start out ps → PutsRest g out xs (start ++ printed qs)
rest_start g xs {start = start} {ps = ps} e h = record {
  is = ap (λ (z : List ℕ). z ++ printed (g xs)) h.is ∙ append_assoc start (printed ps) (printed (g xs)) ∙ ap (λ (z : List ℕ). start ++ z) (sym (printed-append ps (g xs)) ∙ ap printed (sym e));
}
