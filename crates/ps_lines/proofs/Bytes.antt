-- Between the bytes of a text that is a list of lines and its tokens.
use Rattle.std.proofs.Common.{◌≡◌, ℕ, Bool, true, false, not, ◌&&◌, List, [], ◌∷◌, ◌++◌, map, refl, sym, ap, subst, ◌∙◌, append_assoc, eqb}
use Rattle.std.specs.List.{flat_map, AllByRecursion}
use Rattle.std.proofs.lemmas.Bool.{eqb-true, and_parts, not-true}
use Rattle.ps_lines.specs.Tokens.{LinePart, Field, Newline, onto, part_onto, line_parts, after_blank, line_bytes, text_bytes, parts_of_line, parts_of_text}
use Rattle.ps_lines.proofs.Ahead.{blank, feed, inside, byte_is, onto_begins, token_onto-blank, token_onto-feed, token_onto-inside}

-- neither a blank nor a line feed
pub record IsInside (b : ℕ) : Type 0 where
  pub no_blank : eqb b 32 ≡ false
  pub no_feed : eqb b 10 ≡ false

-- a field that has neither
abbrev pub IsPlain : List ℕ → Type 0
IsPlain field = AllByRecursion IsInside field

abbrev pub IsClean : List LinePart → Type 0
IsClean [] = Unit {0}
IsClean (Field f ∷ ts) = IsPlain f × IsClean ts
IsClean (Newline ∷ ts) = IsClean ts

abbrev pub AreClean : List (List ℕ × List (List ℕ)) → Type 0
AreClean ls = IsClean (parts_of_text ls)

-- ---- from lines to tokens

tokens-blank : (f bs : List ℕ) → IsPlain f → line_parts (f ++ 32 ∷ bs) ≡ Field f ∷ line_parts bs
tokens-blank [] bs p = refl
tokens-blank (b ∷ f) bs p = token_onto-inside b (line_parts (f ++ 32 ∷ bs)) p.0.no_blank p.0.no_feed ∙ ap (onto b) (tokens-blank f bs p.1)

tokens-feed : (f bs : List ℕ) → IsPlain f → line_parts (f ++ 10 ∷ bs) ≡ Field f ∷ (Newline ∷ line_parts bs)
tokens-feed [] bs p = refl
tokens-feed (b ∷ f) bs p = token_onto-inside b (line_parts (f ++ 10 ∷ bs)) p.0.no_blank p.0.no_feed ∙ ap (onto b) (tokens-feed f bs p.1)

tokens-line : (w : List ℕ) (fs : List (List ℕ)) (bs : List ℕ) (ts : List LinePart) → IsClean (Field w ∷ (map Field fs ++ ts)) → line_parts (w ++ (flat_map after_blank fs ++ 10 ∷ bs)) ≡ Field w ∷ (map Field fs ++ Newline ∷ line_parts bs)
tokens-line w [] bs ts p = tokens-feed w bs p.0
tokens-line w (f ∷ fs) bs ts p =
    let regrouped : flat_map after_blank (f ∷ fs) ++ 10 ∷ bs ≡ 32 ∷ (f ++ (flat_map after_blank fs ++ 10 ∷ bs)) = append_assoc (after_blank f) (flat_map after_blank fs) (10 ∷ bs) in
    ap (λ (r : List ℕ). line_parts (w ++ r)) regrouped ∙ tokens-blank w (f ++ (flat_map after_blank fs ++ 10 ∷ bs)) p.0 ∙ ap (λ (r : List LinePart). Field w ∷ r) (tokens-line f fs bs ts p.1)

clean-rest : (xs ts : List LinePart) → IsClean (xs ++ ts) → IsClean ts
clean-rest [] ts p = p
clean-rest (Field f ∷ xs) ts p = clean-rest xs ts p.1
clean-rest (Newline ∷ xs) ts p = clean-rest xs ts p

pub IsClean-append : (xs ys : List LinePart) → IsClean xs → IsClean ys → IsClean (xs ++ ys)
IsClean-append [] ys p q = q
IsClean-append (Field f ∷ xs) ys p q = (p.0, IsClean-append xs ys p.1 q)
IsClean-append (Newline ∷ xs) ys p q = IsClean-append xs ys p q

line_split : (w : List ℕ) (fs : List (List ℕ)) (ts : List LinePart) → parts_of_line (w, fs) ++ ts ≡ Field w ∷ (map Field fs ++ Newline ∷ ts)
line_split w fs ts = ap (λ (r : List LinePart). Field w ∷ r) (append_assoc (map Field fs) (Newline ∷ []) ts)

line_bytes_split : (w : List ℕ) (fs : List (List ℕ)) (bs : List ℕ) → line_bytes (w, fs) ++ bs ≡ w ++ (flat_map after_blank fs ++ 10 ∷ bs)
line_bytes_split w fs bs = append_assoc w (flat_map after_blank fs ++ 10 ∷ []) bs ∙ ap (λ (r : List ℕ). w ++ r) (append_assoc (flat_map after_blank fs) (10 ∷ []) bs)

-- the tokens of a text of clean lines
pub text_read : (ls : List (List ℕ × List (List ℕ))) → AreClean ls → line_parts (text_bytes ls) ≡ parts_of_text ls
text_read [] p = refl
text_read ((w, fs) ∷ ls) p =
    let q : IsClean (Field w ∷ (map Field fs ++ Newline ∷ parts_of_text ls)) = subst IsClean (line_split w fs (parts_of_text ls)) p in
    let rest : IsClean (parts_of_text ls) = clean-rest (map Field fs) (Newline ∷ parts_of_text ls) q.1 in
    ap line_parts (line_bytes_split w fs (text_bytes ls))
    ∙ tokens-line w fs (text_bytes ls) (Newline ∷ parts_of_text ls) q
    ∙ ap (λ (r : List LinePart). Field w ∷ (map Field fs ++ Newline ∷ r)) (text_read ls rest)
    ∙ sym (line_split w fs (parts_of_text ls))

-- ---- from tokens to bytes, where the last line is ended

-- the tokens end with the end of a line, or there are none
abbrev is_closed : List LinePart → Bool
is_closed [] = true
is_closed (Newline ∷ ts) = is_closed ts
is_closed (Field f ∷ []) = false
is_closed (Field f ∷ (Field g ∷ ts)) = is_closed (Field g ∷ ts)
is_closed (Field f ∷ (Newline ∷ ts)) = is_closed (Newline ∷ ts)

abbrev separated : List LinePart → List ℕ → List ℕ
separated (Field f ∷ ts) bs = 32 ∷ bs
separated ts bs = bs

abbrev untokens : List LinePart → List ℕ
untokens [] = []
untokens (Newline ∷ ts) = 10 ∷ untokens ts
untokens (Field f ∷ ts) = f ++ separated ts (untokens ts)

abbrev IsFieldFirst : List LinePart → Type 0
IsFieldFirst (Newline ∷ ts) = ⊥
IsFieldFirst ts = Unit {0}

pub record Undone (b : ℕ) (ts new : List LinePart) : Type 0 where
  pub closed : is_closed ts ≡ true
  pub same : untokens new ≡ b ∷ untokens ts

undo-blank : (ts : List LinePart) → IsFieldFirst ts → is_closed (Field [] ∷ ts) ≡ true → Undone 32 ts (Field [] ∷ ts)
undo-blank [] first closed = absurd cc
undo-blank (Newline ∷ ts) first closed = absurd first
undo-blank (Field f ∷ ts) first closed = record { closed = closed; same = refl }

undo-inside : (b : ℕ) (ts : List LinePart) → IsFieldFirst ts → is_closed (onto b ts) ≡ true → Undone b ts (onto b ts)
undo-inside b [] first closed = absurd cc
undo-inside b (Newline ∷ ts) first closed = absurd first
undo-inside b (Field f ∷ []) first closed = absurd cc
undo-inside b (Field f ∷ (Field g ∷ ts)) first closed = record { closed = closed; same = refl }
undo-inside b (Field f ∷ (Newline ∷ ts)) first closed = record { closed = closed; same = refl }

undo : (b : ℕ) (ts : List LinePart) → IsFieldFirst ts → is_closed (part_onto b ts) ≡ true → Undone b ts (part_onto b ts)
undo b ts first closed =
    elim (byte_is b) [
      | blank p ↦ (let e = token_onto-blank b ts p in
          rw (e, eqb-true _ _ p) (undo-blank ts first (subst (λ (r : List LinePart). is_closed r ≡ true) e closed)))
      | feed p q ↦ (let e = token_onto-feed b ts p q in
          rw (e, eqb-true _ _ q) (record { closed = subst (λ (r : List LinePart). is_closed r ≡ true) e closed; same = refl }))
      | inside p q ↦ (let e = token_onto-inside b ts p q in
          rw e (undo-inside b ts first (subst (λ (r : List LinePart). is_closed r ≡ true) e closed)))
    ]

first_is_field : (bs : List ℕ) → IsFieldFirst (line_parts bs)
first_is_field [] = tt
first_is_field (b ∷ bs) = let p = onto_begins b (line_parts bs) in rw p.2 tt

untokens-tokens : (bs : List ℕ) → is_closed (line_parts bs) ≡ true → untokens (line_parts bs) ≡ bs
untokens-tokens [] closed = refl
untokens-tokens (b ∷ bs) closed =
    let one = undo b (line_parts bs) (first_is_field bs) closed in
    one.same ∙ ap (λ (r : List ℕ). b ∷ r) (untokens-tokens bs one.closed)

closed-line : (w : List ℕ) (fs : List (List ℕ)) (ts : List LinePart) → is_closed ts ≡ true → is_closed (Field w ∷ (map Field fs ++ Newline ∷ ts)) ≡ true
closed-line w [] ts closed = closed
closed-line w (f ∷ fs) ts closed = closed-line f fs ts closed

closed-text : (ls : List (List ℕ × List (List ℕ))) → is_closed (parts_of_text ls) ≡ true
closed-text [] = refl
closed-text ((w, fs) ∷ ls) = rw (line_split w fs (parts_of_text ls)) (closed-line w fs (parts_of_text ls) (closed-text ls))

untokens-line : (w : List ℕ) (fs : List (List ℕ)) (ts : List LinePart) → untokens (Field w ∷ (map Field fs ++ Newline ∷ ts)) ≡ w ++ (flat_map after_blank fs ++ 10 ∷ untokens ts)
untokens-line w [] ts = refl
untokens-line w (f ∷ fs) ts =
    ap (λ (r : List ℕ). w ++ 32 ∷ r) (untokens-line f fs ts) ∙ ap (λ (r : List ℕ). w ++ r) (sym (append_assoc (after_blank f) (flat_map after_blank fs) (10 ∷ untokens ts)))

untokens-text : (ls : List (List ℕ × List (List ℕ))) → untokens (parts_of_text ls) ≡ text_bytes ls
untokens-text [] = refl
untokens-text ((w, fs) ∷ ls) =
    ap untokens (line_split w fs (parts_of_text ls)) ∙ untokens-line w fs (parts_of_text ls) ∙ ap (λ (r : List ℕ). w ++ (flat_map after_blank fs ++ 10 ∷ r)) (untokens-text ls) ∙ sym (line_bytes_split w fs (text_bytes ls))

-- bytes with the tokens of such a text are its bytes
pub text_back : (bs : List ℕ) (ls : List (List ℕ × List (List ℕ))) → line_parts bs ≡ parts_of_text ls → bs ≡ text_bytes ls
text_back bs ls e = sym (untokens-tokens bs (rw e (closed-text ls))) ∙ ap untokens e ∙ untokens-text ls

-- ---- words

-- whether a word has neither a blank nor a line feed
abbrev pub is_plain : List ℕ → Bool
is_plain [] = true
is_plain (b ∷ bs) = not (eqb b 32) && (not (eqb b 10) && is_plain bs)

-- of a word that is written out, the premise is `refl`
pub plain_word : (bs : List ℕ) → is_plain bs ≡ true → IsPlain bs
plain_word [] h = tt
plain_word (b ∷ bs) h =
    let p = and_parts _ _ h in
    let q = and_parts _ _ p.1 in
    (record { no_blank = not-true _ p.0; no_feed = not-true _ q.0 }, plain_word bs q.1)

-- ---- lists that are spread

-- what a list is spread to, with further members after it
pub spread_mapped : {X A B : Type 0} (s : B → List A) (f : X → B) (xs : List X) (ys : List B) → flat_map s (map f xs ++ ys) ≡ flat_map (λ x. s (f x)) xs ++ flat_map s ys
spread_mapped s f [] ys = refl
spread_mapped s f (x ∷ xs) ys = ap (λ r. s (f x) ++ r) (spread_mapped s f xs ys) ∙ sym (append_assoc (s (f x)) (flat_map (λ y. s (f y)) xs) (flat_map s ys))

pub flat_map-map : {X A B : Type 0} (s : B → List A) (f : X → B) (xs : List X) → flat_map s (map f xs) ≡ flat_map (λ x. s (f x)) xs
flat_map-map s f [] = refl
flat_map-map s f (x ∷ xs) = ap (λ r. s (f x) ++ r) (flat_map-map s f xs)
